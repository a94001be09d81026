-- Dispatch lists and instance cells of classes (JCVM 2.2, sections 4.3.7.6 and 6.8.2).
use Rattle.std.specs.Prelude.{◌≡◌, ℕ, ◌-◌, Bool, false, if◌then◌else◌, not, ◌&&◌, nat_lt, ◌==◌, List, [], length}
use Rattle.std.specs.Prelude.{reverse, Option, Some, None, IsSomeAnd, All, slice_get, find, flat_map, option_map, option_and_then}
use Rattle.std.specs.List.{list_all}
use Rattle.jc_base.specs.declared.ty.Ty.{Ty}
use Rattle.jc_base.specs.declared.record.Sig.{Sig}
use Rattle.jc_base.specs.declared.record.ClassRec.{ClassRec}
use Rattle.jc_base.specs.declared.record.MethodRec.{MethodRec}
use Rattle.jc_base.specs.Class.{ClassTable, IsClass, is_interface, chain, list_of}

-- what a function gives of the record of a number, and else a default
abbrev pub of_record : {A : Type 0} → A → (ClassRec → A) → Option ClassRec → A
of_record d f None = d
of_record d f (Some r) = f r

-- the package, the public list and the package-visible list that the record of a number has
unfoldable pub package_of : ClassTable → ℕ → ℕ
package_of t c = of_record 0 (λ r. r.package) (slice_get t.records c)

unfoldable pub public_of : ClassTable → ℕ → List ℕ
public_of t c = of_record [] (λ r. r.public) (slice_get t.records c)

unfoldable pub visible_of : ClassTable → ℕ → List ℕ
visible_of t c = of_record [] (λ r. r.visible) (slice_get t.records c)

-- the number of cells of an instance of the class, and the types of those that its own fields add
unfoldable pub cell_count : ClassTable → ℕ → ℕ
cell_count t c = of_record 0 (λ r. r.cells) (slice_get t.records c)

unfoldable pub own_cells : ClassTable → ℕ → List Ty
own_cells t c = of_record [] (λ r. r.own) (slice_get t.records c)

-- the types of all cells of an instance: those of the superclass first, then those of the class's own fields
unfoldable pub cells_of : ClassTable → ℕ → List Ty
cells_of t c = flat_map (own_cells t) (reverse (chain t c))

-- the entry of a class's own lists at a token, which is package-visible from 128 on
unfoldable pub entry_at : ClassTable → ℕ → ℕ → Option ℕ
entry_at t c token = if nat_lt token 128 then slice_get (public_of t c) token else slice_get (visible_of t c) (token - 128)

-- the nearest class of a package among a class and its superclasses
unfoldable pub nearest_of : ClassTable → ℕ → ℕ → Option ℕ
nearest_of t home c = find (λ a. package_of t a == home) (chain t c)

-- the package-visible list of the nearest class of a package among a class and its superclasses
unfoldable pub visible_in : ClassTable → ℕ → ℕ → List ℕ
visible_in t home c = list_of (visible_of t) (nearest_of t home c)

-- the method that an object of class r runs for a token of class c: a public token is looked up in
-- the public list of r, a package-visible one in the list of the nearest class of the package of c
-- among r and its superclasses
unfoldable pub dispatched : ClassTable → ℕ → ℕ → ℕ → Option ℕ
dispatched t c token r = if nat_lt token 128 then slice_get (public_of t r) token
    else slice_get (visible_in t (package_of t c) r) (token - 128)

-- a method number whose method has a body
abbrev pub HasBody : List MethodRec → ℕ → Type 0
HasBody methods n = IsSomeAnd (slice_get methods n) (λ m. m.is_abstract ≡ false)

-- a class of which objects can be made: no entry of its dispatch lists is abstract, which are its
-- public list and, for each package that has the class or a superclass of it, the package-visible
-- list of the nearest such class
pub record IsConcrete (t : ClassTable) (methods : List MethodRec) (c : ℕ) : Type 0 where
  pub class : IsClass t c
  pub public : All (HasBody methods) (public_of t c)
  pub visible : (home : ℕ) → All (HasBody methods) (visible_in t home c)

-- ---- the same as it is computed

abbrev pub has_body_in : Option MethodRec → Bool
has_body_in None = false
has_body_in (Some m) = not m.is_abstract

-- whether the method of a number has a body
abbrev pub has_body : List MethodRec → ℕ → Bool
has_body methods n = has_body_in (slice_get methods n)

abbrev pub all_have_bodies : List MethodRec → List ℕ → Bool
all_have_bodies methods = list_all (has_body methods)

-- whether objects can be made of a class: the package-visible lists are those of the packages on its chain
unfoldable pub is_concrete : ClassTable → List MethodRec → ℕ → Bool
is_concrete t methods c =
    nat_lt c (length t.records)
    && (not (is_interface t c)
    && (all_have_bodies methods (public_of t c)
    && list_all (λ a. all_have_bodies methods (visible_in t (package_of t a) c)) (chain t c)))

-- ---- signatures

-- the signature of a method number
abbrev pub signature_of : List MethodRec → ℕ → Option Sig
signature_of methods n = option_map (λ m. m.sig) (slice_get methods n)

-- the signature of the method at a token of a list
abbrev pub signature_at : List MethodRec → List ℕ → ℕ → Option Sig
signature_at methods list token = option_and_then (signature_of methods) (slice_get list token)
