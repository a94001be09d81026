-- The cells of an instance and the methods that it runs, from what holds of each class record.
use Rattle.std.proofs.Common.{◌≡◌, ℕ, ◌+◌, ◌-◌, ◌≤◌, ◌⊎◌, inl, inr, Bool, true, false, List, [], ◌∷◌, ◌++◌}
use Rattle.std.proofs.Common.{length, reverse, Option, Some, None, refl, sym, ap, subst, ◌∙◌, arith}
use Rattle.std.specs.Prelude.{◌==◌, nat_lt, IfSome, IsSomeAnd, slice_get, flat_map, option_and_then}
use Rattle.std.proofs.lemmas.Bool.{eqb-true, eq-eqb}
use Rattle.std.proofs.lemmas.List.{append-nil, reverse-append, length-append}
use Rattle.std.proofs.lemmas.List.Concat.{flat_map-append, flat_map-cons}
use Rattle.std.proofs.lemmas.Option.{slice_get_within}
use Rattle.jc_base.specs.declared.ty.Ty.{Ty}
use Rattle.jc_base.specs.declared.ty.Ty.TheVariants.{Class}
use Rattle.jc_base.specs.declared.record.ClassRec.{ClassRec}
use Rattle.jc_base.specs.declared.record.MethodRec.{MethodRec}
use Rattle.jc_base.specs.Class.{ClassTable, AreClasses, IsNextOnChain, parent_of, chain, list_of}
use Rattle.jc_base.specs.Order.{Below, joined, subclass, is_below, is_on_chain}
use Rattle.jc_base.specs.Dispatch.{package_of, public_of, visible_of, cell_count, own_cells, cells_of, entry_at, nearest_of, visible_in, dispatched}
use Rattle.jc_base.specs.Dispatch.{signature_of, signature_at}
use Rattle.jc_base.specs.Linked.{AreLinkedClasses, IsLinkedClass, IsDispatch, IsInherited, Dispatches, AreDispatched, cells_above, visible_from}
use Rattle.jc_base.proofs.Lists.{All-slice_get, slice_get-some}
use Rattle.jc_base.proofs.Subtypes.{is_below-from_Below}
use Rattle.jc_base.proofs.Climbs.{climb, chain-front, on_alone, on_next}

-- ---- the cells of an instance

pub cells-alone : (t : ClassTable) (c : ℕ) → chain t c ≡ c ∷ [] → cells_of t c ≡ own_cells t c
unfolding cells_of
cells-alone t c alone = grind (arith, reverse, flat_map-cons, append-nil)

-- the cells of the superclass come first, then those of the class's own fields
pub cells-next : (t : ClassTable) (c p : ℕ) → IsNextOnChain t c p → cells_of t c ≡ cells_of t p ++ own_cells t c
unfolding cells_of
cells-next t c p next =
    let turned : reverse (chain t c) ≡ reverse (chain t p) ++ (c ∷ []) = ap (λ (xs : List ℕ). reverse xs) next.chain_is
    ∙ reverse-append (c ∷ []) (chain t p) in
    let one : flat_map (own_cells t) (c ∷ []) ≡ own_cells t c = flat_map-cons (own_cells t) c [] ∙ append-nil (own_cells t c) in
    ap (λ (xs : List ℕ). flat_map (own_cells t) xs) turned ∙ flat_map-append (own_cells t) (reverse (chain t p)) (c ∷ [])
    ∙ ap (λ (xs : List Ty). flat_map (own_cells t) (reverse (chain t p)) ++ xs) one

count_of : (packages : ℕ) (t : ClassTable) (methods : List MethodRec) (c : ℕ) (o : Option ClassRec) → slice_get t.records c ≡ o
    → IfSome o (IsLinkedClass packages t methods c)
    → cell_count t c ≡ cells_above t (parent_of t c) + length (own_cells t c)
unfolding cell_count own_cells parent_of
count_of packages t methods c x e is = grind (arith, length)

count_is : (packages : ℕ) (t : ClassTable) (methods : List MethodRec) → AreLinkedClasses packages t methods → (c : ℕ)
    → cell_count t c ≡ cells_above t (parent_of t c) + length (own_cells t c)
count_is packages t methods linked c = count_of packages t methods c (slice_get t.records c) refl (linked c)

-- an instance has as many cells as its class's record counts
pub cells-count : (packages : ℕ) (t : ClassTable) (methods : List MethodRec) → AreClasses t → AreLinkedClasses packages t methods → (c : ℕ)
    → length (cells_of t c) ≡ cell_count t c
cells-count packages t methods are linked = climb t are (λ c. length (cells_of t c) ≡ cell_count t c)
    (λ c top alone.
    let count : cell_count t c ≡ 0 + length (own_cells t c) = count_is packages t methods linked c
    ∙ ap (λ (o : Option ℕ). cells_above t o + length (own_cells t c)) top in
    omega (arith, count, ap length (cells-alone t c alone)))
    (λ c p link next before.
    let count : cell_count t c ≡ cell_count t p + length (own_cells t c) = count_is packages t methods linked c
    ∙ ap (λ (o : Option ℕ). cells_above t o + length (own_cells t c)) link in
    omega (arith, count, before, ap length (cells-next t c p next), length-append (cells_of t p) (own_cells t c)))

pub count_read : (t : ClassTable) (c : ℕ) (r : ClassRec) → slice_get t.records c ≡ Some r → cell_count t c ≡ r.cells
unfolding cell_count
count_read t c r e = rw e refl

-- ---- packages along a chain

no_record : (c p : ℕ) (t : ClassTable) → slice_get t.records c ≡ None → parent_of t c ≡ Some p → ⊥
unfolding parent_of
no_record c p t e link = grind (arith)

earlier_of : (t : ClassTable) (n : ℕ) (o : Option ℕ) (p : ℕ) → o ≡ Some p → IfSome o (λ q. package_of t q ≤ n) → package_of t p ≤ n
earlier_of t n x p e h = grind (arith)

pub package_read : (t : ClassTable) (c : ℕ) (r : ClassRec) → slice_get t.records c ≡ Some r → package_of t c ≡ r.package
unfolding package_of
package_read t c r e = rw e refl

pub public_read : (t : ClassTable) (c : ℕ) (r : ClassRec) → slice_get t.records c ≡ Some r → public_of t c ≡ r.public
unfolding public_of
public_read t c r e = rw e refl

pub visible_read : (t : ClassTable) (c : ℕ) (r : ClassRec) → slice_get t.records c ≡ Some r → visible_of t c ≡ r.visible
unfolding visible_of
visible_read t c r e = rw e refl

package_before : (packages : ℕ) (t : ClassTable) (methods : List MethodRec) (c p : ℕ) (o : Option ClassRec) → slice_get t.records c ≡ o
    → IfSome o (IsLinkedClass packages t methods c)
    → parent_of t c ≡ Some p → package_of t p ≤ package_of t c
package_before packages t methods c p x e is link = grind (arith, no_record, package_read, earlier_of)

-- the packages along a chain of superclasses fall
pub packages-fall : (packages : ℕ) (t : ClassTable) (methods : List MethodRec) → AreClasses t → AreLinkedClasses packages t methods → (r c : ℕ)
    → is_on_chain t c r ≡ true → package_of t c ≤ package_of t r
packages-fall packages t methods are linked = climb t are (λ r. (c : ℕ) → is_on_chain t c r ≡ true → package_of t c ≤ package_of t r)
    (λ r top alone c on. subst (λ (x : ℕ). package_of t x ≤ package_of t r) (on_alone t c r alone on) (omega arith))
    (λ r p link next before c on. elim (on_next t c r p next on) [
      | inl here ↦ subst (λ (x : ℕ). package_of t x ≤ package_of t r) here (omega arith)
      | inr up ↦ omega (arith, before c up, package_before packages t methods r p (slice_get t.records r) refl (linked r) link)
    ])

nearest-here : (t : ClassTable) (home c : ℕ) → package_of t c ≡ home → visible_in t home c ≡ visible_of t c
unfolding visible_in nearest_of
nearest-here t home c e = grind (arith, chain-front t c, eq-eqb (package_of t c) home e)

nearest-next : (t : ClassTable) (home c p : ℕ) → IsNextOnChain t c p → (package_of t c == home) ≡ false → visible_in t home c ≡ visible_in t home p
unfolding visible_in nearest_of
nearest-next t home c p next e = rw (next.chain_is, e) refl

-- ---- the methods that an object runs

-- a list has at a token a method with the signature of n, which objects of class r inherit
pub record Runs (t : ClassTable) (methods : List MethodRec) (r : ℕ) (list : List ℕ) (token n : ℕ) : Type 0 where
  pub method : ℕ
  pub found : slice_get list token ≡ Some method
  pub signature : signature_of methods method ≡ signature_of methods n
  pub inherited : IsSomeAnd (slice_get methods method) (IsInherited t r)

from_inherited : (t : ClassTable) (methods : List MethodRec) (r : ℕ) (from list : List ℕ) (token m n : ℕ) → IsDispatch t methods r from list
    → slice_get from token ≡ Some m → signature_of methods m ≡ signature_of methods n
    → Runs t methods r list token n
from_inherited t methods r from list token m n is at same =
    let entry = slice_get-some list token (omega (arith, slice_get_within from token m at, is.longer)) in
    let whole : signature_at methods list token ≡ signature_at methods from token = is.signatures token (slice_get_within from token m at) in
    let left : signature_at methods list token ≡ signature_of methods entry.0 = ap (option_and_then (signature_of methods)) entry.1 in
    let right : signature_at methods from token ≡ signature_of methods m = ap (option_and_then (signature_of methods)) at in
    record {
      method = entry.0;
      found = entry.1;
      signature = sym left ∙ whole ∙ right ∙ same;
      inherited = All-slice_get (λ x. IsSomeAnd (slice_get methods x) (IsInherited t r)) list token entry.0 is.entries entry.1;
    }

of_own : (t : ClassTable) (methods : List MethodRec) (r : ℕ) (from list : List ℕ) (token n : ℕ) → IsDispatch t methods r from list
    → slice_get list token ≡ Some n → Runs t methods r list token n
of_own t methods r from list token n is at =
    record {
      method = n;
      found = at;
      signature = refl;
      inherited = All-slice_get (λ x. IsSomeAnd (slice_get methods x) (IsInherited t r)) list token n is.entries at;
    }

inherits_too : (t : ClassTable) (r p : ℕ) (o : Option MethodRec) → parent_of t r ≡ Some p → IsSomeAnd o (IsInherited t p)
    → IsSomeAnd o (IsInherited t r)
inherits_too t r p None link is = is
inherits_too t r p (Some m) link is =
    record { class = joined (subclass link) is.class; dynamic = is.dynamic; no_constructor = is.no_constructor }

-- the lists of the record of a class, and that they are made as they should be
record HasLists (t : ClassTable) (methods : List MethodRec) (r : ℕ) : Type 0 where
  pub public : IsDispatch t methods r (list_of (public_of t) (parent_of t r)) (public_of t r)
  pub visible : IsDispatch t methods r (list_of (visible_from t (package_of t r)) (parent_of t r)) (visible_of t r)

has_lists : (packages : ℕ) (t : ClassTable) (methods : List MethodRec) (r : ℕ) (o : Option ClassRec) → slice_get t.records r ≡ o
    → IfSome o (IsLinkedClass packages t methods r)
    → (o ≡ None) ⊎ HasLists t methods r
unfolding public_of visible_of package_of
has_lists packages t methods r None e is = inl refl
has_lists packages t methods r (Some c) e is =
    let public : IsDispatch t methods r (list_of (public_of t) (parent_of t r)) c.public = is.public in
    let visible : IsDispatch t methods r (list_of (visible_from t c.package) (parent_of t r)) c.visible = is.visible in
    let home : package_of t r ≡ c.package = package_read t r c e in
    let own_public : public_of t r ≡ c.public = rw e refl in
    let own_visible : visible_of t r ≡ c.visible = rw e refl in
    inr (record {
      public = subst (λ (xs : List ℕ). IsDispatch t methods r (list_of (public_of t) (parent_of t r)) xs) (sym own_public) public;
      visible = subst (λ (xs : List ℕ). IsDispatch t methods r (list_of (visible_from t (package_of t r)) (parent_of t r)) xs) (sym own_visible)
          (subst (λ (n : ℕ). IsDispatch t methods r (list_of (visible_from t n) (parent_of t r)) c.visible) (sym home) visible);
    })

nothing_public : (t : ClassTable) (r : ℕ) → slice_get t.records r ≡ None → public_of t r ≡ []
unfolding public_of
nothing_public t r e = rw e refl

nothing_visible : (t : ClassTable) (r : ℕ) → slice_get t.records r ≡ None → visible_of t r ≡ []
unfolding visible_of
nothing_visible t r e = rw e refl

none_at : (xs : List ℕ) (token n : ℕ) → xs ≡ [] → slice_get xs token ≡ Some n → ⊥
none_at xs token n e at = grind (arith)

has_list : (packages : ℕ) (t : ClassTable) (methods : List MethodRec) (r : ℕ) → AreLinkedClasses packages t methods
    → (slice_get t.records r ≡ None) ⊎ HasLists t methods r
has_list packages t methods r linked = has_lists packages t methods r (slice_get t.records r) refl (linked r)

own_public : (packages : ℕ) (t : ClassTable) (methods : List MethodRec) (r token n : ℕ) → AreLinkedClasses packages t methods
    → slice_get (public_of t r) token ≡ Some n → Runs t methods r (public_of t r) token n
own_public packages t methods r token n linked at = elim (has_list packages t methods r linked) [
  | inl e ↦ absurd (none_at (public_of t r) token n (nothing_public t r e) at)
  | inr is ↦ of_own t methods r (list_of (public_of t) (parent_of t r)) (public_of t r) token n is.public at
]

own_visible : (packages : ℕ) (t : ClassTable) (methods : List MethodRec) (r token n : ℕ) → AreLinkedClasses packages t methods
    → slice_get (visible_of t r) token ≡ Some n → Runs t methods r (visible_of t r) token n
own_visible packages t methods r token n linked at = elim (has_list packages t methods r linked) [
  | inl e ↦ absurd (none_at (visible_of t r) token n (nothing_visible t r e) at)
  | inr is ↦ of_own t methods r (list_of (visible_from t (package_of t r)) (parent_of t r)) (visible_of t r) token n is.visible at
]

-- the superclass of a record that is there
no_parent_none : (t : ClassTable) (r p : ℕ) (A : Type 0) → slice_get t.records r ≡ None → parent_of t r ≡ Some p → A
no_parent_none t r p A e link = absurd (no_record r p t e link)

public_next : (packages : ℕ) (t : ClassTable) (methods : List MethodRec) (r p token n : ℕ) → AreLinkedClasses packages t methods
    → parent_of t r ≡ Some p → Runs t methods p (public_of t p) token n
    → Runs t methods r (public_of t r) token n
public_next packages t methods r p token n linked link up = elim (has_list packages t methods r linked) [
  | inl e ↦ no_parent_none t r p (Runs t methods r (public_of t r) token n) e link
  | inr is ↦ from_inherited t methods r (public_of t p) (public_of t r) token up.method n
      (subst (λ (o : Option ℕ). IsDispatch t methods r (list_of (public_of t) o) (public_of t r)) link is.public) up.found up.signature
]

pub runs_public : (packages : ℕ) (t : ClassTable) (methods : List MethodRec) → AreClasses t → AreLinkedClasses packages t methods
    → (r c token n : ℕ) → is_on_chain t c r ≡ true
    → slice_get (public_of t c) token ≡ Some n → Runs t methods r (public_of t r) token n
runs_public packages t methods are linked =
    climb t are (λ r. (c token n : ℕ) → is_on_chain t c r ≡ true → slice_get (public_of t c) token ≡ Some n
    → Runs t methods r (public_of t r) token n)
    (λ r top alone c token n on at. own_public packages t methods r token n linked
    (subst (λ (x : ℕ). slice_get (public_of t x) token ≡ Some n) (sym (on_alone t c r alone on)) at))
    (λ r p link next before c token n on at. elim (on_next t c r p next on) [
      | inl here ↦ own_public packages t methods r token n linked (subst (λ (x : ℕ). slice_get (public_of t x) token ≡ Some n) (sym here) at)
      | inr up ↦ public_next packages t methods r p token n linked link (before c token n up at)
    ])

-- a superclass of the same package hands its package-visible list on
handed_on : (t : ClassTable) (home p : ℕ) → package_of t p ≡ home → visible_from t home p ≡ visible_of t p
handed_on t home p e = rw (eq-eqb (package_of t p) home e) refl

visible_next : (packages : ℕ) (t : ClassTable) (methods : List MethodRec) (home r p token n : ℕ) (b : Bool) → AreLinkedClasses packages t methods
    → IsNextOnChain t r p → parent_of t r ≡ Some p
    → home ≤ package_of t p → package_of t p ≤ package_of t r → (package_of t r == home) ≡ b
    → Runs t methods p (visible_in t home p) token n → Runs t methods r (visible_in t home r) token n
visible_next packages t methods home r p token n false linked next link low high e up = grind (arith, nearest-next, inherits_too)
visible_next packages t methods home r p token n true linked next link low high e up =
    let here : package_of t r ≡ home = eqb-true (package_of t r) home e in
    let above : package_of t p ≡ home = omega arith in
    let found : slice_get (visible_of t p) token ≡ Some up.method = ap (λ (xs : List ℕ). slice_get xs token) (sym (nearest-here t home p above))
    ∙ up.found in
    elim (has_list packages t methods r linked) [
      | inl none ↦ no_parent_none t r p (Runs t methods r (visible_in t home r) token n) none link
      | inr is ↦
          let made : IsDispatch t methods r (visible_from t (package_of t r) p) (visible_of t r) = subst
          (λ (o : Option ℕ). IsDispatch t methods r (list_of (visible_from t (package_of t r)) o) (visible_of t r)) link is.visible in
          let from : IsDispatch t methods r (visible_of t p) (visible_of t r) = subst (λ (xs : List ℕ). IsDispatch t methods r xs (visible_of t r))
          (handed_on t (package_of t r) p (above ∙ sym here)) made in
          subst (λ (xs : List ℕ). Runs t methods r xs token n) (sym (nearest-here t home r here))
          (from_inherited t methods r (visible_of t p) (visible_of t r) token up.method n from found up.signature)
    ]

visible_here : (packages : ℕ) (t : ClassTable) (methods : List MethodRec) (r c token n : ℕ) → AreLinkedClasses packages t methods → r ≡ c
    → slice_get (visible_of t c) token ≡ Some n
    → Runs t methods r (visible_in t (package_of t c) r) token n
visible_here packages t methods r c token n linked e at =
    subst (λ (x : ℕ). Runs t methods x (visible_in t (package_of t c) x) token n) (sym e)
    (subst (λ (xs : List ℕ). Runs t methods c xs token n) (sym (nearest-here t (package_of t c) c refl))
    (own_visible packages t methods c token n linked at))

runs_visible : (packages : ℕ) (t : ClassTable) (methods : List MethodRec) → AreClasses t → AreLinkedClasses packages t methods → (r c token n : ℕ)
    → is_on_chain t c r ≡ true
    → slice_get (visible_of t c) token ≡ Some n → Runs t methods r (visible_in t (package_of t c) r) token n
runs_visible packages t methods are linked =
    climb t are (λ r. (c token n : ℕ) → is_on_chain t c r ≡ true → slice_get (visible_of t c) token ≡ Some n
    → Runs t methods r (visible_in t (package_of t c) r) token n)
    (λ r top alone c token n on at. visible_here packages t methods r c token n linked (on_alone t c r alone on) at)
    (λ r p link next before c token n on at. elim (on_next t c r p next on) [
      | inl here ↦ visible_here packages t methods r c token n linked here at
      | inr up ↦ visible_next packages t methods (package_of t c) r p token n (package_of t r == package_of t c) linked next link
          (packages-fall packages t methods are linked p c up) (package_before packages t methods r p (slice_get t.records r) refl (linked r) link) refl
          (before c token n up at)
    ])

dispatch_by : (t : ClassTable) (methods : List MethodRec) (c token r n : ℕ) (b : Bool) → nat_lt token 128 ≡ b
    → (slice_get (public_of t c) token ≡ Some n → Runs t methods r (public_of t r) token n)
    → (slice_get (visible_of t c) (token - 128) ≡ Some n → Runs t methods r (visible_in t (package_of t c) r) (token - 128) n)
    → entry_at t c token ≡ Some n → Dispatches t methods c token r n
unfolding entry_at dispatched
dispatch_by t methods c token r n x e public visible entry = grind (arith)

dispatches : (packages : ℕ) (t : ClassTable) (methods : List MethodRec) → AreClasses t → AreLinkedClasses packages t methods → (r c token n : ℕ)
    → is_on_chain t c r ≡ true
    → entry_at t c token ≡ Some n → Dispatches t methods c token r n
dispatches packages t methods are linked r c token n on entry =
    dispatch_by t methods c token r n (nat_lt token 128) refl
    (λ own. runs_public packages t methods are linked r c token n on own)
    (λ own. runs_visible packages t methods are linked r c (token - 128) n on own) entry

pub on_chain-from_Below : (t : ClassTable) → AreClasses t → (r c : ℕ) → Below t (Class r) (Class c) → is_on_chain t c r ≡ true
unfolding is_below
on_chain-from_Below t are r c below = grind (arith, is_below-from_Below)

-- below a class each object runs a method for each entry of the class
pub are_dispatched : (packages : ℕ) (t : ClassTable) (methods : List MethodRec) → AreClasses t → AreLinkedClasses packages t methods
    → AreDispatched t methods
are_dispatched packages t methods are linked =
    λ c token r n below entry. dispatches packages t methods are linked r c token n (on_chain-from_Below t are r c below) entry
