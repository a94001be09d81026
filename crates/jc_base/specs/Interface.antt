-- Interfaces: those that an interface extends, those that a class implements (JCVM 2.2, sections 2.2.1.3 and 6.8), and that no interface
-- extends itself.
use Rattle.std.specs.Prelude.{◌≡◌, ℕ, ◌⊎◌, Bool, if◌then◌else◌, ◌==◌, ◌||◌, List, [], map, length, Option, Some}
use Rattle.std.specs.Prelude.{None, Contains, slice_get, count_by}
use Rattle.std.specs.List.{list_any, range_with_len}
use Rattle.jc_base.specs.declared.ty.Ty.TheVariants.{Class}
use Rattle.jc_base.specs.declared.record.ClassRec.{ClassRec}
use Rattle.jc_base.specs.Leads.{Leads, leads_below}
use Rattle.jc_base.specs.Class.{ClassTable, chain}
use Rattle.jc_base.specs.Order.{Below}

abbrev pub extended_in : Option ClassRec → List ℕ
extended_in None = []
extended_in (Some r) = if r.interface then map (λ i. i.class) r.implements else []

-- the interfaces that an interface extends; a class extends none
unfoldable pub extended : ClassTable → ℕ → List ℕ
extended t i = extended_in (slice_get t.records i)

abbrev pub implemented_in : Option ClassRec → List ℕ
implemented_in None = []
implemented_in (Some r) = if r.interface then [] else map (λ i. i.class) r.implements

-- the interfaces that a class itself names
unfoldable pub implemented : ClassTable → ℕ → List ℕ
implemented t c = implemented_in (slice_get t.records c)

-- the interface i is j, or extends it by one step or more
abbrev pub IsOrExtends : ClassTable → ℕ → ℕ → Type 0
IsOrExtends t i j = (i ≡ j) ⊎ Leads (extended t) i j

-- class c or one of its superclasses names the interface j, or one that extends it
pub record Implements (t : ClassTable) (c j : ℕ) : Type 0 where
  pub class : ℕ
  pub named : ℕ
  pub inherits : Below t (Class c) (Class class)
  pub names : Contains (implemented t class) named
  pub extends : IsOrExtends t named j

-- no interface extends itself
abbrev pub NoneExtendsItself : ClassTable → Type 0
NoneExtendsItself t = (i : ℕ) → ¬ (Leads (extended t) i i)

-- ---- the same as it is computed

unfoldable pub is_or_extends : ClassTable → ℕ → ℕ → Bool
is_or_extends t i j = i == j || leads_below (extended t) (length t.records) i j

unfoldable pub implements : ClassTable → ℕ → ℕ → Bool
implements t c j = list_any (λ a. list_any (λ i. is_or_extends t i j) (implemented t a)) (chain t c)

-- how many interfaces an interface extends
unfoldable pub extended_count : ClassTable → ℕ → ℕ
extended_count t i = count_by (λ j. leads_below (extended t) (length t.records) i j) (range_with_len 0 (length t.records))
