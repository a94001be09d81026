-- The first of the roles that the machine throws whose class is not concrete.
use Rattle.std.proofs.Common.{◌≡◌, ℕ, zero, suc, ◌+◌, ◌<◌, ◌≤◌, Bool, true, false, ltb, List, Option, Some, None, Result, slice_index}
use Rattle.std.proofs.Common.{refl, sym, ap, subst, ◌∙◌, arith}
use Rattle.std.specs.List.{range_with_len}
use Rattle.std.proofs.lemmas.Bool.{ltb-true, ltb-false, le-ltb, ne_eqb, false≢true}
use Rattle.jc_base.specs.declared.record.MethodRec.{MethodRec}
use Rattle.jc_base.specs.Class.{ClassTable}
use Rattle.jc_base.specs.Dispatch.{is_concrete}
use Rattle.jc_base.specs.Laws.{ConcreteDecides}
use Rattle.jc_resolve.specs.declared.fault.LinkFault.{LinkFault}
use Rattle.jc_resolve.specs.declared.fault.LinkFault.TheVariants.{RoleAbstract}
use Rattle.jc_resolve.specs.Fault.{link_place}
use Rattle.first_fault.specs.Least.{lesser, least_from, least_of, refused}
use Rattle.jc_link.specs.Roles.{role_fault, thrown_roles, TellsRoles}

-- what holds of a number and of all above it
from_on : (P : ℕ → Type 0) (a : ℕ) → P a → ((j : ℕ) → a + 1 ≤ j → P j) → (j : ℕ) → a ≤ j → P j
from_on P a here above j le = by (ltb a j) refl
  where
    by : (b : Bool) → ltb a j ≡ b → P j
    by true e = let lt = ltb-true a j e in above j (omega arith)
    by false e =
        let le' = ltb-false a j e in
        let same : a ≡ j = omega arith in
        subst P same here

module _ (t : ClassTable) (methods : List MethodRec) where
  abbrev concrete : ℕ → Bool
  concrete k = is_concrete t methods (slice_index t.roles k)

  none_at : (k : ℕ) → concrete k ≡ true → lesser link_place None (role_fault t methods k) ≡ None
  unfolding role_fault lesser
  none_at k e = rw e refl

  some_at : (k : ℕ) → concrete k ≡ false → lesser link_place None (role_fault t methods k) ≡ Some (RoleAbstract k)
  unfolding role_fault lesser
  some_at k e = rw e refl

  later : (m k : ℕ) (b : Bool) → m < k → concrete k ≡ b → lesser link_place (Some (RoleAbstract m)) (role_fault t methods k) ≡ Some (RoleAbstract m)
  unfolding role_fault lesser link_place
  later m k z lt e = grind (arith, le-ltb, ne_eqb)

  kept : (n k m : ℕ) → m < k → least_from link_place (Some (RoleAbstract m)) (role_fault t methods) (range_with_len k n) ≡ Some (RoleAbstract m)
  kept zero k m lt = refl
  kept (suc n) k m lt =
      ap (λ o. least_from link_place o (role_fault t methods) (range_with_len (k + 1) n)) (later m k (concrete k) lt refl)
      ∙ kept n (k + 1) m (omega arith)

  -- what is found among n roles from the role a on
  abbrev Found : ℕ → ℕ → Option LinkFault → Type 0
  Found a n None = (k : ℕ) → a ≤ k → k < a + n → concrete k ≡ true
  Found a n (Some fault) =
      (k : ℕ) × (a ≤ k) × (k < a + n) × (concrete k ≡ false) × ((j : ℕ) → a ≤ j → j < k → concrete j ≡ true)
      × (fault ≡ RoleAbstract k)

  found_more : (a n : ℕ) (o : Option LinkFault) → concrete a ≡ true → Found (a + 1) n o → Found a (suc n) o
  found_more a n z here f = grind (arith, from_on, suc)

  found : (n a : ℕ) → Found a n (least_from link_place None (role_fault t methods) (range_with_len a n))
  found zero a = λ k low high. absurd (omega arith)
  found (suc n) a = by (concrete a) refl (found n (a + 1))
    where
      by : (b : Bool) → concrete a ≡ b → Found (a + 1) n (least_from link_place None (role_fault t methods) (range_with_len (a + 1) n))
          → Found a (suc n) (least_from link_place None (role_fault t methods) (range_with_len a (suc n)))
      by true e rest =
          let step : least_from link_place None (role_fault t methods) (range_with_len (a + 1) n) ≡ least_from link_place None (role_fault t methods)
          (range_with_len a (suc n)) =
          ap (λ o. least_from link_place o (role_fault t methods) (range_with_len (a + 1) n)) (sym (none_at a e)) in
          subst (Found a (suc n)) step (found_more a n (least_from link_place None (role_fault t methods) (range_with_len (a + 1) n)) e rest)
      by false e rest =
          let step : Some (RoleAbstract a) ≡ least_from link_place None (role_fault t methods) (range_with_len a (suc n)) =
          sym (ap (λ o. least_from link_place o (role_fault t methods) (range_with_len (a + 1) n)) (some_at a e) ∙ kept n (a + 1) a (omega arith)) in
          subst (Found a (suc n)) step (a, omega arith, omega arith, e, λ j low high. absurd (omega arith), refl)

  told_by : ConcreteDecides t methods → (o : Option LinkFault) → Found 2 6 o → TellsRoles t methods (refused o)
  told_by decides y f = grind (arith, slice_index, false≢true)

  pub roles_told : (r : Result (Unit {0}) LinkFault) → ConcreteDecides t methods
      → r ≡ refused (least_of link_place (role_fault t methods) thrown_roles) → TellsRoles t methods r
  roles_told r decides e = subst (TellsRoles t methods) (sym e) (told_by decides (least_of link_place (role_fault t methods) thrown_roles) (found 6 2))
