-- The positions of the classes that name an interface, found in one pass over an order.
use Rattle.std.proofs.Common.{◌≡◌, ℕ, ◌+◌, ◌<◌, ◌≤◌, ◌⊎◌, inl, inr, ⊎_elim, Bool, true, false, List, [], ◌∷◌, ◌++◌, length, refl, sym, ap}
use Rattle.std.proofs.Common.{◌∙◌, subst, arith}
use Rattle.std.specs.Prelude.{Some, is_some, Contains, find, slice_get}
use Rattle.std.specs.List.Sorted.{IsNonDecreasing}
use Rattle.std.proofs.lemmas.Bool.{cases_lt, cases_eq, eqb-true, eq-eqb, false≢true}
use Rattle.std.proofs.lemmas.Option.{same_Some, slice_get_within}
use Rattle.std.proofs.lemmas.List.Elements.{Contains-append_left, Contains-push, Contains-push_cases}
use Rattle.jc_base.specs.declared.record.Iface.{Iface}
use Rattle.jc_base.specs.declared.record.ClassRec.{ClassRec}
use Rattle.jc_base.specs.Class.{ClassTable}
use Rattle.jc_base.specs.Each.{IsAmong}
use Rattle.jc_base.proofs.Eaching.{Contains-from_IsAmong, IsAmong-from_Contains}
use Rattle.vm_act.proofs.Climbing.{Is, find-yes, find-no}
use Rattle.digraph.specs.Graph.{next}
use Rattle.jc_decode.proofs.Elements.{nothing-in}
use Rattle.vm_bound.specs.Blocks.{named}
use Rattle.vm_bound.specs.Rows.{IsAdded}
use Rattle.vm_bound.specs.Runs.{IsNamed, AreAllNaming, HasEntry, AreAdded}
use Rattle.vm_bound.proofs.Serving.{named-is}
use Rattle.vm_bound.proofs.Stacks.{pushed-rising}
use Rattle.vm_bound.proofs.Subclassing.{added-count, added-here, added-there}

-- ---- a class has an entry for an interface where it names it

finds : (i : ℕ) (entries : List Iface) (e : Iface) → IsAmong e entries → e.class ≡ i → is_some (find (Is i) entries) ≡ true
finds i [] e among class = absurd among
finds i (x ∷ xs) e (inl same) class = grind (arith, find-yes, eq-eqb)
finds i (x ∷ xs) e (inr more) class = here (Is i x) refl (finds i xs e more class)
  where
    here : (b : Bool) → Is i x ≡ b → is_some (find (Is i) xs) ≡ true → is_some (find (Is i) (x ∷ xs)) ≡ true
    here true is rest = ap is_some (find-yes (Is i) x xs is)
    here false not rest = ap is_some (find-no (Is i) x xs not) ∙ rest

abbrev Found : ℕ → List Iface → Type 0
Found i entries = (e : Iface) × IsAmong e entries × (e.class ≡ i)

is-found : (i : ℕ) (entries : List Iface) → is_some (find (Is i) entries) ≡ true → Found i entries
is-found i [] e = absurd (false≢true e)
is-found i (x ∷ xs) e = here (Is i x) refl (λ rest. is-found i xs rest)
  where
    here : (b : Bool) → Is i x ≡ b → (is_some (find (Is i) xs) ≡ true → Found i xs) → Found i (x ∷ xs)
    here true is rest = (x, inl refl, eqb-true x.class i is)
    here false not rest = let has = rest (sym (ap is_some (find-no (Is i) x xs not)) ∙ e) in (has.0, inr has.1, has.2)

module _ (t : ClassTable) (i c : ℕ) (r : ClassRec) (at : slice_get t.records c ≡ Some r) where
  names-from : HasEntry r.implements i → is_some (named t i c) ≡ true
  names-from has =
      ap is_some (named-is t i c r at) ∙ finds i r.implements has.entry (IsAmong-from_Contains has.entry r.implements has.among) has.class

  entry-from : is_some (named t i c) ≡ true → HasEntry r.implements i
  entry-from e =
      let has = is-found i r.implements (sym (ap is_some (named-is t i c r at)) ∙ e) in
      record { entry = has.0; among = Contains-from_IsAmong has.0 r.implements has.1; class = has.2 }

-- ---- a position is added to rows

no-entry : (i : ℕ) → HasEntry [] i → ⊥
no-entry i has = nothing-in has.entry has.among

pub added-none : (rows : List (List ℕ)) (at : ℕ) → AreAdded rows [] at rows
added-none rows at = record {
  count = refl;
  kept = λ i p h. h;
  only = λ i p h. inl h;
  there = λ i l has. absurd (no-entry i has);
  rising = λ most rising. rising;
}

pub added-more : (old between new : List (List ℕ)) (entries : List Iface) (e : Iface) (at : ℕ) → AreAdded old entries at between
    → IsAdded between e.class at new → AreAdded old (entries ++ e ∷ []) at new
added-more old between new entries e at before is = record {
  count = added-count e.class at between new is ∙ before.count;
  kept = λ i p h. wider i p (before.kept i p h);
  only = only;
  there = there;
  rising = rising;
}
  where
    wider : (i p : ℕ) → Contains (next between i) p → Contains (next new i) p
    wider i p h = elim (cases_eq i e.class) [
      | inl same ↦
          subst (λ (x : ℕ). Contains (next new x) p) (sym same)
          (subst (λ (row : List ℕ). Contains row p) (sym (added-here e.class at between new is))
          (Contains-append_left (next between e.class) (at ∷ []) p (subst (λ (x : ℕ). Contains (next between x) p) same h)))
      | inr not ↦ subst (λ (row : List ℕ). Contains row p) (sym (added-there e.class at between new is i not)) h
    ]

    more : (i : ℕ) → HasEntry entries i → HasEntry (entries ++ e ∷ []) i
    more i has = record { entry = has.entry; among = Contains-append_left entries (e ∷ []) has.entry has.among; class = has.class }

    was : (i p : ℕ) → Contains (next between i) p → Contains (next old i) p ⊎ ((p ≡ at) × HasEntry (entries ++ e ∷ []) i)
    was i p h = ⊎_elim (λ old. inl old) (λ has. inr (has.0, more i has.1)) (before.only i p h)

    only : (i p : ℕ) → Contains (next new i) p → Contains (next old i) p ⊎ ((p ≡ at) × HasEntry (entries ++ e ∷ []) i)
    only i p h = elim (cases_eq i e.class) [
      | inl same ↦
          let pushed : Contains (next between e.class ++ at ∷ []) p =
          subst (λ (row : List ℕ). Contains row p) (added-here e.class at between new is) (subst (λ (x : ℕ). Contains (next new x) p) same h) in
          ⊎_elim (λ there. was i p (subst (λ (x : ℕ). Contains (next between x) p) (sym same) there))
          (λ last. inr (sym last, record { entry = e; among = Contains-push entries e; class = sym same }))
          (Contains-push_cases (next between e.class) at p pushed)
      | inr not ↦ was i p (subst (λ (row : List ℕ). Contains row p) (added-there e.class at between new is i not) h)
    ]

    there : (i : ℕ) → i < length old → HasEntry (entries ++ e ∷ []) i → Contains (next new i) at
    there i l has =
        ⊎_elim (λ among. wider i at (before.there i l (record { entry = has.entry; among = among; class = has.class })))
        (λ same.
        subst (λ (x : ℕ). Contains (next new x) at) (ap (λ (y : Iface). y.class) same ∙ has.class)
        (subst (λ (row : List ℕ). Contains row at) (sym (added-here e.class at between new is)) (Contains-push (next between e.class) at)))
        (Contains-push_cases entries e has.entry has.among)

    rising : ((i p : ℕ) → Contains (next old i) p → p ≤ at) → ((i : ℕ) → IsNonDecreasing (next old i)) → (i : ℕ) → IsNonDecreasing (next new i)
    rising most rises i = elim (cases_eq i e.class) [
      | inl same ↦
          subst (λ (x : ℕ). IsNonDecreasing (next new x)) (sym same)
          (subst IsNonDecreasing (sym (added-here e.class at between new is))
          (pushed-rising (next between e.class) at (before.rising most rises e.class)
          (λ p h. ⊎_elim (λ was. most e.class p was) (λ now. let is = now.0 in omega (arith, is)) (before.only e.class p h))))
      | inr not ↦ subst IsNonDecreasing (sym (added-there e.class at between new is i not)) (before.rising most rises i)
    ]

-- ---- the positions before one are gone through

pub record AreNamingBelow (t : ClassTable) (order : List ℕ) (at : ℕ) (rows : List (List ℕ)) : Type 0 where
  pub only : (i p : ℕ) → Contains (next rows i) p → (p < at) × IsNamed t order i p
  pub all : (i p : ℕ) → i < length rows → p < at → IsNamed t order i p → Contains (next rows i) p
  pub rising : (i : ℕ) → IsNonDecreasing (next rows i)

module _ (t : ClassTable) (order : List ℕ) where
  pub naming-more : (at c : ℕ) (r : ClassRec) (old new : List (List ℕ)) → slice_get order at ≡ Some c → slice_get t.records c ≡ Some r
      → AreAdded old r.implements at new → AreNamingBelow t order at old → AreNamingBelow t order (at + 1) new
  naming-more at c r old new here record-is added before = record {
    only = λ i p h. ⊎_elim (λ was. let had = before.only i p was in (let l = had.0 in omega (arith, l), had.1))
        (λ now. (let e = now.0 in omega (arith, e), subst (IsNamed t order i) (sym now.0) (here-named i now.1)))
        (added.only i p h);
    all = λ i p l less is. elim (cases_lt p at) [
      | inl lower ↦ added.kept i p (before.all i p (let e = added.count in omega (arith, e, l)) lower is)
      | inr past ↦
          let same : at ≡ p = omega (arith, less, past) in
          let one : is.class ≡ c = same_Some is.class c (sym is.at ∙ subst (λ (x : ℕ). slice_get order x ≡ Some c) same here) in
          subst (Contains (next new i)) same
          (added.there i (let e = added.count in omega (arith, e, l))
          (entry-from t i c r record-is (subst (λ (x : ℕ). is_some (named t i x) ≡ true) one is.names)))
    ];
    rising = added.rising (λ i p h. let l = (before.only i p h).0 in omega (arith, l)) before.rising;
  }
    where
      here-named : (i : ℕ) → HasEntry r.implements i → IsNamed t order i at
      here-named i has = record { class = c; at = here; names = names-from t i c r record-is has }

  pub naming-ends : (at : ℕ) (rows : List (List ℕ)) → length order ≤ at → AreNamingBelow t order at rows → AreAllNaming t order rows
  naming-ends at rows past below i l = record {
    only = λ p h. (below.only i p h).1;
    all = λ p is. below.all i p l (let inside = slice_get_within order p is.class is.at in omega (arith, inside, past)) is;
    rising = below.rising i;
  }
