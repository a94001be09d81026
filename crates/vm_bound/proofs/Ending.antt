-- The ends of classes at and below one, found on one walk over an order.
use Rattle.std.proofs.Common.{◌≡◌, ℕ, ◌+◌, ◌<◌, ◌≤◌, ◌⊎◌, inl, inr, ⊎_elim, set, List, [], ◌∷◌, ◌++◌, length, refl, sym, ◌∙◌, subst, arith}
use Rattle.std.specs.Prelude.{Option, Some, None, Contains, slice_get}
use Rattle.std.proofs.lemmas.Bool.{cases_lt, cases_eq}
use Rattle.std.proofs.lemmas.Option.{same_Some}
use Rattle.std.proofs.lemmas.List.{length-set, get_or-set_same, get_or-set_other}
use Rattle.std.proofs.lemmas.List.Elements.{Contains-append_left, Contains-push, Contains-push_cases}
use Rattle.jc_base.specs.Class.{ClassTable, parent_of}
use Rattle.jc_decode.proofs.Elements.{nothing-in}
use Rattle.vm_bound.specs.Runs.{end_of, IsWithin, IsUnder, IsUnderParent, IsWalk}
use Rattle.vm_bound.proofs.Stacks.{last-greatest, front-rises, pushed-rises}

module _ (t : ClassTable) (order : List ℕ) where
  -- the last begun position is one of the order
  pub last-inside : (at last : ℕ) (begun rest ends : List ℕ) → at < length order → begun ≡ rest ++ last ∷ [] → IsWalk t order at begun ends
      → last < length order
  last-inside at last begun rest ends inside e walk =
      let had = walk.told last (subst (λ (xs : List ℕ). Contains xs last) (sym e) (Contains-push rest last)) in
      let l = had.0 in
      omega (arith, l, inside)

  -- ---- the last begun one ends

  module _ (at last : ℕ) (rest ends : List ℕ) (inside : at < length order) (walk : IsWalk t order at (rest ++ last ∷ []) ends) where
    was : (last < at) × (end_of ends last ≡ length order)
    was = walk.told last (Contains-push rest last)

    here : end_of (set ends last at) last ≡ at
    here =
        let l = was.0 in
        let e = walk.count in
        get_or-set_same ends last at 0 (omega (arith, l, e, inside))

    there : (p : ℕ) → ¬ (p ≡ last) → end_of (set ends last at) p ≡ end_of ends p
    there p not = get_or-set_other ends last p at 0 not

    to-old : (p q : ℕ) → q < at → IsWithin (set ends last at) p q → IsWithin ends p q
    to-old p q l within = elim (cases_eq p last) [
      | inl e ↦ (within.0, subst (λ (x : ℕ). q < end_of ends x) (sym e) (let is = was.1 in omega (arith, is, l, inside)))
      | inr not ↦ (within.0, subst (λ (n : ℕ). q < n) (there p not) within.1)
    ]

    to-new : (p q : ℕ) → q < at → IsWithin ends p q → IsWithin (set ends last at) p q
    to-new p q l within = elim (cases_eq p last) [
      | inl e ↦ (within.0, subst (λ (x : ℕ). q < end_of (set ends last at) x) (sym e) (let is = here in omega (arith, is, l)))
      | inr not ↦ (within.0, subst (λ (n : ℕ). q < n) (sym (there p not)) within.1)
    ]

    still-under : (q : ℕ) (o : Option ℕ) → q < at → IsUnderParent order ends q o → IsUnderParent order (set ends last at) q o
    still-under q None l is = λ p within. is p (to-old p q l within)
    still-under q (Some parent) l is = record {
      up = is.up;
      before = is.before;
      class = is.class;
      down = λ p not within. to-new p q l (is.down p not (to-old p is.up (let b = is.before in omega (arith, b, l)) within));
      back = λ p not within. to-new p is.up (let b = is.before in omega (arith, b, l)) (is.back p not (to-old p q l within));
    }

    pub walk-closes : IsWalk t order at rest (set ends last at)
    walk-closes = record {
      count = length-set ends last at ∙ walk.count;
      own = λ p l. elim (cases_eq p last) [
        | inl e ↦ subst (λ (x : ℕ). x < end_of (set ends last at) x) (sym e) (let is = here in let b = was.0 in omega (arith, is, b))
        | inr not ↦ subst (λ (n : ℕ). p < n) (sym (there p not)) (walk.own p l)
      ];
      later = λ p low l. there p (λ e. let b = was.0 in omega (arith, e, b, low)) ∙ walk.later p low l;
      told = λ p c.
          let less = last-greatest rest last p walk.rising c in
          let had = walk.told p (Contains-append_left rest (last ∷ []) p c) in
          (had.0, there p (λ e. omega (arith, e, less)) ∙ had.1);
      rising = front-rises rest last walk.rising;
      apart = λ u p is less. ⊎_elim (λ c. among u p c less) (λ e. ends-here u p e less) is;
      under = λ q c l here. still-under q (parent_of t c) l (walk.under q c l here);
    }
      where
        closed : (u p : ℕ) → ¬ (p ≡ last) → Contains (rest ++ last ∷ []) p ⊎ (end_of ends p ≤ u)
            → Contains rest p ⊎ (end_of (set ends last at) p ≤ u)
        closed u p not or =
            ⊎_elim (λ c. ⊎_elim (λ is. inl is) (λ e. absurd (not (sym e))) (Contains-push_cases rest last p c))
            (λ l. inr (subst (λ (n : ℕ). n ≤ u) (sym (there p not)) l)) or

        among : (u p : ℕ) → Contains rest u → p < u → Contains rest p ⊎ (end_of (set ends last at) p ≤ u)
        among u p c less =
            let below = last-greatest rest last u walk.rising c in
            closed u p (λ e. omega (arith, e, below, less)) (walk.apart u p (inl (Contains-append_left rest (last ∷ []) u c)) less)

        ends-here : (u p : ℕ) → u ≡ at → p < u → Contains rest p ⊎ (end_of (set ends last at) p ≤ u)
        ends-here u p is less = elim (cases_eq p last) [
          | inl e ↦ inr (subst (λ (x : ℕ). end_of (set ends last at) x ≤ u) (sym e) (let h = here in omega (arith, h, is)))
          | inr not ↦ closed u p not (walk.apart u p (inr is) less)
        ]

  -- ---- a position is gone through

  walk-more : (at c : ℕ) (begun ends : List ℕ) → at < length order → slice_get order at ≡ Some c → IsUnderParent order ends at (parent_of t c)
      → IsWalk t order at begun ends → IsWalk t order (at + 1) (begun ++ at ∷ []) ends
  walk-more at c begun ends inside class is walk = record {
    count = walk.count;
    own = walk.own;
    later = λ p low l. walk.later p (omega (arith, low)) l;
    told = λ p k. ⊎_elim (λ was. let had = walk.told p was in (let l = had.0 in omega (arith, l), had.1))
        (λ e. (omega (arith, e), subst (λ (x : ℕ). end_of ends x ≡ length order) e (walk.later at (omega arith) inside)))
        (Contains-push_cases begun at p k);
    rising = pushed-rises begun at walk.rising (λ p k. (walk.told p k).0);
    apart = λ u p among less.
        ⊎_elim
        (λ k. ⊎_elim (λ was. wider u p (walk.apart u p (inl was) less)) (λ e. wider u p (walk.apart u p (inr (sym e)) less)) (Contains-push_cases begun at u k))
        (λ e. after u p e less) among;
    under = grind (arith, cases_lt, same_Some);
  }
    where
      wider : (u p : ℕ) → Contains begun p ⊎ (end_of ends p ≤ u) → Contains (begun ++ at ∷ []) p ⊎ (end_of ends p ≤ u)
      wider u p or = ⊎_elim (λ c. inl (Contains-append_left begun (at ∷ []) p c)) (λ l. inr l) or

      after : (u p : ℕ) → u ≡ at + 1 → p < u → Contains (begun ++ at ∷ []) p ⊎ (end_of ends p ≤ u)
      after u p e less = elim (cases_lt p at) [
        | inl lower ↦ ⊎_elim (λ c. inl (Contains-append_left begun (at ∷ []) p c)) (λ l. inr (omega (arith, l, e))) (walk.apart at p (inr refl) lower)
        | inr past ↦ let same : at ≡ p = omega (arith, e, less, past) in inl (subst (Contains (begun ++ at ∷ [])) same (Contains-push begun at))
      ]

  -- below an begun class
  pub walk-below : (at c last parent : ℕ) (rest ends : List ℕ) → at < length order → slice_get order at ≡ Some c → parent_of t c ≡ Some parent
      → slice_get order last ≡ Some parent → IsWalk t order at (rest ++ last ∷ []) ends
      → IsWalk t order (at + 1) ((rest ++ last ∷ []) ++ at ∷ []) ends
  walk-below at c last parent rest ends inside class link above walk =
      walk-more at c (rest ++ last ∷ []) ends inside class (subst (IsUnderParent order ends at) (sym link) is) walk
    where
      begun : List ℕ
      begun = rest ++ last ∷ []

      had : (last < at) × (end_of ends last ≡ length order)
      had = walk.told last (Contains-push rest last)

      down : (p : ℕ) → IsWithin ends p last → IsWithin ends p at
      down p within =
          let l = had.0 in
          let e = had.1 in
          let low = within.0 in
          let high = within.1 in
          elim (cases_eq p last) [
            | inl same ↦ (omega (arith, same, l), subst (λ (x : ℕ). at < end_of ends x) (sym same) (omega (arith, e, inside)))
            | inr not ↦
                ⊎_elim (λ k. (omega (arith, low, l), let is = (walk.told p k).1 in omega (arith, is, inside))) (λ closed. absurd (omega (arith, closed, high)))
                (walk.apart last p (inl (Contains-push rest last)) (omega (arith, low, not)))
          ]

      not-after : (p : ℕ) → Contains begun p → p ≤ last
      not-after p k =
          ⊎_elim (λ in-rest. let less = last-greatest rest last p walk.rising in-rest in omega (arith, less)) (λ same. omega (arith, same))
          (Contains-push_cases rest last p k)

      back : (p : ℕ) → ¬ (p ≡ at) → IsWithin ends p at → IsWithin ends p last
      back p not within =
          let l = had.0 in
          let low = within.0 in
          let high = within.1 in
          ⊎_elim (λ k. (not-after p k, omega (arith, high, l))) (λ closed. absurd (omega (arith, closed, high)))
          (walk.apart at p (inr refl) (omega (arith, low, not)))

      is : IsUnder order ends at parent
      is = record { up = last; before = had.0; class = above; down = λ p not within. down p within; back = back }

  -- no class is begun, and it has no superclass
  pub walk-anew : (at c : ℕ) (ends : List ℕ) → at < length order → slice_get order at ≡ Some c → parent_of t c ≡ None → IsWalk t order at [] ends
      → IsWalk t order (at + 1) (at ∷ []) ends
  walk-anew at c ends inside class end walk = walk-more at c [] ends inside class (subst (IsUnderParent order ends at) (sym end) alone) walk
    where
      alone : (p : ℕ) → IsWithin ends p at → p ≡ at
      alone p within = elim (cases_eq p at) [
        | inl e ↦ e
        | inr not ↦
            let low = within.0 in
            let high = within.1 in
            ⊎_elim (λ k. absurd (nothing-in p k)) (λ closed. absurd (omega (arith, closed, high))) (walk.apart at p (inr refl) (omega (arith, low, not)))
      ]
