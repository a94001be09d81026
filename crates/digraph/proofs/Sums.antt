-- Sums that become known.
use Rattle.std.proofs.Common.{◌≡◌, ℕ, zero, suc, ◌+◌, ◌<◌, ◌≤◌, ◌⊎◌, inl, inr, false, List, [], ◌∷◌, ◌++◌, max, length, sym, refl, ap, ◌∙◌, subst, arith}
use Rattle.std.specs.Prelude.{is_some, IfSome, Contains, sum, Option, Some, None, IsSomeAnd}
use Rattle.std.proofs.Math.ListN.{set, length-set}
use Rattle.std.proofs.lemmas.Bool.{cases_eq, cases_lt}
use Rattle.std.proofs.lemmas.List.{get_or-set_same, get_or-set_other}
use Rattle.std.proofs.lemmas.Option.{same_Some}
use Rattle.std.proofs.lemmas.List.Elements.{Contains-push_cases, Contains-push, Contains-append_left}
use Rattle.std.proofs.lemmas.List.Sums.{sum_by-cons}
use Rattle.digraph.specs.Way.{Leads, by_step, by_more, Way, way_ends, way_goes, total, IsGreatest}
use Rattle.digraph.specs.Graph.{next, Edge, weight_of}
use Rattle.digraph.specs.Settled.{known_at, settled, IsTable, IsMostOf, NoneRecurs}

-- ---- what is settled

settled-more : (known : List (Option ℕ)) (ws : List ℕ) (v b : ℕ) → v < length known → v < length ws → known_at known v ≡ None
    → settled (set known v (Some b)) ws ≡ weight_of ws v + settled known ws
settled-more [] ws v b l m e = absurd (omega arith)
settled-more (k ∷ ks) [] v b l m e = absurd (omega arith)
settled-more (None ∷ ks) (w ∷ ws) zero b l m e = refl
settled-more (Some c ∷ ks) (w ∷ ws) zero b l m e = absurd (cc)
settled-more (None ∷ ks) (w ∷ ws) (suc v) b l m e = settled-more ks ws v b (omega arith) (omega arith) e
settled-more (Some c ∷ ks) (w ∷ ws) (suc v) b l m e = grind (arith, settled-more ks ws v b (omega arith) (omega arith) e)

pub settled-most : (known : List (Option ℕ)) (ws : List ℕ) → settled known ws ≤ sum ws
settled-most [] ws = omega arith
settled-most (k ∷ ks) [] = omega arith
settled-most (None ∷ ks) (w ∷ ws) = let more = settled-most ks ws in omega (arith, sum_by-cons (λ (x : ℕ). x) w ws)
settled-most (Some b ∷ ks) (w ∷ ws) = let more = settled-most ks ws in omega (arith, sum_by-cons (λ (x : ℕ). x) w ws)

abbrev nothing : Option ℕ
nothing = None

-- ---- one more vertex

pub greatest-here :
    (g : List (List ℕ)) (ws : List ℕ) (known : List (Option ℕ)) (v best : ℕ)
    → IsTable g ws known → IsMostOf known (next g v) best → IsGreatest (Edge g) (weight_of ws) v (weight_of ws v + best)
greatest-here g ws known v best table most = elim most.some [
  | inl none ↦ record { way = v ∷ []; is_way = way_ends; measures = omega arith; none_more = upper }
  | inr (w, (among, is)) ↦
      let rest = table.greatest w best is in
      record { way = v ∷ rest.way; is_way = way_goes among rest.is_way; measures = ap (λ n. weight_of ws v + n) rest.measures; none_more = upper }
]
  where
    below : (w n : ℕ) (o : Option ℕ) → known_at known w ≡ o → IsSomeAnd o (λ b. b ≤ best) → ((b : ℕ) → o ≡ Some b → n ≤ b) → n ≤ best
    below w n None e h l = absurd h
    below w n (Some b) e h l = let m = l b refl in omega arith

    upper : (vs : List ℕ) → Way (Edge g) v vs → total (weight_of ws) vs ≤ weight_of ws v + best
    upper vs (way_ends) = omega arith
    upper whole (way_goes {w = w} {vs = vs} e more) =
        let rest = below w (total (weight_of ws) vs) (known_at known w) refl (most.each w e)
        (λ b is. (table.greatest w b is).none_more vs more) in omega arith

none-here :
    (g : List (List ℕ)) (ws : List ℕ) (known : List (Option ℕ)) (v best : ℕ)
    → IsTable g ws known → IsMostOf known (next g v) best → NoneRecurs g v
none-here g ws known v best table most u r = elim r.there [
  | inl at ↦ past u (subst (λ x. Leads (Edge g) x u) (sym at) r.again) r.again
  | inr leads ↦ past u leads r.again
]
  where
    known-next : (w : ℕ) (o : Option ℕ) → known_at known w ≡ o → IsSomeAnd o (λ b. b ≤ best) → NoneRecurs g w
    known-next w None is h = absurd h
    known-next w (Some b) is h = table.ends w b is

    past : (u : ℕ) → Leads (Edge g) v u → Leads (Edge g) u u → ⊥
    past u (by_step e) again = known-next u (known_at known u) refl (most.each u e) u (record { there = inl refl; again = again })
    past u (by_more {b = w} e more) again = known-next w (known_at known w) refl (most.each w e) u (record { there = inr more; again = again })

pub table-more :
    (g : List (List ℕ)) (ws : List ℕ) (known : List (Option ℕ)) (v best : ℕ)
    → IsTable g ws known → v < length g → length ws ≡ length g → known_at known v ≡ None → IsMostOf known (next g v) best
    → IsTable g ws (set known v (Some (weight_of ws v + best)))
table-more g ws known v best table inside sized is most = record {
  lengths = length-set known v (Some (weight_of ws v + best)) ∙ table.lengths;
  greatest = greatest;
  bounded = bounded;
  ends = ends;
}
  where
    there : v < length known
    there = omega (arith, table.lengths)

    all : settled (set known v (Some (weight_of ws v + best))) ws ≡ weight_of ws v + settled known ws
    all = settled-more known ws v (weight_of ws v + best) there (omega arith) is

    same : known_at (set known v (Some (weight_of ws v + best))) v ≡ Some (weight_of ws v + best)
    same = get_or-set_same known v (Some (weight_of ws v + best)) None there

    greatest : (u b : ℕ) → known_at (set known v (Some (weight_of ws v + best))) u ≡ Some b → IsGreatest (Edge g) (weight_of ws) u b
    greatest u b e = grind (arith, cases_eq, set, same_Some, same, greatest-here, get_or-set_other)

    ends : (u b : ℕ) → known_at (set known v (Some (weight_of ws v + best))) u ≡ Some b → NoneRecurs g u
    ends u b e = elim (cases_eq u v) [
      | inl at ↦ subst (NoneRecurs g) (sym at) (none-here g ws known v best table most)
      | inr other ↦ table.ends u b (sym (get_or-set_other known v u (Some (weight_of ws v + best)) None other) ∙ e)
    ]

    best-least : best ≤ settled known ws
    best-least = elim most.some [ inl none ↦ omega arith | inr (w, (among, at)) ↦ table.bounded w best at ]

    bounded : (u b : ℕ) → known_at (set known v (Some (weight_of ws v + best))) u ≡ Some b → b ≤ settled (set known v (Some (weight_of ws v + best))) ws
    bounded u b e = grind (arith, cases_eq, set, same_Some, same, best-least, all, get_or-set_other)

-- what is added to the weight of a vertex still fits
pub sum-fits :
    (g : List (List ℕ)) (ws : List ℕ) (known : List (Option ℕ)) (v best : ℕ)
    → IsTable g ws known → v < length g → length ws ≡ length g → known_at known v ≡ None → IsMostOf known (next g v) best
    → weight_of ws v + best ≤ sum ws
sum-fits g ws known v best table inside sized is most =
    let later = table-more g ws known v best table inside sized is most in
    let here = get_or-set_same known v (Some (weight_of ws v + best)) None (omega (arith, table.lengths)) in
    let l = later.bounded v (weight_of ws v + best) here in
    let m = settled-most (set known v (Some (weight_of ws v + best))) ws in omega arith

-- ---- the greatest of several

at-most : (o : Option ℕ) (a b : ℕ) → a ≤ b → IsSomeAnd o (λ n. n ≤ a) → IsSomeAnd o (λ n. n ≤ b)
at-most x a b l h = grind (arith)

pub most-more :
    (known : List (Option ℕ)) (vs : List ℕ) (v best sum : ℕ)
    → IsMostOf known vs best → known_at known v ≡ Some sum → IsMostOf known (vs ++ v ∷ []) (max best sum)
most-more known vs v best sum most is = record { each = each; some = some }
  where
    each : (u : ℕ) → Contains (vs ++ v ∷ []) u → IsSomeAnd (known_at known u) (λ n. n ≤ max best sum)
    each u h = elim (Contains-push_cases vs v u h) [
      | inl old ↦ at-most (known_at known u) best (max best sum) (omega arith) (most.each u old)
      | inr at ↦ subst (λ x. IsSomeAnd (known_at known x) (λ n. n ≤ max best sum)) at (subst (λ o. IsSomeAnd o (λ n. n ≤ max best sum)) (sym is) (omega arith))
    ]

    some : (max best sum ≡ 0) ⊎ ((u : ℕ) × (Contains (vs ++ v ∷ []) u × (known_at known u ≡ Some (max best sum))))
    some = elim (cases_lt best sum) [
      | inl less ↦
          let eq : sum ≡ max best sum = omega arith in
          inr (v, (Contains-push vs v, subst (λ n. known_at known v ≡ Some n) eq is))
      | inr no_less ↦
          let eq : best ≡ max best sum = omega arith in
          elim most.some [
            | inl none ↦ inl (omega arith)
            | inr (u, (among, at)) ↦ inr (u, (Contains-append_left vs (v ∷ []) u among, subst (λ n. known_at known u ≡ Some n) eq at))
          ]
    ]

-- ---- what the table says

pub not-some : (o : Option ℕ) → is_some o ≡ false → o ≡ None
not-some x e = grind (arith)

pub known-most : (g : List (List ℕ)) (ws : List ℕ) (known : List (Option ℕ)) (v : ℕ) (o : Option ℕ) → IsTable g ws known → known_at known v ≡ o
    → IfSome o (λ b. b ≤ sum ws)
known-most g ws known v None table e = tt
known-most g ws known v (Some b) table e = let l = table.bounded v b e in let m = settled-most known ws in omega arith
