-- A number stands twice in some way exactly where it recurs.
use Rattle.std.proofs.Common.{◌≡◌, ℕ, ◌⊎◌, inl, inr, ⊎_elim, List, [], ◌∷◌, sym, refl, subst}
use Rattle.digraph.specs.Way.{Leads, by_step, by_more, Way, way_ends, way_goes, Recurs, IsAmong, StandsTwice, StandsTwiceInWay}

module _ (R : ℕ → ℕ → Type 0) where
  first-among : (v : ℕ) (vs : List ℕ) → Way R v vs → IsAmong v vs
  first-among v vs way_ends = inl refl
  first-among v vs (way_goes r more) = inl refl

  record Led (a b : ℕ) (vs : List ℕ) : Type 0 where
    rest : List ℕ
    is_way : Way R a (a ∷ rest)
    among : IsAmong b rest
    twice : (m : ℕ) → StandsTwice m vs → StandsTwice m rest

  led : (a b : ℕ) (vs : List ℕ) → Leads R a b → Way R b vs → Led a b vs
  led a b vs (by_step r) way = record { rest = vs; is_way = way_goes r way; among = first-among b vs way; twice = λ m t. t }
  led a b vs (by_more {b = c} r more) way =
      let later = led c b vs more way in
      record { rest = c ∷ later.rest; is_way = way_goes r later.is_way; among = inr later.among; twice = λ m t. inr (later.twice m t) }

  pub recurs-twice : (from v : ℕ) → Recurs R from v → StandsTwiceInWay R from v
  recurs-twice from v r =
      let round = led v v (v ∷ []) r.again way_ends in
      let stands : StandsTwice v (v ∷ round.rest) = inl (refl, round.among) in
      elim r.there [
        | inl is ↦ subst (λ x. StandsTwiceInWay R x v) (sym is) (record { way = v ∷ round.rest; is_way = round.is_way; twice = stands })
        | inr leads ↦
            let all = led from v (v ∷ round.rest) leads round.is_way in
            record { way = from ∷ all.rest; is_way = all.is_way; twice = inr (all.twice v stands) }
      ]

  among-led : (a v : ℕ) (vs : List ℕ) → Way R a vs → IsAmong v vs → (a ≡ v) ⊎ Leads R a v
  among-led a v vs way_ends (inl is) = inl is
  among-led a v vs way_ends (inr none) = absurd none
  among-led a v vs (way_goes r more) (inl is) = inl is
  among-led a v vs (way_goes {w = w} {vs = ws} r more) (inr later) =
      inr (⊎_elim (λ is. by_step (subst (R a) is r)) (λ l. by_more r l) (among-led w v ws more later))

  twice-recurs-in : (a v : ℕ) (vs : List ℕ) → Way R a vs → StandsTwice v vs → Recurs R a v
  twice-recurs-in a v vs way_ends (inl two) = absurd two.1
  twice-recurs-in a v vs way_ends (inr none) = absurd none
  twice-recurs-in a v vs (way_goes {w = w} {vs = ws} r more) (inl two) = record {
    there = inl two.0;
    again = subst (λ x. Leads R x v) two.0 (⊎_elim (λ is. by_step (subst (R a) is r)) (λ l. by_more r l) (among-led w v ws more two.1));
  }
  twice-recurs-in a v vs (way_goes {w = w} {vs = ws} r more) (inr later) =
      let rest = twice-recurs-in w v ws more later in
      record { there = inr (⊎_elim (λ is. by_step (subst (R a) is r)) (λ l. by_more r l) rest.there); again = rest.again }

  pub twice-recurs : (from v : ℕ) → StandsTwiceInWay R from v → Recurs R from v
  twice-recurs from v s = twice-recurs-in from v s.way s.is_way s.twice
