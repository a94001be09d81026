-- How a traversal goes on.
use Rattle.std.proofs.Common.{◌≡◌, ◌<◌, ◌≤◌, ◌⊎◌, inl, inr, ⊎_elim, ℕ, Bool, true, false, cond, Result, List, [], ◌∷◌}
use Rattle.std.proofs.Common.{◌++◌, length, refl, sym, ap, ◌∙◌, subst, arith, Contains, MatchBool, All}
use Rattle.std.specs.Prelude.{ℤ, OnOk}
use Rattle.std.proofs.Math.ListN.{set}
use Rattle.std.proofs.lemmas.List.{length-append, length-set}
use Rattle.std.proofs.lemmas.List.Sums.{sum_by-set}
use Rattle.std.proofs.lemmas.List.Elements.{Contains-append_left, Contains-push, Contains-push_cases}
use Rattle.jc_base.specs.declared.record.Handler.{Handler}
use Rattle.jc_control.specs.Method.{Method}
use Rattle.jc_control.specs.Control.{IsReached, IsLeader}
use Rattle.jc_control.specs.declared.traversal.Traversal.{Traversal}
use Rattle.jc_control.specs.Flags.{flag, IsFlagged}
use Rattle.jc_control.specs.Traversal.{IsPending, IsAsBefore, IsFound, ReachesPlace, TakesUp, work, Grows, IsSoundTraversal, IsLed, IsLedTo, IsCaught}
use Rattle.jc_control.specs.Traversal.{IsClosedAt, IsClosed}
use Rattle.jc_control.proofs.Marked.{flag-here, flag-kept, flag-only}

-- ---- growth

pub grows-on : (a b c : Traversal) → Grows a b → Grows b c → Grows a c
grows-on a b c g h = record {
  reached = λ p f. h.reached p (g.reached p f);
  leaders = λ p f. h.leaders p (g.leaders p f);
  fresh =
      λ p f. ⊎_elim (λ before. ⊎_elim (λ known. inl known) (λ waits. inr (h.pending p waits)) (g.fresh p before)) (λ waits. inr waits)
      (h.fresh p f);
  pending = λ p w. h.pending p (g.pending p w);
  less = let x = g.less in let y = h.less in omega arith;
}

abbrev weight : Bool → ℕ
weight b = cond b 0 1

module _ (place : ℕ) (old new : Traversal) where
  -- what is so where the place was known, and where it was found
  by_flag : (X : Type 0) → (IsFlagged old.reached place → IsAsBefore old new → X)
      → (flag old.reached place ≡ false → IsFound place old new → X) → ReachesPlace place old new → X
  by_flag X known found r = go (flag old.reached place) refl r
    where
      go : (b : Bool) → flag old.reached place ≡ b → MatchBool b (IsAsBefore old new) (IsFound place old new) → X
      go true e h = known e h
      go false e h = found e h

  module _ (inside : place < length old.reached) (r : ReachesPlace place old new) where
    pub reached-here : IsFlagged new.reached place
    reached-here = grind (arith, by_flag, flag-here)

    reached-kept : (p : ℕ) → IsFlagged old.reached p → IsFlagged new.reached p
    reached-kept p k = grind (arith, by_flag, flag-kept)

    reached-only : (p : ℕ) → IsFlagged new.reached p → IsFlagged old.reached p ⊎ (p ≡ place)
    reached-only p k = grind (arith, by_flag, flag-only)

    pending-kept : (p : ℕ) → IsPending old p → IsPending new p
    pending-kept p k = by_flag (IsPending new p)
        (λ e h. subst (λ (ps : List ℕ). Contains ps p) (sym h.pending) k)
        (λ e h. subst (λ (ps : List ℕ). Contains ps p) (sym h.pending) (Contains-append_left old.pending.items (place ∷ []) p k)) r

    pending-only : (p : ℕ) → IsPending new p → IsPending old p ⊎ (p ≡ place)
    pending-only p k = by_flag (IsPending old p ⊎ (p ≡ place))
        (λ e h. inl (subst (λ (ps : List ℕ). Contains ps p) h.pending k))
        (λ e h. ⊎_elim (λ before. inl before) (λ here. inr (sym here))
        (Contains-push_cases old.pending.items place p (subst (λ (ps : List ℕ). Contains ps p) h.pending k))) r

    reached-fresh : (p : ℕ) → IsFlagged new.reached p → IsFlagged old.reached p ⊎ IsPending new p
    reached-fresh p k = by_flag (IsFlagged old.reached p ⊎ IsPending new p)
        (λ e h. inl (ap (λ (fs : List Bool). flag fs p) (sym h.reached) ∙ k))
        (λ e h. ⊎_elim (λ before. inl before)
        (λ here. inr
        (subst (λ (ps : List ℕ). Contains ps p) (sym h.pending)
        (subst (λ (q : ℕ). Contains (old.pending.items ++ place ∷ []) q) (sym here) (Contains-push old.pending.items place))))
        (reached-only p k)) r

    less-left : work new ≤ work old
    less-left = by_flag (work new ≤ work old) known found r
      where
        known : IsFlagged old.reached place → IsAsBefore old new → work new ≤ work old
        known e h = rw (h.reached, h.pending) (omega arith)

        found : flag old.reached place ≡ false → IsFound place old new → work new ≤ work old
        found e h =
            let sums = sum_by-set weight old.reached place true false inside in
            let one : weight (flag old.reached place) ≡ 1 = ap weight e in
            rw (h.reached, h.pending) (omega (arith, sums, one, length-append old.pending.items (place ∷ [])))

    pub reach-grows : ((p : ℕ) → IsFlagged old.leaders p → IsFlagged new.leaders p) → Grows old new
    reach-grows leaders = record { reached = reached-kept; leaders = leaders; fresh = reached-fresh; pending = pending-kept; less = less-left }

    reached-length : length new.reached ≡ length old.reached
    reached-length = grind (arith, by_flag, length, length-set)

    pub reach-sound : (m : Method) → IsSoundTraversal m old → IsReached m place → length new.leaders ≡ length old.leaders
        → ((p : ℕ) → IsFlagged new.leaders p → IsLeader m p) → IsSoundTraversal m new
    reach-sound m s here size leaders = record {
      reached_size = reached-length ∙ s.reached_size;
      leaders_size = size ∙ s.leaders_size;
      reached = λ p k. ⊎_elim (λ before. s.reached p before) (λ same. subst (IsReached m) (sym same) here) (reached-only p k);
      leaders = leaders;
      pending =
          λ p k. ⊎_elim (λ before. reached-kept p (s.pending p before)) (λ same. subst (IsFlagged new.reached) (sym same) reached-here)
          (pending-only p k);
    }

-- what holds where a call answers Ok
pub on-ok : {E : Type 0} (P Q : Type 0) (r : Result (Unit {0}) E) → (P → Q) → OnOk r P → OnOk r Q
on-ok x x2 x22 f h = grind (arith)

-- a place is reached
module _ (m : Method) (place : ℕ) (old new : Traversal) (sound : IsSoundTraversal m old) (inside : place ≤ length m.code)
    (same : new.leaders ≡ old.leaders) (r : ReachesPlace place old new) where
  pub reached-sound : IsReached m place → IsSoundTraversal m new
  reached-sound here = reach-sound place old new (omega (arith, sound.reached_size)) r m sound here (ap length same)
      (λ p h. sound.leaders p (ap (λ (fs : List Bool). flag fs p) (sym same) ∙ h))

  pub reached-grows : Grows old new
  reached-grows = reach-grows place old new (omega (arith, sound.reached_size)) r (λ p h. ap (λ (fs : List Bool). flag fs p) same ∙ h)

  pub reached-found : IsFlagged new.reached place
  reached-found = reached-here place old new (omega (arith, sound.reached_size)) r

-- control is led to a place
module _ (m : Method) (place : ℕ) (old new : Traversal) (sound : IsSoundTraversal m old) (inside : place ≤ length m.code)
    (one_more : new.leaders ≡ set old.leaders place true) (r : ReachesPlace place old new) where
  led_inside : place < length old.leaders
  led_inside = omega (arith, sound.leaders_size)

  pub led-sound : IsReached m place → IsLeader m place → IsSoundTraversal m new
  led-sound here leader = grind (arith, reach-sound, length, length-set, ⊎_elim, flag-only)

  pub led-grows : Grows old new
  led-grows = grind (arith, reach-grows, flag-kept, led_inside)

  pub led-here : IsLed new place
  led-here = grind (arith, reached-here, flag-here, led_inside)

-- ---- what is found stays found

pub all-led-stays : (old new : Traversal) (ts : List ℤ) → Grows old new → All (IsLedTo old) ts → All (IsLedTo new) ts
all-led-stays old new ts g all = grind (arith)

pub all-caught-stay : (old new : Traversal) (place : ℕ) (hs : List Handler) → Grows old new → All (IsCaught old place) hs → All (IsCaught new place) hs
all-caught-stay old new place hs g all = grind (arith)

pub closed-stays : (m : Method) (old new : Traversal) (p : ℕ) → ((q : ℕ) → IsFlagged old.reached q → IsFlagged new.reached q)
    → ((q : ℕ) → IsFlagged old.leaders q → IsFlagged new.leaders q)
    → IsClosedAt m old p → IsClosedAt m new p
closed-stays m old new p reached leaders c = record {
  follows = λ i q there here succ. reached q (c.follows i q there here succ);
  leads = λ i q there here target. leaders q (c.leads i q there here target);
  catches = λ h there covers. let led = c.catches h there covers in (reached h.entry led.0, leaders h.entry led.1);
}

-- ---- a pending place is taken up

module _ (m : Method) (place : ℕ) (old new : Traversal) (t : TakesUp place old new) where
  pub taken-pending : IsPending old place
  taken-pending = subst (λ (ps : List ℕ). Contains ps place) (sym t.pending) (Contains-push new.pending.items place)

  -- once all that follows it is found
  pub visited-closed : (after : Traversal) → Grows new after → IsClosedAt m after place → IsClosed m old → IsClosed m after
  visited-closed after g closed all p h =
      ⊎_elim (λ before. known (all p (ap (λ (fs : List Bool). flag fs p) (sym t.reached) ∙ before))) (λ waits. inl waits) (g.fresh p h)
    where
      waiting : IsPending old p → IsPending after p ⊎ IsClosedAt m after p
      waiting w = ⊎_elim (λ still. inl (g.pending p still)) (λ here. inr (subst (IsClosedAt m after) here closed))
          (Contains-push_cases new.pending.items place p (subst (λ (ps : List ℕ). Contains ps p) t.pending w))

      known : IsPending old p ⊎ IsClosedAt m old p → IsPending after p ⊎ IsClosedAt m after p
      known (inl w) = waiting w
      known (inr c) = grind (arith, closed-stays)

pub on-both : {E : Type 0} (P Q R : Type 0) (r : Result (Unit {0}) E) → (P → Q → R) → OnOk r P → OnOk r Q → OnOk r R
on-both x x2 x22 x222 f h k = grind (arith)

pub kept : (fs gs : List Bool) (p : ℕ) → fs ≡ gs → IsFlagged fs p → IsFlagged gs p
kept fs gs p same h = subst (λ (xs : List Bool). IsFlagged xs p) same h
