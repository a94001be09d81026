-- What is kept for a local at a place.
use Rattle.std.proofs.Common.{◌≡◌, ℕ, suc, ◌<◌, inl, inr, List, [], ◌∷◌, Option, refl, sym, subst, arith}
use Rattle.jc_base.specs.Each.{Each, IsAmong}
use Rattle.jc_base.specs.Laws.{SameTypeDecides}
use Rattle.jc_control.specs.Method.{Method}
use Rattle.jc_rules.specs.Demand.{Frame}
use Rattle.xf_homes.specs.declared.home.Home.{Home}
use Rattle.xf_homes.specs.Home.{IsAsked, IsNeeded, asked_here, PairSpot, ComesBefore}
use Rattle.xf_homes.specs.Walk.{local_events, with_events}
use Rattle.xf_homes.specs.Laws.{IsAskedBefore, AreAskedInOrder, AreNeeded, NeededAreKept}
use Rattle.xf_homes.proofs.Events.{Occurs, OccursBefore, Ordered, kept}
use Rattle.xf_homes.proofs.Meeting.{local-at, caught-asked, occurs-caught, local-occurs}
use Rattle.xf_homes.proofs.Rising.{local-rising}

-- one comes before another at the same place and slot
before-time : (p x n k : ℕ) → ComesBefore (record { place = p; slot = x; time = n }) (record { place = p; slot = x; time = k }) → n < k
before-time p x n k x2 = grind (arith)

module _ (m : Method) (frames : ℕ → Option Frame) (p x : ℕ) where
  -- where a pair is met, it is asked for
  record IsAskedAt (s : PairSpot) (h : Home) : Type 0 where
    time : ℕ
    spot : s ≡ record { place = p; slot = x; time = time }
    slot : h.slot ≡ x
    asked : IsAsked m frames p x time h.ty

  occurs-asked : (s : PairSpot) (h : Home) → Occurs (local_events frames m.rec.handlers p x) s h → IsAskedAt s h
  unfolding local_events
  occurs-asked s h (inl at) = record { time = 0; spot = sym at.spot; slot = sym at.slot; asked = asked_here (local-at frames p x h.ty (frames p) at.value) }
  occurs-asked s h (inr o) = grind (arith, occurs-caught m frames p x 0 m.rec.handlers s h o, suc, caught-asked)

  -- and where it is asked for, it is met
  asked-occurs : (n : ℕ) (h : Home) → h.slot ≡ x → IsAsked m frames p x n h.ty
      → Occurs (local_events frames m.rec.handlers p x) (record { place = p; slot = x; time = n }) h
  asked-occurs n h e asked = grind (arith, local-occurs)

  asked-before : (h k : Home) → k.slot ≡ x → OccursBefore (local_events frames m.rec.handlers p x) h k → IsAskedBefore m frames p x h k
  asked-before h k e o = grind (arith, occurs-asked, asked-occurs, before-time)

  each-before : (h : Home) (hs : List Home) → ((k : Home) → IsAmong k hs → k.slot ≡ x)
      → Each (OccursBefore (local_events frames m.rec.handlers p x) h) hs → Each (IsAskedBefore m frames p x h) hs
  each-before h [] at e = tt
  each-before h (k ∷ ks) at e = (asked-before h k (at k (inl refl)) e.0, each-before h ks (λ j a. at j (inr a)) e.1)

  in-order : (hs : List Home) → ((k : Home) → IsAmong k hs → k.slot ≡ x) → Ordered (local_events frames m.rec.handlers p x) hs
      → AreAskedInOrder m frames p x hs
  in-order [] at o = tt
  in-order (h ∷ hs) at o = (each-before h hs (λ k a. at k (inr a)) o.0, in-order hs (λ k a. at k (inr a)) o.1)

  module _ (same : SameTypeDecides) where
    are-needed : AreNeeded m frames p x (with_events [] (local_events frames m.rec.handlers p x))
    are-needed =
        let k = kept same (local_events frames m.rec.handlers p x) [] (local-rising frames m.rec.handlers p x) in
        let met : (h : Home) → IsAmong h k.new → (h.slot ≡ x) × IsNeeded m frames p x h.ty = λ h a.
        let o = k.met h a in
        let at = occurs-asked o.0 h o.1 in
        (at.slot, (at.time, at.asked)) in
        let all : (h : Home) → (h.slot ≡ x) × IsNeeded m frames p x h.ty → IsAmong h k.new = λ h n.
        k.all h (record { place = p; slot = x; time = n.1.0 }) (asked-occurs n.1.0 h n.0 n.1.1) (λ none. none) in
        let new : AreNeeded m frames p x k.new = record { all = λ h. (met h, all h); order = in-order k.new (λ h a. (met h a).0) k.order } in
        subst (AreNeeded m frames p x) (sym k.parts) new

pub needed-are-kept : SameTypeDecides → NeededAreKept
needed-are-kept same m frames p x = are-needed m frames p x same
