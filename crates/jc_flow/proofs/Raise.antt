-- A frame that may stand at a place can be put there, and the table grows.
use Rattle.std.proofs.Common.{◌≡◌, ℕ, ◌<◌, length, All, Option, Some, None, IfSome, Result, Ok, Err, MatchResult, refl, subst}
use Rattle.std.proofs.Common.{arith}
use Rattle.jc_base.specs.Order.{IsKnown}
use Rattle.jc_base.specs.World.{Linked}
use Rattle.jc_rules.specs.FlowLaws.{AreRules}
use Rattle.jc_rules.specs.Demand.{Frame}
use Rattle.jc_control.specs.Method.{Method, IsMethodOf}
use Rattle.jc_rules.specs.Typing.{state_at}
use Rattle.jc_flow.specs.declared.table.PutEnd.{PutEnd}
use Rattle.jc_flow.specs.Found.{Found, HasKnown, Lands, Prevents}
use Rattle.jc_base.specs.Class.{ClassTable}
use Rattle.jc_flow.specs.Progress.{IsHeld, AreHeld}
use Rattle.jc_flow.proofs.Derived.{derived-fine}
use Rattle.jc_flow.proofs.Growth.{lands-grown, lands-above, lands-held}
use Rattle.jc_flow.proofs.Measure.{frame-rises}
use Rattle.jc_flow.specs.Visit.{Raised}

module _ (w : Linked) (is : AreRules w) (m : Method) (mo : IsMethodOf w m) where
  module _ (found : Found) (held : AreHeld w m found) (to : ℕ) (f : Frame) (h : IsHeld w m to f) where
    in-code : to < length m.code
    in-code = subst (λ q. q < length m.code) h.place.2 ((is.listed m.code).inside h.place.0 h.place.1)

    pub place-there : to < length found.states
    place-there = let inside : to < length m.code = in-code in omega (arith, held.places)

    flag-there : to < length found.pending
    flag-there = let inside : to < length m.code = in-code in omega (arith, held.flags)

    pub regs-known : All (IsKnown w.classes) f.regs
    regs-known = (derived-fine w is m mo h.derived).known.regs

    pub stack-known : All (IsKnown w.classes) f.stack
    stack-known = (derived-fine w is m mo h.derived).known.stack

    there-known : (o : Option Frame) → state_at found.states to ≡ o → IfSome o (HasKnown w.classes (length f.regs))
    there-known None e = tt
    there-known (Some g) e = grind (arith, derived-fine w is m mo (held.held to g e).derived, derived-fine w is m mo h.derived)

    pub held-known : IfSome (state_at found.states to) (HasKnown w.classes (length f.regs))
    held-known = there-known (state_at found.states to) refl

    pub raised : (new : Found) → Lands w.classes found to f new → Raised w m found new to f
    raised new lands = record {
      goes = record {
        grown =
            lands-grown w.classes is.order _ place-there flag-there (frame-rises w.classes is.types m f (derived-fine w is m mo h.derived).count h.room)
            lands;
        held = lands-held w is.order is.ready m place-there held h lands;
      };
      above = lands-above w.classes is.order 0 place-there lands;
    }

    pub raise-result : (t : ClassTable) (new : Found) (r : Result (Unit {0}) PutEnd) → t ≡ w.classes
        → MatchResult r (λ _. Lands t found to f new) (Prevents t found to f)
        → MatchResult r (λ _. Raised w m found new to f) (Prevents w.classes found to f)
    raise-result t new (Ok x) e h = raised new (subst (λ c. Lands c found to f new) e h)
    raise-result t new (Err end) e h = subst (λ c. Prevents c found to f end) e h
