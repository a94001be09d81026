-- An analysis from visit to visit, and its end.
use Rattle.std.proofs.Common.{arith}
use Rattle.std.proofs.Common.{◌≡◌, ℕ, ◌+◌, Option, Some, None, IsSome, IfSome, length, refl, subst, sym}
use Rattle.jc_base.specs.declared.ty.Ty.TheVariants.{Top}
use Rattle.jc_base.specs.World.{Linked}
use Rattle.jc_rules.specs.FlowLaws.{AreRules, IsOrderOfCells}
use Rattle.jc_rules.specs.Demand.{Frame, AreKnown}
use Rattle.jc_control.specs.Method.{Method, IsMethodOf}
use Rattle.jc_control.specs.WellFormed.{IsWellFormed}
use Rattle.jc_rules.specs.Flow.{At, FrameBelow, start_frame, IsDerived, IsLeastTyping}
use Rattle.jc_rules.specs.Typing.{state_at}
use Rattle.jc_flow.specs.Found.{Found, NonePending, taken_up}
use Rattle.jc_flow.specs.Progress.{AreHeld, AreClosed, most_rises}
use Rattle.jc_flow.proofs.Derived.{derived-fine}
use Rattle.jc_flow.proofs.Growth.{visited, at-grown}
use Rattle.jc_flow.proofs.Settled.{settled-least, reached-found, found-reached}
use Rattle.jc_flow.specs.Infer.{AreReached, HaveRegisters, AreDerived, HaveKnownTypes}
use Rattle.jc_flow.specs.Visit.{IsVisited}

module _ (w : Linked) (is : AreRules w) (m : Method) (p : ℕ) (old new : Found) (v : IsVisited w m p (taken_up old p) new) where
  pub still-closed : AreClosed w m old → AreClosed w m new
  still-closed closed = visited w is.order is.ready m (most_rises w.classes m) old new p v.goes.grown closed v.closed

module _ (w : Linked) (order : IsOrderOfCells w.classes) (m : Method) (p : ℕ) (old new : Found) (v : IsVisited w m p (taken_up old p) new) where
  pub still-started : At (state_at old.states) 0 (FrameBelow w.classes (start_frame m.rec Top))
      → At (state_at new.states) 0 (FrameBelow w.classes (start_frame m.rec Top))
  still-started start = at-grown w.classes order (most_rises w.classes m) (taken_up old p) new (start_frame m.rec Top) v.goes.grown 0 start

pub least-found : (w : Linked) → AreRules w → (m : Method) → IsMethodOf w m → IsWellFormed m → (found end : Found) → end ≡ found
    → AreHeld w m found → AreClosed w m found → NonePending found
    → At (state_at found.states) 0 (FrameBelow w.classes (start_frame m.rec Top)) → IsLeastTyping w m Top (state_at end.states)
least-found w is m mo formed found end e held closed none start = grind (arith, settled-least)

some-there : {f : Frame} (o : Option Frame) → o ≡ Some f → IsSome o
some-there x e = grind (arith)

is-there : (o : Option Frame) → IsSome o → (f : Frame) × (o ≡ Some f)
is-there x h = grind (arith)

-- the places with a frame are those that control reaches
pub reached-are : (w : Linked) → AreRules w → (m : Method) → IsMethodOf w m → IsWellFormed m → (found end : Found) → end ≡ found
    → AreHeld w m found → AreClosed w m found → NonePending found
    → At (state_at found.states) 0 (FrameBelow w.classes (start_frame m.rec Top)) → AreReached m end.states
reached-are w is m mo formed found end e held closed none start = subst (λ (x : Found). AreReached m x.states) (sym e) (λ p. (
  (λ h. found-reached w is m mo found formed held closed none start (is-there (state_at found.states p) h).1),
  (λ r. let here = reached-found w is m mo found formed held closed none start r in some-there (state_at found.states p) here.1),
))

-- each frame has the method's registers
pub registers-are : (w : Linked) → AreRules w → (m : Method) → IsMethodOf w m → (found end : Found) → end ≡ found → AreHeld w m found
    → HaveRegisters m end.states
registers-are w is m mo found end e held = subst (λ (x : Found). HaveRegisters m x.states) (sym e) (λ p. at (state_at found.states p) p refl)
  where
    at : (o : Option Frame) (p : ℕ) → state_at found.states p ≡ o → IfSome o (λ f. length f.regs ≡ m.rec.nargs + m.rec.max_locals)
    at None p h = tt
    at (Some f) p h = (derived-fine w is m mo (held.held p f h).derived).count

-- each frame is derived
pub derived-are : (w : Linked) (m : Method) (found end : Found) → end ≡ found → AreHeld w m found → AreDerived w m end.states
derived-are w m found end e held = subst (λ (x : Found). AreDerived w m x.states) (sym e) (λ p. at (state_at found.states p) p refl)
  where
    at : (o : Option Frame) (p : ℕ) → state_at found.states p ≡ o → IfSome o (IsDerived w m Top p)
    at None p h = tt
    at (Some f) p h = (held.held p f h).derived

-- and has known types
pub known-are : (w : Linked) → AreRules w → (m : Method) → IsMethodOf w m → (found end : Found) → end ≡ found → AreHeld w m found
    → HaveKnownTypes w end.states
known-are w is m mo found end e held = subst (λ (x : Found). HaveKnownTypes w x.states) (sym e) (λ p. at (state_at found.states p) p refl)
  where
    at : (o : Option Frame) (p : ℕ) → state_at found.states p ≡ o → IfSome o (AreKnown w.classes)
    at None p h = tt
    at (Some f) p h = (derived-fine w is m mo (held.held p f h).derived).known
