-- The begin of an analysis: an empty table, and the frame of the method's start.
use Rattle.std.proofs.Common.{◌≡◌, ℕ, zero, suc, ◌⊎◌, inl, inr, false, length, replicate, Option, None, IsSomeAnd, refl, sym, ◌∙◌, ap}
use Rattle.std.proofs.Common.{arith}
use Rattle.std.proofs.lemmas.List.{length-replicate}
use Rattle.std.proofs.lemmas.Option.{none-some}
use Rattle.std.proofs.lemmas.List.Elements.{All-nil}
use Rattle.jc_base.specs.declared.ty.Ty.TheVariants.{Top}
use Rattle.jc_base.specs.World.{Linked}
use Rattle.jc_rules.specs.Demand.{Frame}
use Rattle.jc_control.specs.Method.{Method, IsMethodOf}
use Rattle.jc_control.specs.WellFormed.{IsWellFormed}
use Rattle.jc_rules.specs.Flow.{IsNotTop, IsNotFresh, start_frame, derived_start}
use Rattle.jc_rules.specs.Typing.{state_at}
use Rattle.jc_flow.specs.declared.table.PutEnd.{PutEnd}
use Rattle.jc_flow.specs.Found.{Found, IsPending, Prevents}
use Rattle.jc_flow.specs.Progress.{IsHeld, AreHeld, IsClosed, AreClosed}
use Rattle.jc_flow.specs.Fails.{IsFailure}
use Rattle.jc_flow.specs.Visit.{Goes, broken_at}
use Rattle.jc_control.specs.Laws.{InstructionsArePlaced}

abbrev pub empty : ℕ → Found
empty n = record { states = replicate n None; pending = replicate n false }

nothing-at : (n p : ℕ) → state_at (replicate n None) p ≡ None
unfolding state_at
nothing-at zero zero = refl
nothing-at zero (suc p) = refl
nothing-at (suc n) zero = refl
nothing-at (suc n) (suc p) = nothing-at n p

module _ (w : Linked) (m : Method) where
  pub empty-held : (found : Found) → found ≡ empty (length m.code) → AreHeld w m found
  empty-held found e = grind (arith, length-replicate, length, none-some, nothing-at)

  pub start-held : InstructionsArePlaced → IsMethodOf w m → IsWellFormed m → IsHeld w m 0 (start_frame m.rec Top)
  start-held placed mo formed = record {
    derived = derived_start;
    place = (placed m formed).first mo.filled;
    room = omega arith;
    no_top = All-nil IsNotTop;
    ready = λ l. All-nil IsNotFresh;
  }

  pub begun-closed : (old new : Found) → old ≡ empty (length m.code) → Goes w m old new → AreClosed w m new
  begun-closed old new e goes p f h = by (goes.grown.stays p)
    where
      by : (state_at new.states p ≡ state_at old.states p) ⊎ IsPending new p → IsPending new p ⊎ IsClosed w m new p f
      by (inr k) = inl k
      by (inl same) = absurd (none-some _ (sym (nothing-at (length m.code) p) ∙ ap (λ (x : Found). state_at x.states p) (sym e) ∙ sym same ∙ h))

  none-there : (P : Frame → Type 0) (o : Option Frame) → o ≡ None → IsSomeAnd o P → ⊥
  none-there x x2 e h = grind (arith, none-some)

  pub begin-failed : (old : Found) (f : Frame) (end : PutEnd) → old ≡ empty (length m.code) → Prevents w.classes old 0 f end
      → IsFailure w m (broken_at 0 end)
  begin-failed old f x e h = grind (arith, none-there, nothing-at, length)
