-- Pass after pass, until one leaves the registers as they are.
use Rattle.std.proofs.Common.{◌≡◌, ℕ, suc, ◌+◌, ◌*◌, ◌≤◌, ⊎_elim, Bool, true, false, List, [], length, MatchBool, sum_by, refl}
use Rattle.std.proofs.Common.{sym, subst, arith}
use Rattle.std.proofs.Math.Nat.{suc-mul}
use Rattle.std.proofs.lemmas.Bool.{false≢true, cases_lt}
use Rattle.jc_base.specs.declared.ty.Ty.{Ty}
use Rattle.jc_base.specs.Order.{rises_left}
use Rattle.jc_base.specs.World.{Linked}
use Rattle.jc_base.proofs.Joins.{rises-bound}
use Rattle.jc_control.specs.Method.{Method}
use Rattle.jc_rules.specs.Demand.{Frame}
use Rattle.card_typing.specs.declared.fault.CardFault.{CardFault}
use Rattle.card_typing.specs.Place.{IsEntry}
use Rattle.card_typing.specs.Met.{IsMetAfter, arrives_falling}
use Rattle.card_typing.specs.Pass.{IsStillAfter}
use Rattle.card_verify.specs.declared.verify.Verifier.{Verifier}
use Rattle.card_verify.specs.Verifier.{method, world_of}
use Rattle.card_verify.specs.Counted.{instruction_count, most_passes, AreCountedBeside, AreCountedUpTo}
use Rattle.card_verify.specs.Walk.{IsVerifier, CanBeginPass, IsPassedOver, HasLessLeft, IsSettled, IsRefusedInPass, IsUnderWay, IsFinished}
use Rattle.card_verify.proofs.Costs.{grow, most-rises}

-- ---- what a pass answers

pub raised : (v : Verifier) (marked : ℕ → Type 0) (regs after : List Ty) (rose : Bool)
    → MatchBool rose (HasLessLeft v regs after) (IsSettled v marked regs after) → rose ≡ true → HasLessLeft v regs after
raised v marked regs after x h e = grind (arith, false≢true)

pub settled : (v : Verifier) (marked : ℕ → Type 0) (regs after : List Ty) (rose : Bool)
    → MatchBool rose (HasLessLeft v regs after) (IsSettled v marked regs after) → rose ≡ false → IsSettled v marked regs after
settled v marked regs after x h e = grind (arith, false≢true)

pub finished : (v : Verifier) (marked : ℕ → Type 0) (visits : ℕ) (regs after stack : List Ty) → CanBeginPass v marked visits regs stack
    → IsSettled v marked regs after → IsFinished v marked after
finished v marked visits regs after stack begun s = grind (arith)

next-times : (passes n : ℕ) → (passes + 1) * n ≡ passes * n + n
next-times passes n = grind (arith, suc, suc-mul)

-- ---- the passes so far

module _ (v : Verifier) (marked : ℕ → Type 0) (is : IsVerifier v marked) (begins : ¬ (IsEntry (method v) 0)) (passes : ℕ)
    (regs stack after stack_after : List Ty) (over : IsPassedOver v marked regs stack after stack_after) (before here there : ℕ)
    (way : IsUnderWay v marked passes regs stack before here) (paid : here + instruction_count (method v) ≤ there) where
  so_far : ℕ
  so_far = passes * instruction_count (method v)

  again : CanBeginPass v marked ((passes + 1) * instruction_count (method v)) after stack_after
  again =
      subst (λ n. CanBeginPass v marked n after stack_after) (sym (next-times passes (instruction_count (method v))))
      (over (passes * instruction_count (method v)) way.begun)

  met-here : IsMetAfter (world_of v) (method v) marked (passes * instruction_count (method v)) 0 (record { regs = regs; stack = [] })
  met-here = way.begun.met [] (arrives_falling begins refl)

  met-there : IsMetAfter (world_of v) (method v) marked ((passes + 1) * instruction_count (method v)) 0 (record { regs = after; stack = [] })
  met-there = again.met [] (arrives_falling begins refl)

  -- a pass that raises a register does not leave them as they are
  not-still : HasLessLeft v regs after → ¬ (IsStillAfter (world_of v) (method v) marked passes)
  not-still less still = grind (arith, met-here, met-there, sum_by)

  pub one-more-pass : HasLessLeft v regs after → IsUnderWay v marked (passes + 1) after stack_after before there
  one-more-pass less = grind (arith, again, ⊎_elim, not-still, cases_lt, next-times)

  -- the last one
  pub passes-counted : IsSettled v marked regs after → AreCountedBeside (world_of v) (method v) marked after 0 before there
  passes-counted s = grind (arith, met-here, met-there, next-times)

pub way-begun : (v : Verifier) (marked : ℕ → Type 0) (regs stack : List Ty) (steps : ℕ) → CanBeginPass v marked 0 regs stack
    → IsUnderWay v marked 0 regs stack steps steps
way-begun v marked regs stack steps begun = grind (arith)

-- what is wrong in a pass
pub refused-on-way :
    (v : Verifier) (marked : ℕ → Type 0) (passes : ℕ) (regs stack : List Ty) (fault : CardFault) (kept : Frame) (before here there : ℕ)
    → IsUnderWay v marked passes regs stack before here
    → IsRefusedInPass v marked (passes * instruction_count (method v)) fault kept here there
    → AreCountedUpTo (world_of v) (method v) marked fault kept 0 before there
refused-on-way v marked passes regs stack fault kept before here there way r = grind (arith)

-- ---- the bound

pub passes-within : (w : Linked) (m : Method) (regs : List Ty) (u : ℕ) → length regs ≡ m.rec.nargs + m.rec.max_locals
    → (1 + sum_by (rises_left w.classes) regs) * u ≤ most_passes w m * u
passes-within w m regs u count = grind (arith, most-rises, rises-bound, length, grow, sum_by)
