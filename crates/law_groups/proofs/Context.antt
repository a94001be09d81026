-- A method that is laid in a world: its code there, step by step.
use Rattle.std.proofs.Common.{◌≡◌, ℕ, ◌+◌, true, if◌then◌else◌, [], arith}
use Rattle.std.proofs.Common.{length, sym, ap, ◌∙◌, subst}
use Rattle.std.specs.Prelude.{Option, Some, None, Ok, IsSomeAnd, is_some, slice_get}
use Rattle.jc_base.specs.declared.ty.Ty.TheVariants.{Top}
use Rattle.jc_base.specs.declared.record.MethodRec.{MethodRec}
use Rattle.jc_base.specs.World.{Linked, code_of}
use Rattle.jc_decode.specs.declared.insn.Placed.{Placed}
use Rattle.jc_decode.specs.Listing.{listing}
use Rattle.jc_decode.specs.Standing.{AreSteps}
use Rattle.jc_control.specs.Control.{IsReached}
use Rattle.jc_control.specs.Method.{IsMethodOf}
use Rattle.jc_control.specs.WellFormed.{IsPlace, HasInstruction}
use Rattle.jc_ops.specs.declared.operation.Operation.{Operation}
use Rattle.jc_rules.specs.Demand.{Frame}
use Rattle.jc_rules.specs.Flow.{FlowTyping, IsFollowed}
use Rattle.vm_step.specs.Methods.{code_at, max_stack_of, of_method}
use Rattle.xf_homes.specs.Source.{Source}
use Rattle.xf_homes.specs.Plan.{operation}
use Rattle.xf_emission.specs.Emission.{rewritten}
use Rattle.law_groups.specs.Laid.{IsLaidIn, body_at, rename, steps_of}
use Rattle.law_groups.specs.Laws.{HasRoomForMore}

module _ {v w : Linked} {s : Source} {place : ℕ → ℕ} (laid : IsLaidIn v w s place) where
  -- ---- the method in both worlds

  pub method-of : IsMethodOf v s.method
  method-of = subst (λ u. IsMethodOf u s.method) laid.world laid.planned.method

  pub typing-of : FlowTyping v s.method Top s.frames
  typing-of = subst (λ u. FlowTyping u s.method Top s.frames) laid.world laid.planned.typing

  pub target-at : slice_get w.methods s.method.number ≡ Some laid.code.target.rec
  target-at = ap (slice_get w.methods) (sym laid.code.number) ∙ laid.code.is_target.rec

  pub code-is : code_at w s.method.number ≡ laid.code.laid.code
  code-is = ap (of_method [] (code_of w.infos)) target-at ∙ (sym laid.code.is_target.code ∙ laid.code.has.code)

  pub steps-are : AreSteps (code_at w s.method.number) place 0 (steps_of s) (listing (code_at w s.method.number))
  unfolding rewritten
  steps-are = subst (λ c. AreSteps c place 0 (steps_of s) (listing c)) (sym code-is) laid.code.stands.instructions

  pub source-room : max_stack_of v s.method.number ≡ s.method.rec.max_stack
  source-room = ap (of_method 0 (λ (m : MethodRec). m.max_stack)) method-of.rec

  pub target-room : max_stack_of w s.method.number ≡ s.method.rec.max_stack + 1
  unfolding rewritten
  target-room = ap (of_method 0 (λ (m : MethodRec). m.max_stack)) target-at ∙ (laid.code.has.max_stack ∙ laid.code.stands.max_stack)

  pub source-code : code_at v s.method.number ≡ s.method.code
  source-code = ap (of_method [] (code_of v.infos)) method-of.rec ∙ sym method-of.code

  pub rename-is : (p : ℕ) → is_some (s.frames p) ≡ true → rename s place p ≡ place (body_at s p)
  rename-is p e = ap (λ b. if b then place (body_at s p) else place (length (steps_of s)) + p) e

  -- ---- instructions of the source

  -- a reached place is an instruction's, which has an operation
  pub record Here (p : ℕ) : Type 0 where
    pub instruction : Placed
    pub stands : HasInstruction s.method.code instruction
    pub at : instruction.place ≡ p
    pub op : Operation
    pub does : operation s instruction ≡ Ok op

  pub reached-some : (p : ℕ) → IsReached s.method p → is_some (s.frames p) ≡ true
  reached-some p r = (laid.planned.frames.reached p).1 r

  pub some-reached : (p : ℕ) → is_some (s.frames p) ≡ true → IsReached s.method p
  some-reached p e = (laid.planned.frames.reached p).0 e

  pub here-at : (p : ℕ) → is_some (s.frames p) ≡ true → Here p
  here-at p e = by (laid.planned.frames.placed p (some-reached p e))
    where
      by : IsPlace s.method.code p → Here p
      by (i, stands, at) = from (s.frames i.place) (typing-of.rules i stands (subst (IsReached s.method) (sym at) (some-reached p e)))
        where
          from : (o : Option Frame) → IsSomeAnd o (IsFollowed v s.method s.frames i) → Here p
          from None h = absurd h
          from (Some f) h = record {
            instruction = i;
            stands = stands;
            at = at;
            op = h.steps.1.operation;
            does = grind (arith);
          }

pub has-room-for-more : (v : Linked) → HasRoomForMore v
has-room-for-more v w s place laid = grind (arith, target-room laid, source-room laid)
