-- What is laid for a method is not empty.
use Rattle.std.proofs.Common.{◌≡◌, ℕ, true, ◌<◌, length, sym, subst, arith}
use Rattle.std.specs.Prelude.{is_some}
use Rattle.jc_base.proofs.Lists.{IsSomeAnd-some}
use Rattle.jc_decode.specs.declared.insn.Placed.{Placed}
use Rattle.jc_decode.specs.declared.symbols.Laid.{Laid}
use Rattle.jc_decode.specs.Listing.{listing}
use Rattle.jc_decode.specs.Standing.{StandsAt}
use Rattle.jc_decode.proofs.InstructionLists.{all-are-listed}
use Rattle.jc_control.specs.Control.{IsReached, begins}
use Rattle.jc_control.proofs.Closing.{instructions-are-placed}
use Rattle.jc_rules.specs.Demand.{Frame as Types}
use Rattle.jc_rules.specs.Flow.{IsFollowed}
use Rattle.xf_homes.specs.Source.{Source}
use Rattle.xf_emission.specs.Emission.{rewritten}
use Rattle.xf_emission.specs.Group.{body}
use Rattle.law_rewritten_typing.specs.Planned.{IsPlanned}
use Rattle.law_groups.specs.Laid.{body_at, steps_of}
use Rattle.law_groups.specs.Steps.{GroupsStandAtSteps}
use Rattle.law_groups.proofs.Following.{some-body}
use Rattle.law_groups.proofs.Standing.{group-steps, stand-inside}
use Rattle.xf_layout.proofs.Stood.{first-listed}

-- the rewritten code has a step
some-step : (s : Source) → IsPlanned s → GroupsStandAtSteps → 0 < length (steps_of s)
some-step s planned stand =
    let first = (instructions-are-placed all-are-listed s.method planned.frames.formed).first planned.method.filled in
    let i : Placed = first.0 in
    let reached : IsReached s.method i.place = subst (IsReached s.method) (sym first.2) begins in
    let also : is_some (s.frames i.place) ≡ true = (planned.frames.reached i.place).1 reached in
    let found = IsSomeAnd-some (λ (g : Types). IsFollowed s.world s.method s.frames i g) (s.frames i.place) (planned.typing.rules i first.1 reached) in
    let applies = found.2.steps.1 in
    let g = group-steps stand s i applies.operation planned.code first.1 also (sym applies.resolves) in
    let most = stand-inside s (body_at s i.place) (body s i applies.operation) g.body_steps in
    let some = some-body s i applies.operation in
    omega (arith, most, some)

pub laid-filled : (s : Source) (places : ℕ → ℕ) (l : Laid) → IsPlanned s → GroupsStandAtSteps → StandsAt places s.method.code (rewritten s) l
    → 0 < length l.code
unfolding rewritten
laid-filled s places l planned stand stands =
    first-listed l.code places (steps_of s) (listing l.code) stands.instructions (some-step s planned stand) (all-are-listed l.code).inside
