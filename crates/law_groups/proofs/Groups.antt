-- Whole groups, by the kind of the operation.
use Rattle.std.proofs.Common.{◌≡◌, ℕ, false}
use Rattle.jc_base.specs.World.{Linked}
use Rattle.jc_decode.specs.declared.insn.Placed.{Placed}
use Rattle.jc_ops.specs.declared.operation.Operation.{Operation}
use Rattle.jc_ops.specs.Next.{jumps_from}
use Rattle.jc_rules.specs.Footprint.{registers_asked}
use Rattle.jc_rules.specs.Rule.{demands}
use Rattle.vm_store.specs.declared.cell.Cell.{Cell}
use Rattle.vm_store.specs.Cells.{tagged}
use Rattle.vm_store.specs.State.{State, top}
use Rattle.vm_step.specs.Raising.{Outcome}
use Rattle.vm_step.specs.Step.{Steps}
use Rattle.law_alike.specs.Running.{Executes}
use Rattle.xf_homes.specs.Source.{Source}
use Rattle.law_groups.specs.Laid.{IsLaidIn}
use Rattle.law_groups.specs.Beside.{AreEqualBut, IsAtGroup, IsTypedAt, StaysTyped}
use Rattle.law_groups.specs.Comes.{GroupRuns}
use Rattle.law_groups.specs.Body.{AreAtBody, BodyRuns, KeptRuns}
use Rattle.law_groups.specs.Moves.{MovesRun}
use Rattle.law_groups.proofs.OneGroup.{no-fault, straight-group, turn-by}
use Rattle.law_groups.proofs.KeptOperations.{kept-body, kept-operands, names-none}

module _
    {v w : Linked} {s : Source} {place : ℕ → ℕ} (laid : IsLaidIn v w s place) (moving : MovesRun v)
    (z t : State Cell) (o : Outcome Cell) (i : Placed) (op : Operation)
    (typed : IsTypedAt v s z) (group : IsAtGroup s place (top z) (top t)) (equal : AreEqualBut z t)
    (step : Steps tagged v z o) (stays : StaysTyped v s o) (ex : Executes v z i op) (still : jumps_from op ≡ false) where
  -- of an operation that leads to no target, once its steps are known
  pub still-group :
      ((u : State Cell) → AreAtBody v w s place i op z u → BodyRuns v w s place i op z u o)
      → GroupRuns v w s place z t o
  unfolding turn-by
  still-group body =
      straight-group laid moving z t o typed group equal stays
      (turn-by laid z typed i op ex) (kept-operands s.world op still) body

  -- of one that is kept
  pub kept-group : KeptRuns v → registers_asked (demands v op) ≡ 0 → GroupRuns v w s place z t o
  kept-group kept none =
      still-group
      (λ u before. kept w s place i op z u o laid before (kept-body s i op (names-none v op none) still) still none step
      (no-fault v s o stays))
