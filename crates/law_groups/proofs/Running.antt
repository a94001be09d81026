-- Every group, by the operation of its instruction.
use Rattle.std.proofs.Common.{refl}
use Rattle.jc_base.specs.World.{Linked}
use Rattle.jc_decode.specs.declared.insn.Placed.{Placed}
use Rattle.jc_ops.specs.declared.operation.Branch.TheVariants as branches
use Rattle.jc_ops.specs.declared.operation.Holder.TheVariants as holders
use Rattle.jc_ops.specs.declared.operation.Operation.{Operation}
use Rattle.jc_ops.specs.declared.operation.Operation.TheVariants as ops
use Rattle.law_alike.specs.Running.{Executes}
use Rattle.law_rewritten_typing.proofs.Turns.{none-asked}
use Rattle.law_groups.specs.Comes.{GroupRuns}
use Rattle.law_groups.specs.Fields.{ThisReadsRun, ThisWritesRun}
use Rattle.law_groups.specs.Increasing.{IncrementBodiesRun}
use Rattle.law_groups.specs.Laws.{ForkGroupsRun, GotoGroupsRun, GroupsRun, KeptGroupsRun, LoadGroupsRun}
use Rattle.law_groups.specs.Storing.{StoreBodiesRun}
use Rattle.law_groups.specs.Moves.{MovesRun}
use Rattle.law_groups.proofs.OneGroup.{no-fault, turn-of}
use Rattle.law_groups.proofs.Groups.{still-group}

pub groups-run :
    (v : Linked)
    → MovesRun v
    → KeptGroupsRun v
    → LoadGroupsRun v
    → StoreBodiesRun v
    → IncrementBodiesRun v
    → ThisReadsRun v
    → ThisWritesRun v
    → GotoGroupsRun v
    → ForkGroupsRun v
    → GroupsRun v
groups-run v moving kept loads stores increments reads writes gotos forks w s place laid z t o typed group equal step stays =
    let turn = turn-of laid z o typed step stays in
    by turn.instruction turn.op turn.executes
  where
    by : (i : Placed) (op : Operation) → Executes v z i op → GroupRuns v w s place z t o
    by i (ops.Load letter x) ex = loads w s place z t o i letter x laid typed group equal step stays ex
    by i (ops.Store letter x) ex =
        still-group laid moving z t o i (ops.Store letter x) typed group equal step stays ex refl
        (λ u before. stores w s place i letter x z u o laid before step (no-fault v s o stays) stays)
    by i (ops.Increment width x amount) ex =
        still-group laid moving z t o i (ops.Increment width x amount) typed group equal step stays ex refl
        (λ u before. increments w s place i width x amount z u o laid before step (no-fault v s o stays))
    by i (ops.FieldRead f holders.This) ex =
        still-group laid moving z t o i (ops.FieldRead f holders.This) typed group equal step stays ex refl
        (λ u before. reads w s place i f z u o laid before step (no-fault v s o stays) stays)
    by i (ops.FieldWrite f holders.This) ex =
        still-group laid moving z t o i (ops.FieldWrite f holders.This) typed group equal step stays ex refl
        (λ u before. writes w s place i f z u o laid before step (no-fault v s o stays) stays)
    by i (ops.FieldRead f holders.Stack) ex =
        kept w s place z t o i (ops.FieldRead f holders.Stack) laid typed group equal step stays ex refl
        (none-asked v (ops.FieldRead f holders.Stack) tt)
    by i (ops.FieldWrite f holders.Stack) ex =
        kept w s place z t o i (ops.FieldWrite f holders.Stack) laid typed group equal step stays ex refl
        (none-asked v (ops.FieldWrite f holders.Stack) tt)
    by i (ops.Branch branches.Always) ex = gotos w s place z t o i laid typed group equal step stays ex
    by i (ops.Branch (branches.Zero order)) ex =
        forks w s place z t o i (ops.Branch (branches.Zero order)) _ laid typed group equal step stays ex refl
    by i (ops.Branch (branches.Null wanted)) ex =
        forks w s place z t o i (ops.Branch (branches.Null wanted)) _ laid typed group equal step stays ex refl
    by i (ops.Branch (branches.References wanted)) ex =
        forks w s place z t o i (ops.Branch (branches.References wanted)) _ laid typed group equal step stays ex refl
    by i (ops.Branch (branches.Shorts order)) ex =
        forks w s place z t o i (ops.Branch (branches.Shorts order)) _ laid typed group equal step stays ex refl
    by i (ops.Switch width) ex = forks w s place z t o i (ops.Switch width) _ laid typed group equal step stays ex refl
    by i op ex = kept w s place z t o i op laid typed group equal step stays ex refl (none-asked v op tt)
