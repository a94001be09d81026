use Rattle.std.proofs.Common.{◌≡◌, ◌+◌, drop}
use Rattle.cap_laying.specs.Blocks.{total_handlers}
use Rattle.cap_laying.proofs.method_component.handler_total.Given as goal

abbrev pub invariant-members : goal.invariant-members
invariant-members l = l.total + total_handlers (drop l.block-index l.blocks) ≡ total_handlers l.blocks
