use Rattle.std.proofs.Common.{◌∙◌}
use Rattle.vm_store.specs.Cells.{tagged}
use Rattle.vm_text.proofs.Arrays.{value_told}
use Rattle.vm_text.proofs.leaves.StateLeaves.array_value.Goals as goal

pub returns : goal.returns
returns c = c.array_value.ensures ∙ value_told tagged c.args.self.now.state c.args.handle c.args.element
