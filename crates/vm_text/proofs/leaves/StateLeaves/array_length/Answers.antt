use Rattle.std.proofs.Common.{◌∙◌}
use Rattle.vm_store.specs.Cells.{tagged}
use Rattle.vm_text.proofs.Arrays.{count_told}
use Rattle.vm_text.proofs.leaves.StateLeaves.array_length.Goals as goal

pub returns : goal.returns
returns c = c.array_length.ensures ∙ count_told tagged c.args.self.now.state c.args.handle
