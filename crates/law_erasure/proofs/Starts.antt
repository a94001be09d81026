-- Both machines begin alike.
use Rattle.std.proofs.Common.{ap, ◌∙◌}
use Rattle.jc_base.specs.World.{Linked}
use Rattle.vm_store.specs.State.{erased}
use Rattle.vm_step.proofs.Erased.{entry-erased}
use Rattle.law_erasure.specs.Erasure.{StartsErase}

pub starts-erase : (w : Linked) → StartsErase w
starts-erase w entry args s starts = record { begins = starts.begins; state = ap erased starts.state ∙ entry-erased w entry args }
