use Rattle.std.proofs.Common.{ℕ, length, ap, ◌∙◌}
use Rattle.vm_store.specs.State.{Frame}
use Rattle.vm_offend.proofs.words.WordStoreStore.depth.Goals as goal

pub returns : goal.returns
returns c = c.depth.ensures ∙ ap (λ (f : Frame ℕ). length f.stack) c.top.ensures.frame
