use Rattle.std.proofs.Common.{ℕ, ap}
use Rattle.vm_store.specs.State.{Frame}
use Rattle.vm_offend.proofs.words.WordStoreStore.method.Goals as goal

pub returns : goal.returns
returns c = ap (λ (f : Frame ℕ). f.method) c.top.ensures.frame
