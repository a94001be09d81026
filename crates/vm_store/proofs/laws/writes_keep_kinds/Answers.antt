use Rattle.vm_store.proofs.TypedHeaps.{kinds-kept}
use Rattle.vm_store.proofs.laws.writes_keep_kinds.Goals as goal

pub returns : goal.returns
returns c = (λ s h i x. kinds-kept s h i x, λ s h i x. kinds-kept s h i x)
