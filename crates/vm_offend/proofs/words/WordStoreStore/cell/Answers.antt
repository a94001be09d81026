use Rattle.std.proofs.Common.{ℕ, ◌<◌, length, get_or, sym, ap, ◌∙◌, subst}
use Rattle.vm_store.specs.State.{Frame}
use Rattle.vm_offend.proofs.words.WordStoreStore.cell.Goals as goal

pub cell-requires-clause-there : goal.cell-requires-clause-there
cell-requires-clause-there c =
    let Holds : Frame ℕ → Type 0 = λ f. c.args.n < length f.stack in
    subst Holds (sym c.top.ensures.frame) c.requires.there

pub returns : goal.returns
returns c = c.cell.ensures ∙ ap (λ (f : Frame ℕ). get_or f.stack c.args.n 0) c.top.ensures.frame
