use Rattle.std.proofs.Common.{ℕ, ◌<◌, length, get_or, sym, ap, ◌∙◌, subst}
use Rattle.vm_store.specs.State.{Frame}
use Rattle.vm_offend.proofs.words.WordStoreStore.register.Goals as goal

pub register-requires-clause-there : goal.register-requires-clause-there
register-requires-clause-there c =
    let Holds : Frame ℕ → Type 0 = λ f. c.args.x < length f.registers in
    subst Holds (sym c.top.ensures.frame) c.requires.there

pub returns : goal.returns
returns c = c.register.ensures ∙ ap (λ (f : Frame ℕ). get_or f.registers c.args.x 0) c.top.ensures.frame
