use Rattle.card_typing.specs.Typing.{IsLeastCardTyping}
use Rattle.jc_control.specs.Subject.{method}
use Rattle.xf_allot.proofs.Subjects.{asks-few}
use Rattle.xf_allot.proofs.sharing.share_registers.Goals as goal

pub share-requires-clause-subject : goal.share-requires-clause-subject
share-requires-clause-subject c =
    let s = c.of-subject.result in
    let typed : IsLeastCardTyping s.world.now (method s) c.args.types.now = rw (c.of-subject.ensures.is, ← c.of-subject.ensures.world) at c.requires.typed in
    record {
      formed = typed.typing.formed;
      few = asks-few s.world.now c.classes-classes.ensures.links (method s) s.there c.args.types.now typed.stacks typed.typing;
    }
