use Rattle.card_verify.proofs.verify.verify_method.Goals as goal

pub verify-requires : goal.verify-requires
verify-requires c = record {
  slices = record {
    registers = rw c.of-subject.ensures.rec at c.requires.registers;
    cells = rw c.of-subject.ensures.rec at c.requires.cells;
  };
}

pub returns-clause-known : goal.returns-clause-known
returns-clause-known c = rw (c.of-subject.ensures.is, ← c.of-subject.ensures.world) c.of-subject.result.there

pub returns-clause-typing : goal.returns-clause-typing
returns-clause-typing c = rw (c.of-subject.ensures.is, ← c.of-subject.ensures.world) c.verify.ensures.typing

pub returns-clause-flow : goal.returns-clause-flow
returns-clause-flow c = rw (c.of-subject.ensures.is, ← c.of-subject.ensures.world) c.verify.ensures.flow

pub returns-clause-none : goal.returns-clause-none
returns-clause-none c = rw (c.of-subject.ensures.is, ← c.of-subject.ensures.world) c.verify.ensures.none

pub returns-clause-refused : goal.returns-clause-refused
returns-clause-refused c = rw (c.of-subject.ensures.is, ← c.of-subject.ensures.world) c.verify.ensures.refused

pub returns-clause-flawed : goal.returns-clause-flawed
returns-clause-flawed c = rw c.of-subject.ensures.is c.verify.ensures.flawed
