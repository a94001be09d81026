use Rattle.card_verify.proofs.index_verify.verify_indexed.Goals as goal

pub verify-requires : goal.verify-requires
verify-requires g c = record {
  slices = record {
    registers = rw c.of-subject.ensures.rec at c.requires.registers;
    cells = rw c.of-subject.ensures.rec at c.requires.cells;
  };
}

pub returns-clause-known : goal.returns-clause-known
returns-clause-known g c = rw (c.of-subject.ensures.is, ← c.of-subject.ensures.world) c.of-subject.result.there

pub returns-clause-typing : goal.returns-clause-typing
returns-clause-typing g c = rw (c.of-subject.ensures.is, ← c.of-subject.ensures.world) c.verify.ensures.typing

pub returns-clause-least : goal.returns-clause-least
returns-clause-least g c = rw (c.of-subject.ensures.is, ← c.of-subject.ensures.world) c.verify.ensures.least

pub returns-clause-none : goal.returns-clause-none
returns-clause-none g c = rw (c.of-subject.ensures.is, ← c.of-subject.ensures.world) c.verify.ensures.none

pub returns-clause-refused : goal.returns-clause-refused
returns-clause-refused g c = rw (c.of-subject.ensures.is, ← c.of-subject.ensures.world) c.verify.ensures.refused

pub returns-clause-counted : goal.returns-clause-counted
returns-clause-counted g c = rw (c.of-subject.ensures.is, ← c.of-subject.ensures.world) c.verify.ensures.counted

pub returns-clause-counted_to : goal.returns-clause-counted_to
returns-clause-counted_to g c = rw (c.of-subject.ensures.is, ← c.of-subject.ensures.world) c.verify.ensures.counted_to

pub returns-clause-cost : goal.returns-clause-cost
returns-clause-cost g c = rw (c.of-subject.ensures.is, ← c.of-subject.ensures.world) c.verify.ensures.cost
