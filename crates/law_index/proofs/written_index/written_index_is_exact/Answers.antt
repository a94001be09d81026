use Rattle.law_index.proofs.ExactIndexes.{exact-indexes}
use Rattle.law_index.proofs.written_index.written_index_is_exact.Goals as goal

pub returns : goal.returns
returns c = λ parts new_parts ps p q laid roles w new before own s t r written l n parted codes room.
    exact-indexes c.instructions_are_listed.ensures parts new_parts ps p q laid roles s t r w new before own l n parted codes written room
