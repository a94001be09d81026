use Rattle.std.proofs.Common.{sym}
use Rattle.std.proofs.lemmas.Bool.{lt-leb}
use Rattle.jc_link.proofs.ArrayLists.{words_length}
use Rattle.jc_link.proofs.image.cells_of_array.Goals as goal

pub returns-else-array-le-BYTE : goal.returns-else-array-le-BYTE
returns-else-array-le-BYTE c = rw (lt-leb c.args.array.now.kind 3 c.if-array-le-BYTE.false) (sym (words_length c.args.array.now.values.now))
