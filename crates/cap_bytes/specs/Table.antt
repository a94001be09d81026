-- A table of numbers of two bytes as the list of the numbers.
use Rattle.std.specs.Prelude.{ℕ, List, []}
use Rattle.cap_bytes.specs.declared.table.Table.{Table}
use Rattle.cap_bytes.specs.Grammar.{repeat, u2}
use Rattle.cap_bytes.specs.Taking.{given}

abbrev pub numbers : Table → List ℕ
numbers t = given [] (repeat t.left u2) t.items
