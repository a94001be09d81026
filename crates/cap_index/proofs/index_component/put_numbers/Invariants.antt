use Rattle.std.proofs.Common.{◌≡◌, ◌++◌, drop}
use Rattle.std.specs.List.{flat_map}
use Rattle.byteorder.specs.Endian.{big_bytes}
use Rattle.cap_index.proofs.index_component.put_numbers.Given as goal

abbrev pub invariant-numbers : goal.invariant-numbers
invariant-numbers l = l.out.items ++ flat_map (big_bytes 2) (drop l.number-index l.numbers) ≡ l.initial.out.items ++ flat_map (big_bytes 2) l.numbers
