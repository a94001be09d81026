use Rattle.std.proofs.Common.{◌≡◌, ◌++◌, map, drop, string_bytes}
use Rattle.std.specs.Vec.Iter.{into_iter_items}
use Rattle.capcheck.proofs.after_name.Given as goal

abbrev pub invariant-words : goal.invariant-words
invariant-words l = l.words ++ map string_bytes (into_iter_items l.word-iterator) ≡ map string_bytes (drop 1 (into_iter_items l.fn.arguments))
