use Rattle.std.specs.Prelude.{◌≡◌, ◌++◌, length}
use Rattle.jc_base.specs.Index.{words_of_bytes}
use Rattle.jc_link.proofs.image.wide_words.Given as goal

abbrev pub invariant-pairs : goal.invariant-pairs
invariant-pairs l = l.words.items ++ words_of_bytes l.rest ≡ words_of_bytes l.bytes

abbrev pub decreases-pairs : goal.decreases-pairs
decreases-pairs l = length l.rest
