use Rattle.std.proofs.Common.{◌≡◌}
use Rattle.cap_files.specs.WordsLeft.{words_left}
use Rattle.capcheck.specs.Start.{longest_from}
use Rattle.capcheck.proofs.longest.Given as goal

abbrev pub invariant-words : goal.invariant-words
invariant-words l = longest_from l.longest (words_left l.word-iterator) ≡ longest_from 0 l.words
