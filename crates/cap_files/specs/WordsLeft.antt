-- The words that an iterator has left to visit.
use Rattle.std.specs.Prelude.{ℕ, List, drop, take}
use Rattle.cap_files.specs.declared.words.WordsIter.{WordsIter}

abbrev pub words_left : WordsIter → List (List ℕ)
words_left iter = drop iter.next (take iter.end iter.words.now)
