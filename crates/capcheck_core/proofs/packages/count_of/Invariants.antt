use Rattle.std.proofs.Common.{◌≡◌, ◌≤◌, ◌+◌, length}
use Rattle.std.specs.Prelude.{min}
use Rattle.cap_files.specs.WordsLeft.{words_left}
use Rattle.capcheck_core.proofs.packages.count_of.Given as goal

abbrev pub invariant-dirs : goal.invariant-dirs
invariant-dirs l = record {
  counts : min (l.count + length (words_left l._dir-iterator)) 4294967295 ≡ min (length (words_left l.fn.dirs)) 4294967295;
  fits : l.count ≤ 4294967295;
}
