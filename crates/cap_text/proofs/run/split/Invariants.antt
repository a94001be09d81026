use Rattle.std.proofs.Common.{◌≡◌, ◌+◌, drop, length}
use Rattle.std.specs.List.{position_or_len}
use Rattle.cap_files.specs.WordsLeft.{words_left}
use Rattle.cap_text.proofs.Ends.{is_end}
use Rattle.cap_text.proofs.run.split.Given as goal

abbrev pub invariant-words : goal.invariant-words
invariant-words l = record {
  left : words_left l.rest ≡ drop l.count (words_left l.fn.operands);
  place : l.count + position_or_len is_end (words_left l.rest) ≡ position_or_len is_end (words_left l.fn.operands);
  few : l.count + length (words_left l.rest) ≡ length (words_left l.fn.operands);
}
