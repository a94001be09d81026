use Rattle.std.proofs.Common.{◌≡◌, ◌++◌, map}
use Rattle.cap_files.specs.WordsLeft.{words_left}
use Rattle.cap_text.specs.Word.{AreArgWords, argument_read}
use Rattle.cap_text.proofs.word.arguments.Given as goal

abbrev pub invariant-loop-word : goal.invariant-loop-word
invariant-loop-word l = record {
  so_far : AreArgWords (map (λ w. w.now) l.yielded) (map argument_read l.args.items);
  whole : map (λ w. w.now) l.yielded ++ words_left l.word-iterator ≡ words_left l.fn.words;
}
