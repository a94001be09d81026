-- the words before the one that is looked at do not end the folders
use Rattle.std.proofs.Common.{sym}
use Rattle.cap_files.specs.WordsLeft.{words_left}
use Rattle.cap_text.proofs.Ends.{hit, left_one, place_one, few_one}
use Rattle.cap_text.proofs.run.split.Goals as goal

pub returns-then-eq-clause-after : goal.returns-then-eq-clause-after
returns-then-eq-clause-after c =
    hit (words_left c.args.operands) (words_left c.words.rest) (words_left c.next.new.self) c.in-Some.word.now c.words.count
    c.words.invariant.left c.words.invariant.place c.in-Some.ensures.steps (sym c.if-eq.ensures)

pub words-preserved : goal.words-preserved
words-preserved c =
    let all = words_left c.args.operands in
    let rest = words_left c.words.rest in
    let tail = words_left c.next.new.self in
    record {
      left = left_one all rest tail c.in-Some.word.now c.words.count c.words.invariant.left c.in-Some.ensures.steps;
      place = place_one all rest tail c.in-Some.word.now c.words.count c.words.invariant.place c.in-Some.ensures.steps (sym c.if-eq.ensures);
      few = few_one all rest tail c.in-Some.word.now c.words.count c.words.invariant.few c.in-Some.ensures.steps;
    }
