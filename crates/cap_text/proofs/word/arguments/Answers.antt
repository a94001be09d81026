-- the words visited so far write the arguments so far
use Rattle.std.proofs.Common.{◌≡◌, [], ◌∷◌, ◌++◌, map, subst, sym, ◌∙◌, ap, append_assoc, rules}
use Rattle.std.proofs.lemmas.List.{map-append}
use Rattle.cap_files.specs.WordsLeft.{words_left}
use Rattle.cap_text.specs.Word.{IsArgWord, AreArgWords, argument_read}
use Rattle.vm_step.specs.Arguments.{Argument}
use Rattle.cap_text.proofs.Arguments.{words_and_one, spoiled}
use Rattle.cap_text.proofs.word.arguments.Goals as goal

pub returns-in_default-clause-none : goal.returns-in_default-clause-none
returns-in_default-clause-none c = λ xs all.
    let left = c.in-Some.ensures.steps in
    let whole = c.loop-word.invariant.whole in
    let seen = map (λ w. w.now) c.loop-word.yielded in
    let none : (a : Argument) → IsArgWord c.in-Some.word.now a → ⊥ = search rules in
    spoiled seen c.in-Some.word.now (words_left c.next.new.self) none xs
    (subst (λ ws. AreArgWords ws xs) (sym whole ∙ ap (λ ws. seen ++ ws) left) all)

pub loop-word-preserved : goal.loop-word-preserved
loop-word-preserved c =
    let found : IsArgWord c.in-Some.word.now (argument_read c.in-Some-2.arg) = search rules in
    let items : c.push.new.self.items ≡ c.loop-word.args.items ++ c.in-Some-2.arg ∷ [] = search rules in
    let left = c.in-Some.ensures.steps in
    let whole = c.loop-word.invariant.whole in
    let seen = map (λ w. w.now) c.loop-word.yielded in
    record {
      so_far =
          rw (items, map-append, map-append)
          (words_and_one seen (map argument_read c.loop-word.args.items) c.in-Some.word.now (argument_read c.in-Some-2.arg) c.loop-word.invariant.so_far
          found);
      whole = rw (map-append, append_assoc) (ap (λ ws. seen ++ ws) (sym left) ∙ whole);
    }
