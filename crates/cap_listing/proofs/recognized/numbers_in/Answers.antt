use Rattle.std.proofs.Common.{◌≡◌, sym, subst, w32}
use Rattle.std.specs.Prelude.{FitsSigned}
use Rattle.std.proofs.lemmas.Int.{to_z-of_z}
use Rattle.cap_listing.proofs.Candidates.{none-read, number-read, all-read, some-bytes, no-bytes}
use Rattle.cap_listing.proofs.recognized.numbers_in.Goals as goal

pub words-init : goal.words-init
words-init c ns h e = none-read c.args.words.now c.new-numbers.result.items ns c.new-numbers.ensures.items h e

pub words-preserved : goal.words-preserved
words-preserved c ns h e =
    number-read c.words.numbers.items c.words.rest.now _ _ c.push.new.self.items ns
    (some-bytes c.words.rest.now c.is_empty.result c.is_empty.ensures c.words-test.true) c.cut_word.ensures.first
    (λ z f e.
    let items = c.in_ok-push.ensures.items in
    let same : c.number.result ≡ z = c.number.ensures z f e in
    let back = to_z-of_z w32 c.number.result (subst (FitsSigned w32) (sym same) f) in
    cc)
    (c.words.invariant ns h e)

pub returns : goal.returns
returns c ns h e =
    all-read c.words.numbers.items c.words.rest.now ns
    (no-bytes c.words.rest.now c.is_empty.result c.is_empty.ensures c.words-test.false) (c.words.invariant ns h e)
