-- a word with a number sign writes bytes or nothing, and takes memory
use Rattle.std.proofs.Common.{◌≡◌, ℕ, List, ◌∷◌, rules}
use Rattle.std.proofs.lemmas.Result.{err_from_is_err_and}
use Rattle.cap_text.proofs.Numerals.{no_signed}
use Rattle.cap_text.proofs.word.argument.Goals as goal

pub returns-in-None-clause-none : goal.returns-in-None-clause-none
returns-in-None-clause-none c = λ a w. no_signed c.args.word.now c.in-Some.digits.now (search rules) (search rules) a w

pub returns-in_err-bytes-clause-memory : goal.returns-in_err-bytes-clause-memory
returns-in_err-bytes-clause-memory c =
    let p = err_from_is_err_and c.from_residual.result c.from_residual.ensures.1 in
    let signed : (digits : List ℕ) × (c.args.word.now ≡ 35 ∷ digits) = (c.in-Some.digits.now, search rules) in
    rw p.1 signed
