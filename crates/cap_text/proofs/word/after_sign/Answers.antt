use Rattle.std.proofs.Common.{arith}
use Rattle.std.proofs.lemmas.Str.Pattern.{strip_prefix_char}
use Rattle.cap_text.proofs.Numerals.{sign_found, sign_missing}
use Rattle.cap_text.proofs.word.after_sign.Goals as goal

pub returns-clause-found : goal.returns-clause-found
returns-clause-found c =
    sign_found c.args.word.now c.strip_prefix.result (strip_prefix_char 35 c.args.word.now c.strip_prefix.result c.strip_prefix.ensures.cases (omega arith))

pub returns-clause-none : goal.returns-clause-none
returns-clause-none c =
    sign_missing c.args.word.now c.strip_prefix.result
    (strip_prefix_char 35 c.args.word.now c.strip_prefix.result c.strip_prefix.ensures.cases (omega arith))
