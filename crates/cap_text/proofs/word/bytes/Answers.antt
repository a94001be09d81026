-- the bytes that were read from digits are written by them where they print as the digits; digits that are no text of bytes, or
-- are too many, write none
use Rattle.std.proofs.Common.{inl, inr, rules, tests}
use Rattle.cap_text.proofs.Numerals.{printed_apart, too_many, unread, written}
use Rattle.cap_text.proofs.word.bytes.Goals as goal

pub returns-then-digits-clause-none : goal.returns-then-digits-clause-none
returns-then-digits-clause-none c = λ bs w. too_many c.args.digits.now bs (search (rules, tests)) w

pub returns-then-eq-clause-found : goal.returns-then-eq-clause-found
returns-then-eq-clause-found c =
    written c.args.digits.now c.in-Ok.bytes.items (search rules) (search rules) (search (rules, tests))

pub returns-else-eq-clause-none : goal.returns-else-eq-clause-none
returns-else-eq-clause-none c = λ bs w. printed_apart c.args.digits.now bs c.in-Ok.bytes.items (search rules) (search rules) w

pub returns-in_default : goal.returns-in_default
returns-in_default c =
    record {
      found = tt {0};
      none = λ bs w. elim c.in-Err.ensures.err [
        | inl memory ↦ absurd (c.in_default.not-OutOfMemory memory)
        | inr is ↦ unread c.args.digits.now bs c.in-Err.end is w
      ];
    }
