-- The nibble stands in the byte n / 2.
use Rattle.std.proofs.Common.{sym, ◌∙◌, arith}
use Rattle.cap_desc.specs.TypeFormat.{nibbles}
use Rattle.cap_desc.proofs.NibbleLemmas.{number-item, item-taken, high-nibble, low-nibble}
use Rattle.cap_desc.proofs.nibbles.Nibbles.get.Goals as goal

pub returns-then-n-eq0-clause-value : goal.returns-then-n-eq0-clause-value
returns-then-n-eq0-clause-value c =
    let bytes = c.args.self.now.bytes.bytes.now in
    let byte = sym (number-item bytes _) ∙ sym c.u1.ensures ∙ c.in_ok-byte.was in
    sym (number-item _ c.args.n ∙ item-taken (nibbles bytes) _ c.args.n (omega arith) ∙ high-nibble bytes c.args.n _ c.if-n-eq0.true byte)

pub returns-else-n-eq0-clause-value : goal.returns-else-n-eq0-clause-value
returns-else-n-eq0-clause-value c =
    let bytes = c.args.self.now.bytes.bytes.now in
    let byte = sym (number-item bytes _) ∙ sym c.u1.ensures ∙ c.in_ok-byte.was in
    sym (number-item _ c.args.n ∙ item-taken (nibbles bytes) _ c.args.n (omega arith) ∙ low-nibble bytes c.args.n _ c.if-n-eq0.false byte)
