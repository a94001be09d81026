-- The next bit of the offset's own word, or of the first word after it that has one.
use Rattle.std.proofs.Common.{arith}
use Rattle.offset_set.proofs.BitLaws.{first-above, none-above, none-in, first-in, none-left}
use Rattle.offset_set.proofs.offsets.Offsets.next_after.Goals as goal

pub overflow_cast-result-then-above-ne0 : goal.overflow_cast-result-then-above-ne0
overflow_cast-result-then-above-ne0 c =
    let within = (first-above c.args.self.now.words c.args.offset c.bits.result c.bits.ensures.value c.if-above-ne0.true c.bits.type_inv).within in
    omega arith

pub returns-then-above-ne0 : goal.returns-then-above-ne0
returns-then-above-ne0 c = (first-above c.args.self.now.words c.args.offset c.bits.result c.bits.ensures.value c.if-above-ne0.true c.bits.type_inv).next

pub words-init : goal.words-init
words-init c = (none-above c.args.self.now.words c.args.offset c.bits.result c.bits.ensures.value c.if-above-ne0.false, omega arith, omega arith)

pub returns-then-bits-ne0 : goal.returns-then-bits-ne0
returns-then-bits-ne0 c =
    (first-in c.args.self.now.words c.args.offset c.words.word c.bits-bits.result c.bits-bits.ensures.value c.words.invariant.1 c.words.invariant.0
    c.if-bits-ne0.true c.bits-bits.type_inv).next

pub words-preserved : goal.words-preserved
words-preserved c =
    let farther = c.words.invariant.1 in (
      none-in c.args.self.now.words c.args.offset c.words.word c.bits-bits.result c.bits-bits.ensures.value c.words.invariant.0 c.if-bits-ne0.false,
      omega arith,
      omega arith,
    )

pub returns : goal.returns
returns c = none-left c.args.self.now.words c.args.offset c.words.word (omega arith) c.words.invariant.0 c.words-test.false
