-- The type stands first, and the nibbles end after it or go on.
use Rattle.std.proofs.Common.{arith, sym, ◌∙◌}
use Rattle.cap_desc.specs.Nibbles.{nibbles_in}
use Rattle.cap_desc.proofs.NibbleLemmas.{length-some}
use Rattle.cap_desc.proofs.OneType.{one_type-none, one_type-alone, one_type-more}
use Rattle.cap_desc.proofs.nibbles.Nibbles.one_type.Goals as goal

pub returns-in_err-item : goal.returns-in_err-item
returns-in_err-item c = c.from_residual.ensures ∙ sym (one_type-none (nibbles_in c.args.self.now) c.in_err-item.ensures.value)

pub returns-then-end-self : goal.returns-then-end-self
returns-then-end-self c =
    let e = length-some c.args.self.now.bytes.bytes.now c.args.self.now.count c.args.self.now.enough in
    sym (one_type-more (nibbles_in c.args.self.now) c.in_ok-item.item c.in_ok-item.end c.in_ok-item.ensures.value (omega arith))

pub returns : goal.returns
returns c =
    let e = length-some c.args.self.now.bytes.bytes.now c.args.self.now.count c.args.self.now.enough in
    sym (one_type-alone (nibbles_in c.args.self.now) c.in_ok-item.item c.in_ok-item.end c.in_ok-item.ensures.value (omega arith))
