-- The types are counted to the end of the nibbles.
use Rattle.std.proofs.Common.{arith, sym}
use Rattle.cap_desc.specs.TypeFormat.{type_item, types_in, gives_types, given_types}
use Rattle.cap_desc.specs.Nibbles.{nibbles_in}
use Rattle.cap_desc.proofs.NibbleLemmas.{length-some}
use Rattle.cap_desc.proofs.Counting.{counted-more, counted-all, counted-fails, read_where}
use Rattle.cap_desc.proofs.nibbles.Nibbles.type_count.Goals as goal

pub types-preserved : goal.types-preserved
types-preserved c =
    let e = length-some c.args.self.now.bytes.bytes.now c.args.self.now.count c.args.self.now.enough in
    counted-more type_item (nibbles_in c.args.self.now) c.types.count c.types.at c.in_ok-end.end c.in_ok-end.field-0-0 c.types.invariant (omega arith)
    c.in_ok-end.ensures.after c.in_ok-end.ensures.within (read_where _ (c.in_ok-end.field-0-0, c.in_ok-end.end) c.in_ok-end.ensures.value)

pub returns : goal.returns
unfolding types_in gives_types given_types
returns c =
    let e = length-some c.args.self.now.bytes.bytes.now c.args.self.now.count c.args.self.now.enough in
    let all = counted-all type_item (nibbles_in c.args.self.now) c.types.count c.types.at c.types.invariant (omega arith) in
    record { known = all.whole; types = all.items }

pub returns-in_err-end : goal.returns-in_err-end
unfolding types_in
returns-in_err-end c =
    let e = length-some c.args.self.now.bytes.bytes.now c.args.self.now.count c.args.self.now.enough in
    rw c.from_residual.ensures
    (counted-fails type_item (nibbles_in c.args.self.now) c.types.count c.types.at c.types.invariant (omega arith) (sym c.in_err-end.ensures.value))
