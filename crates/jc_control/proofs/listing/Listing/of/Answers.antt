use Rattle.std.proofs.Common.{◌<◌, ◌∙◌, Some, true, length, arith}
use Rattle.std.proofs.lemmas.List.{length-set}
use Rattle.jc_decode.specs.Instructions.{rest_of}
use Rattle.jc_decode.specs.Listing.{listing}
use Rattle.jc_control.proofs.Elements.{at-next, contained-in, go-on}
use Rattle.jc_control.proofs.PlacesWithin.{next-inside}
use Rattle.jc_control.proofs.Listings.{decoded-more}
use Rattle.jc_control.proofs.Marked.{marks-more}
use Rattle.jc_control.proofs.listing.Listing.of.Goals as goal

pub set-requires : goal.set-requires
set-requires c =
    let code = c.args.code.bytes.now in
    let whole = at-next c.walk.yielded (rest_of c.walk.placed-iterator) c.in-Some.placed (rest_of c.next.new.self) (listing code) c.walk.invariant.whole
    c.in-Some.ensures.steps in
    let inside = next-inside code (c.instructions_are_listed.ensures code) c.walk.yielded c.in-Some.placed (rest_of c.next.new.self) whole in
    omega (arith, c.walk.invariant.flags)

pub index_mut-requires : goal.index_mut-requires
index_mut-requires c =
    let code = c.args.code.bytes.now in
    let whole = at-next c.walk.yielded (rest_of c.walk.placed-iterator) c.in-Some.placed (rest_of c.next.new.self) (listing code) c.walk.invariant.whole
    c.in-Some.ensures.steps in
    let inside = next-inside code (c.instructions_are_listed.ensures code) c.walk.yielded c.in-Some.placed (rest_of c.next.new.self) whole in
    omega (arith, c.walk.invariant.room, c.from.ensures)

pub walk-preserved : goal.walk-preserved
walk-preserved c =
    let code = c.args.code.bytes.now in
    let i = c.in-Some.placed in
    let law = c.instructions_are_listed.ensures code in
    let whole = at-next c.walk.yielded (rest_of c.walk.placed-iterator) i (rest_of c.next.new.self) (listing code) c.walk.invariant.whole
    c.in-Some.ensures.steps in
    let inside = next-inside code law c.walk.yielded i (rest_of c.next.new.self) whole in
    let here = law.decodes i (contained-in c.walk.yielded i (rest_of c.next.new.self) (listing code) whole) in
    let flagged : i.place < length c.walk.begins = omega (arith, c.walk.invariant.flags) in
    let held : i.place < length c.walk.insns.items = omega (arith, c.walk.invariant.room) in
    record {
      flags = rw c.set.ensures (length-set c.walk.begins i.place true ∙ c.walk.invariant.flags);
      room = length-set c.walk.insns.items c.from.result (Some i.insn) ∙ c.walk.invariant.room;
      marked = rw c.set.ensures (marks-more c.walk.yielded i c.walk.begins flagged c.walk.invariant.marked);
      decodes = rw c.from.ensures (decoded-more code c.walk.insns.items i.place i.insn held here c.walk.invariant.decodes);
      whole = go-on c.walk.yielded i (rest_of c.next.new.self) (listing code) whole;
    }
