use Rattle.std.proofs.Common.{◌<◌, length, arith, ◌∙◌, true}
use Rattle.std.proofs.lemmas.List.{length-set}
use Rattle.jc_decode.specs.Instructions.{rest_of}
use Rattle.jc_decode.specs.Listing.{listing}
use Rattle.jc_control.proofs.Elements.{at-next, go-on}
use Rattle.jc_control.proofs.PlacesWithin.{next-inside}
use Rattle.jc_control.proofs.Marked.{marks-more}
use Rattle.jc_control.proofs.scan.mark_places.Goals as goal

pub bounds-flags-from : goal.bounds-flags-from
bounds-flags-from c =
    let code = c.args.code.bytes.now in
    let whole = at-next c.walk.yielded (rest_of c.walk.placed-iterator) c.in-Some.placed (rest_of c.next.new.self) (listing code) c.walk.invariant.whole
    c.in-Some.ensures.steps in
    let inside = next-inside code (c.instructions_are_listed.ensures code) c.walk.yielded c.in-Some.placed (rest_of c.next.new.self) whole in
    omega (arith, c.walk.invariant.size, c.requires.room, c.from.ensures)

pub walk-preserved : goal.walk-preserved
walk-preserved c =
    let code = c.args.code.bytes.now in
    let i = c.in-Some.placed in
    let whole = at-next c.walk.yielded (rest_of c.walk.placed-iterator) i (rest_of c.next.new.self) (listing code) c.walk.invariant.whole
    c.in-Some.ensures.steps in
    let inside = next-inside code (c.instructions_are_listed.ensures code) c.walk.yielded i (rest_of c.next.new.self) whole in
    let room : i.place < length c.walk.flags = omega (arith, c.walk.invariant.size, c.requires.room) in
    record {
      size = length-set c.walk.flags c.from.result true ∙ c.walk.invariant.size;
      marked = rw c.from.ensures (marks-more c.walk.yielded i c.walk.flags room c.walk.invariant.marked);
      whole = go-on c.walk.yielded i (rest_of c.next.new.self) (listing code) whole;
    }
