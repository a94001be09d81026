use Rattle.jc_decode.specs.Instructions.{rest_of}
use Rattle.jc_decode.specs.Listing.{listing}
use Rattle.jc_control.proofs.Elements.{at-next, contained-in}
use Rattle.xf_share.proofs.items.items.Goals as goal

pub add-requires-clause-stands : goal.add-requires-clause-stands
add-requires-clause-stands c =
    let all = listing c.args.code.bytes.now in
    contained-in c.instructions.yielded c.in-Some.placed (rest_of c.next.new.self) all
    (at-next c.instructions.yielded (rest_of c.instructions.placed-iterator) c.in-Some.placed (rest_of c.next.new.self) all
    c.instructions.invariant.whole c.in-Some.ensures.steps)
