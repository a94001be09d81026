use Rattle.jc_decode.specs.Instructions.{rest_of}
use Rattle.xf_emission.proofs.Live.{stands-next}
use Rattle.xf_code.proofs.emitter.Emitter.groups.Goals as goal

pub group-requires : goal.group-requires
group-requires c =
    c.requires.instructions c.in-Some.placed
    (stands-next c.walk.yielded (rest_of c.walk.placed-iterator) (rest_of c.next.new.self) _ c.in-Some.placed c.in-Some.ensures.steps c.walk.invariant.whole)
