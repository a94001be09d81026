-- The method that is verified.
use Rattle.jc_base.specs.World.{Linked}
use Rattle.jc_control.specs.Method.{Method}
use Rattle.jc_control.specs.Subject as subjects
use Rattle.card_verify.specs.declared.verify.Verifier.{Verifier}

abbrev pub method : Verifier → Method
method v = subjects.method v.subject

abbrev pub world_of : Verifier → Linked
world_of v = subjects.world_of v.subject
