-- The method that is looked at, and its world.
use Rattle.jc_base.specs.World.{Linked}
use Rattle.jc_control.specs.Method.{Method}
use Rattle.jc_control.specs.declared.subject.Subject.{Subject}

abbrev pub method : Subject → Method
method s = record { number = s.number; rec = s.rec.now; code = s.code.bytes.now }

abbrev pub world_of : Subject → Linked
world_of s = s.world.now
