-- The method whose code is walked over.
use Rattle.std.specs.Prelude.{ℕ, Option}
use Rattle.jc_control.specs.Method.{Method}
use Rattle.jc_rules.specs.Demand.{Frame}
use Rattle.jc_rules.specs.Typing.{state_at}
use Rattle.xf_homes.specs.declared.walk.HomeWalk.{HomeWalk}

abbrev pub walked : HomeWalk → Method
walked a = record { number = a.number; rec = a.rec.now; code = a.code.bytes.now }

abbrev pub frames_of : HomeWalk → ℕ → Option Frame
frames_of a = state_at a.typing.now
