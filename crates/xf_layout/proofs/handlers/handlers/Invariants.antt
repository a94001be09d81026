use Rattle.std.proofs.Common.{◌≡◌, map, take}
use Rattle.std.specs.Prelude.{slice_index}
use Rattle.jc_decode.specs.Symbols.{handler}
use Rattle.xf_layout.proofs.handlers.handlers.Given as goal

abbrev pub invariant-ranges-2 : goal.invariant-ranges-2
invariant-ranges-2 l = l.handlers.items ≡ map (handler (slice_index l.places)) (take l.range-index l.ranges)
