use Rattle.std.proofs.Common.{take}
use Rattle.cap_listing.specs.Words.{HasNone}
use Rattle.cap_listing.proofs.cut.cut.Given as goal

abbrev pub invariant-bytes : goal.invariant-bytes
invariant-bytes l = HasNone l.stop (take l.k l.bytes)
