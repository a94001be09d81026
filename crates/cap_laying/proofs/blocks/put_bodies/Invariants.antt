use Rattle.std.proofs.Common.{◌≡◌, ◌++◌, drop}
use Rattle.cap_laying.specs.Member.{bodies}
use Rattle.cap_laying.proofs.blocks.put_bodies.Given as goal

abbrev pub invariant-methods : goal.invariant-methods
invariant-methods l = l.out.items ++ bodies (drop l.slot-index l.table) ≡ l.initial.out.items ++ bodies l.table
