use Rattle.std.proofs.Common.{All, take}
use Rattle.law_transform.proofs.Bytes.{HasBytes}
use Rattle.law_transform.proofs.accepted_world.codes_are_bytes.Given as goal

abbrev pub invariant-methods : goal.invariant-methods
invariant-methods l = All (HasBytes l.world) (take l.number l.world.methods)
