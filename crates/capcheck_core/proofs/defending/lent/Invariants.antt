use Rattle.std.proofs.Common.{◌≡◌, take, map}
use Rattle.cap_text.specs.Word.{argument_read}
use Rattle.capcheck_core.proofs.defending.lent.Given as goal

abbrev pub invariant-each : goal.invariant-each
invariant-each l = l.lent ≡ map argument_read (take l.arg-index l.args.items)
