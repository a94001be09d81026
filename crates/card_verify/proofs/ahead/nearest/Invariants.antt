use Rattle.std.proofs.Common.{◌≡◌}
use Rattle.std.specs.Prelude.{fold}
use Rattle.jc_decode.specs.Listing.{targets}
use Rattle.jc_control.specs.Targets.{rest_of}
use Rattle.card_verify.specs.Ahead.{nearer_target}
use Rattle.card_verify.proofs.ahead.nearest.Given as goal

abbrev pub invariant-targets : goal.invariant-targets
invariant-targets l =
    fold (nearer_target l.from) l.best (rest_of l.target-iterator) ≡ fold (nearer_target l.from) l.initial.best (targets l.code.bytes.now l.fn.placed)
