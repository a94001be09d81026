use Rattle.std.proofs.Common.{◌≡◌}
use Rattle.std.specs.Prelude.{fold}
use Rattle.cap_method.specs.MethodPart.{handlers}
use Rattle.cap_desc.specs.MembersLeft.{methods_but_left}
use Rattle.std.specs.List.{enumerate_from}
use Rattle.cap_package.specs.HandlerClaims.{claims_seen, claim_table, none_claimed}
use Rattle.cap_package.proofs.handlers.claimed.Given as goal

abbrev pub invariant-methods : goal.invariant-methods
invariant-methods l =
    fold (claim_table l.methods.info.bytes.now (enumerate_from 0 (handlers l.methods))) (claims_seen l.entries)
    (methods_but_left l.method-iterator)
    ≡ fold (claim_table l.methods.info.bytes.now (enumerate_from 0 (handlers l.methods))) none_claimed (methods_but_left l.fn.described)
