use Rattle.std.proofs.Common.{◌≡◌, ◌+◌, ◌≤◌, length}
use Rattle.cap_method.specs.MethodPart.{handlers_left}
use Rattle.cap_desc.specs.MemberRecords.{method_seen}
use Rattle.std.specs.List.{enumerate_from}
use Rattle.cap_package.specs.HandlerClaims.{claims_seen, claim_table}
use Rattle.cap_package.proofs.handlers.HandlerClaims.claim_table.Given as goal

abbrev pub invariant-handlers : goal.invariant-handlers
invariant-handlers l =
    (claim_table l.info.bytes.now (enumerate_from l.number (handlers_left l.handler-iterator)) (claims_seen l.self) (method_seen l.method)
    ≡ claim_table l.info.bytes.now (enumerate_from 0 (handlers_left l.fn.handlers)) (claims_seen l.initial.self) (method_seen l.method))
    × (l.number + length (handlers_left l.handler-iterator) ≤ 255)
