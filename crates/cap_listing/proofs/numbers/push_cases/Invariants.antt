use Rattle.std.proofs.Common.{◌≡◌, ◌++◌, drop}
use Rattle.jc_decode.specs.Cases.{cases}
use Rattle.cap_listing.specs.Numbers.{shown, shown_cases}
use Rattle.cap_listing.proofs.numbers.push_cases.Given as goal

-- with the cases that are left it is what it will be
abbrev pub invariant-cases : goal.invariant-cases
invariant-cases l =
    l.out.items ++ shown (shown_cases l.kind l.place (drop l.n (cases l.code.bytes.now l.at l.insn)))
    ≡ l.initial.out.items ++ shown (shown_cases l.kind l.place (cases l.code.bytes.now l.at l.insn))
