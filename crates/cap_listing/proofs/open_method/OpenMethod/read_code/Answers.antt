use Rattle.std.proofs.Common.{◌≡◌, ◌≤◌, ◌+◌, ◌++◌, ◌∙◌, ℕ, Bool, List, length, sym, ap, subst, rules}
use Rattle.cap_listing.specs.Fault.{IsNoLine}
use Rattle.cap_listing.specs.Lines.{IsInstructionLine}
use Rattle.cap_listing.specs.Assembler.{opened}
use Rattle.cap_listing.proofs.Added.{some-of, none-closed, instruction-added}
use Rattle.cap_listing.proofs.open_method.OpenMethod.read_code.Goals as goal

pub returns-then-self-clause-cases : goal.returns-then-self-clause-cases
returns-then-self-clause-cases c done =
    let o = c.args.self.now in
    subst (λ (b : Bool). IsNoLine (opened done o.heading o.code.items o.handlers.items b) c.args.line.now) (sym c.if-self.true)
    (none-closed done o.heading o.code.items o.handlers.items c.args.line.now c.requires.other c.requires.handler)

pub returns-in_ok-extend_from_slice-in-Some-clause-cases : goal.returns-in_ok-extend_from_slice-in-Some-clause-cases
returns-in_ok-extend_from_slice-in-Some-clause-cases c done =
    let o = c.args.self.now in
    let line = c.args.line.now in
    let bytes = c.in-Some.bytes.items in
    let place : c.len.result ≡ length o.code.items = search rules in
    let found = subst (λ (n : ℕ). IsInstructionLine n bytes line × (n + length bytes ≤ 65535)) place
    (some-of c.in_ok-found.found c.in-Some.bytes c.in-Some.is
    (λ v. IsInstructionLine c.len.result v.items line × (c.len.result + length v.items ≤ 65535)) c.in_ok-found.ensures.found) in
    let more = c.in_ok-extend_from_slice-in-Some.ensures.items ∙ ap (λ (t : List ℕ). o.code.items ++ t) c.as_slice.ensures.value in
    instruction-added done o.heading o.code.items o.handlers.items o.closed bytes _ line c.if-self.false found.0 found.1 more
