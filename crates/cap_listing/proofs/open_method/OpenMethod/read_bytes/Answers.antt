use Rattle.std.proofs.Common.{◌≡◌, ◌≤◌, ◌+◌, ◌++◌, ◌∙◌, ℕ, Bool, List, length, sym, ap, subst, rules}
use Rattle.cap_listing.specs.Fault.{IsNoLine}
use Rattle.cap_listing.specs.Lines.{IsBytesLine}
use Rattle.cap_listing.specs.Assembler.{opened}
use Rattle.cap_listing.proofs.Added.{some-of, none-of, none-open, bytes-added}
use Rattle.cap_listing.proofs.open_method.OpenMethod.read_bytes.Goals as goal

pub returns-in_ok-extend_from_slice-in-Some-clause-cases : goal.returns-in_ok-extend_from_slice-in-Some-clause-cases
returns-in_ok-extend_from_slice-in-Some-clause-cases c done =
    let o = c.args.self.now in
    let line = c.args.line.now in
    let bytes = c.in-Some.bytes.items in
    let place : c.len.result ≡ length o.code.items = search rules in
    let found = subst (λ (n : ℕ). IsBytesLine n bytes line × (n + length bytes ≤ 65535)) place
    (some-of c.in_ok-found.found c.in-Some.bytes c.in-Some.is
    (λ v. IsBytesLine c.len.result v.items line × (c.len.result + length v.items ≤ 65535)) c.in_ok-found.ensures.found) in
    let more = c.in_ok-extend_from_slice-in-Some.ensures.items ∙ ap (λ (t : List ℕ). o.code.items ++ t) c.as_slice.ensures.value in
    bytes-added done o.heading o.code.items o.handlers.items o.closed bytes _ line c.requires.more found.0 found.1 more

pub returns-in-None-clause-cases : goal.returns-in-None-clause-cases
returns-in-None-clause-cases c done =
    let o = c.args.self.now in
    let line = c.args.line.now in
    let place : c.len.result ≡ length o.code.items = search rules in
    let none = subst (λ (n : ℕ). (bytes : List ℕ) → IsBytesLine n bytes line → n + length bytes ≤ 65535 → ⊥) place
    (none-of c.in_ok-found.found c.in-None.is
    ((bytes : List ℕ) → IsBytesLine c.len.result bytes line → c.len.result + length bytes ≤ 65535 → ⊥) c.in_ok-found.ensures.none) in
    subst (λ (b : Bool). IsNoLine (opened done o.heading o.code.items o.handlers.items b) line) (sym c.requires.more)
    (none-open done o.heading o.code.items o.handlers.items line c.requires.other c.requires.handler c.requires.instruction none)
