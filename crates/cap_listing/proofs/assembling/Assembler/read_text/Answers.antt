use Rattle.std.proofs.Common.{◌≡◌, ℕ, length, None, sym, ap, subst, arith}
use Rattle.std.proofs.lemmas.List.{nil_from_length}
use Rattle.cap_listing.specs.Text.{Lists}
use Rattle.cap_listing.specs.Fault.{IsNotListing}
use Rattle.cap_listing.specs.Assembler.{state_of}
use Rattle.cap_listing.proofs.Added.{match-yes, match-no, state-none, none-begun, if-some, if-none}
use Rattle.cap_listing.proofs.Progress.{nothing-read, one-read, few-read, line-bad, cut-short, whole-text}
use Rattle.cap_listing.proofs.assembling.Assembler.read_text.Goals as goal

pub lines-init : goal.lines-init
lines-init c = record { few = c.requires.few; so_far = nothing-read _ _ c.requires.start }

pub lines-preserved : goal.lines-preserved
lines-preserved c = record {
  few = c.read.ensures.few;
  so_far = one-read c.args.text.now c.lines.rest.now _ _ c.lines.number (state_of c.lines.self) (state_of c.read.new.self) c.lines.invariant.so_far
      c.in-Some.ensures.some (match-yes c.in_ok-good.good _ _ c.in_ok-good.ensures.cases c.if-not-good.false);
}

pub overflow_add-number : goal.overflow_add-number
overflow_add-number c =
    omega (
      arith,
      few-read c.args.text.now c.lines.rest.now c.lines.number (state_of c.lines.self) c.lines.invariant.so_far,
      c.requires.short,
    )

pub returns-then-not-good-clause-fault : goal.returns-then-not-good-clause-fault
returns-then-not-good-clause-fault c =
    line-bad c.args.text.now c.lines.rest.now c.lines.number (state_of c.lines.self) c.lines.invariant.so_far _ _ c.in-Some.ensures.some
    (match-no c.in_ok-good.good _ _ c.in_ok-good.ensures.cases c.if-not-good.true)

pub returns-clause-whole : goal.returns-clause-whole
returns-clause-whole c =
    let text = c.args.text.now in
    let rest = c.lines.rest.now in
    let ms = c.lines.self.methods.items in
    let begun = c.lines.self.begun in
    if-none c.end_text.result ((length rest ≡ 0) × (begun ≡ None)) (Lists ms text)
    (λ p. whole-text text rest c.lines.number (state_of c.lines.self) c.lines.invariant.so_far ms (nil_from_length rest p.0) (state-none ms begun p.1))
    c.end_text.ensures.whole

pub returns-clause-fault : goal.returns-clause-fault
returns-clause-fault c =
    let text = c.args.text.now in
    let rest = c.lines.rest.now in
    let done = c.lines.self.methods.items in
    let begun = c.lines.self.begun in
    if-some c.end_text.result (λ (n : ℕ). (n ≡ c.lines.number) × (length rest ≡ 0 → begun ≡ None → ⊥)) (IsNotListing text)
    (λ n p.
    subst (IsNotListing text) (sym p.0)
    (cut-short text rest c.lines.number (state_of c.lines.self) c.lines.invariant.so_far c.in_default.ensures.none
    (λ ms e s. p.1 (ap length e) (none-begun done ms begun s))))
    c.end_text.ensures.fault
