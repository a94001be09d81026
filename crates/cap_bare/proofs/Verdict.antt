-- What the two walks find, in the words of the contract.
use Rattle.std.proofs.Common.{arith}
use Rattle.std.proofs.Common.{◌≡◌, ℕ, ◌≤◌, ⊎_elim, Result, Ok, Err, List, length}
use Rattle.std.specs.Prelude.{IsOk, OnOk, IfErr, ◌↔◌}
use Rattle.cap_bare.specs.declared.format.Bare.{Bare}
use Rattle.cap_bare.specs.declared.fault.BareFault.{BareFault}
use Rattle.cap_bare.specs.declared.fault.BareKind.{BareKind}
use Rattle.cap_bare.specs.declared.instruction.Instruction.{Instruction}
use Rattle.jc_decode.specs.declared.insn.Placed.{Placed}
use Rattle.cap_bare.specs.Code.{IsFirstFlaw, IsFlawKind, IsWellFormed}
use Rattle.cap_bare.specs.Laws.{LeadsOn}
use Rattle.cap_bare.specs.Typing.{BareTyping, Kind}
use Rattle.cap_bare.specs.Met.{IsRefused, IsWrong, RuleFails}
use Rattle.cap_bare.specs.Met.{refused_flaw}
use Rattle.cap_bare.specs.Walk.{WalksFind}
use Rattle.cap_bare.specs.Machine.{IsFaultFree}
use Rattle.cap_bare.proofs.WellFormed.{flaw-not, flaw-kind, first-one}
use Rattle.cap_bare.proofs.Places.{place-true}
use Rattle.cap_bare.proofs.Walks.{typing, refused-at, accepts}
use Rattle.cap_bare.proofs.Running.{fault-free}

-- what is wrong with a state is no flaw
fails-kind : (bare : Bare) (i : Instruction) (stack : List Kind) (kind : BareKind) → RuleFails bare i stack kind → IsFlawKind kind → ⊥
fails-kind bare i stack x x2 h = grind (arith)

wrong-kind : (code : List ℕ) (bare : Bare) (i : Placed) (registers stack : List Kind) (kind : BareKind)
    → IsWrong code bare i registers stack kind
    → IsFlawKind kind → ⊥
wrong-kind code bare i registers stack kind x h = grind (arith, fails-kind)

-- a refusal is of a flaw's kind exactly where the code is not well formed
refused-kind : (code : List ℕ) (bare : Bare) (f : BareFault) → IsRefused code bare f → IsFlawKind f.kind ↔ (IsWellFormed code → ⊥)
refused-kind code bare f x = grind (arith, flaw-not, flaw-kind, wrong-kind)

module _ (code : List ℕ) (bare : Bare) where
  pub verdict-accepted : (r : Result (Unit {0}) BareFault) → WalksFind code bare r → OnOk r (BareTyping code bare)
  verdict-accepted x h = grind (arith, typing)

  refused-by : (f : BareFault) → WalksFind code bare (Err f) → IsRefused code bare f
  refused-by f h = ⊎_elim (λ first. refused_flaw f first) (λ wrong. refused-at code bare wrong.0 f wrong.1) h

  pub verdict-refused : (r : Result (Unit {0}) BareFault) → WalksFind code bare r → IfErr r (λ f. IsRefused code bare f)
  verdict-refused x h = grind (arith, refused-by)

  pub verdict-complete : (r : Result (Unit {0}) BareFault) → WalksFind code bare r → BareTyping code bare → IsOk r
  verdict-complete x h t = grind (arith, ⊎_elim, flaw-not, accepts)

  pub verdict-first : (r : Result (Unit {0}) BareFault) → WalksFind code bare r → (f : BareFault) → IsFirstFlaw code f → r ≡ Err f
  verdict-first x h f k = grind (arith, flaw-not, ⊎_elim, first-one)

  pub verdict-kind : (r : Result (Unit {0}) BareFault) → WalksFind code bare r
      → IfErr r (λ f. IsFlawKind f.kind ↔ (IsWellFormed code → ⊥))
  verdict-kind (Ok u) h = tt
  verdict-kind (Err f) h = refused-kind code bare f (refused-by f h)

  pub verdict-leads : (r : Result (Unit {0}) BareFault) → WalksFind code bare r → OnOk r (LeadsOn code)
  verdict-leads x h = grind (arith, place-true)

  pub verdict-safe : (r : Result (Unit {0}) BareFault) → WalksFind code bare r → 1 ≤ length code → OnOk r (IsFaultFree code bare)
  verdict-safe x h filled = grind (arith, fault-free, typing)
