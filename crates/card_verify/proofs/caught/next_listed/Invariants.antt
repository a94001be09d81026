use Rattle.std.specs.Prelude.{◌≡◌, ℕ, ◌+◌, ◌-◌, slice_get}
use Rattle.card_verify.proofs.Halving.{IsNarrowed}
use Rattle.card_verify.proofs.caught.next_listed.Given as goal

abbrev pub invariant-halves : goal.invariant-halves
invariant-halves g l =
    (taken : ℕ) × (l.steps ≡ l.fn.steps + taken) × IsNarrowed l.index l.place l.low l.high taken × (slice_get l.index l.high ≡ l.best)

abbrev pub decreases-halves : goal.decreases-halves
decreases-halves g l = l.high - l.low
