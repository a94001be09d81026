use Rattle.std.proofs.Common.{◌↔◌, ◌<◌, ◌≤◌, ℕ}
use Rattle.xf_live.specs.Set.{Has}
use Rattle.xf_allot.proofs.uses.set_of.Given as goal

abbrev pub invariant-registers : goal.invariant-registers
invariant-registers l = record { has : (x : ℕ) → Has l.set x ↔ ((l.fn.span.first ≤ x) × (x < l.register)) }
