use Rattle.std.proofs.Common.{◌≡◌, drop}
use Rattle.cap_listing.specs.Placing.{faults_from, first_refused}
use Rattle.cap_listing.proofs.fitting.check_each.Given as goal

-- nothing is wrong with the methods so far
abbrev pub invariant-methods : goal.invariant-methods
invariant-methods l =
    first_refused (faults_from l.condition l.n (drop l.n l.methods)) ≡ first_refused (faults_from l.condition 0 l.methods)
