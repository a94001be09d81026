use Rattle.std.proofs.Common.{◌≡◌, drop}
use Rattle.cap_listing.specs.Placing.{other_faults, first_refused}
use Rattle.cap_listing.proofs.fitting.check_others.Given as goal

-- nothing is wrong with the methods so far
abbrev pub invariant-methods : goal.invariant-methods
invariant-methods l =
    first_refused (other_faults l.n (drop l.n l.methods) (drop l.n l.owns)) ≡ first_refused (other_faults 0 l.methods l.owns)
