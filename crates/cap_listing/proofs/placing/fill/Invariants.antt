use Rattle.std.proofs.Common.{◌≡◌, ◌++◌, drop}
use Rattle.cap_listing.specs.Placing.{filled}
use Rattle.cap_listing.proofs.placing.fill.Given as goal

-- with the flags that are left it is what it will be
abbrev pub invariant-flags : goal.invariant-flags
invariant-flags l = l.out.items ++ filled (drop l.flag-index l.flags) l.rest ≡ filled l.flags l.fn.methods
