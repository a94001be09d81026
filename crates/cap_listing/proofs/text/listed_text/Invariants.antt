use Rattle.std.proofs.Common.{◌≡◌, ◌++◌, drop}
use Rattle.cap_listing.proofs.Ends.{texts}
use Rattle.cap_listing.proofs.text.listed_text.Given as goal

-- with the methods that are left it is what it will be
abbrev pub invariant-methods : goal.invariant-methods
invariant-methods l = l.out.items ++ texts (drop l.method-index l.methods) ≡ texts l.methods
