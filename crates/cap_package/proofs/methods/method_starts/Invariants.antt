use Rattle.std.proofs.Common.{◌≡◌, map}
use Rattle.offset_set.specs.Tallies.{tallied, tally_of, with_all}
use Rattle.cap_desc.specs.MembersLeft.{methods_but_left}
use Rattle.cap_package.specs.Reaches.{method_start}
use Rattle.cap_package.proofs.methods.method_starts.Given as goal

abbrev pub invariant-methods : goal.invariant-methods
invariant-methods l =
    with_all (tallied l.starts) (map method_start (methods_but_left l.method-iterator))
    ≡ tally_of (map method_start (methods_but_left l.fn.described))
