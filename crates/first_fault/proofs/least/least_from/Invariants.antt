use Rattle.std.proofs.Common.{◌≡◌}
use Rattle.first_fault.specs.Least.{least_from}
use Rattle.first_fault.proofs.least.least_from.Given as goal

abbrev pub invariant-things : goal.invariant-things
invariant-things g l =
    (goal.iterator-things g).can_next l.thing-iterator
    × goal.C-IsAlwaysCallable g l.fault
    × ((fault : _) → ((x : _) (o : _) → goal.C-post g l.fault x o → o ≡ fault x)
    → l.least ≡ least_from g.F.Fault.place_of l.initial.least fault l.yielded)
