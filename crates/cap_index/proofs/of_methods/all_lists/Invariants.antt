use Rattle.std.specs.Prelude.{◌≡◌, ◌++◌, drop}
use Rattle.cap_index.specs.Indexes.{lists_after, package_lists}
use Rattle.cap_index.proofs.of_methods.all_lists.Given as goal

abbrev pub invariant-packages : goal.invariant-packages
invariant-packages l = l.lists.items ++ lists_after l.methods l.k (drop l.k l.packages) ≡ package_lists l.packages l.methods
