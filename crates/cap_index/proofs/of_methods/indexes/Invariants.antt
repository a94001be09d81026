use Rattle.std.specs.Prelude.{◌≡◌, ◌++◌, take, drop}
use Rattle.cap_index.specs.Indexes.{package_lists, indexes_after, indexes_of}
use Rattle.cap_index.proofs.Taken.{AreLeft}
use Rattle.cap_index.proofs.of_methods.indexes.Given as goal

abbrev pub invariant-methods : goal.invariant-methods
invariant-methods l = record {
  left : AreLeft (package_lists l.packages l.methods) l.methods l.method-index l.lists.items;
  are :
      l.indexes.items
      ++ indexes_after (package_lists l.packages l.methods) (take l.method-index l.methods) (drop l.method-index l.methods)
      ≡ indexes_of l.packages l.methods;
}
