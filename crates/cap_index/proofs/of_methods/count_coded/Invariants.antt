use Rattle.std.specs.Prelude.{◌≡◌, take, count_by}
use Rattle.cap_index.specs.Indexes.{is_coded}
use Rattle.cap_index.proofs.of_methods.count_coded.Given as goal

abbrev pub invariant-methods : goal.invariant-methods
invariant-methods l = l.count ≡ count_by (is_coded l.«package») (take l.method-index l.methods)
