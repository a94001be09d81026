use Rattle.std.proofs.Common.{◌≡◌, ◌≤◌, ◌+◌, drop}
use Rattle.std.specs.Prelude.{count_by, is_some}
use Rattle.cap_index.proofs.index_component.count.Given as goal

abbrev pub invariant-methods : goal.invariant-methods
invariant-methods l = record {
  few : l.count ≤ l.method-index;
  so_far : l.count + count_by is_some (drop l.method-index l.laid) ≡ count_by is_some l.laid;
}
