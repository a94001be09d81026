use Rattle.std.proofs.Common.{◌≡◌, ◌++◌, drop}
use Rattle.cap_index.specs.Marking.{flagged_from}
use Rattle.cap_index.proofs.exact.flagged.Given as goal

abbrev pub invariant-flags : goal.invariant-flags
invariant-flags l = record {
  place : l.place ≡ l.flag-index;
  so_far : l.places.items ++ flagged_from l.place (drop l.flag-index l.fn.flags) ≡ flagged_from 0 l.fn.flags;
}
