use Rattle.std.proofs.Common.{◌≡◌, ◌++◌, length}
use Rattle.cap_laying.specs.HandlerTable.{AreInside, entries_at, table_bytes}
use Rattle.cap_laying.specs.MethodInfo.{AreSmallEntries}
use Rattle.cap_laying.proofs.entries.put_entries.Given as goal

abbrev pub invariant-handlers : goal.invariant-handlers
invariant-handlers l = record {
  inside : AreInside l.size l.rest;
  so_far : l.out.items ++ table_bytes (entries_at l.start l.rest) ≡ l.initial.out.items ++ table_bytes (entries_at l.start l.handlers);
  small : AreSmallEntries (entries_at l.start l.rest) → AreSmallEntries (entries_at l.start l.handlers);
}

abbrev pub decreases-handlers : goal.decreases-handlers
decreases-handlers l = length l.rest
