use Rattle.std.proofs.Common.{◌≡◌, ◌≤◌, ◌++◌, drop}
use Rattle.cap_laying.specs.Member.{methods_end_from}
use Rattle.cap_laying.specs.NewPlaces.{AreSmallBodies, news_from}
use Rattle.cap_laying.proofs.places.news.Given as goal

abbrev pub invariant-methods : goal.invariant-methods
invariant-methods l = record {
  end : methods_end_from l.at (drop l.slot-index l.table) ≤ 65535;
  small : AreSmallBodies (drop l.slot-index l.table);
  so_far : l.news ++ news_from l.indexes l.at (drop l.slot-index l.table) ≡ news_from l.indexes l.start l.table;
}
