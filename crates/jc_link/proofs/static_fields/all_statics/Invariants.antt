use Rattle.std.specs.Prelude.{◌≡◌, ◌+◌, ◌*◌, ◌≤◌, ◌++◌, All, drop, slice_index, take}
use Rattle.jc_resolve.specs.WorldTypes.{type_of}
use Rattle.jc_link.specs.KnownFields.{AreStaticsKnown}
use Rattle.jc_link.specs.Statics.{sites_after, static_cells, records_from, static_records}
use Rattle.jc_link.proofs.static_fields.all_statics.Given as goal

abbrev pub invariant-packages : goal.invariant-packages
invariant-packages l = record {
  all :
      l.records.items ++ records_from (type_of l.names.packages (slice_index l.names.roles 0)) l.slot (sites_after l.n l.first (drop l.n l.packages))
      ≡ static_records (type_of l.names.packages (slice_index l.names.roles 0)) l.packages;
  cells : l.slot + static_cells (drop l.n l.packages) ≡ static_cells l.packages;
  arrays : l.first ≤ 1 + l.n * 65535;
  known : All AreStaticsKnown (take l.n l.packages);
}
