use Rattle.std.specs.Prelude.{◌≡◌, ◌+◌, ◌++◌, map, slice_index, sum_by}
use Rattle.cap_package.specs.StaticChecks.{ImagePlace}
use Rattle.cap_package.specs.StaticPlaces.{static_places, places_left}
use Rattle.jc_resolve.specs.WorldTypes.{type_of}
use Rattle.jc_link.specs.Statics.{cells_at, site, records_from}
use Rattle.jc_link.proofs.static_fields.push_statics.Given as goal

abbrev pub invariant-places : goal.invariant-places
invariant-places l = record {
  all :
      l.records.items ++ records_from (type_of l.names.packages (slice_index l.names.roles 0)) l.slot
      (map (site l.home.«package» l.home.first l.«package».statics) (places_left l.place-iterator))
      ≡ l.fn.records.items ++ records_from (type_of l.names.packages (slice_index l.names.roles 0)) l.fn.slot
      (map (site l.home.«package» l.home.first l.«package».statics) (static_places l.«package»));
  types : l.types ≡ map (λ (p : ImagePlace). type_of l.names.packages (slice_index l.names.roles 0) l.home.«package» p.ty) (places_left l.place-iterator);
  cells : l.slot + sum_by cells_at (places_left l.place-iterator) ≡ l.fn.slot + sum_by cells_at (static_places l.«package»);
}
