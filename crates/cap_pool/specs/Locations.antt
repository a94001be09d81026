-- The record of the ReferenceLocation component, as its items.
use Rattle.cap_pool.specs.declared.location_record.Locations.{Locations}
use Rattle.cap_pool.specs.LocationFormat.{LocationItems}

abbrev pub location_items : Locations → LocationItems
location_items x = record { byte = x.byte.now; byte2 = x.byte2.now }
