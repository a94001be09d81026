use Rattle.std.proofs.Common.{rules, ◌≡◌, ◌+◌, ◌++◌, List, map, ap, sym, ◌∙◌}
use Rattle.std.specs.Prelude.{slice_index, sum_by}
use Rattle.cap_package.specs.StaticChecks.{ImagePlace}
use Rattle.cap_package.specs.StaticPlaces.{static_places, places_left}
use Rattle.jc_resolve.specs.WorldTypes.{type_of}
use Rattle.jc_resolve.proofs.TypedFields.{static_types_known}
use Rattle.jc_link.specs.Statics.{cells_at, site, records_from}
use Rattle.jc_link.proofs.ArrayLists.{kinds_known}
use Rattle.jc_link.proofs.static_fields.push_statics.Goals as goal

pub places-init : goal.places-init
places-init c =
    let names = c.args.names.now in
    let object = slice_index names.roles 0 in
    let home = c.args.home in
    let p = c.args.«package».now in
    let all : places_left c.into_iter-place-iterator.result ≡ static_places p = search rules in
    record {
      all =
          ap (λ (places : List ImagePlace). c.args.records.now.items ++ records_from (type_of names.packages object) c.args.slot
          (map (site home.«package» home.first p.statics) places)) all;
      types =
          c.static_types-types.ensures
          ∙ static_types_known names.packages object home.«package» p c.requires.at
          ∙ ap (λ (places : List ImagePlace). map (λ (x : ImagePlace). type_of names.packages object home.«package» x.ty) places) (sym all);
      cells = ap (λ (places : List ImagePlace). c.args.slot + sum_by cells_at places) all;
    }

pub returns-clause-known : goal.returns-clause-known
returns-clause-known c =
    record {
      places = c.static_places-place-items.ensures.known;
      apart = c.static_places-place-items.ensures.apart;
      arrays = kinds_known c.statics-statics.result c.args.«package».now.statics c.statics-statics.ensures.items;
    }
