-- The generated package alone makes a world: what each condition on linking asks is computed, for every seed at once.
use Rattle.std.specs.Prelude.{◌≡◌, refl, ℕ, false, List, [], ◌∷◌, map, replicate, Option, Some, None}
use Rattle.std.specs.List.{range_with_len}
use Rattle.std.specs.Option.{option_to_list}
use Rattle.std.proofs.Common.{sym, subst}
use Rattle.first_fault.specs.First.{AllEmpty, at_fault}
use Rattle.cap_pool.specs.PoolReference.{referred}
use Rattle.cap_desc.specs.TypeFormat.{types_in}
use Rattle.cap_components.specs.Descriptions.{field_type}
use Rattle.cap_components.specs.PackageRecord.{PackageRecord, names_interface}
use Rattle.cap_package.specs.HeaderChecks.{header_in}
use Rattle.jc_base.specs.Class.{is_interface, parent_of, chain, chain_over, height}
use Rattle.jc_base.specs.Dispatch.{package_of, public_of, visible_of, cell_count, own_cells, cells_of, entry_at, nearest_of, visible_in, dispatched}
use Rattle.jc_base.specs.Dispatch.{is_concrete}
use Rattle.jc_base.specs.Leads.{leads_below}
use Rattle.jc_base.specs.Order.{is_on_chain, is_below}
use Rattle.jc_base.specs.World.{Linked}
use Rattle.jc_resolve.specs.Conditions.{no_package_fault, class_references, no_class_fault}
use Rattle.jc_resolve.specs.Named.{infos_of, is_interface as named_interface, package_of as named_package}
use Rattle.jc_resolve.specs.NamedClasses.{fields_described, instance_fields, with_token, cells_of_field, cells_of_fields, dispatch_entry, interface_named}
use Rattle.jc_resolve.specs.NamedClasses.{named_class, named_classes}
use Rattle.jc_resolve.specs.NamedMethods.{handler_named, body_of, class_described, have_headers, named_method, named_methods}
use Rattle.jc_resolve.specs.Numbering.{class_at, is_interface_number, method_at}
use Rattle.jc_resolve.specs.References.{met_by, class_referred, class_named}
use Rattle.jc_resolve.specs.WorldTypes.{type_of, kind_of, declared_signature}
use Rattle.jc_classes.specs.Ancestor.{superclass, extended, is_above}
use Rattle.jc_resolve.specs.declared.naming.NamedClass.{NamedClass}
use Rattle.jc_classes.specs.LineConditions.{numbered, is_class_number, super_fault, cycle_fault, role_fault, root_fault, not_interface_fault}
use Rattle.jc_classes.specs.Outline.{chain as line_chain, chain_over as line_chain_over, is_on_chain as on_line_chain, parent_of as line_parent}
use Rattle.jc_classes.specs.Outline.{package_of as line_package}
use Rattle.jc_classes.specs.TableConditions.{hole_fault, layout_above, override_fault, long_fault, interface_type_fault as unserved_fault}
use Rattle.jc_classes.specs.Entries.{reach, named_by, dispatch_list, overlaid_at}
use Rattle.jc_classes.specs.Layout.{public_table, visible_table, own_of, home_run, public_entries, visible_entries, instance_cells, class_layout}
use Rattle.jc_classes.specs.Layout.{class_layout_from, at_home}
use Rattle.jc_classes.specs.Tables.{record_from}
use Rattle.jc_link.specs.Catches.{catches_throwable, catch_fault}
use Rattle.jc_link.specs.Entries.{field_place, method_place}
use Rattle.jc_link.specs.Members.{class_member, member_of}
use Rattle.jc_link.specs.Pools.{pools, member_fault}
use Rattle.jc_link.specs.Roles.{role_fault as abstract_fault}
use Rattle.jc_link.specs.Arrays.{array_records}
use Rattle.jc_link.specs.Room.{statics_fault}
use Rattle.cap_package.specs.StaticChecks.{place_in}
use Rattle.cap_index.specs.Indexes.{indexes_of}
use Rattle.jc_link.specs.World.{classes_of, conditions, table_of, methods_of, statics_of, IsLinked}
use Rattle.cap_gen.specs.Methods.{each_method, method_bytes, entry_table, method_info}
use Rattle.cap_gen.specs.Handlers.{entries}
use Rattle.cap_gen.specs.Described.{methods, described_bytes, descriptor_bytes, location_bytes}
use Rattle.cap_gen.specs.Record.{package_record}
use Rattle.cap_gen.specs.Linked.{roles, method_record}

abbrev pub alone : ℕ → List PackageRecord
alone seed = package_record seed ∷ []

-- its classes, by number: object, throwable, and six classes below throwable
abbrev named_as : Option ℕ → NamedClass
named_as parent = record {
  «package» = 0;
  interface = false;
  parent = parent;
  interfaces = [];
  public = record { base = 0; entries = [] };
  visible = record { base = 0; entries = [] };
  own = [];
}

abbrev eight : List NamedClass
eight = named_as None ∷ named_as (Some 0) ∷ replicate 6 (named_as (Some 1))

eight_named : (seed : ℕ) → classes_of (alone seed) roles ≡ eight
unfolding fields_described instance_fields with_token cells_of_field cells_of_fields dispatch_entry interface_named named_class named_classes class_at
    class_referred class_named
eight_named seed = refl

-- none is above itself
no_cycles : at_fault (cycle_fault eight) (numbered eight) ≡ []
unfolding cycle_fault is_above leads_below superclass extended
no_cycles = refl

-- those in the roles are classes, from role 2 on below throwable
fit_roles : at_fault (role_fault eight 8 1) (numbered roles) ≡ []
unfolding role_fault is_above leads_below superclass extended is_class_number
fit_roles = refl

few_statics : (seed : ℕ) → option_to_list (statics_fault (alone seed)) ≡ []
unfolding place_in field_type kind_of
few_statics seed = refl

faultless : (seed : ℕ) → AllEmpty (conditions (alone seed) roles)
unfolding each_method method_bytes entry_table entries method_info methods described_bytes descriptor_bytes location_bytes types_in field_type
    names_interface header_in is_interface parent_of line_parent chain line_chain chain_over line_chain_over height package_of line_package public_of
    visible_of cell_count own_cells cells_of entry_at nearest_of visible_in dispatched is_concrete is_on_chain on_line_chain is_below no_package_fault
    class_references no_class_fault named_interface named_package fields_described instance_fields with_token cells_of_field cells_of_fields dispatch_entry
    interface_named named_class named_classes handler_named body_of class_described have_headers named_method named_methods class_at is_interface_number
    method_at met_by class_referred class_named type_of kind_of declared_signature superclass extended is_above is_class_number super_fault cycle_fault
    role_fault root_fault not_interface_fault hole_fault layout_above override_fault long_fault unserved_fault reach named_by dispatch_list overlaid_at
    public_table visible_table own_of home_run public_entries visible_entries instance_cells class_layout class_layout_from at_home record_from
    catches_throwable catch_fault referred field_place method_place class_member member_of member_fault abstract_fault
faultless seed = (
  refl,
  (
    refl,
    (
      refl,
      (
        refl,
        (
          refl,
          (
            refl,
            (
              subst (λ (cs : List NamedClass). at_fault (cycle_fault cs) (numbered cs) ≡ []) (sym (eight_named seed)) no_cycles,
              (
                subst (λ (cs : List NamedClass). at_fault (role_fault cs 8 1) (numbered roles) ≡ []) (sym (eight_named seed)) fit_roles,
                (refl, (refl, (refl, (refl, (refl, (refl, (few_statics seed, (refl, (refl, (refl, (refl, tt))))))))))),
              ),
            ),
          ),
        ),
      ),
    ),
  ),
)

-- the world of the package
abbrev pub world_of : ℕ → Linked
world_of seed = record {
  infos = infos_of (alone seed);
  pools = pools (alone seed) (table_of (alone seed) roles) (statics_of (alone seed) roles);
  classes = table_of (alone seed) roles;
  methods = methods_of (alone seed) roles;
  statics = statics_of (alone seed) roles;
  arrays = array_records (alone seed);
  indexes = indexes_of (alone seed) (methods_of (alone seed) roles);
}

pub packages_link : (seed : ℕ) → (w : Linked) × IsLinked (alone seed) roles w
packages_link seed = (
  world_of seed,
  record {
    faultless = faultless seed;
    lists = record { infos = refl; pools = refl; classes = refl; methods = refl; statics = refl; arrays = refl; indexes = refl };
  },
)

-- its methods
pub methods_are : (seed : ℕ) → named_methods (alone seed) roles ≡ map method_record (range_with_len 0 200)
unfolding each_method method_bytes entry_table entries method_info methods described_bytes descriptor_bytes types_in names_interface header_in
    handler_named body_of class_described have_headers named_method named_methods class_at is_interface_number referred class_referred class_named type_of
    declared_signature
methods_are seed = refl
