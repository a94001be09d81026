use Rattle.std.proofs.Common.{◌≡◌, ◌∷◌, ◌++◌, flat_map}
use Rattle.cap_desc.specs.TypeLists.{types_left}
use Rattle.jc_resolve.specs.Conditions.{reference_of_type}
use Rattle.jc_resolve.specs.Homes.{object_at, least_at}
use Rattle.jc_resolve.specs.WorldTypes.{arguments_before, result_after, signature_in}
use Rattle.jc_resolve.proofs.world_types.signature_in.Given as goal

abbrev pub invariant-types : goal.invariant-types
invariant-types l =
    (signature_in l.home.index.now (object_at l.home) l.home.number (types_left l.fn.types)
    ≡ record {
      args = l.args.items ++ arguments_before l.home.index.now (object_at l.home) l.home.number l.last (types_left l.rest);
      result = result_after l.home.index.now (object_at l.home) l.home.number l.last (types_left l.rest);
    })
    × (least_at l.home l.least (flat_map reference_of_type (l.last ∷ types_left l.rest))
    ≡ least_at l.home l.initial.least (flat_map reference_of_type (types_left l.fn.types)))
