use Rattle.std.proofs.Common.{◌≡◌, ◌+◌, ◌*◌, ◌≤◌, length}
use Rattle.std.specs.Option.{option_map}
use Rattle.cap_desc.specs.TypeLists.{types_left}
use Rattle.cap_components.specs.Descriptions.{words_before, words_in}
use Rattle.cap_components.proofs.description.words_in.Given as goal

abbrev pub invariant-types : goal.invariant-types
invariant-types l =
    (option_map (λ n. l.words + n) (words_before l.last (types_left l.rest)) ≡ words_in (types_left l.fn.types))
    × (l.words + 2 * length (types_left l.rest) ≤ 510)

abbrev pub decreases-types : goal.decreases-types
decreases-types l = length (types_left l.rest)
