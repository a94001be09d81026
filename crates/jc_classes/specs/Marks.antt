-- How far a climb has come: which numbers are marked, and which of these are still to be climbed from.
use Rattle.std.specs.Prelude.{ℕ, Bool, true, false, if◌then◌else◌, List, [], ◌∷◌, ◌++◌, Option, Some, fold, slice_get}
use Rattle.std.specs.Prelude.{slice_set, slice_index_or}
use Rattle.std.specs.List.{list_all}
use Rattle.std.specs.Option.{option_to_list}
use Rattle.jc_resolve.specs.declared.naming.NamedClass.{NamedClass}

pub record MarkedNumbers : Type 0 where
  pub marked : List Bool
  pub pending : List ℕ

-- with one more number marked, where it is told of the number whether it is marked
abbrev pub mark_by : MarkedNumbers → ℕ → Option Bool → MarkedNumbers
mark_by s c (Some false) = record { marked = slice_set s.marked c true; pending = s.pending ++ c ∷ [] }
mark_by s c _ = s

-- with one more number of the list marked, and pending if it was not marked before
abbrev pub mark : MarkedNumbers → ℕ → MarkedNumbers
mark s c = mark_by s c (slice_get s.marked c)

abbrev pub mark_all : MarkedNumbers → List ℕ → MarkedNumbers
mark_all = fold mark

-- whether all that a record names directly above it is settled, where it is told of each number whether that is
abbrev pub rests_on : List Bool → NamedClass → Bool
rests_on settled r = if r.interface then list_all (λ i. slice_index_or settled i.class false) r.interfaces
    else list_all (λ p. slice_index_or settled p false) (option_to_list r.parent)
