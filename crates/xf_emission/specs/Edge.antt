-- The copies of an edge: before control goes to a place, each local has to stand in all homes that are needed there.
use Rattle.std.specs.Prelude.{ℕ, zero, suc, ◌+◌, ◌||◌, ◌==◌, Bool, false, if◌then◌else◌, List, [], ◌∷◌, ◌++◌}
use Rattle.std.specs.Prelude.{flat_map, Option, Some, None}
use Rattle.jc_ops.specs.declared.operation.Operation.{Operation}
use Rattle.jc_ops.specs.declared.operation.Operation.TheVariants.{Store}
use Rattle.jc_ops.specs.declared.operation.Sort.TheVariants.{Int}
use Rattle.jc_decode.specs.declared.symbols.Item.{Item}
use Rattle.xf_homes.specs.declared.home.Home.{Home}
use Rattle.xf_homes.specs.Value.{value_in_cells}
use Rattle.xf_homes.specs.Home.{register_count, argument_types}
use Rattle.xf_homes.specs.Walk.{has, same_home}
use Rattle.xf_homes.specs.Source.{Source}
use Rattle.xf_homes.specs.Plan.{home_of, local, needed}
use Rattle.xf_emission.specs.declared.origin.Origin.{Origin}
use Rattle.xf_emission.specs.declared.origin.Origin.TheVariants.{Start, After, Entry}
use Rattle.xf_emission.specs.Move.{copy}

-- whether the operation stores into local x
abbrev pub is_stored : Operation → ℕ → Bool
is_stored (Store Int y) x = x == y || x == y + 1
is_stored (Store _ y) x = x == y
is_stored op x = false

-- the home from which a local is copied: of its declared type at the method's start, and else of its type where the edge begins; a local
-- that the instruction there stores is in its homes already
abbrev pub home_before : Source → Origin → ℕ → Option Home
home_before s Start x = home_of x (value_in_cells (argument_types s.method.rec) x)
home_before s (After p op) x = if is_stored op x then None else local s p x
home_before s (Entry p) x = local s p x

-- the homes in which the local stands already: those that are needed where the edge begins, or the one from which it is copied
abbrev pub homes_held : Source → Origin → ℕ → Home → List Home
homes_held s (After p op) x from = needed s p x
homes_held s o x from = from ∷ []

-- a copy to a home in which the value does not stand yet
abbrev pub copy_new : Source → Home → List Home → Home → List Item
copy_new s from there to = if has there to then [] else copy s from to

abbrev pub copies_from : Source → Origin → ℕ → ℕ → Option Home → List Item
copies_from s o q x None = []
copies_from s o q x (Some from) = flat_map (copy_new s from (homes_held s o x from)) (needed s q x)

-- the copies of local x, on an edge that leads to the place q
unfoldable pub local_copies : Source → Origin → ℕ → ℕ → List Item
local_copies s o q x = copies_from s o q x (home_before s o x)

-- of so many locals from x on
abbrev pub locals_copies : Source → Origin → ℕ → ℕ → ℕ → List Item
locals_copies s o q x zero = []
locals_copies s o q x (suc n) = local_copies s o q x ++ locals_copies s o q (suc x) n

-- the copies of all locals, in their order
unfoldable pub copies : Source → Origin → ℕ → List Item
copies s o q = locals_copies s o q 0 (register_count s.method.rec)

-- the copies of cells of the stack that stand in homes of other types than they have to: those from below, of as many as there are on both
-- sides
abbrev pub cell_copies : Source → List Home → List Home → List Item
cell_copies s [] ks = []
cell_copies s (h ∷ hs) [] = []
cell_copies s (h ∷ hs) (k ∷ ks) = (if same_home h k then [] else copy s h k) ++ cell_copies s hs ks
