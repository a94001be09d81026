-- The vertices over which the calls of a world are followed, and their numbers: the methods, and behind them what calls mean before the
-- machine chooses a method.
use Rattle.std.specs.Prelude.{◌≡◌, ℕ, ◌+◌, ◌-◌, ◌*◌, ◌≤◌, ◌<◌, ◌==◌, ◌&&◌, Bool, false, List, length, Some, slice_get, ⊤}
use Rattle.jc_base.specs.World.{Linked}
use Rattle.vm_bound.specs.declared.graph.Meaning.{Meaning}
use Rattle.vm_bound.specs.declared.graph.Meaning.TheVariants.{Described, Entries, Span}
use Rattle.vm_bound.specs.declared.graph.Vertex.{Vertex}
use Rattle.vm_bound.specs.declared.graph.Vertex.TheVariants.{Method, Means}

-- among these meanings a vertex has this number: a method its own, and a meaning that of its place, counted from the methods on
abbrev pub Stands : ℕ → List Meaning → Vertex → ℕ → Type 0
Stands methods meanings (Method n) u = (n < methods) × (u ≡ n)
Stands methods meanings (Means m) u = (methods ≤ u) × (slice_get meanings (u - methods) ≡ Some m)

-- meanings at their places, and more
abbrev pub Extends : List Meaning → List Meaning → Type 0
Extends old new = (k : ℕ) (m : Meaning) → slice_get old k ≡ Some m → slice_get new k ≡ Some m

-- a vertex that is a method is one of so many
abbrev pub IsFitBelow : ℕ → Vertex → Type 0
IsFitBelow methods (Method n) = n < methods
IsFitBelow methods (Means m) = ⊤

abbrev pub IsFit : Linked → Vertex → Type 0
IsFit w v = IsFitBelow (length w.methods) v

-- ---- meanings as keys of a table

abbrev pub same_meaning : Meaning → Meaning → Bool
same_meaning (Described m) (Described n) = m == n
same_meaning (Entries c token) (Entries d other) = c == d && token == other
same_meaning (Span x token) (Span y other) = x == y && token == other
same_meaning a b = false

-- a number by which meanings mostly differ
abbrev pub meaning_code : Meaning → ℕ
meaning_code (Described m) = m
meaning_code (Entries c token) = 16777216 + c * 256 + token
meaning_code (Span x token) = 33554432 + x * 256 + token
