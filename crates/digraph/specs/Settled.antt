-- The greatest sums of ways, as far as they are known.
use Rattle.std.specs.Prelude.{◌≡◌, ℕ, ◌+◌, ◌≤◌, ◌<◌, ◌⊎◌, Bool, true, false, List, [], ◌∷◌, length, Option, Some, None}
use Rattle.std.specs.Prelude.{Contains, slice_index_or, sum_by, IsSomeAnd}
use Rattle.digraph.specs.Way.{IsGreatest, Recurs}
use Rattle.digraph.specs.Graph.{next, Edge, weight_of}

abbrev pub known_at : List (Option ℕ) → ℕ → Option ℕ
known_at known v = slice_index_or known v None

abbrev pub one_if_none : Option ℕ → ℕ
one_if_none None = 1
one_if_none (Some b) = 0

-- how many are not known
abbrev pub unknown : List (Option ℕ) → ℕ
unknown known = sum_by one_if_none known

-- the weights of the vertices whose sums are known, together
abbrev pub settled : List (Option ℕ) → List ℕ → ℕ
settled [] ws = 0
settled (k ∷ ks) [] = 0
settled (None ∷ ks) (w ∷ ws) = settled ks ws
settled (Some b ∷ ks) (w ∷ ws) = w + settled ks ws

-- no vertex to which ways from this one lead comes again
abbrev pub NoneRecurs : List (List ℕ) → ℕ → Type 0
NoneRecurs g from = (v : ℕ) → ¬ (Recurs (Edge g) from v)

-- what is known is the greatest sum of a way from the vertex, and no way from it comes to a vertex again
pub record IsTable (g : List (List ℕ)) (weights : List ℕ) (known : List (Option ℕ)) : Type 0 where
  pub lengths : length known ≡ length g
  pub greatest : (v b : ℕ) → known_at known v ≡ Some b → IsGreatest (Edge g) (weight_of weights) v b
  pub bounded : (v b : ℕ) → known_at known v ≡ Some b → b ≤ settled known weights
  pub ends : (v b : ℕ) → known_at known v ≡ Some b → NoneRecurs g v

-- an edge goes to a vertex whose sum is not known
pub record HasUnknown (known : List (Option ℕ)) (vs : List ℕ) : Type 0 where
  pub to : ℕ
  pub among : Contains vs to
  pub is_unknown : known_at known to ≡ None

-- a vertex whose sum is not known waits for another
abbrev pub IsStuck : List (List ℕ) → List (Option ℕ) → ℕ → Type 0
IsStuck g known v = known_at known v ≡ None → HasUnknown known (next g v)

-- the greatest of the numbers known of these vertices, each of which has one; 0 where there is no vertex
pub record IsMostOf (known : List (Option ℕ)) (vs : List ℕ) (best : ℕ) : Type 0 where
  pub each : (v : ℕ) → Contains vs v → IsSomeAnd (known_at known v) (λ b. b ≤ best)
  pub some : (best ≡ 0) ⊎ ((v : ℕ) × (Contains vs v × (known_at known v ≡ Some best)))

-- more is known than before; or nothing is, and each of the vertices is stuck
abbrev pub Settles : List (List ℕ) → List (Option ℕ) → List (Option ℕ) → (ℕ → Type 0) → Bool → Type 0
Settles g old new IsOne true = unknown new < unknown old
Settles g old new IsOne false = (new ≡ old) × ((v : ℕ) → IsOne v → IsStuck g old v)

-- the greatest sum from a vertex from which no way comes to a vertex again; none, and a vertex that comes again
abbrev pub IsSumFrom : List (List ℕ) → List ℕ → ℕ → Option ℕ → Type 0
IsSumFrom g weights from None = (v : ℕ) × Recurs (Edge g) from v
IsSumFrom g weights from (Some b) = IsGreatest (Edge g) (weight_of weights) from b × NoneRecurs g from
