-- Ways over a relation between numbers: lists in which each number is related to the next; their sums; and numbers that come again.
use Rattle.std.specs.Prelude.{◌≡◌, ℕ, ◌+◌, ◌<◌, ◌≤◌, ◌⊎◌, List, [], ◌∷◌}

-- from a number to another, by one step or by more
pub data Leads (R : ℕ → ℕ → Type 0) : ℕ → ℕ → Type 0 where
  by_step : {a b : ℕ} → R a b → Leads R a b
  by_more : {a b c : ℕ} → R a b → Leads R b c → Leads R a c

-- a way from a number: that number alone, or before a way from one to which it is related
pub data Way (R : ℕ → ℕ → Type 0) : ℕ → List ℕ → Type 0 where
  way_ends : {v : ℕ} → Way R v (v ∷ [])
  way_goes : {v w : ℕ} {vs : List ℕ} → R v w → Way R w vs → Way R v (v ∷ vs)

-- what the numbers of a list measure together
abbrev pub total : (ℕ → ℕ) → List ℕ → ℕ
total measure [] = 0
total measure (v ∷ vs) = measure v + total measure vs

-- some way from the number measures so much, and none measures more
pub record IsGreatest (R : ℕ → ℕ → Type 0) (measure : ℕ → ℕ) (from most : ℕ) : Type 0 where
  pub way : List ℕ
  pub is_way : Way R from way
  pub measures : total measure way ≡ most
  pub none_more : (vs : List ℕ) → Way R from vs → total measure vs ≤ most

-- the number is the first one or is led to by it, and leads to itself
pub record Recurs (R : ℕ → ℕ → Type 0) (from v : ℕ) : Type 0 where
  pub there : (from ≡ v) ⊎ Leads R from v
  pub again : Leads R v v

-- the least number that recurs, below a bound
pub record IsLeastRecurring (R : ℕ → ℕ → Type 0) (from bound v : ℕ) : Type 0 where
  pub below : v < bound
  pub recurs : Recurs R from v
  pub least : (u : ℕ) → u < v → ¬ (Recurs R from u)

abbrev pub IsAmong : ℕ → List ℕ → Type 0
IsAmong v [] = ⊥
IsAmong v (w ∷ ws) = (w ≡ v) ⊎ IsAmong v ws

-- the number stands in two places of a list
abbrev pub StandsTwice : ℕ → List ℕ → Type 0
StandsTwice v [] = ⊥
StandsTwice v (w ∷ ws) = ((w ≡ v) × IsAmong v ws) ⊎ StandsTwice v ws

-- it does in some way from the number
pub record StandsTwiceInWay (R : ℕ → ℕ → Type 0) (from v : ℕ) : Type 0 where
  pub way : List ℕ
  pub is_way : Way R from way
  pub twice : StandsTwice v way
