-- Where control comes next, by place.
use Rattle.std.specs.Prelude.{◌≡◌, ℕ, ◌≤◌, ◌<◌, List, length, Some, slice_get}
use Rattle.xf_homes.specs.Source.{Source}
use Rattle.xf_homes.specs.Plan.{first_reached}

-- from a place on, the first that control reaches from each, or the end of the code
pub record AreNextFrom (s : Source) (next : List ℕ) (place : ℕ) : Type 0 where
  pub size : length next ≡ length s.method.code
  pub each : (p : ℕ) → place ≤ p → p < length s.method.code → slice_get next p ≡ Some (first_reached s p)

-- from the beginning of the code on
abbrev pub AreNextReached : Source → List ℕ → Type 0
AreNextReached s next = AreNextFrom s next 0
