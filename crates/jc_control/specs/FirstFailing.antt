-- The first element of a list of which a fact doesn't hold.
use Rattle.std.specs.Prelude.{◌≡◌, ℕ, List, take, All, Some, slice_get}

-- the fact holds of the elements before the n-th, which is x, and not of x
pub record IsFirstFailing {A : Type 0} (P : A → Type 0) (xs : List A) (n : ℕ) (x : A) : Type 0 where
  pub here : slice_get xs n ≡ Some x
  pub fails : ¬ P x
  pub before : All P (take n xs)
