-- The methods of the last package of a world: by number they follow those of the libraries (JCVM 2.2, section 6.13).
use Rattle.std.specs.Prelude.{◌≡◌, ◌≤◌, ◌<◌, ℕ, suc, ◌+◌, List, [], ◌∷◌, length, Some, slice_get}
use Rattle.jc_base.specs.declared.record.MethodRec.{MethodRec}
use Rattle.jc_base.specs.World.{Linked}

-- the methods of the libraries have the numbers below this one, and those of the last package follow
pub record BeginsLast (w : Linked) (first : ℕ) : Type 0 where
  pub within : first ≤ length w.methods
  pub before : (n : ℕ) (r : MethodRec) → slice_get w.methods n ≡ Some r → n < first → r.package + 1 < length w.infos
  pub last : (n : ℕ) (r : MethodRec) → slice_get w.methods n ≡ Some r → first ≤ n → r.package + 1 ≡ length w.infos

abbrev pub HasLast : Linked → Type 0
HasLast w = (first : ℕ) × BeginsLast w first

-- each element with the number of its method, which is this for the first, is such
abbrev pub EachFrom : {A : Type 0} → (ℕ → A → Type 0) → ℕ → List A → Type 0
EachFrom Is n [] = Unit {0}
EachFrom Is n (x ∷ xs) = Is n x × EachFrom Is (suc n) xs
