-- The methods of each class, in the order of their numbers.
use Rattle.std.specs.Prelude.{◌≡◌, ℕ, ◌==◌, ◌++◌, List, [], ◌∷◌, length, filter, Some, IfSome, slice_get, slice_set}
use Rattle.jc_base.specs.declared.record.MethodRec.{MethodRec}

-- the methods of a class
abbrev pub methods_of : List MethodRec → ℕ → List MethodRec
methods_of methods d = filter (λ (m : MethodRec). m.class == d) methods

-- lists of the methods of the classes below a number
pub record AreGroups (n : ℕ) (methods : List MethodRec) (groups : List (List MethodRec)) : Type 0 where
  pub count : length groups ≡ n
  pub each : (d : ℕ) → IfSome (slice_get groups d) (λ g. g ≡ methods_of methods d)

-- one more method, after the others of its class
pub record IsMethodAdded (m : MethodRec) (old new : List (List MethodRec)) : Type 0 where
  pub before : List MethodRec
  pub found : slice_get old m.class ≡ Some before
  pub set_is : new ≡ slice_set old m.class (before ++ (m ∷ []))
