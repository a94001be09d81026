-- What a load hands over of a part whose bytes are known.
use Rattle.std.specs.Prelude.{◌≡◌, ℕ, ◌≤◌, Bool, true, false, List, [], length, take, Option, Some, None, IsSomeAnd, Result}
use Rattle.std.specs.Prelude.{Ok, Err}
use Rattle.cap_files.specs.declared.folder.LoadEnd.{LoadEnd}
use Rattle.cap_files.specs.declared.folder.LoadEnd.TheVariants.{Failed, TooLong, Memory}

-- what is in `to` after each answer, for a part that is there or is not
abbrev pub IsHanded : Option (List ℕ) → List ℕ → Result Bool LoadEnd → Type 0
IsHanded there to (Ok true) = (length to ≤ 65538) × (there ≡ Some to)
IsHanded there to (Ok false) = (to ≡ []) × (there ≡ None)
IsHanded there to (Err TooLong) = (length to ≡ 65539) × IsSomeAnd there (λ bytes. to ≡ take (length to) bytes)
IsHanded there to (Err Failed) = ⊥
IsHanded there to (Err Memory) = to ≡ []
