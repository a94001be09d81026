-- The case of a switch that has a key.
use Rattle.std.specs.Prelude.{◌≡◌, ℕ, ℤ, ◌+◌, ◌<◌, ◌<ℤ◌, ◌⊎◌, ◌==◌, Bool, List, Option, Some, None}
use Rattle.std.specs.Int.{cast_unsigned, w32}
use Rattle.jc_decode.specs.declared.insn.Case.{Case}
use Rattle.jc_decode.specs.declared.layout.Operand.{Operand}
use Rattle.jc_decode.specs.Decoding.{key_at}

-- the case of a key: two ints are equal where their 32 bits are
abbrev pub has_key : ℤ → Case → Bool
has_key key c = cast_unsigned w32 c.key == cast_unsigned w32 key

-- each key of a table of so many pairs is above the one before it
abbrev pub PairsRise : Operand → List ℕ → ℕ → ℕ → Type 0
PairsRise form xs table count = (n : ℕ) → n + 1 < count → key_at form xs table n <ℤ key_at form xs table (n + 1)

-- the pair of this number has the key, or each has a lesser or a greater one
abbrev pub IsPlaceOfKey : Operand → List ℕ → ℕ → ℕ → ℤ → Option ℕ → Type 0
IsPlaceOfKey form xs table count key (Some n) = (n < count) × (key_at form xs table n ≡ key)
IsPlaceOfKey form xs table count key None = (n : ℕ) → n < count → (key_at form xs table n <ℤ key) ⊎ (key <ℤ key_at form xs table n)
