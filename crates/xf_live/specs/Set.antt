-- Sets of registers, a bit for each.
use Rattle.std.specs.Prelude.{◌≡◌, ◌↔◌, ◌⊎◌, ℕ, zero, suc, ◌+◌, ◌/◌, ◌%◌, ◌^◌, ◌<◌}
use Rattle.std.specs.Int.{bit_at}
use Rattle.xf_live.specs.declared.set.RegisterSet.{RegisterSet}

-- the word that has the register's bit; there is no register from 256 on
abbrev pub word : RegisterSet → ℕ → ℕ
word s zero = s.first
word s (suc zero) = s.second
word s (suc (suc zero)) = s.third
word s (suc (suc (suc zero))) = s.fourth
word s (suc (suc (suc (suc n)))) = 0

-- the register is in the set
pub record Has (s : RegisterSet) (x : ℕ) : Type 0 where
  pub bit : bit_at (word s (x / 64)) (x % 64) ≡ 1

abbrev pub no_registers : RegisterSet
no_registers = record { first = 0; second = 0; third = 0; fourth = 0 }

abbrev pub IsEmpty : RegisterSet → Type 0
IsEmpty s = (x : ℕ) → ¬ (Has s x)

abbrev pub IsWith : RegisterSet → ℕ → RegisterSet → Type 0
IsWith s register t = (x : ℕ) → Has t x ↔ Has s x ⊎ (x ≡ register)

abbrev pub IsUnion : RegisterSet → RegisterSet → RegisterSet → Type 0
IsUnion s t u = (x : ℕ) → Has u x ↔ Has s x ⊎ Has t x

abbrev pub IsMinus : RegisterSet → RegisterSet → RegisterSet → Type 0
IsMinus s t u = (x : ℕ) → Has u x ↔ Has s x × ¬ (Has t x)

-- its words as numbers, which rise where a register is put into it
abbrev pub weight : RegisterSet → ℕ
weight s = s.first + s.second + s.third + s.fourth

-- its words have 64 bits
pub record IsSmall (s : RegisterSet) : Type 0 where
  pub first : s.first < 2 ^ 64
  pub second : s.second < 2 ^ 64
  pub third : s.third < 2 ^ 64
  pub fourth : s.fourth < 2 ^ 64
