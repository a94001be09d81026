-- Counts of faults. A device counts its failures in 64 bits, and a count stands still at the end of its type.
use Rattle.std.specs.Prelude.{◌≡◌, ℕ, ◌+◌, ◌-◌, ◌^◌, ◌≤◌, min, Result, Ok, Err}

-- one more, where a count of 64 bits stands still at its end
abbrev pub one_more : ℕ → ℕ
one_more n = min (n + 1) (2 ^ 64 - 1)

-- a count rose: it is greater than before, or it stands at the greatest number of 64 bits
abbrev pub Rose : ℕ → ℕ → Type 0
Rose before now = one_more before ≤ now

-- a call raised the count where it failed, and else left it
abbrev pub CountsFault : {A E : Type 0} → ℕ → ℕ → Result A E → Type 0
CountsFault before now (Ok x) = now ≡ before
CountsFault before now (Err e) = (before ≤ now) × Rose before now
