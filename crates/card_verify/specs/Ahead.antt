-- The places ahead of a walk at which it must look whether control comes from elsewhere.
use Rattle.std.specs.Prelude.{ℕ, ◌<◌, ◌≤◌, ℤ, pos, negsuc, Bool, true, ◌&&◌, nat_lt, nat_le, if◌then◌else◌, Option}
use Rattle.std.specs.Prelude.{Some, None}
use Rattle.jc_control.specs.Method.{Method}
use Rattle.card_typing.specs.Place.{IsEntry}
use Rattle.card_verify.specs.declared.ahead.Ahead.{Ahead}

-- the least member of a set from a number on, where there is one
abbrev pub IsLeastFrom : (ℕ → Type 0) → ℕ → Option ℕ → Type 0
IsLeastFrom S from None = (q : ℕ) → S q → q < from
IsLeastFrom S from (Some least) = S least × (from ≤ least) × ((q : ℕ) → S q → from ≤ q → least ≤ q)

-- no marked place from a place on lies before another
abbrev pub IsClear : (ℕ → Type 0) → ℕ → ℕ → Type 0
IsClear marked from clear = (q : ℕ) → marked q → from ≤ q → clear ≤ q

-- what is known of the places from one on
pub record IsKnownAhead (m : Method) (marked : ℕ → Type 0) (a : Ahead) : Type 0 where
  pub entry : IsLeastFrom (IsEntry m) a.from a.entry
  pub clear : IsClear marked a.from a.clear

-- with so many cells left on the stack it is known whether the first of them is marked
abbrev pub IsMarkKnown : (ℕ → Type 0) → Ahead → ℕ → Type 0
IsMarkKnown marked a left = 0 < left → a.clear ≤ a.from → marked a.from

-- ---- as it is computed

abbrev pub is_nearer : ℕ → Option ℕ → Bool
is_nearer place None = true
is_nearer place (Some best) = nat_lt place best

-- the nearer of the best place so far and another, if that is not before the first
abbrev pub nearer : ℕ → Option ℕ → ℕ → Option ℕ
nearer from best place = if nat_le from place && is_nearer place best then Some place else best

-- a target that lies before the code never is
abbrev pub nearer_target : ℕ → Option ℕ → ℤ → Option ℕ
nearer_target from best (pos place) = nearer from best place
nearer_target from best (negsuc n) = best
