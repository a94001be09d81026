-- What reading bytes by a grammar answers: the value and the place after its items, or the fault of
-- the first item that breaks it.
use Rattle.std.specs.Prelude.{ℕ, ◌+◌, ◌-◌, List, length, take, drop, Option, Some, None, Result, Ok, Err, Bool, true, false}
use Rattle.std.specs.Prelude.{nat_le, if◌then◌else◌}
use Rattle.cap_bytes.specs.declared.fault.FormFault.{FormFault}
use Rattle.cap_bytes.specs.declared.fault.FormKind.{FormKind}
use Rattle.cap_bytes.specs.declared.fault.FormKind.TheVariants.{Trailing}
use Rattle.cap_bytes.specs.Number.{number_at}
use Rattle.cap_bytes.specs.Grammar.{Grammar, give, number, piece, remaining, place, finish, ◌>>=◌}
use Rattle.cap_bytes.specs.Spelling.{Origin, fault_at, cut}

-- a value with the place after it, or a fault
abbrev pub Reading : Type 0 → Type 0
Reading X = Result (X × ℕ) FormFault

abbrev pub and_then : {X Y : Type 0} → Reading X → (X → ℕ → Reading Y) → Reading Y
and_then (Ok x) next = next x.0 x.1
and_then (Err e) next = Err e

abbrev pub tested : Origin → ℕ → Option FormKind → ℕ → ℕ → Reading ℕ
tested from at None n after = Ok (n, after)
tested from at (Some kind) n after = Err (fault_at from at kind)

abbrev pub number_read : Origin → (ℕ → Option FormKind) → List ℕ → ℕ → ℕ → Option ℕ → Reading ℕ
number_read from wrong bytes at after None = Err (cut from bytes)
number_read from wrong bytes at after (Some n) = tested from at (wrong n) n after

abbrev pub piece_read : Origin → List ℕ → ℕ → ℕ → Reading (List ℕ)
piece_read from bytes at n = if nat_le (at + n) (length bytes) then Ok (take n (drop at bytes), at + n) else Err (cut from bytes)

abbrev pub finish_read : Origin → List ℕ → ℕ → Reading (Unit {0})
finish_read from bytes at = if nat_le (length bytes) at then Ok (tt {0}, at) else Err (fault_at from at Trailing)

abbrev pub read : {X : Type 0} → Origin → Grammar X → List ℕ → ℕ → Reading X
read from (give y) bytes at = Ok (y, at)
read from (number w wrong) bytes at = number_read from wrong bytes at (at + w) (number_at w at bytes)
read from (piece n) bytes at = piece_read from bytes at n
read from remaining bytes at = Ok (length bytes - at, at)
read from place bytes at = Ok (at, at)
read from finish bytes at = finish_read from bytes at
read from (g >>= next) bytes at = and_then (read from g bytes at) (λ x middle. read from (next x) bytes middle)

abbrev pub is_read : {X : Type 0} → Reading X → Bool
is_read (Ok x) = true
is_read (Err fault) = false

-- a reading's value, or another where there is none
abbrev pub value_or : {X : Type 0} → X → Reading X → X
value_or otherwise (Ok x) = x.0
value_or otherwise (Err fault) = otherwise

-- a reading without its place
abbrev pub outcome : {X : Type 0} → Reading X → Result X FormFault
outcome (Ok x) = Ok x.0
outcome (Err fault) = Err fault

-- what reading the bytes from the first on answers
unfoldable pub reading : {X : Type 0} → Origin → Grammar X → List ℕ → Result X FormFault
reading from g bytes = outcome (read from g bytes 0)
