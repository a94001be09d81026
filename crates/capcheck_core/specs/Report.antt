-- How a verdict is reported: its status and its whole text, or status 8 and a prefix of the text.
use Rattle.std.specs.Prelude.{◌≡◌, ℕ, List, ◌++◌, take, Option, IfSome, IsSomeAnd, ◌⊎◌}
use Rattle.cap_files.specs.Counts.{Rose}
use Rattle.capcheck_core.specs.Verdict.{status_of, text_of}
use Rattle.capcheck_core.specs.declared.verdict.Verdict.{Verdict}

-- a sink as it is seen from outside: what it received, where it tells that, and how often a put failed
pub record Seen : Type 0 where
  pub received : Option (List ℕ)
  pub faults : ℕ

abbrev pub seen : Option (List ℕ) → ℕ → Seen
seen received faults = record { received = received; faults = faults }

-- the sink received these bytes more, where it tells
abbrev pub Received : Seen → Seen → List ℕ → Type 0
Received before after bytes = IfSome after.received (λ now. IsSomeAnd before.received (λ text. now ≡ text ++ bytes))

-- the whole text was received, and the status is the verdict's
pub record IsWhole (verdict : Verdict) (before after : Seen) (status : ℕ) : Type 0 where
  pub says : status ≡ status_of verdict
  pub whole : Received before after (text_of verdict)

-- the put failed, and a prefix of the text was received
pub record IsCutShort (verdict : Verdict) (before after : Seen) (status : ℕ) : Type 0 where
  pub says : status ≡ 8
  pub risen : Rose before.faults after.faults
  pub prefix : IfSome after.received (λ now. IsSomeAnd before.received (λ text. (n : ℕ) × (now ≡ text ++ take n (text_of verdict))))

abbrev pub IsReported : Verdict → Seen → Seen → ℕ → Type 0
IsReported verdict before after status = IsWhole verdict before after status ⊎ IsCutShort verdict before after status
