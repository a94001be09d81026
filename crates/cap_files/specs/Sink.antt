-- What a sink has received after a put, and an output taken.
use Rattle.std.specs.Prelude.{◌≡◌, ℕ, ◌≤◌, List, [], ◌++◌, length, take, Option, IfSome, IsSomeAnd, Result, Ok, Err}
use Rattle.cap_files.specs.declared.sink.SinkFailed.{SinkFailed}

-- the bytes were taken after those that were there. A device may cease to tell what it took, and never begins to
abbrev pub TakesWhole : Option (List ℕ) → List ℕ → Option (List ℕ) → Type 0
TakesWhole before bytes after = IfSome after (λ now. IsSomeAnd before (λ text. now ≡ text ++ bytes))

-- some of the bytes were taken, the first ones, and none only where there are none; or after a failure none
abbrev pub TakesSome : Option (List ℕ) → List ℕ → Option (List ℕ) → Result ℕ SinkFailed → Type 0
TakesSome before bytes after (Ok count) =
    (count ≤ length bytes) × (count ≡ 0 → length bytes ≡ 0) × TakesWhole before (take count bytes) after
TakesSome before bytes after (Err _) = TakesWhole before [] after

-- what was received after a put, by its answer: the piece after what was there, and after a failure the first bytes of the piece. A
-- device may cease to tell what it received, and never begins to
abbrev pub Puts : Option (List ℕ) → List ℕ → Option (List ℕ) → Result (Unit {0}) SinkFailed → Type 0
Puts before piece after (Ok _) = IfSome after (λ now. IsSomeAnd before (λ text. now ≡ text ++ piece))
Puts before piece after (Err _) = IfSome after (λ now. IsSomeAnd before (λ text. (n : ℕ) × (now ≡ text ++ take n piece)))
