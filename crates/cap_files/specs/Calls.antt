-- Which calls to a device in memory fail.
use Rattle.std.specs.Prelude.{ℕ, ◌==◌, List, [], ◌∷◌, ◌++◌, Option, option_map, find}
use Rattle.cap_files.specs.declared.disk.Failure.{Failure}
use Rattle.cap_files.specs.CallCounts.{Counted}
use Rattle.cap_files.specs.Counts.{one_more}

-- no call was made, and none is to fail
abbrev pub no_calls : Counted
no_calls = record { made = 0; faults = 0; failures = [] }

-- one more call is to fail
abbrev pub with_failure : Counted → ℕ → ℕ → Counted
with_failure calls call keep = record calls { failures = calls.failures ++ record { call = call; keep = keep } ∷ [] }

-- how many bytes a call keeps that is to fail, by the first failure that is listed with its number
abbrev pub keep_at : ℕ → List Failure → Option ℕ
keep_at call failures = option_map (λ f. f.keep) (find (λ f. f.call == call) failures)

-- the same of the next call
abbrev pub next_keep : Counted → Option ℕ
next_keep calls = keep_at (one_more calls.made) calls.failures

-- the counts after a call, and after a failure
abbrev pub one_more_call : Counted → Counted
one_more_call calls = record calls { made = one_more calls.made }

abbrev pub faulted : Counted → Counted
faulted calls = record calls { faults = one_more calls.faults }
