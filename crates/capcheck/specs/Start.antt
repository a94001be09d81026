-- What comes before a command: its words, the room for their paths, and why none begins; and the status with which it ends.
use Rattle.std.specs.Prelude.{ℕ, ◌^◌, ◌-◌, max, min, List, [], ◌∷◌, length}
use Rattle.std.specs.declared.io.ErrorKind.{ErrorKind}
use Rattle.std.specs.declared.io.ErrorKind.TheVariants.{OutOfMemory}
use Rattle.capcheck_core.specs.Answers.{IsVerdict}
use Rattle.capcheck_core.specs.Outside.{Outside}
use Rattle.capcheck_core.specs.Report.{IsReported, Seen}
use Rattle.capcheck_core.specs.declared.verdict.Verdict.{Verdict}
use Rattle.capcheck.specs.declared.NoStart.{NoStart}
use Rattle.capcheck.specs.declared.NoStart.TheVariants.{Memory, Words}

-- the exit status where no command begins
abbrev pub status_of_no_start : NoStart → ℕ
status_of_no_start Memory = 6
status_of_no_start Words = 9

-- why none begins where the words cannot be taken
abbrev pub start_by : ErrorKind → NoStart
start_by OutOfMemory = Memory
start_by _ = Words

-- a length as 32 bits count it, where it stands still at their end
abbrev pub in_32_bits : ℕ → ℕ
in_32_bits n = min n (2 ^ 32 - 1)

-- the length of the longest word, and no less than this
abbrev pub longest_from : ℕ → List (List ℕ) → ℕ
longest_from least [] = least
longest_from least (word ∷ words) = longest_from (max least (in_32_bits (length word))) words

-- the command that the words spell may end with this status: it does over some folders, the memory of some card and some output
pub record MayEndWith (words : List (List ℕ)) (status : ℕ) : Type 0 where
  pub before : Outside
  pub after : Outside
  pub verdict : Verdict
  pub answered : IsVerdict words before after verdict
  pub begun : Seen
  pub ended : Seen
  pub reported : IsReported verdict begun ended status
