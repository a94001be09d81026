-- `BUDGET ENTRY DIR+ [-- ARG*]`, the operands of the commands that run a method of the packages in folders.
use Rattle.std.specs.Prelude.{◌≡◌, ℕ, List, ◌∷◌, codes, map}
use Rattle.std.specs.List.{before_first, after_first}
use Rattle.std.specs.Str.{bytes_eq}
use Rattle.cap_files.specs.WordsLeft.{words_left}
use Rattle.vm_step.specs.Arguments.{Argument}
use Rattle.cap_text.specs.declared.entry.Entry.{Entry}
use Rattle.cap_text.specs.declared.run.Run.{Run}
use Rattle.cap_text.specs.Entry.{IsEntryWord}
use Rattle.cap_text.specs.Word.{AreFolderWords, IsNumberWord, AreArgWords, argument_read}

-- the most steps, the entry, the folders' words in order, and the arguments
pub record RunRequest : Type 0 where
  pub budget : ℕ
  pub entry : Entry
  pub dirs : List (List ℕ)
  pub args : List Argument

-- the words before the first `--`, or all of them, name these folders, and those after it write these arguments
pub record NamesAndHands (words dirs : List (List ℕ)) (args : List Argument) : Type 0 where
  pub folders : dirs ≡ before_first (λ word. bytes_eq word (codes "--")) words
  pub named : AreFolderWords dirs
  pub arguments : AreArgWords (after_first (λ word. bytes_eq word (codes "--")) words) args

-- the words after the command's name ask for this
abbrev pub AreRunWords : List (List ℕ) → RunRequest → Type 0
AreRunWords (budget ∷ entry ∷ words) r = IsNumberWord budget r.budget × IsEntryWord entry r.entry × NamesAndHands words r.dirs r.args
AreRunWords _ r = ⊥

-- what a command that was read asks for
abbrev pub run_request : Run → RunRequest
run_request r = record { budget = r.budget; entry = r.entry; dirs = words_left r.dirs; args = map argument_read r.args.items }
