-- The grammar of the commands: what a list of words asks for.
use Rattle.std.specs.Prelude.{◌≡◌, ℕ, List, [], ◌∷◌, Bool, true, false, codes}
use Rattle.cap_files.specs.WordsLeft.{words_left}
use Rattle.cap_text.specs.Probe.{ProbeRequest, IsProbe, probe_request}
use Rattle.cap_text.specs.OfDir.{IsOfDir}
use Rattle.cap_text.specs.OutOfDir.{OutOfDirRequest, IsOutOfDir, out_of_dir_request}
use Rattle.cap_text.specs.OfDirs.{IsOfDirs}
use Rattle.cap_text.specs.Run.{RunRequest, AreRunWords, run_request}
use Rattle.cap_text.specs.OutOfDirs.{OutOfDirsRequest, IsOutOfDirs, out_of_dirs_request}
use Rattle.cap_text.specs.EntryWords.{EntryRequest, AreEntryWords, entry_request}
use Rattle.cap_text.specs.Generate.{GenerateRequest, IsGenerate, generate_request}
use Rattle.cap_text.specs.declared.command.Command.{Command}
use Rattle.cap_text.specs.declared.command.Command.TheVariants.{Probe, Show, Asm, Check, Verify, Defend, Run, Transform}
use Rattle.cap_text.specs.declared.command.Command.TheVariants.{Share, Trial, Generate, Bound, Pack, Install}
use Rattle.cap_text.specs.declared.command.Command.TheVariants as commands

-- a command with its operands
pub data Request : Type 0 where
  probe : ProbeRequest → Request
  show : List ℕ → Request
  list : List ℕ → Request
  asm : OutOfDirRequest → Request
  check : List (List ℕ) → Request
  verify : List (List ℕ) → Request
  defend : RunRequest → Request
  run : RunRequest → Request
  transform : OutOfDirsRequest → Request
  share : OutOfDirsRequest → Request
  trial : RunRequest → Request
  generate : GenerateRequest → Request
  bound : EntryRequest → Request
  pack : OutOfDirRequest → Request
  install : List (List ℕ) → Request

-- the words are the command's name and then operands of its grammar
abbrev pub IsRequest : List (List ℕ) → Request → Type 0
IsRequest [] r = ⊥
IsRequest (name ∷ operands) (probe p) = (name ≡ codes "probe") × IsProbe operands p
IsRequest (name ∷ operands) (show dir) = (name ≡ codes "show") × IsOfDir operands dir
IsRequest (name ∷ operands) (list dir) = (name ≡ codes "list") × IsOfDir operands dir
IsRequest (name ∷ operands) (asm o) = (name ≡ codes "asm") × IsOutOfDir operands o
IsRequest (name ∷ operands) (check dirs) = (name ≡ codes "check") × IsOfDirs operands dirs
IsRequest (name ∷ operands) (verify dirs) = (name ≡ codes "verify") × IsOfDirs operands dirs
IsRequest (name ∷ operands) (defend r) = (name ≡ codes "defend") × AreRunWords operands r
IsRequest (name ∷ operands) (run r) = (name ≡ codes "run") × AreRunWords operands r
IsRequest (name ∷ operands) (transform o) = (name ≡ codes "transform") × IsOutOfDirs operands o
IsRequest (name ∷ operands) (share o) = (name ≡ codes "share") × IsOutOfDirs operands o
IsRequest (name ∷ operands) (trial r) = (name ≡ codes "trial") × AreRunWords operands r
IsRequest (name ∷ operands) (generate g) = (name ≡ codes "gen") × IsGenerate operands g
IsRequest (name ∷ operands) (bound e) = (name ≡ codes "bound") × AreEntryWords operands e
IsRequest (name ∷ operands) (pack o) = (name ≡ codes "pack") × IsOutOfDir operands o
IsRequest (name ∷ operands) (install dirs) = (name ≡ codes "install") × IsOfDirs operands dirs

-- the words are outside the grammar
abbrev pub IsUsage : List (List ℕ) → Type 0
IsUsage words = (r : Request) → IsRequest words r → ⊥

-- whether it takes arguments of a method
abbrev pub takes_arguments : Request → Bool
takes_arguments (probe p) = true
takes_arguments (defend r) = true
takes_arguments (run r) = true
takes_arguments (trial r) = true
takes_arguments _ = false

-- the words ask for no command that takes such arguments, or for no other
abbrev pub NoneSuch : Bool → List (List ℕ) → Type 0
NoneSuch takes words = (r : Request) → takes_arguments r ≡ takes → IsRequest words r → ⊥

-- what a command that was read asks for
abbrev pub request_of : Command → Request
request_of (Probe p) = probe (probe_request p)
request_of (Show d) = show d.dir.now
request_of (commands.List d) = list d.dir.now
request_of (Asm o) = asm (out_of_dir_request o)
request_of (Check d) = check (words_left d.dirs)
request_of (Verify d) = verify (words_left d.dirs)
request_of (Defend r) = defend (run_request r)
request_of (Run r) = run (run_request r)
request_of (Transform o) = transform (out_of_dirs_request o)
request_of (Share o) = share (out_of_dirs_request o)
request_of (Trial r) = trial (run_request r)
request_of (Generate g) = generate (generate_request g)
request_of (Bound a) = bound (entry_request a)
request_of (Pack o) = pack (out_of_dir_request o)
request_of (Install d) = install (words_left d.dirs)

-- a list of words asks for one thing
abbrev pub OneRequest : List (List ℕ) → Type 0
OneRequest words = (r s : Request) → IsRequest words r → IsRequest words s → r ≡ s
