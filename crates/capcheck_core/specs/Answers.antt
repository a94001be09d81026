-- What each command may answer, and what it leaves as it was.
use Rattle.std.specs.Prelude.{◌≡◌, ℕ, List}
use Rattle.cap_text.specs.Request.{Request, probe, show, list, asm, check, verify, defend, run, transform}
use Rattle.cap_text.specs.Request.{share, trial, generate, bound, pack, install, IsRequest, IsUsage}
use Rattle.capcheck_core.specs.declared.verdict.Verdict.{Verdict}
use Rattle.capcheck_core.specs.declared.verdict.Verdict.TheVariants.{Usage, Memory}
use Rattle.capcheck_core.specs.Outside.{Outside, Untouched}
use Rattle.capcheck_core.specs.Probe.{Probes}
use Rattle.capcheck_core.specs.Show.{Shows}
use Rattle.capcheck_core.specs.Listed.{ListsPackage}
use Rattle.capcheck_core.specs.Assemble.{Assembles}
use Rattle.capcheck_core.specs.Check.{Checks}
use Rattle.capcheck_core.specs.Verify.{Verifies}
use Rattle.capcheck_core.specs.Defend.{Defends}
use Rattle.capcheck_core.specs.Run.{RunsVerified}
use Rattle.capcheck_core.specs.Transform.{Transforms}
use Rattle.capcheck_core.specs.Share.{Shares}
use Rattle.capcheck_core.specs.Trial.{Tries}
use Rattle.capcheck_core.specs.Generate.{Generates}
use Rattle.capcheck_core.specs.Bounding.{Bounds}
use Rattle.capcheck_core.specs.Pack.{Packs}
use Rattle.capcheck_core.specs.Install.{Installs}

-- the verdicts of each command, and what it makes of the outside
abbrev pub Answers : Request → Outside → Outside → Verdict → Type 0
Answers (probe p) before after verdict = Probes p before.folders after.folders verdict × (after.card ≡ before.card)
Answers (show dir) before after verdict = Shows dir before.folders after.folders verdict × (after.card ≡ before.card)
Answers (list dir) before after verdict = ListsPackage dir before.folders after.folders verdict × (after.card ≡ before.card)
Answers (asm o) before after verdict = Assembles o before.folders after.folders verdict × (after.card ≡ before.card)
Answers (check dirs) before after verdict = Checks dirs before after verdict
Answers (verify dirs) before after verdict = Verifies dirs before after verdict
Answers (defend r) before after verdict = Defends r before after verdict
Answers (run r) before after verdict = RunsVerified r before after verdict
Answers (transform t) before after verdict = Transforms t before after verdict
Answers (share o) before after verdict = Shares o before after verdict
Answers (trial r) before after verdict = Tries r before after verdict
Answers (generate g) before after verdict = Generates g before after verdict
Answers (bound e) before after verdict = Bounds e before after verdict
Answers (pack o) before after verdict = Packs o before.folders after.folders verdict × (after.card ≡ before.card)
Answers (install dirs) before after verdict = Installs dirs before after verdict

-- the verdicts where the words ask for nothing
abbrev pub SaysUsage : Verdict → Type 0
SaysUsage Usage = Unit {0}
SaysUsage Memory = Unit {0}
SaysUsage _ = ⊥

-- the verdict is one that what the words ask for may have; where they ask for nothing it is Usage, and nothing is loaded; and where there
-- was no memory to read them, nothing is loaded either
pub record IsVerdict (words : List (List ℕ)) (before after : Outside) (verdict : Verdict) : Type 0 where
  pub command : (r : Request) → IsRequest words r → Answers r before after verdict
  pub usage : IsUsage words → SaysUsage verdict × Untouched before after
