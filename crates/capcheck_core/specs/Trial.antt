-- What `trial` may answer, by the packages and the roles in its folders, and what it leaves in the memory of the card
-- (Leroy 2002, sections 3 and 4).
use Rattle.std.specs.Prelude.{◌≡◌, ◌⊎◌, ℕ, ◌*◌, List, string_bytes}
use Rattle.cap_package.specs.PackageRecord.{PackageRecord}
use Rattle.cap_package.specs.Parts.{Lent}
use Rattle.jc_base.specs.World.{Linked}
use Rattle.xf_pack.specs.Transformed.{IsTransformed}
use Rattle.cap_text.specs.Run.{RunRequest}
use Rattle.cap_text.specs.Trial.{trial_text}
use Rattle.capcheck_core.specs.declared.verdict.Verdict.{Verdict}
use Rattle.capcheck_core.specs.declared.verdict.Verdict.TheVariants.{Done, Malformed, Memory}
use Rattle.capcheck_core.specs.Outside.{CardWords, Outside}
use Rattle.capcheck_core.specs.OverFolders.{OverFolders}
use Rattle.capcheck_core.specs.World.{Own, OverWorld}
use Rattle.capcheck_core.specs.Defend.{IsDefended, IsUnbegun}
use Rattle.capcheck_core.specs.Run.{with_budget, IsRun}
use Rattle.capcheck_core.specs.Transform.{StopsBefore}

-- the steps of the new package that one of its source may take
abbrev pub steps_each : ℕ
steps_each = 2000

-- the last package has a form that a verifier on the card accepts. The text tells what comes of the run of its source, on a machine that
-- tests what it does, and then what comes of the run of the new one; the memory holds what this leaves
pub record IsTried
    (packages : List PackageRecord) (roles : List ℕ) (w : Linked) (r : RunRequest) (c : CardWords) (text : List ℕ) : Type 0
  where
    pub parts : List Lent
    pub made : IsTransformed packages roles w parts
    pub source : List ℕ
    pub defended : IsDefended w r source
    pub target : List ℕ
    pub run : IsRun made.keeps.world (with_budget (steps_each * r.budget) r) c target
    pub prints : text ≡ trial_text source target

-- the parts are those of the last package in such a form, and this is the world that they make with the libraries
abbrev pub HasNew : List PackageRecord → List ℕ → Linked → List Lent → Linked → Type 0
HasNew packages roles w parts new = (made : IsTransformed packages roles w parts) × (made.keeps.world ≡ new)

-- it has such a form, but the run of its source does not begin, and the text tells the first reason
pub record IsUntried (packages : List PackageRecord) (roles : List ℕ) (w : Linked) (r : RunRequest) (text : List ℕ) : Type 0 where
  pub parts : List Lent
  pub made : IsTransformed packages roles w parts
  pub unbegun : IsUnbegun w r text

-- the answers of a world
abbrev pub TriesIn : List PackageRecord → List ℕ → Linked → RunRequest → CardWords → Verdict → Type 0
TriesIn packages roles w r c (Done text) = IsTried packages roles w r c (string_bytes text)
TriesIn packages roles w r c (Malformed text) = IsUntried packages roles w r (string_bytes text)
TriesIn packages roles w r c verdict = StopsBefore packages w verdict

-- where nothing ran in it, the card's memory is as it was; there may be no memory for the text that tells of both runs
abbrev pub IsUntriedKept : List PackageRecord → List ℕ → Linked → RunRequest → CardWords → CardWords → Verdict → Type 0
IsUntriedKept packages roles w r before after (Done text) = Unit {0}
IsUntriedKept packages roles w r before after Memory = (after ≡ before) ⊎ ((text : List ℕ) × IsTried packages roles w r after text)
IsUntriedKept packages roles w r before after verdict = after ≡ before

-- its last step: it runs the entry twice, the second time in the memory of the card, and leaves the folders as they are
abbrev pub TriesWorld : RunRequest → Own
TriesWorld r packages roles w before after verdict =
    (after.folders ≡ before.folders) × TriesIn packages roles w r after.card verdict
    × IsUntriedKept packages roles w r before.card after.card verdict

-- the outside is as it was when the command began, and as it is afterwards
abbrev pub Tries : RunRequest → Outside → Outside → Verdict → Type 0
Tries r before after verdict = OverFolders (OverWorld (TriesWorld r)) r.dirs before after verdict
