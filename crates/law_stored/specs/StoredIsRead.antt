-- What `transform` stores is what a later command reads.
use Rattle.std.specs.Prelude.{◌≡◌, ℕ, List, [], ◌∷◌, ◌++◌, IsSome}
use Rattle.std.specs.List.{AllByRecursion}
use Rattle.cap_files.specs.Folder.{Folders}
use Rattle.cap_package.specs.Parts.{Lent}
use Rattle.cap_text.specs.Request.{verify}
use Rattle.cap_text.specs.OutOfDirs.{OutOfDirsRequest}
use Rattle.jc_base.specs.World.{Linked}
use Rattle.xf_pack.specs.Transformed.{KeepsBehaviour}
use Rattle.capcheck_core.specs.declared.load.Source.TheVariants.{Components}
use Rattle.capcheck_core.specs.declared.verdict.Verdict.{Verdict}
use Rattle.capcheck_core.specs.Completeness.{CanDo}
use Rattle.capcheck_core.specs.Headline.{HoldWorld}
use Rattle.capcheck_core.specs.Loads.{AreParts}
use Rattle.capcheck_core.specs.Outside.{Outside}
use Rattle.capcheck_core.specs.Transform.{Transforms}
use Rattle.capcheck_core.specs.Verdict.{status_of}

-- the folders of libraries, and the one of the last package
abbrev pub with_last : List (List ℕ) → List ℕ → List (List ℕ)
with_last libraries dir = libraries ++ dir ∷ []

-- The folders made the source, whose behaviour these parts keep. What is asked for in the folder in which was stored is these parts now.
-- With the libraries they make the new world; and `verify` has what it needs there, where the folders tell what they hold.
pub record IsReadAgain (t : OutOfDirsRequest) (libraries : List (List ℕ)) (before after : Folders) : Type 0 where
  pub source : Linked
  pub held : HoldWorld Components before t.dirs source
  pub parts : List Lent
  pub keeps : KeepsBehaviour held.packages held.roles source parts
  pub loaded : AreParts after t.out parts
  pub again : HoldWorld Components after (with_last libraries t.out) keeps.world
  pub verifies : IsSome after.held → CanDo (verify (with_last libraries t.out)) after

-- no library stands in this folder
abbrev pub IsApart : List (List ℕ) → List ℕ → Type 0
IsApart libraries out = AllByRecursion (λ dir. ¬ (dir ≡ out)) libraries

abbrev pub StoredIsRead : Type 0
StoredIsRead =
    (t : OutOfDirsRequest) (before after : Outside) (verdict : Verdict) (libraries : List (List ℕ)) (last : List ℕ)
    → t.dirs ≡ with_last libraries last
    → IsApart libraries t.out
    → Transforms t before after verdict
    → status_of verdict ≡ 0
    → IsReadAgain t libraries before.folders after.folders
