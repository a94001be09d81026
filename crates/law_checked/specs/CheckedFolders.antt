-- Folders that `check` was asked of one by one, each with those before it.
use Rattle.std.specs.Prelude.{◌≡◌, ℕ, ◌≤◌, List, length, take, IsSome}
use Rattle.cap_files.specs.Folder.{Folders}
use Rattle.jc_base.specs.World.{Linked}
use Rattle.law_sound.specs.Soundness.{IsFaultFree}
use Rattle.capcheck_core.specs.declared.load.Source.TheVariants.{Components}
use Rattle.capcheck_core.specs.Headline.{HoldWorld, Typed}

-- `check` answered with status 0 over the first k folders, when these held the same parts
pub record IsCheckedTo (before : Folders) (dirs : List (List ℕ)) (k : ℕ) : Type 0 where
  pub then_held : Folders
  pub same : then_held.held ≡ before.held
  pub text : List ℕ
  pub promised : Typed (take k dirs) then_held text

abbrev pub AreCheckedFolders : Folders → List (List ℕ) → Type 0
AreCheckedFolders before dirs = (k : ℕ) → 1 ≤ k → k ≤ length dirs → IsCheckedTo before dirs k

-- where folders tell what they hold, make this world and are checked so, no run in it meets a fault
abbrev pub CheckedFoldersNeverFault : Linked → Type 0
CheckedFoldersNeverFault w =
    (before : Folders) (dirs : List (List ℕ))
    → IsSome before.held
    → HoldWorld Components before dirs w
    → AreCheckedFolders before dirs
    → IsFaultFree w
