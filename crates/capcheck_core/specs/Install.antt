-- What `install` may answer: what `verify` does, where the parts of the last package stand in the Load file of its folder.
use Rattle.std.specs.Prelude.{ℕ, List}
use Rattle.capcheck_core.specs.declared.load.Source.TheVariants.{LoadFile}
use Rattle.capcheck_core.specs.declared.verdict.Verdict.{Verdict}
use Rattle.capcheck_core.specs.Outside.{Outside}
use Rattle.capcheck_core.specs.OverFolders.{OverPlaces}
use Rattle.capcheck_core.specs.Place.{places}
use Rattle.capcheck_core.specs.Verify.{VerifiesWorld}
use Rattle.capcheck_core.specs.World.{of_world, OverWorld}

-- the outside is as it was when the command began, and as it is afterwards
abbrev pub Installs : List (List ℕ) → Outside → Outside → Verdict → Type 0
Installs dirs before after verdict = OverPlaces (OverWorld (of_world VerifiesWorld)) (places LoadFile dirs) before after verdict
