-- What `check` may answer, by the packages and the roles in its folders.
use Rattle.std.specs.Prelude.{ℕ, List, string_bytes}
use Rattle.jc_base.specs.World.{Linked}
use Rattle.capcheck_core.specs.declared.verdict.Verdict.{Verdict}
use Rattle.capcheck_core.specs.declared.verdict.Verdict.TheVariants.{Done, Refused, Memory}
use Rattle.capcheck_core.specs.Outside.{Outside, Untouched}
use Rattle.capcheck_core.specs.OverFolders.{OverFolders}
use Rattle.capcheck_core.specs.Typed.{TellsTyped, TellsUntyped}
use Rattle.capcheck_core.specs.World.{of_world, OverWorld}

-- the answers of a world
abbrev pub TypesWorld : Linked → Verdict → Type 0
TypesWorld w (Done text) = TellsTyped w (string_bytes text)
TypesWorld w (Refused text) = TellsUntyped w (string_bytes text)
TypesWorld w Memory = Unit {0}
TypesWorld w _ = ⊥

-- its last step: it types the world, and changes nothing
abbrev pub ChecksWorld : Linked → Outside → Outside → Verdict → Type 0
ChecksWorld w before after verdict = Untouched before after × TypesWorld w verdict

-- the outside is as it was when the check began, and as it is afterwards
abbrev pub Checks : List (List ℕ) → Outside → Outside → Verdict → Type 0
Checks dirs before after verdict = OverFolders (OverWorld (of_world ChecksWorld)) dirs before after verdict
