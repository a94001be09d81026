-- The law of a package that is written with the code that is laid for its methods: a verifier on the card accepts it.
use Rattle.std.specs.Prelude.{ℕ, List, Option}
use Rattle.cap_package.specs.PackageRecord.{PackageRecord}
use Rattle.cap_package.specs.Parts.{Lent}
use Rattle.cap_package.specs.StandsFor.{StandsFor}
use Rattle.law_package.specs.Rewritten.{IsRewritten}
use Rattle.card_typing.specs.Typing.{HasCardTyping}
use Rattle.jc_base.specs.World.{Linked}
use Rattle.jc_control.specs.Asked.{AllHave, IsOfLibrary}
use Rattle.jc_control.specs.Method.{IsMethodOf}
use Rattle.jc_decode.specs.declared.symbols.Laid.{Laid}
use Rattle.jc_link.specs.World.{IsLinked}
use Rattle.law_relink.specs.Last.{and_last}
use Rattle.law_laid.specs.Apart.{IsSameBut}
use Rattle.law_transform.specs.Laid.{AreLaidOf}

-- the world that libraries make with a package that is written anew
pub record IsWorldAnew
    (libraries : List PackageRecord) (made : PackageRecord) (roles : List ℕ) (w new : Linked) : Type 0
  where
    pub linked : IsLinked (and_last libraries made) roles new
    pub same : IsSameBut w new
    -- each method with code has a card typing
    pub carded : AllHave (IsMethodOf new) (HasCardTyping new)

-- where the libraries are accepted and the last package is written with what is laid for its methods, it makes such a world
abbrev pub LaidIsAccepted : Linked → Type 0
LaidIsAccepted w =
    (libraries : List PackageRecord) (source made : PackageRecord) (parts new_parts : List Lent)
    (roles : List ℕ) (laid : List (Option Laid))
    → StandsFor parts source
    → StandsFor new_parts made
    → IsRewritten source laid made
    → IsLinked (and_last libraries source) roles w
    → AllHave (IsOfLibrary w) (HasCardTyping w)
    → AreLaidOf w laid
    → (new : Linked) × IsWorldAnew libraries made roles w new
