-- Laws of a package whose methods share registers: a verifier on the card accepts it, and its runs end as before.
use Rattle.std.specs.Prelude.{◌≡◌, ℕ, ◌≤◌, List, Option}
use Rattle.cap_package.specs.PackageRecord.{PackageRecord}
use Rattle.cap_package.specs.Parts.{Lent}
use Rattle.cap_package.specs.StandsFor.{StandsFor}
use Rattle.law_package.specs.Rewritten.{IsRewritten}
use Rattle.card_typing.specs.Typing.{HasCardTyping}
use Rattle.jc_base.specs.World.{Linked}
use Rattle.jc_control.specs.Asked.{AllHave}
use Rattle.jc_control.specs.Method.{Method, IsMethodOf}
use Rattle.jc_decode.specs.declared.symbols.Laid.{Laid}
use Rattle.jc_link.specs.World.{IsLinked}
use Rattle.law_alike.specs.Ends.{EndsAlikeBy}
use Rattle.law_laid.specs.Apart.{IsSameBut}
use Rattle.law_relink.specs.Last.{and_last}
use Rattle.law_share.specs.Laws.{EndInStep}
use Rattle.law_shared_world.specs.SharedCode.{AreSharedOf, laid_locals, locals_of_last}

-- no method with code has more registers beside its arguments in the second world
abbrev pub HaveNoMore : Linked → Linked → Type 0
HaveNoMore w new =
    (m n : Method) → IsMethodOf w m → IsMethodOf new n → n.number ≡ m.number → n.rec.max_locals ≤ m.rec.max_locals

-- the world that libraries make with a package whose methods share registers: each method with code has a card typing, and no more
-- registers than before. Each run ends in step with that of the former world
pub record IsSharedWorld
    (libraries : List PackageRecord) (made : PackageRecord) (roles : List ℕ) (laid : List (Option Laid)) (w new : Linked) : Type 0
  where
    pub linked : IsLinked (and_last libraries made) roles new
    pub same : IsSameBut w new
    pub carded : AllHave (IsMethodOf new) (HasCardTyping new)
    pub no_more : HaveNoMore w new
    pub counted : locals_of_last new ≡ laid_locals laid
    pub in_step : EndInStep w new

-- where each method with code has a card typing, and the last package is written with what is laid for its methods, it makes such a world
abbrev pub SharedWorldEndsInStep : Linked → Type 0
SharedWorldEndsInStep w =
    (libraries : List PackageRecord) (source made : PackageRecord) (parts new_parts : List Lent)
    (roles : List ℕ) (laid : List (Option Laid))
    → StandsFor parts source
    → StandsFor new_parts made
    → IsRewritten source laid made
    → IsLinked (and_last libraries source) roles w
    → AllHave (IsMethodOf w) (HasCardTyping w)
    → AreSharedOf w laid
    → (new : Linked) × IsSharedWorld libraries made roles laid w new

-- what ends alike with one world within a factor does so with each that ends in step with it
abbrev pub InStepKeepsAlike : Type 0
InStepKeepsAlike = (factor : ℕ) (u v w : Linked) → EndsAlikeBy factor u v → EndInStep v w → EndsAlikeBy factor u w
