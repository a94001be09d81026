-- What a command over a world answers, by the parts of the packages and the roles that make it, wherever these come from.
use Rattle.std.specs.Prelude.{◌≡◌, ℕ, List, string_bytes, ◌⊎◌}
use Rattle.std.specs.List.{AllZip}
use Rattle.cap_package.specs.Parts.{Lent}
use Rattle.cap_package.specs.PackageRecord.{PackageRecord}
use Rattle.cap_package.specs.StandsFor.{StandsFor}
use Rattle.cap_text.specs.Line.{not_linked_line}
use Rattle.jc_base.specs.World.{Linked}
use Rattle.jc_link.specs.LinkEnd.{LinkEnd}
use Rattle.jc_link.specs.LinkEnd.TheVariants as ends
use Rattle.jc_link.specs.LinkFault.{LinkFault}
use Rattle.jc_link.specs.Fault.{link_place}
use Rattle.first_fault.specs.First.{IsFirst}
use Rattle.jc_link.specs.World.{IsLinked, conditions}
use Rattle.capcheck_core.specs.declared.verdict.Verdict.{Verdict}
use Rattle.capcheck_core.specs.declared.verdict.Verdict.TheVariants.{Malformed, Memory}
use Rattle.capcheck_core.specs.Outside.{Outside, Untouched}

-- what the last step of a command answers, and makes of the outside, by the packages, the roles and the world that they make
abbrev pub Own : Type 1
Own = List PackageRecord → List ℕ → Linked → Outside → Outside → Verdict → Type 0

-- a last step over the world alone
abbrev pub of_world : (Linked → Outside → Outside → Verdict → Type 0) → Own
of_world own packages roles w before after verdict = own w before after verdict

-- ---- packages and roles

-- they make a world of which this is true
pub record OfLinked (packages : List PackageRecord) (roles : List ℕ) (P : Linked → Type 0) : Type 0 where
  pub world : Linked
  pub linked : IsLinked packages roles world
  pub holds : P world

-- they make no world, and the text names the first condition that is broken, at its least thing
pub record IsUnlinked (packages : List PackageRecord) (roles : List ℕ) (text : List ℕ) : Type 0 where
  pub fault : LinkFault
  pub first : IsFirst link_place (conditions packages roles) fault
  pub prints : text ≡ not_linked_line fault

-- the answers where they make no world, or there is no memory for it
abbrev pub StopsAtLink : List PackageRecord → List ℕ → Verdict → Type 0
StopsAtLink packages roles (Malformed text) = IsUnlinked packages roles (string_bytes text)
StopsAtLink packages roles Memory = Unit {0}
StopsAtLink packages roles _ = ⊥

-- the verdict for the end of a linking that made no world; there may be no memory for its text
abbrev pub IsUnlinkedBy : LinkEnd → Verdict → Type 0
IsUnlinkedBy (ends.Fault fault) (Malformed text) = string_bytes text ≡ not_linked_line fault
IsUnlinkedBy (ends.Fault fault) Memory = Unit {0}
IsUnlinkedBy ends.Memory Memory = Unit {0}
IsUnlinkedBy _ _ = ⊥

-- what a command over a world answers, and makes of the outside: where the world was made, `own` says both
abbrev pub OverPackages : Own → List PackageRecord → List ℕ → Outside → Outside → Verdict → Type 0
OverPackages own packages roles before after verdict =
    (Untouched before after × StopsAtLink packages roles verdict)
    ⊎ OfLinked packages roles (λ w. own packages roles w before after verdict)

-- ---- parts and roles

-- the parts stand for packages, a list of parts for each, and these make the world with the roles
pub record MakeWorld (parts : List (List Lent)) (roles : List ℕ) (world : Linked) : Type 0 where
  pub packages : List PackageRecord
  pub stand : AllZip StandsFor parts packages
  pub linked : IsLinked packages roles world

-- the parts stand for packages of which this is true
pub record OfPackages (parts : List (List Lent)) (P : List PackageRecord → Type 0) : Type 0 where
  pub packages : List PackageRecord
  pub stand : AllZip StandsFor parts packages
  pub holds : P packages

-- what a command over the world of the packages that parts stand for answers, wherever the parts come from
abbrev pub OverWorld : Own → List (List Lent) → List ℕ → Outside → Outside → Verdict → Type 0
OverWorld own parts roles before after verdict =
    OfPackages parts (λ packages. OverPackages own packages roles before after verdict)
