-- Other code of the last of several packages changes nothing of what they name.
use Rattle.std.specs.Prelude.{◌≡◌, ℕ, List, Option}
use Rattle.cap_package.specs.PackageRecord.{PackageRecord}
use Rattle.cap_package.specs.Parts.{Lent}
use Rattle.cap_package.specs.StandsFor.{StandsFor}
use Rattle.jc_decode.specs.declared.symbols.Laid.{Laid}
use Rattle.jc_resolve.specs.References.{met_by, class_named}
use Rattle.jc_resolve.specs.Conditions.{conditions}
use Rattle.jc_resolve.specs.NamedClasses.{named_classes}
use Rattle.law_package.specs.Rewritten.{IsRewritten}
use Rattle.law_relink.specs.Last.{and_last}

-- each import is met by the same package, and each class reference names the class of the same number
pub record NameTheSame (now was : List PackageRecord) : Type 0 where
  pub imports : (k token : ℕ) → met_by now k token ≡ met_by was k token
  pub classes : (k reference : ℕ) → class_named now k reference ≡ class_named was k reference

abbrev pub NamesLink : Type 0
NamesLink =
    (ps : List PackageRecord) (p q : PackageRecord) (laid : List (Option Laid))
    → IsRewritten p laid q
    → NameTheSame (and_last ps q) (and_last ps p)

-- the same things are at fault with numbers of packages, classes and methods, with imports and with class references
abbrev pub NamesConditionsStay : Type 0
NamesConditionsStay =
    (ps : List PackageRecord) (p q : PackageRecord) (laid : List (Option Laid))
    → IsRewritten p laid q
    → conditions (and_last ps q) ≡ conditions (and_last ps p)

-- the same classes by number, each with the classes, types and methods that it names
abbrev pub ClassesLink : Type 0
ClassesLink =
    (parts new_parts : List Lent) (ps : List PackageRecord) (p q : PackageRecord) (laid : List (Option Laid))
    → StandsFor parts p
    → StandsFor new_parts q
    → IsRewritten p laid q
    → (object : ℕ) → named_classes (and_last ps q) object ≡ named_classes (and_last ps p) object
