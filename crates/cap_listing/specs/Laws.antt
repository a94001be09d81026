-- Laws of listings.
use Rattle.std.specs.Prelude.{◌≡◌, ℕ, List, [], Result}
use Rattle.cap_components.specs.Parts.{Lent}
use Rattle.cap_components.specs.PackageRecord.{PackageRecord}
use Rattle.cap_package.specs.StandsFor.{StandsFor}
use Rattle.law_package.specs.Rewritten.{IsRewritten}
use Rattle.cap_listing.specs.declared.method.ListedMethod.{ListedMethod}
use Rattle.cap_listing.specs.declared.fault.AsmEnd.{AsmEnd}
use Rattle.cap_listing.specs.Text.{Lists}
use Rattle.cap_listing.specs.Fault.{IsNotListing}
use Rattle.cap_listing.specs.Methods.{methods_of}
use Rattle.cap_listing.specs.Placing.{faults, placed}
use Rattle.cap_listing.specs.Assembling.{Assembles, AnswersMethods}

-- a text is the listing of one list of methods at most
abbrev pub OneListing : Type 0
OneListing = (text : List ℕ) (ms ns : List ListedMethod) → Lists ms text → Lists ns text → ms ≡ ns

-- a text goes wrong at one line at most, and a listing at none
abbrev pub OneBadLine : Type 0
OneBadLine =
    ((text : List ℕ) (m n : ℕ) → IsNotListing text m → IsNotListing text n → m ≡ n)
    × ((text : List ℕ) (n : ℕ) (ms : List ListedMethod) → IsNotListing text n → Lists ms text → ⊥)

-- what is answered of the listing of a package's methods is these methods, or that there is no memory
abbrev pub ListingComesBack : Type 0
ListingComesBack =
    (p : PackageRecord) (text : List ℕ) (answer : Result (List ListedMethod) AsmEnd)
    → Lists (methods_of p) text
    → Assembles text answer
    → AnswersMethods (methods_of p) answer

-- a package that is written with methods that fit it has these methods
abbrev pub MethodsReplaced : Type 0
MethodsReplaced =
    (parts : List Lent) (p q : PackageRecord) (ms : List ListedMethod)
    → StandsFor parts p
    → faults (methods_of p) ms ≡ []
    → IsRewritten p (placed p ms) q
    → methods_of q ≡ ms
