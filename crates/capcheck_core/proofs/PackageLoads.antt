-- Why the loads of packages stop, and what a command goes on with, package by package.
use Rattle.std.proofs.Common.{◌≡◌, ◌≤◌, ◌<◌, ◌⊎◌, ap, min, ℕ, suc, List, [], ◌∷◌, ◌++◌, Option, Some, None, Result, Ok, Err, length, append_assoc}
use Rattle.std.proofs.Common.{length-append, refl, sym, subst, arith}
use Rattle.std.proofs.lemmas.List.{append-nil}
use Rattle.cap_files.specs.Folder.{Folders}
use Rattle.cap_package.specs.Parts.{Lent}
use Rattle.cap_package.specs.PackageRecord.{PackageRecord}
use Rattle.cap_package.specs.StandsFor.{StandsFor}
use Rattle.capcheck_core.specs.declared.packages.PackagesStop.{PackagesStop}
use Rattle.capcheck_core.specs.declared.load.Source.{Source}
use Rattle.capcheck_core.specs.declared.verdict.Verdict.{Verdict}
use Rattle.capcheck_core.specs.declared.verdict.Verdict.TheVariants as verdicts
use Rattle.capcheck_core.specs.Place.{Place, places}
use Rattle.capcheck_core.specs.OverFolders.{StopsAtLoad}
use Rattle.capcheck_core.specs.Outside.{Outside, CardWords, outside}
use Rattle.capcheck_core.specs.Packages.{ArePartsBy, AreTooMany, HasPackage}
use Rattle.capcheck_core.specs.PackageEnds.{RolesBeside, ReadsPackage, StopsPackage, PackagesStopLeaves, IsStop}
use Rattle.capcheck_core.specs.OverLoads.{GivenAfterFirst, RolesAre, StopsOver, AnswersOverRest, GoesOver, StopsLoads, GoesOverAll}
use Rattle.capcheck_core.specs.World.{Own, OverPackages}

module _ (before after : Folders) (place : Place) where
  -- ---- why one package was not loaded

  pub reading_stops : (parts : List Lent) (number : ℕ) (stop : PackagesStop) → ArePartsBy before place parts → ReadsPackage parts number (Err stop)
      → StopsPackage before after place number stop
  reading_stops parts number x loaded reads = grind (arith)

  -- ---- the place among the packages

  pub stops_roles : (given : Option (List ℕ)) (number : ℕ) (others : List Place) (stop : PackagesStop) → HasPackage before place
      → RolesBeside before after place.dir given (Err stop) → StopsOver before after given number (place ∷ others) stop
  stops_roles x number others stop has loads = grind (arith)

  pub stops_after : (now : Folders) (given : Option (List ℕ)) (number : ℕ) (others : List Place) (roles : List ℕ) (stop : PackagesStop)
      → GivenAfterFirst given number
      → HasPackage before place → RolesBeside before now place.dir given (Ok roles) → StopsOver before after (Some roles) (suc number) others stop
      → StopsOver before after given number (place ∷ others) stop
  stops_after now x number others roles x2 begun has are stops = grind (arith, suc)

-- ---- the folders and the place together

pub reading_leaves : (before after : Folders) (place : Place) (parts : List Lent) (number : ℕ) (stop : PackagesStop) → after ≡ before
    → ArePartsBy before place parts
    → ReadsPackage parts number (Err stop) → PackagesStopLeaves before after stop × StopsPackage before after place number stop
reading_leaves before after place parts number x same loaded reads = grind (arith, reading_stops)

pub has_package : (before : Folders) (place : Place) (parts : List Lent) (p : PackageRecord) → ArePartsBy before place parts → StandsFor parts p
    → HasPackage before place
has_package before place parts p loaded stands = record { parts = parts; loaded = loaded; whole = record { made = p; stands = stands } }

-- ---- one more package

beside : (before now : Folders) (place : Place) (others : List Place) (given : Option (List ℕ)) (roles held : List ℕ)
    → RolesBeside before now place.dir given (Ok roles) → held ≡ roles → RolesAre before (place ∷ others) given held
beside before now place others x roles held are is = grind (arith)

module _ (own : Own) (before : Folders) (card : CardWords) (place : Place) (others : List Place) (made : List PackageRecord)
    (given : Option (List ℕ)) where
  -- with the package in the next folder the command goes on
  one_more : (now : Folders) (after : Outside) (parts : List Lent) (p : PackageRecord) (roles : List ℕ) (result : Result Verdict PackagesStop)
      → GivenAfterFirst given (length made) → ArePartsBy before place parts → StandsFor parts p → RolesBeside before now place.dir given (Ok roles)
      → GoesOver own others (made ++ p ∷ []) (Some roles) (outside before card) after result
      → GoesOver own (place ∷ others) made given (outside before card) after result
  one_more now after parts p roles (Ok verdict) begun loaded stands are goes = record {
    parts = parts ∷ goes.parts;
    loaded = (loaded, goes.loaded);
    more = p ∷ goes.more;
    stand = (stands, goes.stand);
    roles = goes.roles;
    roles_are = beside before now place others given roles goes.roles are goes.roles_are;
    holds = subst (λ ps. OverPackages own ps goes.roles (outside before card) after verdict) (append_assoc made (p ∷ []) goes.more) goes.holds;
  }
  one_more now after parts p roles (Err stop) begun loaded stands are goes = grind (arith, stops_after, length, has_package, length-append)

  -- a package that was loaded goes before those in the other folders
  pub goes_on : (now : Folders) (after : Outside) (parts : List Lent) (p : PackageRecord) (roles : List ℕ) (result : Result Verdict PackagesStop)
      → GivenAfterFirst given (length made) → ArePartsBy before place parts → StandsFor parts p → RolesBeside before now place.dir given (Ok roles)
      → now ≡ before
      → GoesOver own others (made ++ p ∷ []) (Some roles) (outside now card) after result
      → GoesOver own (place ∷ others) made given (outside before card) after result
  goes_on now after parts p roles result begun loaded stands are same goes =
      one_more now after parts p roles result begun loaded stands are
      (subst (λ f. GoesOver own others (made ++ p ∷ []) (Some roles) (outside f card) after result) same goes)

  pub stops_at_roles : (now after : Folders) (parts : List Lent) (p : PackageRecord) (stop : PackagesStop) → now ≡ before → ArePartsBy before place parts
      → StandsFor parts p
      → RolesBeside now after place.dir given (Err stop) → PackagesStopLeaves now after stop
      → GoesOver own (place ∷ others) made given (outside before card) (outside after card) (Err stop)
  stops_at_roles now after parts p stop same loaded stands beside leaves = grind (arith, stops_roles, length, has_package, beside)

-- no folder is left
pub goes_end : (own : Own) (made : List PackageRecord) (roles : List ℕ) (before after : Outside) (verdict : Verdict)
    → OverPackages own made roles before after verdict → AnswersOverRest own [] made (Some roles) before after verdict
goes_end own made roles before after verdict holds = record {
  parts = [];
  loaded = tt {0};
  more = [];
  stand = tt {0};
  roles = roles;
  roles_are = refl;
  holds = subst (λ ps. OverPackages own ps roles before after verdict) (sym (append-nil made)) holds;
}

-- ---- all folders

-- ---- the places of folders

places_long : (last : Source) (dirs : List (List ℕ)) → length (places last dirs) ≡ length dirs
places_long last [] = refl
places_long last (dir ∷ dirs) = ap suc (places_long last dirs)

-- so many folders as are counted are few
pub goes_over_places : (own : Own) (last : Source) (dirs : List (List ℕ)) (before after : Outside) (result : Result Verdict PackagesStop) (count : ℕ)
    → count ≡ min (length dirs) 4294967295 → count ≤ 16 → GoesOver own (places last dirs) [] None before after result
    → GoesOverAll own (places last dirs) before after result
goes_over_places own last dirs before after result count is few goes = grind (arith, places_long)

-- or they are none or too many
pub too_many : (last : Source) (dirs : List (List ℕ)) (count : ℕ) → count ≡ min (length dirs) 4294967295
    → (length dirs ≡ 0) ⊎ (16 < count) → AreTooMany (places last dirs) count
too_many last dirs count is wrong = grind (arith, places_long, min)

-- ---- the verdict of a stop

pub stopped : (at : List Place) (before after : Outside) (stop : PackagesStop) (verdict : Verdict) → after.card ≡ before.card
    → StopsLoads before.folders after.folders at stop → PackagesStopLeaves before.folders after.folders stop → IsStop stop verdict
    → StopsAtLoad at before after verdict
stopped at before after x x2 card many same says = grind (arith)
