-- The parts of packages of which the last is had from a source of its own.
use Rattle.std.proofs.Common.{◌≡◌, ℕ, List, [], ◌∷◌, ◌++◌, refl, sym, ap, subst}
use Rattle.std.specs.List.{AllZip}
use Rattle.cap_components.specs.Parts.{Lent}
use Rattle.cap_files.specs.Folder.{Folders}
use Rattle.capcheck_core.specs.declared.load.Source.{Source}
use Rattle.capcheck_core.specs.declared.load.Source.TheVariants.{Components}
use Rattle.capcheck_core.specs.Loads.{AreParts}
use Rattle.capcheck_core.specs.Packages.{ArePartsAt, ArePartsBy}
use Rattle.capcheck_core.specs.Place.{places, source_before}
use Rattle.law_stored.specs.StoredIsRead.{with_last}

-- those of the folders before the last, and those of the last
pub record ArePlaced (last : Source) (folders : Folders) (libraries : List (List ℕ)) (dir : List ℕ) (parts : List (List Lent)) : Type 0 where
  pub front : List (List Lent)
  pub end : List Lent
  pub are : parts ≡ front ++ end ∷ []
  pub beside : AllZip (AreParts folders) libraries front
  pub at : ArePartsAt folders last dir end

before_last : (last : Source) (libraries : List (List ℕ)) (dir : List ℕ) → source_before last (with_last libraries dir) ≡ Components
before_last last [] dir = refl
before_last last (library ∷ libraries) dir = refl

pub placed : (last : Source) (folders : Folders) (libraries : List (List ℕ)) (dir : List ℕ) (front : List (List Lent)) (end : List Lent)
    → AllZip (AreParts folders) libraries front → ArePartsAt folders last dir end
    → AllZip (ArePartsBy folders) (places last (with_last libraries dir)) (front ++ end ∷ [])
placed last folders [] dir [] end h at = (at, tt)
placed last folders [] dir (x ∷ front) end h at = absurd h
placed last folders (library ∷ libraries) dir [] end h at = absurd h
placed last folders (library ∷ libraries) dir (x ∷ front) end h at = (
  subst (λ source. ArePartsAt folders source library x) (sym (before_last last libraries dir)) h.0,
  placed last folders libraries dir front end h.1 at,
)

pub of_places : (last : Source) (folders : Folders) (libraries : List (List ℕ)) (dir : List ℕ) (parts : List (List Lent))
    → AllZip (ArePartsBy folders) (places last (with_last libraries dir)) parts → ArePlaced last folders libraries dir parts
of_places last folders [] dir [] h = absurd h
of_places last folders [] dir (x ∷ []) h = record { front = []; end = x; are = refl; beside = tt; at = h.0 }
of_places last folders [] dir (x ∷ y ∷ parts) h = absurd h.1
of_places last folders (library ∷ libraries) dir [] h = absurd h
of_places last folders (library ∷ libraries) dir (x ∷ parts) h =
    let rest = of_places last folders libraries dir parts h.1 in
    record {
      front = x ∷ rest.front;
      end = rest.end;
      are = ap (λ xs. x ∷ xs) rest.are;
      beside = (subst (λ source. ArePartsAt folders source library x) (before_last last libraries dir) h.0, rest.beside);
      at = rest.at;
    }
