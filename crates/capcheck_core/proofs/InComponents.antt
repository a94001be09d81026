-- Folders whose packages are had from their components.
use Rattle.std.proofs.Common.{arith}
use Rattle.std.proofs.Common.{◌≡◌, ℕ, List, [], ◌∷◌}
use Rattle.std.specs.List.{AllZip}
use Rattle.cap_files.specs.Folder.{Folders}
use Rattle.cap_package.specs.Parts.{Lent}
use Rattle.capcheck_core.specs.declared.load.Source.TheVariants.{Components}
use Rattle.capcheck_core.specs.Loads.{AreParts}
use Rattle.capcheck_core.specs.Packages.{ArePartsBy}
use Rattle.capcheck_core.specs.Place.{places, source_before}

by_components : (dirs : List (List ℕ)) → source_before Components dirs ≡ Components
by_components x = grind (arith)

-- the parts at the places are those in the folders
pub components_zip : (before : Folders) (dirs : List (List ℕ)) (parts : List (List Lent)) → AllZip (ArePartsBy before) (places Components dirs) parts
    → AllZip (AreParts before) dirs parts
components_zip before [] [] h = tt {0}
components_zip before [] (x ∷ xs) h = absurd h
components_zip before (dir ∷ dirs) [] h = absurd h
components_zip before (dir ∷ dirs) (x ∷ xs) h = grind (arith, by_components, components_zip before dirs xs h.1)

-- and those in the folders are those at the places
pub places_zip : (before : Folders) (dirs : List (List ℕ)) (parts : List (List Lent)) → AllZip (AreParts before) dirs parts
    → AllZip (ArePartsBy before) (places Components dirs) parts
places_zip before [] [] h = tt {0}
places_zip before [] (x ∷ xs) h = absurd h
places_zip before (dir ∷ dirs) [] h = absurd h
places_zip before (dir ∷ dirs) (x ∷ xs) h = grind (arith, by_components, places_zip before dirs xs h.1)
