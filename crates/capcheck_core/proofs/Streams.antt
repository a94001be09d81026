-- The parts of a package in its Load file, from the bytes that a loader took.
use Rattle.std.proofs.Common.{arith}
use Rattle.std.proofs.Common.{◌≡◌, ℕ, List, [], ◌++◌, Result, ◌∙◌}
use Rattle.cap_files.specs.Folder.{Folders}
use Rattle.cap_load.specs.Loaded.{Loaded, StandsFor}
use Rattle.capcheck_core.specs.declared.packages.PackagesStop.{PackagesStop}
use Rattle.capcheck_core.specs.PackageEnds.{HasTaken, PackagesLeave}

-- ---- a loader that takes all of the bytes

pub takes : (loader new : Loaded) (stream : List ℕ) → StandsFor loader [] → loader.room ≡ 65538
    → ((bytes : List ℕ) → StandsFor loader bytes → StandsFor new (bytes ++ stream)) → new.room ≡ loader.room → HasTaken new stream
takes loader new stream empty room stands same = record { room = same ∙ room; stands = stands [] empty }

-- ---- the bytes of the folder's Load file

pub leaves : {A : Type 0} (before after : Folders) (result : Result A PackagesStop) → after ≡ before → PackagesLeave before after result
leaves before after x same = grind (arith)

-- ---- the parts in it

-- ---- how parts are had
