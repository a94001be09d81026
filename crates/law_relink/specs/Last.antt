-- Packages of which the last one is another.
use Rattle.std.specs.Prelude.{List, [], ◌∷◌, ◌++◌}
use Rattle.cap_package.specs.PackageRecord.{PackageRecord}

-- packages with a last one
abbrev pub and_last : List PackageRecord → PackageRecord → List PackageRecord
and_last ps p = ps ++ p ∷ []
