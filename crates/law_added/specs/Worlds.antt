-- What packages make stays when packages are added.
use Rattle.std.specs.Prelude.{ℕ, ◌<◌, List, ◌++◌, length, All}
use Rattle.cap_package.specs.PackageRecord.{PackageRecord}
use Rattle.jc_base.specs.World.{Linked}
use Rattle.jc_resolve.specs.Named.{IsAgreed}
use Rattle.jc_link.specs.World.{IsLinked}
use Rattle.law_added.specs.Added.{HasMore}

-- where packages with roles make a world, and make another one with more packages after them, the other one has all that the first one
-- has, by the same numbers
abbrev pub WorldsBegin : Type 0
WorldsBegin =
    (ps qs : List PackageRecord) (roles : List ℕ) (v w : Linked)
    → 0 < length roles
    → All IsAgreed (ps ++ qs)
    → IsLinked ps roles v
    → IsLinked (ps ++ qs) roles w
    → HasMore v w
