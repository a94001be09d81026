-- what is made in the world that the packages make is made of the packages
use Rattle.std.proofs.Common.{ℕ, List, Result, Ok, Err, IfOk}
use Rattle.cap_package.specs.PackageRecord.{PackageRecord}
use Rattle.cap_package.specs.Parts.{Lent}
use Rattle.jc_base.specs.World.{Linked}
use Rattle.jc_link.specs.World.{IsLinked}
use Rattle.xf_pack.specs.declared.transforming.TransformEnd.{TransformEnd}
use Rattle.xf_pack.specs.Transformed.{AreTransformed, IsTransformed}
use Rattle.xf_pack.proofs.transforming.transform.Goals as goal

are-transformed : (ps : List PackageRecord) (roles : List ℕ) (w : Linked) → IsLinked ps roles w → (r : Result (List Lent) TransformEnd)
    → IfOk r (IsTransformed ps roles w) → IfOk r (AreTransformed ps roles)
are-transformed ps roles w linked (Ok parts) h = record { world = w; linked = linked; transformed = h }
are-transformed ps roles w linked (Err end) h = tt

pub returns-in-Ok-clause-made : goal.returns-in-Ok-clause-made
returns-in-Ok-clause-made c = are-transformed c.args.packages.now c.args.roles _ c.in-Ok.ensures.tells c.transform_linked.result c.transform_linked.ensures.made
