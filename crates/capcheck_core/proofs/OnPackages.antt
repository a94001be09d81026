-- What a command on the package of one folder answers, by what stopped the loads or by its own step.
use Rattle.std.proofs.Common.{arith}
use Rattle.std.proofs.Common.{ℕ, List, inl, inr}
use Rattle.cap_files.specs.Folder.{Folders}
use Rattle.std.specs.Prelude.{Err}
use Rattle.cap_components.specs.declared.fault.PackFault.{PackFault}
use Rattle.capcheck_core.specs.declared.load.FolderFault.TheVariants.{Pack, Stream}
use Rattle.capcheck_core.specs.declared.packages.PackagesStop.{PackagesStop}
use Rattle.capcheck_core.specs.declared.packages.PackagesStop.TheVariants.{TooMany, Malformed, Failed, Memory}
use Rattle.capcheck_core.specs.declared.verdict.Verdict.{Verdict}
use Rattle.capcheck_core.specs.declared.verdict.Verdict.TheVariants as verdicts
use Rattle.capcheck_core.specs.Beside.{StopsAtFile}
use Rattle.capcheck_core.specs.BesideEnds.{StopsFile}
use Rattle.capcheck_core.specs.OverPackage.{StopsAtPackage}
use Rattle.capcheck_core.specs.PackageEnds.{IsStop, LoadsRoles, PackagesStopLeaves, StopsPackage}
use Rattle.capcheck_core.specs.Place.{in_components}
use Rattle.capcheck_core.specs.Roles.{HasBadRoles, LacksRoles, roles_key}

-- the verdict of a stop
pub stopped_at_package : (dir : List ℕ) (before after : Folders) (stop : PackagesStop) (verdict : Verdict) → PackagesStopLeaves before after stop
    → StopsPackage before after (in_components dir) 0 stop → IsStop stop verdict → StopsAtPackage dir before after verdict
stopped_at_package dir before after (TooMany count) verdict leaves stops says = absurd stops
stopped_at_package dir before after (Malformed n (Pack fault)) (verdicts.Malformed text) leaves (is, lacks) says = grind (arith)
stopped_at_package dir before after (Malformed n (Stream fault)) (verdicts.Malformed text) leaves (is, inl never) says = absurd never
stopped_at_package dir before after (Malformed n (Stream fault)) (verdicts.Malformed text) leaves (is, inr none) says = absurd none.refused
stopped_at_package dir before after (Malformed n fault) verdicts.Memory leaves stops says = leaves
stopped_at_package dir before after Failed verdicts.ReadFault leaves stops says = stops
stopped_at_package dir before after Memory verdicts.Memory leaves stops says = leaves
stopped_at_package dir before after _ _ leaves stops says = absurd says

-- that of a file beside its components
pub stopped_at_file : (lacks : PackFault → Type 0) (key : List ℕ) (before after : Folders) (stop : PackagesStop) (verdict : Verdict)
    → PackagesStopLeaves before after stop → StopsFile lacks key 0 before after stop → IsStop stop verdict → StopsAtFile lacks key before after verdict
stopped_at_file lacks key before after x verdict leaves stops says = grind (arith)

-- ---- roles that may be absent

pub bad_lacks : (before : Folders) (dir : List ℕ) (fault : PackFault) → HasBadRoles before dir fault → LacksRoles before dir fault
bad_lacks before dir x bad = grind (arith)

-- what stops the load of roles that may be absent stops that of roles that have to be there
pub bad_roles : (before after : Folders) (dir : List ℕ) (stop : PackagesStop)
    → StopsFile (HasBadRoles before dir) (roles_key dir) 0 before after stop → LoadsRoles before after dir (Err stop)
bad_roles before after dir x failed = grind (arith, bad_lacks)
