use Rattle.std.proofs.Common.{take}
use Rattle.capcheck_core.specs.Stores.{AreStored}
use Rattle.capcheck_core.proofs.storing.store_parts.Given as goal

abbrev pub invariant-parts : goal.invariant-parts
invariant-parts g l = AreStored l.dir (take l.n l.parts) (g.F.Folder.folders l.initial.folder) (g.F.Folder.folders l.folder)
