use Rattle.std.proofs.Common.{◌≡◌, ◌++◌}
use Rattle.capcheck_core.specs.Loads.{AreLoaded}
use Rattle.capcheck_core.proofs.Loads.{Kept}
use Rattle.capcheck_core.proofs.load.load_rest.Given as goal

abbrev pub invariant-tags : goal.invariant-tags
invariant-tags g l = record {
  loaded : AreLoaded (g.F.Folder.folders l.initial.folder) l.dir l.tag (l.first ++ l.rest);
  kept : Kept l.first (l.first ++ l.rest);
  same : g.F.Folder.folders l.folder ≡ g.F.Folder.folders l.initial.folder;
}
