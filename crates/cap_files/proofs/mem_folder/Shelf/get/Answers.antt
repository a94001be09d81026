use Rattle.std.proofs.Common.{◌∙◌}
use Rattle.cap_files.proofs.Keys.{get_held}
use Rattle.cap_files.proofs.mem_folder.Shelf.get.Goals as goal

pub returns : goal.returns
returns c = rw (← c.self.view_is) (c.get.ensures ∙ get_held _ _)
