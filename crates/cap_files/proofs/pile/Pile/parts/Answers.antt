use Rattle.std.proofs.Common.{◌∙◌, sym}
use Rattle.cap_files.proofs.Pieces.{length-records}
use Rattle.cap_files.proofs.pile.Pile.parts.Goals as goal

pub returns : goal.returns
returns c = rw (← c.self.view_is) (c.len.ensures ∙ c.self.inside.entries.ok.0 ∙ sym (length-records _ _))
