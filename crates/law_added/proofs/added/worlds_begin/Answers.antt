use Rattle.law_added.proofs.Worlds.{worlds-begin}
use Rattle.law_added.proofs.added.worlds_begin.Goals as goal

pub returns : goal.returns
returns c = worlds-begin
