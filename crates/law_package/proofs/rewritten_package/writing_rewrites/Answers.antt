use Rattle.law_package.proofs.FromWriting.{rewrites}
use Rattle.law_package.proofs.rewritten_package.writing_rewrites.Goals as goal

pub returns : goal.returns
returns c = rewrites c.headers_read_back.ensures c.methods_stand.ensures
