use Rattle.std.proofs.Common.{arith}
use Rattle.cap_files.proofs.Ranges.{first_of_range}
use Rattle.cap_files.proofs.words.WordsIter.first.Goals as goal

pub returns : goal.returns
returns c = first_of_range c.args.self.words.now c.args.self.next c.args.self.end c.args.count c.min.result (omega arith)
