-- where the operands are outside the grammar of the command, the words ask for nothing
use Rattle.std.proofs.Common.{rules}
use Rattle.cap_files.specs.WordsLeft.{words_left}
use Rattle.cap_text.proofs.Requests.{no_check, no_install, no_verify}
use Rattle.cap_text.proofs.command.read_without.Goals as goal

pub returns-then-eq-3-clause-none : goal.returns-then-eq-3-clause-none
returns-then-eq-3-clause-none c = let none = no_check c.args.name.now (words_left c.args.operands) (search rules) in search rules

pub returns-then-eq-4-clause-none : goal.returns-then-eq-4-clause-none
returns-then-eq-4-clause-none c = let none = no_verify c.args.name.now (words_left c.args.operands) (search rules) in search rules

pub returns-then-eq-5-clause-none : goal.returns-then-eq-5-clause-none
returns-then-eq-5-clause-none c = let none = no_install c.args.name.now (words_left c.args.operands) (search rules) in search rules
