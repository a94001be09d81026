use Rattle.std.proofs.Common.{sym, subst, arith}
use Rattle.card_verify.specs.Ahead.{IsClear}
use Rattle.card_verify.proofs.Nearest.{clear-least}
use Rattle.card_verify.proofs.ahead.Ahead.moved.Goals as goal

pub returns-then-self-from-clause-is : goal.returns-then-self-from-clause-is
returns-then-self-from-clause-is g c =
    let marked = g.M.Marks.marks c.args.marks.now in
    record {
      entry = c.entry_at-entry.ensures;
      clear =
          subst (IsClear marked c.args.place) (sym c.unwrap_or-clear.ensures)
          (clear-least marked c.args.place c.next_from.result c.next_from.ensures.least);
    }

pub returns-else-left-gt0-clause-is : goal.returns-else-left-gt0-clause-is
returns-else-left-gt0-clause-is g c =
    record { entry = c.entry_at-entry.ensures; clear = λ q there le. c.requires.ahead.clear q there (omega (arith, c.requires.up, le)) }
