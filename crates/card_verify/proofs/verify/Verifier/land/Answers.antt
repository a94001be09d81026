use Rattle.std.proofs.Common.{ℕ, ◌<◌, arith, subst, sym}
use Rattle.jc_rules.specs.Stack.{cells}
use Rattle.card_typing.specs.Place.{IsEntry}
use Rattle.card_verify.specs.Verifier.{method}
use Rattle.card_verify.specs.Walk.{IsLanded, IsBlocked, left}
use Rattle.card_verify.proofs.Landing.{landed, mislanded-mark, when-false}
use Rattle.card_verify.proofs.Nearest.{told-here}
use Rattle.card_verify.proofs.verify.Verifier.land.Goals as goal
use Rattle.card_verify.proofs.verify.Verifier.land.Goals.{else-left-gt0-via-then-left-gt0+else-ahead-from, else-left-gt0-via-else-left-gt0}

pub returns-then-ahead-from-clause-wrong : goal.returns-then-ahead-from-clause-wrong
returns-then-ahead-from-clause-wrong g c =
    let S = IsEntry (method c.args.self.now) in
    let free = when-false (S c.args.ahead.from) c.eq.result
    (told-here S c.args.ahead.from c.args.ahead.entry c.eq.result c.requires.ahead.entry (grind (arith, c.eq.ensures, c.from.ensures))) c.if-eq.false in
    let deep : 0 < left c.args.arrival = omega (arith, c.left.ensures, c.if-left-gt0.true) in
    let blocked : IsBlocked (g.M.Marks.marks c.args.marks.now) c.args.ahead.from c.args.arrival = (deep, c.requires.told deep (omega (arith, c.if-ahead-from.true, c.from-then-left-gt0.ensures))) in
    mislanded-mark c.args.self.now (g.M.Marks.marks c.args.marks.now) c.args.ahead.from c.args.arrival c.args.stack.now free c.requires.fallen
    c.left-then-ahead-from.result c.left-then-ahead-from.ensures
    (omega (arith, c.requires.cells, c.requires.depth)) blocked

pub returns-clause-landed : goal.returns-clause-landed
returns-clause-landed g c =
    let S = IsEntry (method c.args.self.now) in
    let free = when-false (S c.args.ahead.from) c.eq.result
    (told-here S c.args.ahead.from c.args.ahead.entry c.eq.result c.requires.ahead.entry (grind (arith, c.eq.ensures, c.from.ensures))) c.if-eq.false in
    let other : ¬ (IsBlocked (g.M.Marks.marks c.args.marks.now) c.args.ahead.from c.args.arrival) = λ blocked. elim c.else-left-gt0.branch [
      | else-left-gt0-via-then-left-gt0+else-ahead-from w ↦
          let clear = c.requires.ahead.clear c.args.ahead.from blocked.1 (omega arith) in
          omega (arith, clear, w.if-ahead-from.false, w.from-then-left-gt0.ensures)
      | else-left-gt0-via-else-left-gt0 w ↦ omega (arith, w.if-left-gt0.false, blocked.0, c.left.ensures)
    ] in
    subst (λ (n : ℕ). IsLanded c.args.self.now (g.M.Marks.marks c.args.marks.now) c.args.ahead.from c.args.arrival c.args.stack.now
    (cells c.args.stack.now n)) (sym c.left-2.ensures)
    (landed c.args.self.now (g.M.Marks.marks c.args.marks.now) c.args.ahead.from c.args.arrival c.args.stack.now free c.requires.fallen other)
