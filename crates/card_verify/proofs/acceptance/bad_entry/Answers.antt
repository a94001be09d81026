use Rattle.std.proofs.Common.{Some, sym, ap, subst, ◌∙◌, arith}
use Rattle.jc_decode.specs.Instructions.{rest_of}
use Rattle.card_verify.proofs.Ordered.{IsOrderedTo, ordered-first, ordered-next, ordered-low, ordered-none, ordered-ascending, ordered-places}
use Rattle.card_verify.proofs.acceptance.bad_entry.Goals as goal

pub entries-init : goal.entries-init
entries-init g c =
    let code = c.args.code.bytes.now in
    record {
      ordered = subst (IsOrderedTo code c.args.index.now 0 0) (sym c.of-left.ensures.instructions) (ordered-first code c.args.index.now);
      cost = omega arith;
    }

pub returns-then-place-least-clause-bad : goal.returns-then-place-least-clause-bad
returns-then-place-least-clause-bad g c =
    let code = c.args.code.bytes.now in
    ordered-low code c.args.index.now (c.instructions_are_listed.ensures code) c.entries.k c.entries.least (rest_of c.entries.left)
    c.entries.invariant.ordered c.from-place.result
    (c.entry.ensures.is ∙ ap Some (sym c.from-place.ensures)) c.if-place-least.true

pub returns-then-not-seek-clause-bad : goal.returns-then-not-seek-clause-bad
returns-then-not-seek-clause-bad g c =
    let code = c.args.code.bytes.now in
    ordered-none code c.args.index.now (c.instructions_are_listed.ensures code) c.entries.k c.entries.least (rest_of c.entries.left)
    c.entries.invariant.ordered c.from-place.result
    (c.entry.ensures.is ∙ ap Some (sym c.from-place.ensures)) c.if-place-least.false c.if-not-seek.ensures

pub returns-then-place-least-clause-read_to : goal.returns-then-place-least-clause-read_to
returns-then-place-least-clause-read_to g c = omega (arith, c.entry.ensures.one, c.entries.invariant.cost)

pub returns-then-not-seek-clause-read_to : goal.returns-then-not-seek-clause-read_to
returns-then-not-seek-clause-read_to g c = omega (arith, c.entry.ensures.one, c.entries.invariant.cost)

pub entries-preserved : goal.entries-preserved
entries-preserved g c =
    let code = c.args.code.bytes.now in
    record {
      ordered =
          ordered-next code c.args.index.now (c.instructions_are_listed.ensures code) c.entries.k c.entries.least (rest_of c.entries.left)
          c.entries.invariant.ordered c.from-place.result
          (c.entry.ensures.is ∙ ap Some (sym c.from-place.ensures)) (rest_of c.seek.new.left) c.if-place-least.false c.if-not-seek.ensures;
      cost = omega (arith, c.entry.ensures.one, c.entries.invariant.cost);
    }

pub returns-clause-ascending : goal.returns-clause-ascending
returns-clause-ascending g c =
    let code = c.args.code.bytes.now in
    ordered-ascending code c.args.index.now (c.instructions_are_listed.ensures code) c.entries.k c.entries.least (rest_of c.entries.left)
    c.entries.invariant.ordered
    (omega (arith, c.entries-test.false, c.len-k-end.ensures))

pub returns-clause-places : goal.returns-clause-places
returns-clause-places g c =
    let code = c.args.code.bytes.now in
    ordered-places code c.args.index.now (c.instructions_are_listed.ensures code) c.entries.k c.entries.least (rest_of c.entries.left)
    c.entries.invariant.ordered
    (omega (arith, c.entries-test.false, c.len-k-end.ensures))

pub returns-clause-read : goal.returns-clause-read
returns-clause-read g c = omega (arith, c.entries.invariant.cost, c.entries-test.false, c.len-k-end.ensures)
