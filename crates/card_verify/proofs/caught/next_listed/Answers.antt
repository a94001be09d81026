use Rattle.std.proofs.Common.{◌+◌, ◌-◌, ◌/◌, Some, sym, ap, ◌∙◌, refl, arith}
use Rattle.card_verify.proofs.Halving.{narrowed-up, narrowed-down, found-least, narrowed-least, above-from}
use Rattle.card_verify.proofs.caught.next_listed.Goals as goal

pub halves-preserved-then-found-place-2 : goal.halves-preserved-then-found-place-2
halves-preserved-then-found-place-2 g c =
    let so_far = c.halves.invariant in
    let low = c.halves.low in
    let high = c.halves.high in (
      so_far.0 + 1,
      omega (arith, c.entry.ensures.one, so_far.1),
      narrowed-up c.args.index.now c.requires c.args.place low high so_far.0 (low + (high - low) / 2) c.entry.result so_far.2 c.halves-test.true refl
          c.entry.ensures.is
          (omega (arith, c.if-found-place-2.true, c.from-found.ensures)),
      so_far.3,
    )

pub halves-preserved : goal.halves-preserved
halves-preserved g c =
    let so_far = c.halves.invariant in
    let low = c.halves.low in
    let high = c.halves.high in (
      so_far.0 + 1,
      omega (arith, c.entry.ensures.one, so_far.1),
      narrowed-down c.args.index.now c.requires c.args.place low high so_far.0 (low + (high - low) / 2) c.entry.result so_far.2 c.halves-test.true refl
          c.entry.ensures.is
          (above-from c.from-found.result c.args.place c.entry.result c.from-found.ensures c.if-found-place.false c.if-found-place-2.false),
      c.entry.ensures.is ∙ ap Some (sym c.from-found.ensures),
    )

pub returns-then-found-place-clause-least : goal.returns-then-found-place-clause-least
returns-then-found-place-clause-least g c =
    let low = c.halves.low in
    let high = c.halves.high in
    found-least c.args.index.now c.requires (low + (high - low) / 2) c.from-found.result c.args.place
    (c.entry.ensures.is ∙ ap Some (sym c.from-found.ensures)) c.if-found-place.true

pub returns-clause-least : goal.returns-clause-least
returns-clause-least g c =
    narrowed-least c.args.index.now c.requires c.args.place c.halves.low c.halves.high c.halves.invariant.0 c.halves.best c.halves.invariant.2
    c.halves-test.false c.halves.invariant.3
