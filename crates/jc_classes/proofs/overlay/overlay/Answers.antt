use Rattle.std.proofs.Common.{◌∙◌, arith}
use Rattle.jc_classes.proofs.Inherited.{copied_after}
use Rattle.jc_classes.proofs.overlay.overlay.Goals as goal

pub returns : goal.returns
returns c =
    c.of.ensures
    ∙ c.in_ok-extend_from_slice-2.ensures.items
    ∙ copied_after c.args.table.now c.args.inherited.now c.tokens.entries.items c.tokens.token c.min-made.result c.tokens.invariant.0
    (omega (arith, c.tokens-test.false, c.reach-end.ensures)) c.tokens.invariant.1
    (omega (arith, c.min-made.ensures, c.len.ensures, c.tokens.entries.ok.0))
