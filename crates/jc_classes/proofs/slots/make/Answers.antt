use Rattle.std.specs.Option.{option_map}
use Rattle.jc_classes.proofs.Fills.{made_right}
use Rattle.jc_classes.proofs.slots.make.Goals as goal

pub returns : goal.returns
returns c =
    let home = c.at_home-home.ensures in
    made_right c.args.lineage.now c.args.classes.now c.args.slots.now.items c.args.above (option_map (λ l. l.now) c.slot_above-up.result) c.args.c
    c.at.result.now c.in_ok-made.made
    c.requires.slots c.requires.class c.slot_above-up.ensures c.requires.filled c.at.ensures c.requires.step (rw (← home) c.in_ok-made.ensures)
