use Rattle.std.proofs.Common.{◌≡◌, ◌≢◌, refl, sym, ◌∙◌}
use Rattle.jc_base.specs.Dispatch.{package_of}
use Rattle.jc_base.proofs.Filling.{others_top, others_kept, others_more}
use Rattle.jc_base.proofs.visible_bodies.others_have_bodies.Goals as goal

pub returns-in_default : goal.returns-in_default
returns-in_default c =
    ((λ _. others_top c.args.classes.now c.args.methods.now c.args.c c.in_default.ensures.ends), (λ _. refl))

pub returns-in-Some-known_at : goal.returns-in-Some-known_at
returns-in-Some-known_at c =
    let same : package_of c.args.classes.now c.in-Some.parent ≡ package_of c.args.classes.now c.args.c =
    sym c.home_of.ensures.is ∙ c.if-same.true ∙ c.home_of-2.ensures.is in
    others_kept c.args.classes.now c.args.methods.now c.args.slots.now.items c.args.c c.in-Some.parent c.in-Some-known_at.known c.requires.slots
    (sym c.known_at.ensures ∙ c.in-Some-known_at.is) c.in-Some.ensures.climbs same

pub returns-in-Some-2 : goal.returns-in-Some-2
returns-in-Some-2 c =
    let apart : package_of c.args.classes.now c.in-Some.parent ≢ package_of c.args.classes.now c.args.c =
    λ e. c.if-same.false (c.home_of.ensures.is ∙ e ∙ sym c.home_of-2.ensures.is) in
    others_more c.args.classes.now c.args.methods.now c.args.slots.now.items c.args.c c.in-Some.parent c.in-Some-known_at.known c.requires.slots
    (sym c.known_at.ensures ∙ c.in-Some-known_at.is) c.in-Some.ensures.chains c.requires.links c.in-Some.ensures.climbs (sym c.in-Some.ensures.is) apart
