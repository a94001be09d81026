use Rattle.card_typing.specs.Place.{IsTarget}
use Rattle.card_typing.proofs.Flowing.{card-is-flow}
use Rattle.card_typing.proofs.Sound.{met-is-sound}
use Rattle.card_typing.proofs.Below.{met-is-below, refusal-denies, flaws-are-told}
use Rattle.card_typing.proofs.OneRefusal.{met-is-one, refused-state-is-one, pass-count-is-one, refusal-one}
use Rattle.card_typing.proofs.Quiet.{quiet-is-least, target-place}
use Rattle.card_typing.proofs.Sites.{rule-is-of-record}
use Rattle.card_typing.proofs.laws.card_laws.Goals as goal

pub returns-clause-flow : goal.returns-clause-flow
returns-clause-flow c = card-is-flow c.args.world.now c.rule_laws.ensures c.instructions_are_placed.ensures

pub returns-clause-met : goal.returns-clause-met
returns-clause-met c m mo =
    met-is-below c.args.world.now (record { rules = c.rule_laws.ensures; falls = c.rule_falls.ensures.card; stays = c.rule_raises.ensures.stays }) m
    (IsTarget m) mo

pub returns-clause-one_met : goal.returns-clause-one_met
returns-clause-one_met c m mo = met-is-one c.args.world.now c.rule_laws.ensures m (IsTarget m) mo

pub returns-clause-one_state : goal.returns-clause-one_state
returns-clause-one_state c m mo = refused-state-is-one c.args.world.now c.rule_laws.ensures m (IsTarget m) mo

pub returns-clause-one_count : goal.returns-clause-one_count
returns-clause-one_count c m mo = pass-count-is-one c.args.world.now m (IsTarget m)

pub returns-clause-refused : goal.returns-clause-refused
returns-clause-refused c =
    refusal-denies c.args.world.now (record { rules = c.rule_laws.ensures; falls = c.rule_falls.ensures.card; stays = c.rule_raises.ensures.stays })
    c.flaws_decide.ensures

pub returns-clause-one : goal.returns-clause-one
returns-clause-one c = refusal-one c.args.world.now c.rule_laws.ensures c.first_flaw_is_one.ensures

pub returns-clause-told : goal.returns-clause-told
returns-clause-told c = flaws-are-told c.args.world.now c.flaws_decide.ensures

pub returns-clause-quiet : goal.returns-clause-quiet
returns-clause-quiet c m mo =
    let w = c.args.world.now in
    quiet-is-least w c.rule_raises.ensures.rests c.instructions_are_placed.ensures c.instructions_are_listed.ensures m (IsTarget m) mo (λ q t. t)
    (target-place m)
    (met-is-sound w c.rule_laws.ensures c.rule_raises.ensures.raises m (IsTarget m) mo)
    (met-is-below w (record { rules = c.rule_laws.ensures; falls = c.rule_falls.ensures.card; stays = c.rule_raises.ensures.stays }) m (IsTarget m) mo)

pub returns-clause-sound : goal.returns-clause-sound
returns-clause-sound c m mo = met-is-sound c.args.world.now c.rule_laws.ensures c.rule_raises.ensures.raises m (IsTarget m) mo

pub returns-clause-records : goal.returns-clause-records
returns-clause-records c = rule-is-of-record c.args.world.now
