use Rattle.std.proofs.Common.{◌≡◌, ◌∙◌, arith, rules, sym, subst, Contains}
use Rattle.std.specs.Prelude.{pos, FitsSigned}
use Rattle.std.specs.Int.{w32}
use Rattle.std.proofs.lemmas.Int.{to_z-of_z}
use Rattle.jc_decode.specs.Listing.{targets}
use Rattle.jc_control.specs.Control.{led_to, follows, jumped}
use Rattle.jc_control.specs.Subject.{method}
use Rattle.jc_control.specs.Traversal.{ReachesPlace, Grows, IsSoundTraversal, IsLedTo}
use Rattle.jc_control.proofs.Growing.{on-ok, led-sound, led-grows, led-here}
use Rattle.jc_control.proofs.PlacesWithin.{target-range, target-place}
use Rattle.jc_control.proofs.traversal.Traversal.follow.Goals as goal

pub place_of-requires-clause-low : goal.place_of-requires-clause-low
place_of-requires-clause-low c =
    let fits : FitsSigned w32 c.args.target = search rules in
    rw (to_z-of_z w32 c.args.target fits)
    ((target-range c.args.subject.code.bytes.now c.args.subject.listed c.args.target c.requires.formed c.args.subject.short).0)

pub place_of-requires-clause-high : goal.place_of-requires-clause-high
place_of-requires-clause-high c =
    let fits : FitsSigned w32 c.args.target = search rules in
    rw (to_z-of_z w32 c.args.target fits)
    ((target-range c.args.subject.code.bytes.now c.args.subject.listed c.args.target c.requires.formed c.args.subject.short).1)

pub lead-requires-clause-reached : goal.lead-requires-clause-reached
lead-requires-clause-reached c =
    let fits : FitsSigned w32 c.args.target = search rules in
    let inside = target-place c.args.subject.code.bytes.now c.args.subject.listed c.place_of.result c.args.target c.requires.formed
    (c.place_of.ensures ∙ to_z-of_z w32 c.args.target fits) in
    omega (arith, c.requires.sound.reached_size)

pub lead-requires-clause-leaders : goal.lead-requires-clause-leaders
lead-requires-clause-leaders c =
    let fits : FitsSigned w32 c.args.target = search rules in
    let inside = target-place c.args.subject.code.bytes.now c.args.subject.listed c.place_of.result c.args.target c.requires.formed
    (c.place_of.ensures ∙ to_z-of_z w32 c.args.target fits) in
    omega (arith, c.requires.sound.leaders_size)

pub returns-clause-sound : goal.returns-clause-sound
returns-clause-sound c =
    let m = method c.args.subject in
    let q = c.place_of.result in
    let fits : FitsSigned w32 c.args.target = search rules in
    let same : pos q ≡ c.args.target = c.place_of.ensures ∙ to_z-of_z w32 c.args.target fits in
    let inside = target-place m.code c.args.subject.listed q c.args.target c.requires.formed same in
    let leads : Contains (targets m.code c.args.placed) (pos q) = subst (Contains (targets m.code c.args.placed)) (sym same) c.requires.leads in
    on-ok (ReachesPlace q c.args.self.now c.lead.new.self) (IsSoundTraversal m c.lead.new.self) c.lead.result
    (λ r. led-sound m q c.args.self.now c.lead.new.self c.requires.sound (omega arith) c.lead.ensures.leaders r
    (follows c.requires.stands c.requires.reached (jumped leads)) (led_to c.requires.stands c.requires.reached leads)) c.lead.ensures.reached

pub returns-clause-grows : goal.returns-clause-grows
returns-clause-grows c =
    let m = method c.args.subject in
    let q = c.place_of.result in
    let fits : FitsSigned w32 c.args.target = search rules in
    let same : pos q ≡ c.args.target = c.place_of.ensures ∙ to_z-of_z w32 c.args.target fits in
    let inside = target-place m.code c.args.subject.listed q c.args.target c.requires.formed same in
    on-ok (ReachesPlace q c.args.self.now c.lead.new.self) (Grows c.args.self.now c.lead.new.self) c.lead.result
    (λ r. led-grows m q c.args.self.now c.lead.new.self c.requires.sound (omega arith) c.lead.ensures.leaders r) c.lead.ensures.reached

pub returns-clause-led : goal.returns-clause-led
returns-clause-led c =
    let m = method c.args.subject in
    let q = c.place_of.result in
    let fits : FitsSigned w32 c.args.target = search rules in
    let same : pos q ≡ c.args.target = c.place_of.ensures ∙ to_z-of_z w32 c.args.target fits in
    let inside = target-place m.code c.args.subject.listed q c.args.target c.requires.formed same in
    on-ok (ReachesPlace q c.args.self.now c.lead.new.self) (IsLedTo c.lead.new.self c.args.target) c.lead.result
    (λ r. subst (IsLedTo c.lead.new.self) same (led-here m q c.args.self.now c.lead.new.self c.requires.sound (omega arith) c.lead.ensures.leaders r))
    c.lead.ensures.reached
