use Rattle.std.proofs.Common.{rules}
use Rattle.std.specs.Prelude.{FitsSigned}
use Rattle.std.specs.Int.{w32}
use Rattle.std.proofs.lemmas.Int.{to_z-of_z}
use Rattle.std.proofs.lemmas.List.Elements.{All-push, All-contains}
use Rattle.jc_decode.specs.Listing.{targets}
use Rattle.jc_control.specs.WellFormed.{IsTargetPlace}
use Rattle.jc_control.specs.Targets.{rest_of}
use Rattle.jc_control.specs.Traversal.{IsLedTo}
use Rattle.jc_control.proofs.Elements.{at-next, go-on, contained-in}
use Rattle.jc_control.proofs.Growing.{grows-on, all-led-stays}
use Rattle.jc_control.proofs.traversal.Traversal.jump.Goals as goal

pub of-target-items-requires-clause-decoded : goal.of-target-items-requires-clause-decoded
of-target-items-requires-clause-decoded c = c.args.subject.listed.decodes c.args.placed c.requires.stands

pub follow-requires-clause-leads : goal.follow-requires-clause-leads
follow-requires-clause-leads c =
    let all = targets c.args.subject.code.bytes.now c.args.placed in
    let t = c.in-Some.target in
    let fits : FitsSigned w32 t = search rules in
    let whole = at-next c.targets.yielded (rest_of c.targets.target-iterator) t (rest_of c.next.new.self) all c.targets.invariant.whole
    c.in-Some.ensures.steps in
    rw (to_z-of_z w32 t fits) (contained-in c.targets.yielded t (rest_of c.next.new.self) all whole)

pub follow-requires-clause-formed : goal.follow-requires-clause-formed
follow-requires-clause-formed c =
    let code = c.args.subject.code.bytes.now in
    All-contains (IsTargetPlace code) (targets code c.args.placed) _ (c.requires.formed.targets c.args.placed c.requires.stands)
    (follow-requires-clause-leads c)

pub targets-preserved : goal.targets-preserved
targets-preserved c =
    let all = targets c.args.subject.code.bytes.now c.args.placed in
    let t = c.in-Some.target in
    let fits : FitsSigned w32 t = search rules in
    let whole = at-next c.targets.yielded (rest_of c.targets.target-iterator) t (rest_of c.next.new.self) all c.targets.invariant.whole
    c.in-Some.ensures.steps in
    let done = c.in_ok-follow.ensures in
    record {
      sound = done.sound;
      grows = grows-on c.args.self.now c.targets.self c.follow.new.self c.targets.invariant.grows done.grows;
      led =
          All-push (IsLedTo c.follow.new.self) c.targets.yielded t
          (all-led-stays c.targets.self c.follow.new.self c.targets.yielded done.grows c.targets.invariant.led)
          (rw (to_z-of_z w32 t fits) at done.led);
      whole = go-on c.targets.yielded t (rest_of c.next.new.self) all whole;
    }
