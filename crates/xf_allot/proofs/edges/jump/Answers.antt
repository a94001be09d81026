use Rattle.std.proofs.Common.{◌∙◌, rules, subst, List}
use Rattle.std.specs.Prelude.{ℤ, FitsSigned}
use Rattle.std.specs.Int.{w32}
use Rattle.std.proofs.lemmas.Int.{to_z-of_z}
use Rattle.std.proofs.lemmas.List.Elements.{All-contains}
use Rattle.jc_control.specs.Targets.{rest_of}
use Rattle.jc_control.specs.WellFormed.{IsTargetPlace}
use Rattle.jc_control.proofs.Elements.{at-last, at-next, go-on, contained-in}
use Rattle.jc_control.proofs.PlacesWithin.{target-range}
use Rattle.jc_decode.specs.Listing.{targets}
use Rattle.xf_allot.specs.Graph.{Adds, IsJumpTo}
use Rattle.xf_allot.proofs.Adding.{jumps-none, jumps-more}
use Rattle.xf_allot.proofs.edges.jump.Goals as goal

pub of-target-items-requires-clause-decoded : goal.of-target-items-requires-clause-decoded
of-target-items-requires-clause-decoded c = c.args.subject.now.listed.decodes c.args.placed c.requires.stands

pub place_of-requires-clause-low : goal.place_of-requires-clause-low
place_of-requires-clause-low c =
    let code = c.args.subject.now.code.bytes.now in
    let all = targets code c.args.placed in
    let t = c.in-Some.target in
    let fits : FitsSigned w32 t = search rules in
    let whole = at-next c.targets.yielded (rest_of c.targets.target-iterator) t (rest_of c.next.new.self) all c.targets.invariant.whole
    c.in-Some.ensures.steps in
    let leads = contained-in c.targets.yielded t (rest_of c.next.new.self) all whole in
    let place = All-contains (IsTargetPlace code) all t (c.requires.subject.formed.targets c.args.placed c.requires.stands) leads in
    rw (to_z-of_z w32 t fits) ((target-range code c.args.subject.now.listed t place c.args.subject.now.short).0)

pub place_of-requires-clause-high : goal.place_of-requires-clause-high
place_of-requires-clause-high c =
    let code = c.args.subject.now.code.bytes.now in
    let all = targets code c.args.placed in
    let t = c.in-Some.target in
    let fits : FitsSigned w32 t = search rules in
    let whole = at-next c.targets.yielded (rest_of c.targets.target-iterator) t (rest_of c.next.new.self) all c.targets.invariant.whole
    c.in-Some.ensures.steps in
    let leads = contained-in c.targets.yielded t (rest_of c.next.new.self) all whole in
    let place = All-contains (IsTargetPlace code) all t (c.requires.subject.formed.targets c.args.placed c.requires.stands) leads in
    rw (to_z-of_z w32 t fits) ((target-range code c.args.subject.now.listed t place c.args.subject.now.short).1)

pub targets-init : goal.targets-init
targets-init c = record { adds = jumps-none c.args.placed c.args.edges.now.items; whole = search rules }

pub targets-preserved : goal.targets-preserved
targets-preserved c =
    let all = targets c.args.subject.now.code.bytes.now c.args.placed in
    let t = c.in-Some.target in
    let fits : FitsSigned w32 t = search rules in
    let whole = at-next c.targets.yielded (rest_of c.targets.target-iterator) t (rest_of c.next.new.self) all c.targets.invariant.whole
    c.in-Some.ensures.steps in
    record {
      adds = jumps-more c.targets.yielded t c.args.placed c.place_of.result c.args.edges.now.items c.targets.edges.items c.lead.new.edges.items
          (c.place_of.ensures ∙ to_z-of_z w32 t fits) c.targets.invariant.adds c.in_ok-lead.ensures;
      whole = go-on c.targets.yielded t (rest_of c.next.new.self) all whole;
    }

pub returns : goal.returns
returns c =
    subst (λ (ts : List ℤ). Adds (IsJumpTo ts c.args.placed) c.args.edges.now.items c.targets.edges.items)
    (at-last c.targets.yielded (rest_of c.targets.target-iterator) (targets c.args.subject.now.code.bytes.now c.args.placed) c.targets.invariant.whole
    c.in-None.ensures.steps.0) c.targets.invariant.adds
