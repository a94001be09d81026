use Rattle.std.proofs.Common.{List, subst}
use Rattle.xf_live.specs.declared.graph.Edge.{Edge}
use Rattle.xf_live.specs.declared.graph.Uses.{Uses}
use Rattle.xf_live.specs.Interference.{AreInterfering}
use Rattle.xf_allot.proofs.Adding.{bound-decided}
use Rattle.xf_allot.proofs.Flowing.{found-apart}
use Rattle.jc_control.specs.Subject.{method, world_of}
use Rattle.xf_allot.proofs.Sharings.{argument-types, few-types}
use Rattle.xf_allot.proofs.sharing.share.Goals as goal

pub allot-requires-clause-found : goal.allot-requires-clause-found
allot-requires-clause-found c =
    let w = world_of c.args.subject.now in
    let m = method c.args.subject.now in
    let uses = c.in_ok-graph.graph.uses.items in
    let edges = c.in_ok-graph.graph.edges.items in
    let found = c.in_ok-found.found in
    found-apart w m c.args.subject.now.listed c.requires.subject.formed uses edges c.in_ok-graph.ensures (bound-decided m.rec.handlers) found
    (subst (λ (us : List Uses). AreInterfering us edges found) c.as_slice.ensures.value
    (subst (λ (es : List Edge). AreInterfering c.as_slice.result.now es found) c.as_slice-2.ensures.value c.in_ok-found.ensures))

pub allot-requires-clause-arguments : goal.allot-requires-clause-arguments
allot-requires-clause-arguments c =
    argument-types (world_of c.args.subject.now) c.classes-classes.ensures.links (method c.args.subject.now) c.args.subject.now.there c.args.types.now
    c.requires.typed

pub allot-requires-clause-few : goal.allot-requires-clause-few
allot-requires-clause-few c =
    few-types (world_of c.args.subject.now) c.classes-classes.ensures.links (method c.args.subject.now) c.args.subject.now.there c.args.types.now
    c.requires.typed
