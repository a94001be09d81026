use Rattle.std.proofs.Common.{subst}
use Rattle.xf_allot.specs.Graph.{Adds, IsOut}
use Rattle.jc_control.specs.Subject.{method}
use Rattle.std.proofs.Common.{ℕ}
use Rattle.xf_allot.proofs.Adding.{IsOne, out-added}
use Rattle.xf_live.proofs.Oks.{on-ok}
use Rattle.xf_allot.proofs.edges.leave.Goals as goal

pub returns : goal.returns
returns c =
    let m = method c.args.subject.now in
    let i = c.args.placed in
    let old = c.args.edges.now.items in
    let fell = c.fall.new.edges.items in
    let jumped = c.jump.new.edges.items in
    let new = c.lead.new.edges.items in
    on-ok (Adds (IsOne i.place c.catching-node.result) jumped new) (Adds (IsOut m i) old new) c.lead.result
    (λ adds. out-added m i old fell jumped new c.in_ok-fall.ensures c.in_ok-jump.ensures
    (subst (λ (n : ℕ). Adds (IsOne i.place n) jumped new) c.catching-node.ensures adds)) c.lead.ensures
