use Rattle.std.proofs.Common.{◌+◌, IsTrue, rules, sym, ◌∙◌}
use Rattle.jc_decode.specs.Listing.{falls}
use Rattle.xf_allot.specs.Graph.{Adds, IsFall}
use Rattle.xf_allot.proofs.Adding.{IsOne, fall-added}
use Rattle.xf_live.proofs.Oks.{on-ok}
use Rattle.xf_allot.proofs.edges.fall.Goals as goal

pub returns : goal.returns
returns c =
    let i = c.args.placed in
    let old = c.args.edges.now.items in
    let new = c.lead.new.edges.items in
    let goes : IsTrue (falls i.insn.op) = search (rules, sym c.falls.ensures ∙ c.if-not-falls.false) in
    on-ok (Adds (IsOne i.place (i.place + i.insn.len)) old new) (Adds (IsFall i) old new) c.lead.result (fall-added i old new goes) c.lead.ensures
