use Rattle.std.proofs.Common.{get_or, refl, ap, ◌∙◌, subst}
use Rattle.std.proofs.lemmas.List.{take_all}
use Rattle.xf_live.specs.Interference.{AreAfter, PutsTo}
use Rattle.xf_live.specs.Live.{set_at}
use Rattle.xf_live.proofs.Putting.{after-more, interfering}
use Rattle.xf_live.proofs.interference.find_interference.Goals as goal

pub edges-preserved : goal.edges-preserved
edges-preserved c =
    let written = c.written_at.result in
    let edge = get_or c.args.edges.now c.edges.edge-index (record { «from» = 0; to = 0 }) in
    record {
      after = after-more c.args.uses.now c.in_ok-sets.sets.items c.args.edges.now written c.edges.after.items c.put.new.after.items
          c.edges.edge-index (record { «from» = 0; to = 0 }) c.edges-test.true c.edges.invariant.after c.written_at.ensures
          (subst (λ ss. PutsTo written (set_at ss edge.to) 256 c.edges.after.items c.put.new.after.items) c.as_slice.ensures.value
          (subst (λ live. PutsTo written live 256 c.edges.after.items c.put.new.after.items) c.set_of-live.ensures c.put.ensures));
    }

pub returns : goal.returns
returns c =
    let uses = c.args.uses.now in
    let edges = c.args.edges.now in
    let sets = c.in_ok-sets.sets.items in
    let after = c.edges.after in
    interfering uses sets edges after.items c.in_ok-sets.ensures
    (subst (λ es. AreAfter uses sets es after.items) (take_all c.edges.edge-index edges c.edges-test.false) c.edges.invariant.after)
    (record { first = c.set_of-first.result; after = after })
    (c.set_of-first.ensures ∙ ap (λ ss. set_at ss 0) c.as_slice-2.ensures.value) refl
