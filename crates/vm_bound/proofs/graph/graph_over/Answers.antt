use Rattle.std.proofs.Common.{◌≡◌, ◌<◌, ◌∷◌, [], length, Some, sym, ap, ◌∙◌, subst, arith}
use Rattle.std.specs.Prelude.{slice_get, Contains}
use Rattle.std.proofs.lemmas.List.{length-append}
use Rattle.std.proofs.lemmas.Option.{slice_get_within}
use Rattle.vm_bound.specs.declared.graph.Vertex.TheVariants.{Method, Means}
use Rattle.vm_bound.specs.Vertices.{Stands}
use Rattle.vm_bound.specs.Edges.{Leads}
use Rattle.vm_bound.specs.Rows.{AreRows, AreNumbers, IsCallGraph}
use Rattle.vm_bound.proofs.Numbering.{all-fit, numbers-here, method-row, meaning-row, rows-more, rows-graph, none-past}
use Rattle.vm_bound.proofs.graph.graph_over.Goals as goal

pub row-requires : goal.row-requires
row-requires c =
    let w = c.args.world.now in
    let s = c.args.spread.now in
    all-fit w (Leads w s (Method c.methods.method)) c.in_ok-targets.targets.items c.as_slice.result.now c.method_count-methods.result c.in_ok-targets.ensures
    c.as_slice.ensures.value c.method_count-methods.ensures.is

pub methods-preserved : goal.methods-preserved
methods-preserved c =
    let w = c.args.world.now in
    let s = c.args.spread.now in
    let m = c.methods.method in
    let old = c.methods.meanings in
    let new = c.row.new.self in
    let rows = c.methods.rows.items in
    let row = c.in_ok-row.row in
    let targets = c.in_ok-targets.targets.items in
    let count = c.methods.invariant.long in
    let l : m < length w.methods = omega (arith, c.methods-test.true, c.method_count-methods.ensures.is) in
    let long = length-append rows (row ∷ []) in
    let items = ap length c.in_ok-push.ensures.items in
    let are : AreNumbers (length w.methods) new (Contains targets) row =
    numbers-here w c.method_count-methods.result new targets c.as_slice.result.now row c.as_slice.ensures.value c.method_count-methods.ensures.is
    c.in_ok-row.ensures.numbers in
    record {
      long = omega (arith, items, long, count);
      rows = subst (AreRows w s new) (sym c.in_ok-push.ensures.items)
          (rows-more w s old new rows row (omega (arith, count, l)) c.in_ok-row.ensures.extends c.methods.invariant.rows
          (λ v stands. method-row w s new m targets row l c.in_ok-targets.ensures are v (subst (Stands (length w.methods) new v) count stands)));
    }

pub of-requires : goal.of-requires
of-requires c =
    let w = c.args.world.now in
    let ms = c.meanings.meanings in
    let low = c.meanings.invariant.within in
    let count = c.meanings.invariant.long in
    let past = none-past ms c.meanings.place (sym c.at.ensures ∙ c.in_default.is) in
    rows-graph w c.args.spread.now ms c.meanings.rows.items c.classes-facts.ensures.links (omega (arith, count, low, past))
    (omega (arith, past, c.meanings-test.true)) c.meanings.invariant.rows

pub returns-in_default : goal.returns-in_default
returns-in_default c =
    let w = c.args.world.now in
    let ms = c.meanings.meanings in
    let low = c.meanings.invariant.within in
    let count = c.meanings.invariant.long in
    let past = none-past ms c.meanings.place (sym c.at.ensures ∙ c.in_default.is) in
    subst (IsCallGraph w) (sym c.of.ensures) (record {
      spread = c.args.spread.now;
      meanings = ms;
      spreads = c.requires.spread;
      count = omega (arith, count, low, past);
      rows = c.meanings.invariant.rows;
    })

pub row-requires-in-meanings : goal.row-requires-in-meanings
row-requires-in-meanings c =
    let w = c.args.world.now in
    let s = c.args.spread.now in
    all-fit w (Leads w s (Means c.in-Some.meaning)) c.in_ok-targets-2.targets.items c.as_slice-in-meanings.result.now c.method_count-methods.result
    c.in_ok-targets-2.ensures c.as_slice-in-meanings.ensures.value c.method_count-methods.ensures.is

pub meanings-preserved : goal.meanings-preserved
meanings-preserved c =
    let w = c.args.world.now in
    let s = c.args.spread.now in
    let place = c.meanings.place in
    let meaning = c.in-Some.meaning in
    let old = c.meanings.meanings in
    let new = c.row-in-meanings.new.self in
    let rows = c.meanings.rows.items in
    let row = c.in_ok-row-2.row in
    let targets = c.in_ok-targets-2.targets.items in
    let count = c.meanings.invariant.long in
    let low = c.meanings.invariant.within in
    let was : slice_get old place ≡ Some meaning = sym c.at.ensures ∙ c.in-Some.is in
    let at : slice_get new place ≡ Some meaning = c.in_ok-row-2.ensures.extends place meaning was in
    let inside = slice_get_within new place meaning at in
    let long = length-append rows (row ∷ []) in
    let items = ap length c.in_ok-push-2.ensures.items in
    let are : AreNumbers (length w.methods) new (Contains targets) row =
    numbers-here w c.method_count-methods.result new targets c.as_slice-in-meanings.result.now row c.as_slice-in-meanings.ensures.value
    c.method_count-methods.ensures.is c.in_ok-row-2.ensures.numbers in
    record {
      long = omega (arith, items, long, count);
      within = omega (arith, inside);
      rows = subst (AreRows w s new) (sym c.in_ok-push-2.ensures.items)
          (rows-more w s old new rows row (omega (arith, count, low)) c.in_ok-row-2.ensures.extends c.meanings.invariant.rows
          (λ v stands.
          meaning-row w s new place meaning targets row at c.in_ok-targets-2.ensures are v (subst (Stands (length w.methods) new v) count stands)));
    }
