use Rattle.std.proofs.Common.{◌<◌, ◌∷◌, [], length, take, get_or, arith, sym, subst, List, ℕ}
use Rattle.std.proofs.lemmas.List.{take_more}
use Rattle.digraph.specs.Marks.{Marks}
use Rattle.digraph.proofs.Marking.{marks-append}
use Rattle.digraph.proofs.search.mark_all.Goals as goal

pub row-preserved : goal.row-preserved
row-preserved c =
    let row = c.args.row.now in
    let i = c.row.v-index in
    let inside : i < length row = omega (arith, c.row-test.true) in
    subst (λ (vs : List ℕ). Marks vs c.args.marks.now.items c.args.pending.now.items c.mark.new.marks.items c.mark.new.pending.items)
    (sym (take_more row i 0 inside))
    (marks-append (take i row) (get_or row i 0 ∷ []) c.args.marks.now.items c.row.marks.items c.mark.new.marks.items c.args.pending.now.items
    c.row.pending.items c.mark.new.pending.items c.row.invariant c.in_ok-mark.ensures)
