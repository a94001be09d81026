use Rattle.std.proofs.Common.{◌≡◌, ℕ, [], List, subst, arith}
use Rattle.std.proofs.lemmas.List.{nil_from_length}
use Rattle.digraph.specs.Marks.{Marks, IsSearch}
use Rattle.digraph.proofs.Marking.{waiting-inside, search-goes, search-ends}
use Rattle.digraph.proofs.search.led_to.Goals as goal

pub row-requires : goal.row-requires
row-requires c =
    waiting-inside c.args.graph.now c.args.from c.in-Some.v c.work.marks.items c.work.pending.items c.pop.new.self.items c.work.invariant
    c.in-Some.ensures.items c.requires

pub work-preserved : goal.work-preserved
work-preserved c =
    let g = c.args.graph.now in
    let marks = c.work.marks.items in
    let rest = c.pop.new.self.items in
    let marked = c.mark_all.new.marks.items in
    let waiting = c.mark_all.new.pending.items in
    search-goes g c.args.from c.in-Some.v marks marked rest waiting
    (subst (IsSearch g c.args.from marks) c.in-Some.ensures.items c.work.invariant)
    (subst (λ (row : List ℕ). Marks row marks rest marked waiting) c.row.ensures.is c.in_ok-mark_all.ensures)

pub returns : goal.returns
returns c =
    let none : c.work.pending.items ≡ [] = nil_from_length c.work.pending.items (omega (arith, c.work.pending.ok.0, c.in_default.ensures.cases.0)) in
    search-ends c.args.graph.now c.args.from c.work.marks.items (subst (IsSearch c.args.graph.now c.args.from c.work.marks.items) none c.work.invariant)
