use Rattle.std.proofs.Common.{◌≡◌, ◌<◌, ◌+◌, ◌++◌, [], ◌∷◌, List, ℕ, length, take, sym, ap, ◌∙◌, arith}
use Rattle.std.proofs.Common.{length-take}
use Rattle.std.specs.Prelude.{sum_by, All}
use Rattle.std.proofs.lemmas.List.{length-map}
use Rattle.std.proofs.lemmas.List.Elements.{All-take}
use Rattle.jc_base.specs.declared.record.ArrayRec.{ArrayRec}
use Rattle.jc_base.specs.Cell.{AreElementsOf}
use Rattle.vm_store.specs.State.{State, Object}
use Rattle.vm_store.specs.Objects.{heap_cells}
use Rattle.vm_step.specs.Start.{initial_object}
use Rattle.vm_run.proofs.Sums.{sum-most, there-inside, map-next, room-is}
use Rattle.vm_run.proofs.Elements.{initial-count}
use Rattle.vm_run.proofs.arrays.make_initial_arrays.Goals as goal

pub make_initial-requires-clause-room : goal.make_initial-requires-clause-room
make_initial-requires-clause-room g c =
    let w = c.args.world.now in
    let k = g.S.Cell.CellForm.cells in
    let n = c.arrays.n in
    let a = c.array.result.now in
    let Z : Type 0 = State g.row.S-Cell.Denot in
    let z : Z = g.S.Store.state c.arrays.store in
    let words : ArrayRec → ℕ = λ r. length r.initial in
    let limits = c.classes-facts.ensures.links.limits in
    let inside : n < length w.arrays = there-inside w.arrays n a c.array.ensures.is in
    let kept : All (λ r. AreElementsOf r.kind r.initial) (take n w.arrays) = All-take (λ r. AreElementsOf r.kind r.initial) n w.arrays
    c.classes-facts.ensures.links.arrays in
    let cells : heap_cells z ≡ sum_by words (take n w.arrays) = ap (λ (x : Z). heap_cells x) c.arrays.invariant.state
    ∙ initial-count k (take n w.arrays) kept in
    let made : length z.heap ≡ n =
    ap (λ (x : Z). length x.heap) c.arrays.invariant.state ∙ (length-map (take n w.arrays) (initial_object k) ∙ omega (arith, length-take n w.arrays)) in
    let most = sum-most words w.arrays n a c.array.ensures.is in
    room-is (length z.heap) (heap_cells z + length a.initial) (omega (arith, made, limits.arrays)) (omega (arith, cells, most, limits.array_cells))

pub arrays-preserved : goal.arrays-preserved
arrays-preserved g c =
    let w = c.args.world.now in
    let k = g.S.Cell.CellForm.cells in
    let Z : Type 0 = State g.row.S-Cell.Denot in
    let s : Z = g.S.Store.state c.args.store.now in
    let a = c.array.result.now in
    record {
      state = c.make_initial.ensures.state
          ∙ (ap (λ (x : Z). record x { heap = x.heap ++ initial_object k a ∷ [] }) c.arrays.invariant.state
          ∙ ap (λ (os : List (Object g.row.S-Cell.Denot)). record s { heap = os })
          (sym (map-next (initial_object k) w.arrays c.arrays.n a c.array.ensures.is)));
      well = c.make_initial.ensures.well;
      fixed = c.make_initial.ensures.fixed ∙ c.arrays.invariant.fixed;
    }
