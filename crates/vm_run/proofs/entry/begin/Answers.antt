use Rattle.std.proofs.Common.{◌≡◌, ◌≤◌, ℕ, List, [], length, map, sym, ap, ◌∙◌, subst, arith, Some}
use Rattle.std.specs.Prelude.{sum_by, filter}
use Rattle.std.proofs.lemmas.List.{length-map}
use Rattle.jc_base.specs.declared.record.ArrayRec.{ArrayRec}
use Rattle.jc_base.specs.declared.ty.Ty.{Ty}
use Rattle.vm_store.specs.State.{State, top, with_top, with_entry}
use Rattle.vm_store.specs.Layout.{overwritten}
use Rattle.vm_store.specs.Objects.{heap_cells}
use Rattle.vm_step.specs.Start.{initial, initial_object, is_parameter, first_without_room, with_arrays, cells_handed}
use Rattle.vm_run.proofs.Sums.{there-inside}
use Rattle.vm_run.proofs.Elements.{initial-count}
use Rattle.vm_run.proofs.Beginning.{takes, filter-le, arrays-frames, entry-made}
use Rattle.vm_run.proofs.entry.begin.Goals as goal

pub make_argument_arrays-requires-clause-room : goal.make_argument_arrays-requires-clause-room
make_argument_arrays-requires-clause-room g c =
    let w = c.args.world.now in
    let k = g.S.Cell.CellForm.cells in
    let args = c.args.args.now in
    let Z : Type 0 = State g.row.S-Cell.Denot in
    let z : Z = g.S.Store.state c.make_initial_arrays.new.store in
    let t = takes w c.args.entry args c.requires.begins in
    let count : length z.heap ≡ length w.arrays = ap (λ (x : Z). length x.heap) c.make_initial_arrays.ensures.state
    ∙ length-map w.arrays (initial_object k) in
    let cells : heap_cells z ≡ sum_by (λ (a : ArrayRec). length a.initial) w.arrays =
    ap (λ (x : Z). heap_cells x) c.make_initial_arrays.ensures.state ∙ initial-count k w.arrays c.classes-facts.ensures.links.arrays in
    ap (λ (n : ℕ). first_without_room 0 n (heap_cells z) args) count
    ∙ (ap (λ (n : ℕ). first_without_room 0 (length w.arrays) n args) cells ∙ t.1.room)

pub begin-requires-clause-known : goal.begin-requires-clause-known
begin-requires-clause-known g c =
    let t = takes c.args.world.now c.args.entry c.args.args.now c.requires.begins in there-inside c.args.world.now.methods c.args.entry t.0 t.1.is

pub begin-requires-clause-room : goal.begin-requires-clause-room
begin-requires-clause-room g c =
    let k = g.S.Cell.CellForm.cells in
    let Z : Type 0 = State g.row.S-Cell.Denot in
    let y : Z = g.S.Store.state c.make_argument_arrays.new.store in
    let frames : y.frames ≡ [] =
    ap (λ (x : Z). x.frames) c.make_argument_arrays.ensures.state
    ∙ (arrays-frames k c.args.args.now (g.S.Store.state c.make_initial_arrays.new.store)
    ∙ (ap (λ (x : Z). x.frames) c.make_initial_arrays.ensures.state
    ∙ (ap (λ (x : Z). x.frames) c.write_statics.ensures.state ∙ c.requires.no_frame))) in
    omega (arith, ap length frames)

pub method-requires : goal.method-requires
method-requires g c =
    let t = takes c.args.world.now c.args.entry c.args.args.now c.requires.begins in there-inside c.args.world.now.methods c.args.entry t.0 t.1.is

pub hand_arguments-requires-clause-handles : goal.hand_arguments-requires-clause-handles
hand_arguments-requires-clause-handles g c =
    let t = takes c.args.world.now c.args.entry c.args.args.now c.requires.begins in
    let same : Some c.method.result.now ≡ Some t.0 = sym c.method.ensures.is ∙ t.1.is in
    let m : c.method.result.now ≡ t.0 = cc in
    let few = filter-le is_parameter t.0.sig.args in
    let words = subst (λ (r : _). length r.sig.args ≤ 255) m (omega (arith, c.method.ensures.links.words, c.method.ensures.links.registers)) in
    omega (arith, t.1.count, few, words, c.array_count.ensures.most)

pub returns-clause-state : goal.returns-clause-state
returns-clause-state g c =
    let w = c.args.world.now in
    let k = g.S.Cell.CellForm.cells in
    let Z : Type 0 = State g.row.S-Cell.Denot in
    let s : Z = g.S.Store.state c.args.store.now in
    let y : Z = g.S.Store.state c.make_argument_arrays.new.store in
    let before : g.S.Store.state c.make_initial_arrays.new.store ≡ initial k w =
    c.make_initial_arrays.ensures.state
    ∙ (ap (λ (x : Z). record x { heap = map (initial_object k) w.arrays }) c.write_statics.ensures.state
    ∙ ap (λ (fs : List _). record (initial k w) { frames = fs }) c.requires.no_frame) in
    let arrays : y ≡ with_arrays k c.args.args.now (initial k w) = c.make_argument_arrays.ensures.state ∙ ap (with_arrays k c.args.args.now) before in
    let made : Z → ℕ → List Ty → Z =
    λ x n ts. with_top x (record (top x) { registers = overwritten (top x).registers 0 (cells_handed k n c.args.args.now (filter is_parameter ts)) }) in
    let z : Z = with_entry k w.methods y c.args.entry in
    let final : g.S.Store.state c.hand_arguments.new.store ≡ made z (length w.arrays) c.method.result.now.sig.args =
    c.hand_arguments.ensures.state
    ∙ (ap (λ (x : Z). made x c.array_count.result c.as_slice-types.result.now) c.begin.ensures.state
    ∙ (ap (λ (n : ℕ). made z n c.as_slice-types.result.now) c.array_count.ensures.is
    ∙ ap (λ (ts : List Ty). made z (length w.arrays) ts) c.as_slice-types.ensures)) in
    entry-made k w c.args.entry c.args.args.now c.method.result.now y (g.S.Store.state c.hand_arguments.new.store) c.method.ensures.is arrays final
