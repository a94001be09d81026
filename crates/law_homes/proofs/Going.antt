-- Steps that rewritten code takes alone: an operation that goes on, and a copy of a value.
use Rattle.std.proofs.Common.{◌≡◌, ℕ, ◌+◌, ◌≤◌, List, [], ◌∷◌, length, map, set, refl, sym, ap, ◌∙◌, subst, arith}
use Rattle.std.specs.Prelude.{Some, None, nat_lt, nat_le, IsSomeAnd, slice_get}
use Rattle.std.proofs.lemmas.Bool.{le-ltb, lt-leb}
use Rattle.std.proofs.lemmas.List.{length-map}
use Rattle.jc_base.specs.declared.ty.Ty.{Ty}
use Rattle.jc_base.specs.declared.ty.Ty.TheVariants.{Bottom, Short, IntHigh, IntLow, Class}
use Rattle.jc_base.specs.Class.{AreClasses, object}
use Rattle.jc_base.specs.World.{Linked}
use Rattle.jc_decode.specs.declared.insn.Placed.{Placed}
use Rattle.jc_decode.proofs.InstructionLists.{all-are-listed}
use Rattle.jc_control.specs.WellFormed.{IsPlace}
use Rattle.jc_control.proofs.PlacesWithin.{place-inside}
use Rattle.jc_ops.specs.declared.operation.Operation.{Operation}
use Rattle.jc_ops.specs.declared.operation.Operation.TheVariants.{Load, Store}
use Rattle.jc_ops.specs.declared.operation.Sort.{Sort}
use Rattle.jc_ops.specs.declared.operation.Sort.TheVariants as sorts
use Rattle.jc_ops.specs.declared.operation.Want.TheVariants.{Value}
use Rattle.jc_rules.specs.Demand.{SatisfiesAll, Meets}
use Rattle.jc_rules.specs.Rule.{demands}
use Rattle.vm_store.specs.declared.cell.Cell.{Cell}
use Rattle.vm_store.specs.declared.cell.CellKind.{CellKind}
use Rattle.vm_store.specs.declared.cell.CellKind.TheVariants as made
use Rattle.vm_store.specs.declared.cell.ObjectKind.{ObjectKind}
use Rattle.vm_store.specs.Typing.{least_type}
use Rattle.vm_store.specs.Cells.{tagged, loaded_as}
use Rattle.vm_store.specs.State.{State, Frame, Object, top, nth, with_place}
use Rattle.vm_store.specs.Laws.{HasContent}
use Rattle.vm_step.specs.declared.ending.Fault.TheVariants.{StackFault, JumpFault}
use Rattle.vm_step.specs.Act.{Act, goes}
use Rattle.vm_step.specs.Methods.{code_at, max_stack_of}
use Rattle.vm_step.specs.Performed.{act}
use Rattle.vm_step.specs.Raising.{running}
use Rattle.vm_step.specs.Run.{Runs, stands, steps}
use Rattle.vm_step.specs.Settled.{unless_fault, fault_next, settled}
use Rattle.vm_step.specs.Step.{Steps, performs}
use Rattle.vm_step.specs.Tests.{fault_before}
use Rattle.vm_step.specs.Values.{with_load, with_store}
use Rattle.law_sound.specs.Frames.{least_types, types_of_frame}
use Rattle.law_sound.proofs.Cells.{cell-at}
use Rattle.law_sound.proofs.Finish.{pick}
use Rattle.law_alike.specs.Running.{Executes}
use Rattle.law_sound.proofs.Passing.{passes-before}
use Rattle.law_homes.specs.Moves.{size, copied, with_registers, AreFilled, OperationsGoOn, CopiesRun}
use Rattle.jc_decode.specs.Places.{place_after}

-- what was stored in a cell is loaded as it is
pub loaded-filled : (kind : CellKind) (c : Cell) → HasContent c → loaded_as kind c ≡ c
loaded-filled x y h = grind (arith)

module _ (w : Linked) (chains : AreClasses w.classes) where
  -- ---- one step

  go-on :
      (f : Frame Cell) (below : List (Frame Cell)) (heap : List (Object Cell)) (statics : List Cell) (z : State Cell) (j : Placed)
      (op : Operation)
      → Executes w (record { frames = f ∷ below; heap = heap; statics = statics }) j op
      → SatisfiesAll w.classes (types_of_frame w.classes Bottom (map (λ (o : Object Cell). o.kind) heap) f) (demands w op)
      → act tagged w j.insn op (record { frames = f ∷ below; heap = heap; statics = statics }) ≡ goes z
      → length (top z).stack ≤ max_stack_of w (top z).method
      → IsPlace (code_at w (top z).method) (place_after j)
      → Steps tagged w (record { frames = f ∷ below; heap = heap; statics = statics }) (running (with_place z (place_after j)))
  go-on f below heap statics z j op ex asked does room next =
      let t : State Cell = record { frames = f ∷ below; heap = heap; statics = statics } in
      let code : List ℕ = code_at w (top z).method in
      let before : fault_before tagged w op t ≡ None = passes-before w chains f below heap statics op asked in
      let after : fault_next tagged w z (length (top z).stack) (place_after j) ≡ None =
      pick (Some StackFault) (Some JumpFault) (nat_lt (max_stack_of w (top z).method) (length (top z).stack))
      (nat_le (length code) (place_after j))
      (le-ltb (max_stack_of w (top z).method) (length (top z).stack) room)
      (lt-leb (length code) (place_after j) (place-inside code (all-are-listed code) (place_after j) next)) in
      performs ex.fetched op ex.resolved
      (sym (ap (λ o. unless_fault t o (settled tagged w (place_after j) t (act tagged w j.insn op t))) before
      ∙ (ap (λ (a : Act Cell). settled tagged w (place_after j) t a) does
      ∙ ap (λ o. unless_fault t o (running (with_place z (place_after j)))) after)))

  by-frames :
      (fs : List (Frame Cell)) (heap : List (Object Cell)) (statics : List Cell) (z : State Cell) (j : Placed) (op : Operation)
      → Executes w (record { frames = fs; heap = heap; statics = statics }) j op
      → SatisfiesAll w.classes (types_of_frame w.classes Bottom (map (λ (o : Object Cell). o.kind) heap)
      (top (record { frames = fs; heap = heap; statics = statics }))) (demands w op)
      → act tagged w j.insn op (record { frames = fs; heap = heap; statics = statics }) ≡ goes z
      → length (top z).stack ≤ max_stack_of w (top z).method
      → IsPlace (code_at w (top z).method) (place_after j)
      → Steps tagged w (record { frames = fs; heap = heap; statics = statics }) (running (with_place z (place_after j)))
  by-frames [] heap statics z j op ex asked does room next = absurd (let lt = ex.fetched.runs in omega (arith, lt))
  by-frames (f ∷ below) heap statics z j op ex asked does room next = go-on f below heap statics z j op ex asked does room next

  pub operations-go-on : OperationsGoOn w
  operations-go-on t z j op ex asked does room next = by-frames t.frames t.heap t.statics z j op ex asked does room next

  -- ---- a copy

  module _
      (f : Frame Cell) (below : List (Frame Cell)) (heap : List (Object Cell)) (statics : List Cell)
      (i j : Placed) (from to : ℕ)
      (next : IsPlace (code_at w f.method) (place_after i)) (last : IsPlace (code_at w f.method) (place_after j)) where
    abbrev state : List Cell → List Cell → ℕ → State Cell
    state registers stack place =
        record {
          frames = record { method = f.method; place = place; registers = registers; stack = stack } ∷ below;
          heap = heap;
          statics = statics;
        }

    abbrev t : State Cell
    t = record { frames = f ∷ below; heap = heap; statics = statics }

    abbrev ks : List ObjectKind
    ks = map (λ (o : Object Cell). o.kind) heap

    there : (n : ℕ) → to + n ≤ length f.registers → to + n ≤ length (least_types w.classes Bottom ks f.registers)
    there n le = subst (λ k. to + n ≤ k) (sym (length-map f.registers (least_type w.classes Bottom ks))) le

    abbrev one : Cell
    one = nth tagged f.registers from

    abbrev other : Cell
    other = nth tagged f.registers (from + 1)

    -- a value of one cell
    one-copied :
        (sort : Sort) (kind : CellKind)
        → HasContent one
        → Steps tagged w t (running (state f.registers (loaded_as kind one ∷ f.stack) (place_after i)))
        → Steps tagged w (state f.registers (loaded_as kind one ∷ f.stack) (place_after i))
        (running (state (set f.registers to (loaded_as kind one)) f.stack (place_after j)))
        → Runs tagged w 2 t (running (state (set f.registers to one) f.stack (place_after j)))
    one-copied _ kind filled load store =
        subst (λ d. Runs tagged w 2 t (running (state (set f.registers to d) f.stack (place_after j)))) (loaded-filled kind one filled)
        (steps load (steps store stands))

    -- the type of a cell that is tested, once it is loaded
    loaded-meets :
        (n : ℕ) (kind : CellKind) (ty : Ty) → HasContent (nth tagged f.registers n)
        → IsSomeAnd (slice_get (least_types w.classes Bottom ks f.registers) n) (Meets w.classes (Value ty))
        → Meets w.classes (Value ty) (least_type w.classes Bottom ks (loaded_as kind (nth tagged f.registers n)))
    loaded-meets n kind ty filled h =
        subst (λ c. Meets w.classes (Value ty) (least_type w.classes Bottom ks c))
        (sym (loaded-filled kind (nth tagged f.registers n) filled))
        (cell-at w.classes Bottom ks f.registers n (Meets w.classes (Value ty)) h).holds

    copy-runs :
        (sort : Sort)
        → Executes w t i (Load sort from)
        → Executes w (with_place (with_load tagged sort from t) (place_after i)) j (Store sort to)
        → SatisfiesAll w.classes (types_of_frame w.classes Bottom ks f) (demands w (Load sort from))
        → AreFilled sort from f.registers
        → to + size sort ≤ length f.registers
        → size sort + length f.stack ≤ max_stack_of w f.method
        → Runs tagged w 2 t (running (with_registers t (place_after j) (copied tagged sort from to f.registers)))
    copy-runs sorts.Reference loads stores asked filled inside room =
        one-copied sorts.Reference made.Reference filled
        (operations-go-on t (with_load tagged sorts.Reference from t) i (Load sorts.Reference from) loads asked refl
        (omega (arith, room)) next)
        (operations-go-on (with_place (with_load tagged sorts.Reference from t) (place_after i))
        (with_store tagged sorts.Reference to (with_place (with_load tagged sorts.Reference from t) (place_after i))) j
        (Store sorts.Reference to) stores
        (there 1 inside, (loaded-meets from made.Reference (Class (object w.classes)) filled asked.1.0, tt)) refl
        (omega (arith, room)) last)
    copy-runs sorts.Short loads stores asked filled inside room =
        one-copied sorts.Short made.Short filled
        (operations-go-on t (with_load tagged sorts.Short from t) i (Load sorts.Short from) loads asked refl (omega (arith, room))
        next)
        (operations-go-on (with_place (with_load tagged sorts.Short from t) (place_after i))
        (with_store tagged sorts.Short to (with_place (with_load tagged sorts.Short from t) (place_after i))) j (Store sorts.Short to)
        stores
        (there 1 inside, (loaded-meets from made.Short Short filled asked.1.0, tt)) refl (omega (arith, room)) last)
    copy-runs sorts.Int loads stores asked filled inside room =
        let high = loaded-filled made.High one filled.0 in
        let low = loaded-filled made.Low other filled.1 in
        subst (λ c. Runs tagged w 2 t (running (state (set (set f.registers to c) (to + 1) other) f.stack (place_after j)))) high
        (subst (λ d. Runs tagged w 2 t
        (running (state (set (set f.registers to (loaded_as made.High one)) (to + 1) d) f.stack (place_after j)))) low
        (steps
        (operations-go-on t (with_load tagged sorts.Int from t) i (Load sorts.Int from) loads asked refl (omega (arith, room)) next)
        (steps
        (operations-go-on (with_place (with_load tagged sorts.Int from t) (place_after i))
        (with_store tagged sorts.Int to (with_place (with_load tagged sorts.Int from t) (place_after i))) j (Store sorts.Int to) stores (
          there 2 inside,
          (
            loaded-meets (from + 1) made.Low IntLow filled.1 asked.1.1.0,
            (loaded-meets from made.High IntHigh filled.0 asked.1.0, tt),
          ),
        )
        refl (omega (arith, room)) last)
        stands)))

  copies-by :
      (fs : List (Frame Cell)) (heap : List (Object Cell)) (statics : List Cell) (i j : Placed) (sort : Sort) (from to : ℕ)
      → Executes w (record { frames = fs; heap = heap; statics = statics }) i (Load sort from)
      → Executes w (with_place (with_load tagged sort from (record { frames = fs; heap = heap; statics = statics })) (place_after i)) j
      (Store sort to)
      → SatisfiesAll w.classes
      (types_of_frame w.classes Bottom (map (λ (o : Object Cell). o.kind) heap)
      (top (record { frames = fs; heap = heap; statics = statics })))
      (demands w (Load sort from))
      → AreFilled sort from (top (record { frames = fs; heap = heap; statics = statics })).registers
      → to + size sort ≤ length (top (record { frames = fs; heap = heap; statics = statics })).registers
      → size sort + length (top (record { frames = fs; heap = heap; statics = statics })).stack
      ≤ max_stack_of w (top (record { frames = fs; heap = heap; statics = statics })).method
      → IsPlace (code_at w (top (record { frames = fs; heap = heap; statics = statics })).method) (place_after i)
      → IsPlace (code_at w (top (record { frames = fs; heap = heap; statics = statics })).method) (place_after j)
      → Runs tagged w 2 (record { frames = fs; heap = heap; statics = statics })
      (running (with_registers (record { frames = fs; heap = heap; statics = statics }) (place_after j)
      (copied tagged sort from to (top (record { frames = fs; heap = heap; statics = statics })).registers)))
  copies-by [] heap statics i j _ from to loads stores asked filled inside room next last = grind (arith)
  copies-by (f ∷ below) heap statics i j sort from to loads stores asked filled inside room next last =
      copy-runs f below heap statics i j from to next last sort loads stores asked filled inside room

  pub copies-run : CopiesRun w
  copies-run t i j sort from to loads stores asked filled inside room next last =
      copies-by t.frames t.heap t.statics i j sort from to loads stores asked filled inside room next last
