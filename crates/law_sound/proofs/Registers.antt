-- Loads, stores and increments at a frame's turn.
use Rattle.std.proofs.Common.{◌≡◌, ℕ, ◌+◌, true, List, [], ◌∷◌, drop, set, refl, sym, ap, ◌∙◌, subst, arith}
use Rattle.std.specs.Prelude.{ℤ, slice_index_or}
use Rattle.std.proofs.lemmas.Bool.{false≢true}
use Rattle.std.proofs.lemmas.List.{map-set, drop-map}
use Rattle.std.proofs.lemmas.List.Elements.{All-drop}
use Rattle.jc_base.specs.declared.ty.Ty.{Ty}
use Rattle.jc_base.specs.declared.ty.Ty.TheVariants.{Bottom, Short, IntHigh, IntLow, Null, Class, ArrBool}
use Rattle.jc_base.specs.declared.ty.Ty.TheVariants.{ArrByte, ArrShort, ArrInt, ArrRef, Fresh, Top}
use Rattle.jc_base.specs.Class.{ClassTable, AreClasses, object}
use Rattle.jc_base.specs.Order.{Below, same, nothing, null_object, null_array, of_booleans}
use Rattle.jc_base.specs.Order.{of_bytes, of_shorts, of_ints, of_references, is_below}
use Rattle.jc_base.specs.World.{Linked, IsWorld}
use Rattle.jc_base.proofs.Subtypes.{is_below-from_Below}
use Rattle.jc_ops.specs.declared.operation.Sort.{Sort}
use Rattle.jc_ops.specs.declared.operation.Sort.TheVariants as sorts
use Rattle.jc_ops.specs.declared.operation.Width.{Width}
use Rattle.jc_ops.specs.declared.operation.Width.TheVariants as widths
use Rattle.jc_ops.specs.declared.operation.Operation.{Operation}
use Rattle.jc_ops.specs.declared.operation.Operation.TheVariants as ops
use Rattle.jc_ops.specs.Next.{falls_from}
use Rattle.jc_rules.specs.declared.effect.Cells.TheVariants as given
use Rattle.jc_rules.specs.declared.effect.Effect.{Effect}
use Rattle.jc_rules.specs.declared.effect.Mode.TheVariants.{Flow}
use Rattle.jc_rules.specs.Effect.{changed, StoresInRegisters, WritesRegister, WritesInt}
use Rattle.jc_rules.specs.Demand.{SatisfiesAll}
use Rattle.jc_rules.specs.Rule.{or_null, cell, storing, effect, demands}
use Rattle.jc_rules.specs.Flow.{no_cells, more_cells}
use Rattle.jc_rules.proofs.CellLists.{cells-same, cells-set}
use Rattle.vm_arithmetic.specs.Arithmetic.{high_word, low_word}
use Rattle.vm_store.specs.declared.cell.Cell.{Cell}
use Rattle.vm_store.specs.declared.cell.Cell.TheVariants as cells
use Rattle.vm_store.specs.declared.cell.CellKind.TheVariants as made
use Rattle.vm_store.specs.declared.cell.ObjectKind.{ObjectKind}
use Rattle.vm_store.specs.Typing.{least_type}
use Rattle.vm_store.specs.Cells.{tagged, loaded_as}
use Rattle.vm_store.specs.State.{Frame, Object}
use Rattle.vm_step.specs.Values.{with_load, with_store, incremented, with_increment}
use Rattle.vm_step.specs.Settled.{goes_to}
use Rattle.law_sound.specs.Frames.{Typings, least_types, types_of_frame, IsStacked}
use Rattle.law_sound.specs.Soundness.{IsTypedOutcome}
use Rattle.law_sound.proofs.CellTypes.{IsReadyCell}
use Rattle.law_sound.proofs.Handles.{kinds_of}
use Rattle.law_sound.proofs.Ready.{value-ready}
use Rattle.law_sound.proofs.Cells.{cell-at, one-stacked, two-stacked}
use Rattle.law_sound.proofs.SafeTurns.{Here, replace-safe, on-safe}

-- ---- what a load pushes

or_null-above : (t : ClassTable) (a : Ty) → Below t a (or_null a)
or_null-above t Bottom = nothing
or_null-above t Short = same
or_null-above t IntHigh = same
or_null-above t IntLow = same
or_null-above t Null = same
or_null-above t (Class c) = same
or_null-above t ArrBool = same
or_null-above t ArrByte = same
or_null-above t ArrShort = same
or_null-above t ArrInt = same
or_null-above t (ArrRef c) = same
or_null-above t (Fresh p c) = same
or_null-above t Top = same

null-under : (t : ClassTable) (c : ℕ) (a : Ty) → is_below t a (Class c) ≡ true → Below t Null (or_null a)
unfolding is_below
null-under t c Bottom h = same
null-under t c Null h = same
null-under t c (Class d) h = null_object
null-under t c ArrBool h = null_array of_booleans
null-under t c ArrByte h = null_array of_bytes
null-under t c ArrShort h = null_array of_shorts
null-under t c ArrInt h = null_array of_ints
null-under t c (ArrRef d) h = null_array of_references
null-under t c _ h = absurd (false≢true h)

module _ (t : ClassTable) (are : AreClasses t) (unset : Ty) (ks : List ObjectKind) where
  -- an empty register is read as null, and every other as it is
  record IsLoaded (c : Cell) (ty : Ty) : Type 0 where
    below : Below t (least_type t unset ks c) ty
    ready : IsReadyCell c

  -- what is no empty cell
  reference-kept : (c : Cell) (o : ℕ) → IsReadyCell c → IsLoaded c (or_null (least_type t unset ks c))
  reference-kept c o ready = record { below = or_null-above t (least_type t unset ks c); ready = ready }

  reference-loaded : (c : Cell) (o : ℕ) → Below t (least_type t unset ks c) (Class o)
      → IsLoaded (loaded_as made.Reference c) (or_null (least_type t unset ks c))
  reference-loaded cells.Empty o b = record { below = null-under t o unset (is_below-from_Below t are b); ready = tt }
  reference-loaded (cells.Short n) o b = reference-kept (cells.Short n) o tt
  reference-loaded (cells.High n) o b = reference-kept (cells.High n) o tt
  reference-loaded (cells.Low n) o b = reference-kept (cells.Low n) o tt
  reference-loaded (cells.Ref n) o b = reference-kept (cells.Ref n) o tt
  reference-loaded (cells.Fresh n p) o b = reference-kept (cells.Fresh n p) o (value-ready t are unset ks (cells.Fresh n p) (Class o) tt tt tt b)

  short-loaded : (c : Cell) → Below t (least_type t unset ks c) Short → IsLoaded (loaded_as made.Short c) Short
  short-loaded cells.Empty b = record { below = same; ready = tt }
  short-loaded (cells.Short n) b = record { below = b; ready = tt }
  short-loaded (cells.High n) b = record { below = b; ready = tt }
  short-loaded (cells.Low n) b = record { below = b; ready = tt }
  short-loaded (cells.Ref n) b = record { below = b; ready = tt }
  short-loaded (cells.Fresh n p) b = record { below = b; ready = value-ready t are unset ks (cells.Fresh n p) Short tt tt tt b }

  high-loaded : (c : Cell) → Below t (least_type t unset ks c) IntHigh → IsLoaded (loaded_as made.High c) IntHigh
  high-loaded cells.Empty b = record { below = same; ready = tt }
  high-loaded (cells.Short n) b = record { below = b; ready = tt }
  high-loaded (cells.High n) b = record { below = b; ready = tt }
  high-loaded (cells.Low n) b = record { below = b; ready = tt }
  high-loaded (cells.Ref n) b = record { below = b; ready = tt }
  high-loaded (cells.Fresh n p) b = record { below = b; ready = value-ready t are unset ks (cells.Fresh n p) IntHigh tt tt tt b }

  low-loaded : (c : Cell) → Below t (least_type t unset ks c) IntLow → IsLoaded (loaded_as made.Low c) IntLow
  low-loaded cells.Empty b = record { below = same; ready = tt }
  low-loaded (cells.Short n) b = record { below = b; ready = tt }
  low-loaded (cells.High n) b = record { below = b; ready = tt }
  low-loaded (cells.Low n) b = record { below = b; ready = tt }
  low-loaded (cells.Ref n) b = record { below = b; ready = tt }
  low-loaded (cells.Fresh n p) b = record { below = b; ready = value-ready t are unset ks (cells.Fresh n p) IntLow tt tt tt b }

module _ (w : Linked) (world : IsWorld w) (assigned : Typings) (f : Frame Cell) (below : List (Frame Cell)) (heap : List (Object Cell)) (statics : List Cell)
    (here : Here w assigned f below heap statics)
  where
    -- what the operation asks of the least types of cells
    pub asked-of : (op : Operation) → here.turn.operation ≡ op
        → SatisfiesAll w.classes (types_of_frame w.classes (assigned.unset f.method) (kinds_of heap) f) (demands w op)
    asked-of op is = grind (arith)

    pub load-safe :
        (sort : Sort) (x : ℕ) → here.turn.operation ≡ ops.Load sort x
        → IsTypedOutcome w assigned
        (goes_to tagged w (here.turn.stands.instruction.place + here.turn.stands.instruction.insn.len)
        (record { frames = f ∷ below; heap = heap; statics = statics })
        (with_load tagged sort x (record { frames = f ∷ below; heap = heap; statics = statics })))
    load-safe sorts.Reference x is =
        let ks = kinds_of heap in
        let c : Cell = slice_index_or f.registers x cells.Empty in
        let asked = asked-of (ops.Load sorts.Reference x) is in
        let at = cell-at w.classes (assigned.unset f.method) ks f.registers x (λ ty. Below w.classes ty (Class (object w.classes))) asked.1.0 in
        let loaded = reference-loaded w.classes world.chains (assigned.unset f.method) ks c (object w.classes) at.holds in
        replace-safe w world assigned f below heap statics here 0
        (given.One (or_null (slice_index_or (least_types w.classes (assigned.unset f.method) ks f.registers) x Top)))
        (loaded_as made.Reference c ∷ []) heap statics
        (ap (λ o. effect w o (types_of_frame w.classes (assigned.unset f.method) ks f)) is) (ap falls_from is)
        (more_cells (subst (Below w.classes (least_type w.classes (assigned.unset f.method) ks (loaded_as made.Reference c))) (sym (ap or_null at.seen))
        loaded.below) no_cells)
        (one-stacked w here.turn.stands.rec ks (loaded_as made.Reference c) loaded.ready) here.store refl
    load-safe sorts.Short x is =
        let ks = kinds_of heap in
        let c : Cell = slice_index_or f.registers x cells.Empty in
        let asked = asked-of (ops.Load sorts.Short x) is in
        let at = cell-at w.classes (assigned.unset f.method) ks f.registers x (λ ty. Below w.classes ty Short) asked.1.0 in
        let loaded = short-loaded w.classes world.chains (assigned.unset f.method) ks c at.holds in
        replace-safe w world assigned f below heap statics here 0 (given.One Short) (loaded_as made.Short c ∷ []) heap statics
        (ap (λ o. effect w o (types_of_frame w.classes (assigned.unset f.method) ks f)) is) (ap falls_from is)
        (more_cells loaded.below no_cells)
        (one-stacked w here.turn.stands.rec ks (loaded_as made.Short c) loaded.ready) here.store refl
    load-safe sorts.Int x is =
        let ks = kinds_of heap in
        let c : Cell = slice_index_or f.registers x cells.Empty in
        let d : Cell = slice_index_or f.registers (x + 1) cells.Empty in
        let asked = asked-of (ops.Load sorts.Int x) is in
        let high = high-loaded w.classes world.chains (assigned.unset f.method) ks c
        (cell-at w.classes (assigned.unset f.method) ks f.registers x (λ ty. Below w.classes ty IntHigh) asked.1.0).holds in
        let low = low-loaded w.classes world.chains (assigned.unset f.method) ks d
        (cell-at w.classes (assigned.unset f.method) ks f.registers (x + 1) (λ ty. Below w.classes ty IntLow) asked.1.1.0).holds in
        replace-safe w world assigned f below heap statics here 0 given.Int (loaded_as made.Low d ∷ loaded_as made.High c ∷ []) heap statics
        (ap (λ o. effect w o (types_of_frame w.classes (assigned.unset f.method) ks f)) is) (ap falls_from is)
        (more_cells low.below (more_cells high.below no_cells))
        (two-stacked w here.turn.stands.rec ks (loaded_as made.Low d) (loaded_as made.High c) low.ready high.ready) here.store refl

    -- ---- writes to registers

    -- a cell in a register, and cells of the stack gone
    stored-safe :
        (taken x : ℕ) (c : Cell) (ty : Ty) (op : Operation)
        → here.turn.operation ≡ op
        → effect w op (types_of_frame w.classes (assigned.unset f.method) (kinds_of heap) f) ≡ storing taken x (given.One ty) → falls_from op ≡ true
        → Below w.classes (least_type w.classes (assigned.unset f.method) (kinds_of heap) c) ty
        → IsTypedOutcome w assigned
        (goes_to tagged w (here.turn.stands.instruction.place + here.turn.stands.instruction.insn.len)
        (record { frames = f ∷ below; heap = heap; statics = statics })
        (record {
          frames = record { method = f.method; place = f.place; registers = set f.registers x c; stack = drop taken f.stack } ∷ below;
          heap = heap;
          statics = statics;
        }))
    stored-safe taken x c ty op is does falls lower =
        let ks = kinds_of heap in
        let exact = types_of_frame w.classes (assigned.unset f.method) ks f in
        let a = here.turn.applies in
        let after = here.turn.after in
        let e : effect w here.turn.operation exact ≡ storing taken x (given.One ty) = ap (λ o. effect w o exact) is ∙ does in
        let stack_is : after.stack ≡ drop taken exact.stack = a.stack ∙ ap (λ (z : Effect). changed z.change exact.stack) e in
        let wrote : WritesRegister w.classes Flow x ty exact.regs after.regs = subst
        (λ (z : Effect). StoresInRegisters w.classes Flow z.store exact.regs after.regs) e a.regs in
        let regs_are : after.regs ≡ set exact.regs x ty = wrote.after_is ∙ ap (set exact.regs x) wrote.stored in
        on-safe w world assigned f below heap statics here (set f.registers x c) (drop taken f.stack) heap statics (ap falls_from is ∙ falls)
        (record {
          regs = grind (arith, set, map-set, cells-set, cells-same);
          stack = grind (arith, drop-map, cells-same);
        })
        (All-drop (IsStacked w here.turn.stands.rec ks) taken f.stack here.turn.stacked) here.store refl

    -- the halves of an int in two registers
    stored-int-safe :
        (taken x : ℕ) (c d : Cell) (op : Operation)
        → here.turn.operation ≡ op
        → effect w op (types_of_frame w.classes (assigned.unset f.method) (kinds_of heap) f) ≡ storing taken x given.Int → falls_from op ≡ true
        → Below w.classes (least_type w.classes (assigned.unset f.method) (kinds_of heap) c) IntHigh
        → Below w.classes (least_type w.classes (assigned.unset f.method) (kinds_of heap) d) IntLow
        → IsTypedOutcome w assigned
        (goes_to tagged w (here.turn.stands.instruction.place + here.turn.stands.instruction.insn.len)
        (record { frames = f ∷ below; heap = heap; statics = statics })
        (record {
          frames = record { method = f.method; place = f.place; registers = set (set f.registers x c) (x + 1) d; stack = drop taken f.stack } ∷ below;
          heap = heap;
          statics = statics;
        }))
    stored-int-safe taken x c d op is does falls high low =
        let ks = kinds_of heap in
        let ty : Cell → Ty = least_type w.classes (assigned.unset f.method) ks in
        let exact = types_of_frame w.classes (assigned.unset f.method) ks f in
        let a = here.turn.applies in
        let after = here.turn.after in
        let e : effect w here.turn.operation exact ≡ storing taken x given.Int = ap (λ o. effect w o exact) is ∙ does in
        let stack_is : after.stack ≡ drop taken exact.stack = a.stack ∙ ap (λ (z : Effect). changed z.change exact.stack) e in
        let wrote : WritesInt w.classes Flow x exact.regs after.regs = subst
        (λ (z : Effect). StoresInRegisters w.classes Flow z.store exact.regs after.regs) e a.regs in
        let between : wrote.between ≡ set exact.regs x IntHigh = wrote.high.after_is ∙ ap (set exact.regs x) wrote.high.stored in
        let regs_are : after.regs ≡ set (set exact.regs x IntHigh) (x + 1) IntLow =
        wrote.low.after_is ∙ (ap (set wrote.between (x + 1)) wrote.low.stored ∙ ap (λ ts. set ts (x + 1) IntLow) between) in
        let split : least_types w.classes (assigned.unset f.method) ks (set (set f.registers x c) (x + 1) d) ≡ set (set exact.regs x (ty c)) (x + 1) (ty d) =
        map-set ty (set f.registers x c) (x + 1) d ∙ ap (λ ts. set ts (x + 1) (ty d)) (map-set ty f.registers x c) in
        on-safe w world assigned f below heap statics here (set (set f.registers x c) (x + 1) d) (drop taken f.stack) heap statics (ap falls_from is ∙ falls)
        (record {
          regs = grind (arith, set, cells-set, cells-same);
          stack = grind (arith, drop-map, cells-same);
        })
        (All-drop (IsStacked w here.turn.stands.rec ks) taken f.stack here.turn.stacked) here.store refl

    pub store-safe :
        (sort : Sort) (x : ℕ) → here.turn.operation ≡ ops.Store sort x
        → IsTypedOutcome w assigned
        (goes_to tagged w (here.turn.stands.instruction.place + here.turn.stands.instruction.insn.len)
        (record { frames = f ∷ below; heap = heap; statics = statics })
        (with_store tagged sort x (record { frames = f ∷ below; heap = heap; statics = statics })))
    store-safe sorts.Reference x is =
        let ks = kinds_of heap in
        let asked = asked-of (ops.Store sorts.Reference x) is in
        let at = cell-at w.classes (assigned.unset f.method) ks f.stack 0 (λ ty. Below w.classes ty (Class (object w.classes))) asked.1.0 in
        stored-safe 1 x (slice_index_or f.stack 0 cells.Empty) (cell (least_types w.classes (assigned.unset f.method) ks f.stack) 0)
        (ops.Store sorts.Reference x) is refl refl
        (subst (Below w.classes (least_type w.classes (assigned.unset f.method) ks (slice_index_or f.stack 0 cells.Empty))) (sym at.seen) same)
    store-safe sorts.Short x is =
        let asked = asked-of (ops.Store sorts.Short x) is in
        stored-safe 1 x (slice_index_or f.stack 0 cells.Empty) Short (ops.Store sorts.Short x) is refl refl
        (cell-at w.classes (assigned.unset f.method) (kinds_of heap) f.stack 0 (λ ty. Below w.classes ty Short) asked.1.0).holds
    store-safe sorts.Int x is =
        let asked = asked-of (ops.Store sorts.Int x) is in
        stored-int-safe 2 x (slice_index_or f.stack 1 cells.Empty) (slice_index_or f.stack 0 cells.Empty) (ops.Store sorts.Int x) is refl refl
        (cell-at w.classes (assigned.unset f.method) (kinds_of heap) f.stack 1 (λ ty. Below w.classes ty IntHigh) asked.1.1.0).holds
        (cell-at w.classes (assigned.unset f.method) (kinds_of heap) f.stack 0 (λ ty. Below w.classes ty IntLow) asked.1.0).holds

    pub increment-safe :
        (width : Width) (x : ℕ) (amount : ℤ) → here.turn.operation ≡ ops.Increment width x amount
        → IsTypedOutcome w assigned
        (goes_to tagged w (here.turn.stands.instruction.place + here.turn.stands.instruction.insn.len)
        (record { frames = f ∷ below; heap = heap; statics = statics })
        (with_increment tagged width x amount (record { frames = f ∷ below; heap = heap; statics = statics })))
    increment-safe widths.Short x amount is =
        stored-safe 0 x (cells.Short (incremented tagged widths.Short f.registers x amount)) Short (ops.Increment widths.Short x amount) is refl refl same
    increment-safe widths.Int x amount is =
        let n = incremented tagged widths.Int f.registers x amount in
        stored-int-safe 0 x (cells.High (high_word n)) (cells.Low (low_word n)) (ops.Increment widths.Int x amount) is refl refl same same
