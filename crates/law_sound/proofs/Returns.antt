-- Returns at a frame's turn.
use Rattle.std.proofs.Common.{◌≡◌, ◌+◌, List, [], ◌∷◌, refl, sym, subst, arith}
use Rattle.std.specs.Prelude.{Option, Some, None, IfSome, slice_index_or}
use Rattle.std.proofs.lemmas.List.Elements.{All-nil}
use Rattle.jc_base.specs.declared.ty.Ty.{Ty}
use Rattle.jc_base.specs.declared.ty.Ty.TheVariants.{Bottom, Short, IntHigh, IntLow, Null, Class, ArrBool}
use Rattle.jc_base.specs.declared.ty.Ty.TheVariants.{ArrByte, ArrShort, ArrInt, ArrRef, Fresh, Top}
use Rattle.jc_base.specs.Order.{Below}
use Rattle.jc_base.specs.Cell.{IsDeclared}
use Rattle.jc_base.specs.World.{Linked, IsWorld}
use Rattle.jc_ops.specs.declared.operation.Operation.TheVariants as ops
use Rattle.jc_ops.specs.declared.operation.Want.TheVariants.{Value}
use Rattle.jc_ops.specs.Sound.{IsResult}
use Rattle.jc_rules.specs.declared.demand.Demand.TheVariants.{Cell as CellAsked}
use Rattle.jc_rules.specs.Demand.{SatisfiesAll}
use Rattle.jc_rules.specs.Effect.{in_stack_order}
use Rattle.jc_rules.specs.Rule.{result_given, value_wanted}
use Rattle.jc_rules.specs.Flow.{CellsBelow, no_cells, more_cells}
use Rattle.jc_rules.proofs.CellLists.{cells-trans}
use Rattle.jc_rules.proofs.Types.{declared-not_top, declared-not_fresh}
use Rattle.vm_store.specs.declared.cell.Cell.{Cell}
use Rattle.vm_store.specs.declared.cell.Cell.TheVariants as cells
use Rattle.vm_store.specs.Cells.{tagged}
use Rattle.vm_store.specs.State.{Frame, Object}
use Rattle.vm_step.specs.declared.ending.Value.{Value as Given}
use Rattle.vm_step.specs.declared.ending.Value.TheVariants as values
use Rattle.vm_step.specs.Numbers.{handle_at, short_at, int_on}
use Rattle.vm_step.specs.Calls.{return_act}
use Rattle.vm_step.specs.Settled.{given_to, settled}
use Rattle.law_sound.specs.Frames.{Typings, least_types, types_of_frame, IsStacked, AreWaiting}
use Rattle.law_sound.specs.Soundness.{IsTypedOutcome}
use Rattle.law_sound.proofs.CellTypes.{stacked-filled, bottoms-below}
use Rattle.law_sound.proofs.Handles.{kinds_of}
use Rattle.law_sound.proofs.Ready.{value-ready}
use Rattle.law_sound.proofs.Cells.{cell-at, one-stacked, two-stacked, stacked-at}
use Rattle.law_sound.proofs.Finish.{gives-safe}
use Rattle.law_sound.proofs.Registers.{asked-of}
use Rattle.law_sound.proofs.SafeTurns.{Here}

-- a result is one cell, unless it is an int
record IsOneResult (ty : Ty) : Type 0 where
  given_is : in_stack_order (result_given (Some ty)) ≡ ty ∷ []
  wanted : value_wanted ty ≡ CellAsked 0 (Value ty) ∷ []

module _ (w : Linked) (world : IsWorld w) (assigned : Typings) (f : Frame Cell) (below : List (Frame Cell)) (heap : List (Object Cell)) (statics : List Cell)
    (here : Here w assigned f below heap statics)
  where
    waits-for : (result : Option Ty) → result ≡ here.turn.stands.rec.sig.result → AreWaiting w assigned (kinds_of heap) result below
    waits-for result is = grind (arith)

    -- a value of one cell
    one-given :
        (ty : Ty) (value : Given) → here.turn.operation ≡ ops.Return (Some ty) → Some ty ≡ here.turn.stands.rec.sig.result
        → IsDeclared w.classes ty → IsOneResult ty
        → IsTypedOutcome w assigned
        (given_to tagged w value (slice_index_or f.stack 0 cells.Empty ∷ []) (record { frames = below; heap = heap; statics = statics }))
    one-given ty value is result declared one =
        let t = w.classes in
        let ks = kinds_of heap in
        let c : Cell = slice_index_or f.stack 0 cells.Empty in
        let asked = subst (SatisfiesAll t (types_of_frame t (assigned.unset f.method) ks f)) one.wanted
        (asked-of w world assigned f below heap statics here (ops.Return (Some ty)) is) in
        let at = cell-at t (assigned.unset f.method) ks f.stack 0 (λ a. Below t a ty) asked.0 in
        let filled = stacked-filled w here.turn.stands.rec ks c (stacked-at w here.turn.stands.rec ks f.stack 0 at.inside here.turn.stacked) in
        let ready = value-ready t world.chains (assigned.unset f.method) ks c ty filled (declared-not_fresh t ty declared) (declared-not_top t ty declared)
        at.holds in
        gives-safe w assigned below heap statics (Some ty) value (c ∷ []) here.store (waits-for (Some ty) result)
        (cells-trans t (bottoms-below t (assigned.unset f.method) ks (c ∷ []))
        (subst (CellsBelow t (least_types t (assigned.unset f.method) ks (c ∷ []))) (sym one.given_is) (more_cells at.holds no_cells)))
        (λ m. one-stacked w m ks c ready)

    int-given :
        (value : Given) → here.turn.operation ≡ ops.Return (Some IntHigh) → Some IntHigh ≡ here.turn.stands.rec.sig.result
        → IsTypedOutcome w assigned (given_to tagged w value (slice_index_or f.stack 1 cells.Empty ∷ slice_index_or f.stack 0 cells.Empty ∷ [])
        (record { frames = below; heap = heap; statics = statics }))
    int-given value is result =
        let t = w.classes in
        let ks = kinds_of heap in
        let st = here.turn.stands in
        let c : Cell = slice_index_or f.stack 0 cells.Empty in
        let d : Cell = slice_index_or f.stack 1 cells.Empty in
        let asked = asked-of w world assigned f below heap statics here (ops.Return (Some IntHigh)) is in
        let low = cell-at t (assigned.unset f.method) ks f.stack 0 (λ a. Below t a IntLow) asked.0 in
        let high = cell-at t (assigned.unset f.method) ks f.stack 1 (λ a. Below t a IntHigh) asked.1.0 in
        let low_filled = stacked-filled w st.rec ks c (stacked-at w st.rec ks f.stack 0 low.inside here.turn.stacked) in
        let high_filled = stacked-filled w st.rec ks d (stacked-at w st.rec ks f.stack 1 high.inside here.turn.stacked) in
        gives-safe w assigned below heap statics (Some IntHigh) value (d ∷ c ∷ []) here.store (waits-for (Some IntHigh) result)
        (cells-trans t (bottoms-below t (assigned.unset f.method) ks (c ∷ d ∷ [])) (more_cells low.holds (more_cells high.holds no_cells)))
        (λ m. two-stacked w m ks c d (value-ready t world.chains (assigned.unset f.method) ks c IntLow low_filled tt tt low.holds)
        (value-ready t world.chains (assigned.unset f.method) ks d IntHigh high_filled tt tt high.holds))

    pub return-safe :
        (result : Option Ty) → here.turn.operation ≡ ops.Return result → result ≡ here.turn.stands.rec.sig.result → IfSome result (IsResult w.classes)
        → IsTypedOutcome w assigned
        (settled tagged w (here.turn.stands.instruction.place + here.turn.stands.instruction.insn.len)
        (record { frames = f ∷ below; heap = heap; statics = statics })
        (return_act tagged result (record { frames = f ∷ below; heap = heap; statics = statics })))
    return-safe None is result known =
        gives-safe w assigned below heap statics None values.Void [] here.store (waits-for None result) no_cells (λ m. All-nil (IsStacked w m (kinds_of heap)))
    return-safe (Some Short) is result known =
        one-given Short (values.Short (short_at tagged f.stack 0)) is result known.declared (record { given_is = refl; wanted = refl })
    return-safe (Some IntHigh) is result known = int-given (values.Int (int_on tagged f.stack 0)) is result
    return-safe (Some IntLow) is result known = absurd (known.no_low refl)
    return-safe (Some Bottom) is result known = absurd known.declared
    return-safe (Some Null) is result known = absurd known.declared
    return-safe (Some (Fresh p c)) is result known = absurd known.declared
    return-safe (Some Top) is result known = absurd known.declared
    return-safe (Some (Class c)) is result known =
        one-given (Class c) (values.Ref (handle_at tagged f.stack 0)) is result known.declared (record { given_is = refl; wanted = refl })
    return-safe (Some ArrBool) is result known =
        one-given ArrBool (values.Ref (handle_at tagged f.stack 0)) is result known.declared (record { given_is = refl; wanted = refl })
    return-safe (Some ArrByte) is result known =
        one-given ArrByte (values.Ref (handle_at tagged f.stack 0)) is result known.declared (record { given_is = refl; wanted = refl })
    return-safe (Some ArrShort) is result known =
        one-given ArrShort (values.Ref (handle_at tagged f.stack 0)) is result known.declared (record { given_is = refl; wanted = refl })
    return-safe (Some ArrInt) is result known =
        one-given ArrInt (values.Ref (handle_at tagged f.stack 0)) is result known.declared (record { given_is = refl; wanted = refl })
    return-safe (Some (ArrRef c)) is result known =
        one-given (ArrRef c) (values.Ref (handle_at tagged f.stack 0)) is result known.declared (record { given_is = refl; wanted = refl })
