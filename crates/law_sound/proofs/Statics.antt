-- Static fields at a frame's turn.
use Rattle.std.proofs.Common.{◌≡◌, ℕ, zero, suc, ◌+◌, ◌<◌, List, [], ◌∷◌, ◌++◌, length, set, drop, get_or, refl, sym, ap, ◌∙◌}
use Rattle.std.proofs.Common.{subst, arith}
use Rattle.std.specs.Prelude.{Some, Any, slice_get, slice_index_or}
use Rattle.std.proofs.lemmas.List.Elements.{All-nil}
use Rattle.jc_base.specs.declared.ty.Ty.{Ty}
use Rattle.jc_base.specs.declared.ty.Ty.TheVariants.{IntHigh, IntLow}
use Rattle.jc_base.specs.declared.ty.Kind.{Kind}
use Rattle.jc_base.specs.declared.ty.Kind.TheVariants as fields
use Rattle.jc_base.specs.declared.record.StaticRec.{StaticRec}
use Rattle.jc_base.specs.Order.{Below}
use Rattle.jc_base.specs.Cell.{width}
use Rattle.jc_base.specs.Linked.{AreSlots, IsSlotOf}
use Rattle.jc_base.specs.World.{Linked, IsWorld}
use Rattle.jc_base.proofs.Lists.{slice_get-farther}
use Rattle.jc_ops.specs.declared.operation.Operation.TheVariants as ops
use Rattle.jc_ops.specs.Sound.{IsStaticOf}
use Rattle.jc_ops.specs.Next.{falls_from}
use Rattle.jc_rules.specs.declared.effect.Cells.TheVariants as given
use Rattle.jc_rules.specs.Demand.{SatisfiesAll}
use Rattle.jc_rules.specs.Rule.{effect, replacing, value_given, value_wanted, value_size}
use Rattle.jc_rules.specs.Flow.{IsNotTop, IsNotFresh, no_cells, more_cells}
use Rattle.jc_rules.proofs.Types.{declared-not_top, declared-not_fresh}
use Rattle.vm_store.specs.declared.cell.Cell.{Cell}
use Rattle.vm_store.specs.declared.cell.Cell.TheVariants as cells
use Rattle.vm_store.specs.Typing.{HasType, least_type, short}
use Rattle.vm_store.specs.Cells.{tagged, word_of}
use Rattle.vm_store.specs.State.{Frame, Object}
use Rattle.vm_store.specs.Value.{byte_of_word}
use Rattle.vm_store.specs.Laws.{HasContent, CellsHave}
use Rattle.vm_store.proofs.TypedHeaps.{have-read, have-write}
use Rattle.vm_step.specs.Fields.{with_static_read, with_static_write}
use Rattle.vm_step.specs.Settled.{goes_to}
use Rattle.law_sound.specs.Frames.{Typings, types_of_frame, IsStacked}
use Rattle.law_sound.specs.State.{field_types, static_types}
use Rattle.law_sound.specs.Soundness.{IsTypedOutcome}
use Rattle.law_sound.proofs.CellTypes.{has-below, IsReadyCell}
use Rattle.law_sound.proofs.Handles.{kinds_of}
use Rattle.law_sound.proofs.Ready.{value-ready}
use Rattle.law_sound.proofs.Cells.{one-stacked, two-stacked}
use Rattle.law_sound.proofs.Finish.{IsTypedStore}
use Rattle.law_sound.proofs.Registers.{asked-of}
use Rattle.law_sound.proofs.Writes.{some-nth}
use Rattle.law_sound.proofs.ArrayWrites.{held-at}
use Rattle.law_sound.proofs.Fields.{one-cell, value-held}
use Rattle.law_sound.proofs.SafeTurns.{Here, replace-safe}

-- ---- the types at a slot

-- the types of a field begin with its own, and those of an int end with its low half
record IsFieldAt (types : List Ty) (kind : Kind) (ty : Ty) (n : ℕ) : Type 0 where
  first : slice_get types n ≡ Some ty
  second : kind ≡ fields.Int → slice_get types (n + 1) ≡ Some IntLow

own-types : (kind : Kind) (ty : Ty) (more : List Ty) → IsFieldAt (field_types kind ty ++ more) kind ty 0
own-types fields.Int ty more = record { first = refl; second = λ e. refl }
own-types fields.Ref ty more = record { first = refl; second = λ e. absurd (cc) }
own-types fields.Byte ty more = record { first = refl; second = λ e. absurd (cc) }
own-types fields.Short ty more = record { first = refl; second = λ e. absurd (cc) }

types-width : (kind : Kind) (ty : Ty) → length (field_types kind ty) ≡ width kind
types-width x ty = grind (arith)

later-types : (front types : List Ty) (kind : Kind) (ty : Ty) (n : ℕ) → IsFieldAt types kind ty n → IsFieldAt (front ++ types) kind ty (length front + n)
later-types front types kind ty n at =
    let next : length front + n + 1 ≡ length front + (n + 1) = omega arith in
    record {
      first = slice_get-farther front types n (length front + n) refl ∙ at.first;
      second = λ e. slice_get-farther front types (n + 1) (length front + n + 1) next ∙ at.second e;
    }

-- the field of a slot, counted from the slot of the first
slot-in :
    (base slot : ℕ) (kind : Kind) (ty : Ty) (fs : List StaticRec) (k : ℕ) (x : StaticRec)
    → AreSlots base fs → k < length fs → get_or fs k x ≡ x → IsSlotOf slot kind ty x
    → (n : ℕ) × (slot ≡ base + n) × IsFieldAt (static_types fs) kind ty n
slot-in base slot kind ty [] k x slots lt is of = absurd (omega (arith, lt))
slot-in base slot kind ty (f ∷ fs) zero x slots lt is of = grind (arith, own-types)
slot-in base slot kind ty (f ∷ fs) (suc k) x slots lt is of =
    let rest = slot-in (base + width f.kind) slot kind ty fs k x slots.1 (omega (arith, lt)) is of in
    let wide : length (field_types f.kind f.ty) ≡ width f.kind = types-width f.kind f.ty in (
      length (field_types f.kind f.ty) + rest.0,
      omega (arith, rest.1, wide),
      later-types (field_types f.kind f.ty) (static_types fs) kind ty rest.0 rest.2,
    )

slot-at : (w : Linked) → IsWorld w → (slot : ℕ) (kind : Kind) (ty : Ty) → Any (IsSlotOf slot kind ty) w.statics
    → IsFieldAt (static_types w.statics) kind ty slot
slot-at w world slot kind ty (k, x, lt, is, of) = grind (arith, slot-in 0 slot kind ty w.statics k x world.slots lt is of)

module _ (w : Linked) (world : IsWorld w) (assigned : Typings) (f : Frame Cell) (below : List (Frame Cell)) (heap : List (Object Cell)) (statics : List Cell)
    (here : Here w assigned f below heap statics)
  where
    -- ---- reads

    record IsReadStatic (i : ℕ) (ty : Ty) : Type 0 where
      lower : Below w.classes (least_type w.classes (assigned.unset f.method) (kinds_of heap) (slice_index_or statics i cells.Empty)) ty
      ready : IsReadyCell (slice_index_or statics i cells.Empty)

    static-cell : (i : ℕ) (ty : Ty) → IsNotTop ty → IsNotFresh ty → slice_get (static_types w.statics) i ≡ Some ty → IsReadStatic i ty
    static-cell i ty top fresh e =
        let c : Cell = slice_index_or statics i cells.Empty in
        let read = some-nth (λ c. HasType w.classes (kinds_of heap) c ty × HasContent c) statics i cells.Empty
        (have-read w.classes (kinds_of heap) statics (static_types w.statics) i ty here.store.fields e) in
        let lower = has-below w.classes (assigned.unset f.method) (kinds_of heap) world.chains c ty read.0 read.1 in
        record { lower = lower; ready = value-ready w.classes world.chains (assigned.unset f.method) (kinds_of heap) c ty read.1 fresh top lower }

    static-one :
        (slot : ℕ) (kind : Kind) (ty : Ty) → width kind ≡ 1
        → here.turn.operation ≡ ops.StaticRead (record { slot = slot; kind = kind; ty = ty })
        → IsStaticOf w (record { slot = slot; kind = kind; ty = ty })
        → IsTypedOutcome w assigned
        (goes_to tagged w (here.turn.stands.instruction.place + here.turn.stands.instruction.insn.len)
        (record { frames = f ∷ below; heap = heap; statics = statics })
        (record {
          frames =
              record { method = f.method; place = f.place; registers = f.registers; stack = slice_index_or statics slot cells.Empty ∷ f.stack } ∷ below;
          heap = heap;
          statics = statics;
        }))
    static-one slot kind ty one is field =
        let c : Cell = slice_index_or statics slot cells.Empty in
        let at = slot-at w world slot kind ty field.there in
        let read = static-cell slot ty (declared-not_top w.classes ty field.ty) (declared-not_fresh w.classes ty field.ty) at.first in
        replace-safe w world assigned f below heap statics here 0 (given.One ty) (c ∷ []) heap statics
        (ap (λ o. effect w o (types_of_frame w.classes (assigned.unset f.method) (kinds_of heap) f)) is
        ∙ ap (replacing 0) (one-cell kind ty field.kind one).given_is) (ap falls_from is)
        (more_cells read.lower no_cells) (one-stacked w here.turn.stands.rec (kinds_of heap) c read.ready) here.store refl

    pub static-read-safe :
        (slot : ℕ) (kind : Kind) (ty : Ty)
        → here.turn.operation ≡ ops.StaticRead (record { slot = slot; kind = kind; ty = ty })
        → IsStaticOf w (record { slot = slot; kind = kind; ty = ty })
        → IsTypedOutcome w assigned
        (goes_to tagged w (here.turn.stands.instruction.place + here.turn.stands.instruction.insn.len)
        (record { frames = f ∷ below; heap = heap; statics = statics })
        (with_static_read tagged (record { slot = slot; kind = kind; ty = ty }) (record { frames = f ∷ below; heap = heap; statics = statics })))
    static-read-safe slot fields.Ref ty is field = static-one slot fields.Ref ty refl is field
    static-read-safe slot fields.Byte ty is field = static-one slot fields.Byte ty refl is field
    static-read-safe slot fields.Short ty is field = static-one slot fields.Short ty refl is field
    static-read-safe slot fields.Int ty is field =
        let c : Cell = slice_index_or statics slot cells.Empty in
        let d : Cell = slice_index_or statics (slot + 1) cells.Empty in
        let at = slot-at w world slot fields.Int ty field.there in
        let high = static-cell slot IntHigh tt tt (at.first ∙ ap Some field.kind) in
        let low = static-cell (slot + 1) IntLow tt tt (at.second refl) in
        replace-safe w world assigned f below heap statics here 0 given.Int (d ∷ c ∷ []) heap statics
        (ap (λ o. effect w o (types_of_frame w.classes (assigned.unset f.method) (kinds_of heap) f)) is
        ∙ ap (λ a. replacing 0 (value_given a)) field.kind) (ap falls_from is)
        (more_cells low.lower (more_cells high.lower no_cells)) (two-stacked w here.turn.stands.rec (kinds_of heap) d c low.ready high.ready) here.store refl

    -- ---- writes

    store-with : (fields_now : List Cell) → CellsHave w.classes (kinds_of heap) fields_now (static_types w.statics) → IsTypedStore w heap fields_now
    store-with fields_now have = record { made = here.store.made; objects = here.store.objects; fields = have }

    write-static :
        (slot : ℕ) (kind : Kind) (ty : Ty) (c : Cell) → width kind ≡ 1
        → here.turn.operation ≡ ops.StaticWrite (record { slot = slot; kind = kind; ty = ty })
        → IsStaticOf w (record { slot = slot; kind = kind; ty = ty })
        → HasType w.classes (kinds_of heap) c ty → HasContent c
        → IsTypedOutcome w assigned
        (goes_to tagged w (here.turn.stands.instruction.place + here.turn.stands.instruction.insn.len)
        (record { frames = f ∷ below; heap = heap; statics = statics })
        (record {
          frames = record { method = f.method; place = f.place; registers = f.registers; stack = drop 1 f.stack } ∷ below;
          heap = heap;
          statics = set statics slot c;
        }))
    write-static slot kind ty c one is field has filled =
        let at = slot-at w world slot kind ty field.there in
        replace-safe w world assigned f below heap statics here 1 given.Nothing [] heap (set statics slot c)
        (ap (λ o. effect w o (types_of_frame w.classes (assigned.unset f.method) (kinds_of heap) f)) is
        ∙ ap (λ n. replacing n given.Nothing) (one-cell kind ty field.kind one).size) (ap falls_from is)
        no_cells (All-nil (IsStacked w here.turn.stands.rec (kinds_of heap)))
        (store-with (set statics slot c) (have-write w.classes (kinds_of heap) statics (static_types w.statics) slot ty c here.store.fields at.first has
        filled)) refl

    pub static-write-safe :
        (slot : ℕ) (kind : Kind) (ty : Ty)
        → here.turn.operation ≡ ops.StaticWrite (record { slot = slot; kind = kind; ty = ty })
        → IsStaticOf w (record { slot = slot; kind = kind; ty = ty })
        → IsTypedOutcome w assigned
        (goes_to tagged w (here.turn.stands.instruction.place + here.turn.stands.instruction.insn.len)
        (record { frames = f ∷ below; heap = heap; statics = statics })
        (with_static_write tagged (record { slot = slot; kind = kind; ty = ty }) (record { frames = f ∷ below; heap = heap; statics = statics })))
    static-write-safe slot fields.Ref ty is field =
        let asked = asked-of w world assigned f below heap statics here (ops.StaticWrite (record { slot = slot; kind = fields.Ref; ty = ty })) is in
        let value = value-held w world assigned f below heap statics here ty (one-cell fields.Ref ty field.kind refl) field.ty asked in
        write-static slot fields.Ref ty (slice_index_or f.stack 0 cells.Empty) refl is field value.has value.filled
    static-write-safe slot fields.Byte ty is field =
        let c : Cell = cells.Short (byte_of_word (word_of (slice_index_or f.stack 0 cells.Empty))) in
        write-static slot fields.Byte ty c refl is field (subst (HasType w.classes (kinds_of heap) c) (sym field.kind) short) tt
    static-write-safe slot fields.Short ty is field =
        let asked = asked-of w world assigned f below heap statics here (ops.StaticWrite (record { slot = slot; kind = fields.Short; ty = ty })) is in
        let value = value-held w world assigned f below heap statics here ty (one-cell fields.Short ty field.kind refl) field.ty asked in
        write-static slot fields.Short ty (slice_index_or f.stack 0 cells.Empty) refl is field value.has value.filled
    static-write-safe slot fields.Int ty is field =
        let t = w.classes in
        let ks = kinds_of heap in
        let types = static_types w.statics in
        let c : Cell = slice_index_or f.stack 1 cells.Empty in
        let d : Cell = slice_index_or f.stack 0 cells.Empty in
        let asked = asked-of w world assigned f below heap statics here (ops.StaticWrite (record { slot = slot; kind = fields.Int; ty = ty })) is in
        let halves = subst (λ a. SatisfiesAll t (types_of_frame t (assigned.unset f.method) ks f) (value_wanted a)) field.kind asked in
        let lower = held-at w world assigned f below heap statics here 0 IntLow tt halves.0 in
        let upper = held-at w world assigned f below heap statics here 1 IntHigh tt halves.1.0 in
        let at = slot-at w world slot fields.Int ty field.there in
        let once = have-write t ks statics types slot IntHigh c here.store.fields (at.first ∙ ap Some field.kind) upper.has upper.filled in
        let twice = have-write t ks (set statics slot c) types (slot + 1) IntLow d once (at.second refl) lower.has lower.filled in
        replace-safe w world assigned f below heap statics here 2 given.Nothing [] heap (set (set statics slot c) (slot + 1) d)
        (ap (λ o. effect w o (types_of_frame t (assigned.unset f.method) ks f)) is ∙ ap (λ a. replacing (value_size a) given.Nothing) field.kind)
        (ap falls_from is)
        no_cells (All-nil (IsStacked w here.turn.stands.rec ks)) (store-with (set (set statics slot c) (slot + 1) d) twice) refl
