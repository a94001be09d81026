-- Writes to elements of arrays, and their lengths, at a frame's turn.
use Rattle.std.proofs.Common.{◌≡◌, ℕ, ◌+◌, ◌*◌, ◌<◌, inl, inr, Bool, true, false, if◌then◌else◌, List, [], ◌∷◌, length, refl, arith, rules}
use Rattle.std.proofs.Common.{sym, ap, ◌∙◌, subst}
use Rattle.std.specs.Prelude.{ℤ, Some, IsSomeAnd, slice_get, slice_index_or}
use Rattle.jc_base.specs.declared.ty.Ty.{Ty}
use Rattle.jc_base.specs.declared.ty.Ty.TheVariants.{Short, IntHigh, IntLow, Class}
use Rattle.jc_base.specs.declared.ty.Kind.{Kind}
use Rattle.jc_base.specs.declared.ty.Kind.TheVariants as fields
use Rattle.jc_base.specs.Class.{object}
use Rattle.jc_base.specs.Order.{Below, same}
use Rattle.jc_base.specs.Cell.{width}
use Rattle.jc_base.specs.World.{Linked, IsWorld}
use Rattle.jc_ops.specs.declared.operation.Operation.TheVariants as ops
use Rattle.jc_ops.specs.Next.{falls_from}
use Rattle.jc_rules.specs.declared.effect.Cells.TheVariants as given
use Rattle.jc_rules.specs.Demand.{Meets}
use Rattle.jc_rules.specs.Rule.{effect, array_wanted}
use Rattle.jc_rules.specs.Flow.{no_cells, more_cells}
use Rattle.vm_store.specs.declared.cell.Cell.{Cell}
use Rattle.vm_store.specs.declared.cell.Cell.TheVariants as cells
use Rattle.vm_store.specs.declared.cell.ObjectKind.{ObjectKind}
use Rattle.vm_store.specs.declared.cell.ObjectKind.TheVariants.{References}
use Rattle.vm_store.specs.Kind.{kind_of_handle}
use Rattle.vm_store.specs.Typing.{HasType, IsReady, short, least_type, type_of_handle}
use Rattle.vm_store.specs.Cells.{tagged, word_of}
use Rattle.vm_arithmetic.specs.Arithmetic.{short_of_word}
use Rattle.vm_store.specs.State.{Frame, Object, State}
use Rattle.vm_store.specs.Value.{byte_of_word}
use Rattle.vm_store.specs.Laws.{HasContent}
use Rattle.vm_step.specs.declared.ending.Exception.TheVariants as exceptions
use Rattle.vm_step.specs.Act.{Act, goes, raises}
use Rattle.vm_step.specs.Numbers.{short_at, replaced}
use Rattle.vm_step.specs.Fields.{elements_of, element_index, at_element, takes_element}
use Rattle.vm_step.specs.Fields.{keeps_kind, with_element, array_write_act, array_length_act}
use Rattle.vm_step.specs.Settled.{settled}
use Rattle.law_sound.specs.Frames.{Typings, least_types, types_of_frame}
use Rattle.law_sound.specs.State.{CanBeMade}
use Rattle.law_sound.specs.Soundness.{IsTypedOutcome}
use Rattle.law_sound.proofs.CellTypes.{below-has, stacked-filled}
use Rattle.law_sound.proofs.Handles.{kinds_of}
use Rattle.law_sound.proofs.Cells.{cell-at, one-stacked, stacked-at}
use Rattle.law_sound.proofs.References.{reference-same}
use Rattle.law_sound.proofs.Registers.{asked-of}
use Rattle.law_sound.proofs.Writes.{with_heap, write-safe, write-int-safe}
use Rattle.law_sound.proofs.Arrays.{Fits, IsArrayAt, array-there, element_type, first-at}
use Rattle.law_sound.proofs.Arrays.{second-at, index-within, short-element, int-element, element-ready}
use Rattle.law_sound.proofs.Instances.{made-at}
use Rattle.law_sound.proofs.Objects.{may-cast-below}
use Rattle.law_sound.proofs.SafeTurns.{Here, replace-safe, null-safe, some-safe, raise-safe}

module _ (w : Linked) (world : IsWorld w) (assigned : Typings) (f : Frame Cell) (below : List (Frame Cell)) (heap : List (Object Cell)) (statics : List Cell)
    (here : Here w assigned f below heap statics)
  where
    -- a cell of the stack that is below a ready type has it, and is filled
    pub record IsHeld (n : ℕ) (ty : Ty) : Type 0 where
      pub has : HasType w.classes (kinds_of heap) (slice_index_or f.stack n cells.Empty) ty
      pub filled : HasContent (slice_index_or f.stack n cells.Empty)

    pub held-filled : (n : ℕ) → n < length f.stack → HasContent (slice_index_or f.stack n cells.Empty)
    held-filled n lt = grind (arith, stacked-filled, stacked-at)

    pub held-at : (n : ℕ) (ty : Ty) → IsReady ty → IsSomeAnd (slice_get (least_types w.classes (assigned.unset f.method) (kinds_of heap) f.stack) n)
        (λ a. Below w.classes a ty) → IsHeld n ty
    held-at n ty ready asked =
        let at = cell-at w.classes (assigned.unset f.method) (kinds_of heap) f.stack n (λ a. Below w.classes a ty) asked in
        let c : Cell = slice_index_or f.stack n cells.Empty in
        let filled = held-filled n at.inside in
        record { has = below-has w.classes (assigned.unset f.method) (kinds_of heap) world.chains c ty at.holds filled ready; filled = filled }

    -- ---- an element of an array of references

    -- an array keeps null and the instances of its class or interface
    kept-below :
        (h : ℕ) (k : ObjectKind) (value : ℕ) → kind_of_handle (kinds_of heap) h ≡ Some k → Fits fields.Ref k → CanBeMade w k
        → takes_element w.classes (kinds_of heap) (kind_of_handle (kinds_of heap) h) value ≡ true
        → Below w.classes (type_of_handle w.classes (kinds_of heap) value) (element_type w.classes k)
    kept-below h (References class) value e fits made test =
        may-cast-below w world assigned f below heap statics here (Class class) value made
        (ap (λ o. takes_element w.classes (kinds_of heap) o value) (sym e) ∙ test)
    kept-below h k value e fits made test = absurd fits

    reference-write :
        (h i : ℕ) (a : IsArrayAt w.classes heap h fields.Ref) → here.turn.operation ≡ ops.ArrayWrite fields.Ref → (h ≡ 0 → ⊥)
        → i < elements_of (with_heap heap) h
        → (b : Bool) → keeps_kind tagged w.classes fields.Ref (record { frames = f ∷ below; heap = heap; statics = statics }) h ≡ b
        → IsTypedOutcome w assigned
        (settled tagged w (here.turn.stands.instruction.place + here.turn.stands.instruction.insn.len)
        (record { frames = f ∷ below; heap = heap; statics = statics })
        (if b then goes (with_element tagged fields.Ref h i (record { frames = f ∷ below; heap = heap; statics = statics })) else raises
        exceptions.ArrayStore))
    reference-write h i a is some within false e = raise-safe w world assigned f below heap statics here exceptions.ArrayStore
    reference-write h i a is some within true e =
        let t = w.classes in
        let ks = kinds_of heap in
        let k = a.object.kind in
        let c : Cell = slice_index_or f.stack 0 cells.Empty in
        let asked = asked-of w world assigned f below heap statics here (ops.ArrayWrite fields.Ref) is in
        let at = cell-at t (assigned.unset f.method) ks f.stack 0 (λ ty. Below t ty (Class (object t))) asked.0 in
        let filled = held-filled 0 at.inside in
        let lower : Below t (type_of_handle t ks (word_of c)) (element_type t k) = kept-below h k (word_of c) a.kind_is a.fits
        (made-at w ks h k here.store.made a.kind_is) e in
        let own : Below t (least_type t (assigned.unset f.method) ks c) (element_type t k) =
        subst (λ ty. Below t ty (element_type t k))
        (sym (reference-same t world.chains (assigned.unset f.method) ks c (Class (object t)) tt filled at.holds)) lower in
        write-safe w world assigned f below heap statics here h (i * 1) (element_type t k) c 3 (ops.ArrayWrite fields.Ref) is refl refl some
        (first-at t heap h fields.Ref a i within)
        (below-has t (assigned.unset f.method) ks world.chains c (element_type t k) own filled (element-ready t k)) filled

    element-write :
        (fk : Kind) (h i : ℕ) (a : IsArrayAt w.classes heap h fk) → here.turn.operation ≡ ops.ArrayWrite fk → (h ≡ 0 → ⊥)
        → i < elements_of (with_heap heap) h
        → IsTypedOutcome w assigned
        (settled tagged w (here.turn.stands.instruction.place + here.turn.stands.instruction.insn.len)
        (record { frames = f ∷ below; heap = heap; statics = statics })
        (if keeps_kind tagged w.classes fk (record { frames = f ∷ below; heap = heap; statics = statics }) h
        then goes (with_element tagged fk h i (record { frames = f ∷ below; heap = heap; statics = statics }))
        else raises exceptions.ArrayStore))
    element-write fields.Ref h i a is some within = search (rules, reference-write)
    element-write fields.Byte h i a is some within =
        let c : Cell = cells.Short (byte_of_word (word_of (slice_index_or f.stack 0 cells.Empty))) in
        write-safe w world assigned f below heap statics here h (i * 1) Short c 3 (ops.ArrayWrite fields.Byte) is refl refl some
        (first-at w.classes heap h fields.Byte a i within ∙ ap Some (short-element w.classes a.object.kind (inl a.fits))) short tt
    element-write fields.Short h i a is some within =
        let asked = asked-of w world assigned f below heap statics here (ops.ArrayWrite fields.Short) is in
        let value = held-at 0 Short tt asked.0 in
        write-safe w world assigned f below heap statics here h (i * 1) Short (slice_index_or f.stack 0 cells.Empty) 3 (ops.ArrayWrite fields.Short) is refl
        refl some
        (first-at w.classes heap h fields.Short a i within ∙ ap Some (short-element w.classes a.object.kind (inr a.fits))) value.has value.filled
    element-write fields.Int h i a is some within =
        let asked = asked-of w world assigned f below heap statics here (ops.ArrayWrite fields.Int) is in
        let lower = held-at 0 IntLow tt asked.0 in
        let upper = held-at 1 IntHigh tt asked.1.0 in
        write-int-safe w world assigned f below heap statics here h (i * 2) IntHigh IntLow (slice_index_or f.stack 1 cells.Empty)
        (slice_index_or f.stack 0 cells.Empty) 4
        (ops.ArrayWrite fields.Int) is refl refl some
        (first-at w.classes heap h fields.Int a i within ∙ ap Some (int-element w.classes a.object.kind a.fits)) upper.has upper.filled
        (second-at w.classes heap h a i within) lower.has lower.filled

    -- the array lies under the value and the index
    array-wanted :
        (fk : Kind) → here.turn.operation ≡ ops.ArrayWrite fk
        → IsSomeAnd (slice_get (least_types w.classes (assigned.unset f.method) (kinds_of heap) f.stack) (width fk + 1))
        (Meets w.classes (array_wanted w.classes fk))
    array-wanted x is = grind (arith, asked-of)

    pub array-write-safe :
        (fk : Kind) → here.turn.operation ≡ ops.ArrayWrite fk
        → IsTypedOutcome w assigned
        (settled tagged w (here.turn.stands.instruction.place + here.turn.stands.instruction.insn.len)
        (record { frames = f ∷ below; heap = heap; statics = statics })
        (array_write_act tagged w.classes fk (record { frames = f ∷ below; heap = heap; statics = statics })))
    array-write-safe fk is =
        let now : State Cell = record { frames = f ∷ below; heap = heap; statics = statics } in
        let next : ℕ = here.turn.stands.instruction.place + here.turn.stands.instruction.insn.len in
        let c : Cell = slice_index_or f.stack (width fk + 1) cells.Empty in
        let h : ℕ = word_of c in
        let index : ℤ = short_at tagged f.stack (width fk) in
        let wanted = cell-at w.classes (assigned.unset f.method) (kinds_of heap) f.stack (width fk + 1) (Meets w.classes (array_wanted w.classes fk))
        (array-wanted fk is) in
        let keep : ℕ → ℕ → Act Cell = λ n i. if keeps_kind tagged w.classes fk now n then goes (with_element tagged fk n i now) else raises
        exceptions.ArrayStore in
        null-safe w world assigned f below heap statics here next h
        (λ n. at_element index (elements_of now n) (λ i. keep n i))
        (λ some. some-safe w world assigned f below heap statics here next exceptions.ArrayIndex (element_index index (elements_of now h)) (λ i. keep h i)
        (λ i e. element-write fk h i (array-there w.classes world.chains (assigned.unset f.method) heap c fk some wanted.holds) is some
        (index-within index (elements_of now h) i e)))

    -- ---- lengths

    pub array-length-safe :
        here.turn.operation ≡ ops.ArrayLength
        → IsTypedOutcome w assigned
        (settled tagged w (here.turn.stands.instruction.place + here.turn.stands.instruction.insn.len)
        (record { frames = f ∷ below; heap = heap; statics = statics })
        (array_length_act tagged (record { frames = f ∷ below; heap = heap; statics = statics })))
    array-length-safe is =
        let now : State Cell = record { frames = f ∷ below; heap = heap; statics = statics } in
        let h : ℕ = word_of (slice_index_or f.stack 0 cells.Empty) in
        let c : ℕ → Cell = λ n. cells.Short (short_of_word (elements_of now n)) in
        null-safe w world assigned f below heap statics here (here.turn.stands.instruction.place + here.turn.stands.instruction.insn.len) h
        (λ n. goes (replaced now 1 (c n ∷ [])))
        (λ some. replace-safe w world assigned f below heap statics here 1 (given.One Short) (c h ∷ []) heap statics
        (ap (λ o. effect w o (types_of_frame w.classes (assigned.unset f.method) (kinds_of heap) f)) is) (ap falls_from is)
        (more_cells same no_cells) (one-stacked w here.turn.stands.rec (kinds_of heap) (c h) tt) here.store refl)
