-- Cells of objects at a frame's turn: what is read has the type of its place, and what is written keeps the heap typed.
use Rattle.std.proofs.Common.{◌≡◌, ℕ, zero, suc, ◌+◌, true, List, [], ◌∷◌, length, refl, sym, ap, ◌∙◌, subst, length-set, arith}
use Rattle.std.specs.Prelude.{Some, IsSomeAnd, slice_get, slice_index_or, option_and_then}
use Rattle.std.proofs.lemmas.List.Elements.{All-nil}
use Rattle.jc_base.specs.declared.ty.Ty.{Ty}
use Rattle.jc_base.specs.Class.{ClassTable}
use Rattle.jc_base.specs.World.{Linked, IsWorld}
use Rattle.jc_ops.specs.declared.operation.Operation.{Operation}
use Rattle.jc_ops.specs.Next.{falls_from}
use Rattle.jc_rules.specs.declared.effect.Cells.TheVariants as given
use Rattle.jc_rules.specs.Rule.{effect, replacing}
use Rattle.jc_rules.specs.Flow.{no_cells}
use Rattle.vm_store.specs.declared.cell.Cell.{Cell}
use Rattle.vm_store.specs.declared.cell.Cell.TheVariants as cells
use Rattle.vm_store.specs.Typing.{HasType}
use Rattle.vm_store.specs.Cells.{tagged}
use Rattle.vm_store.specs.State.{Frame, Object, State}
use Rattle.vm_store.specs.Objects.{object_cells, write_object}
use Rattle.vm_store.specs.Value.{with_object_value}
use Rattle.vm_store.specs.Laws.{HasContent, IsTypedHeap, cell_types, cell_type_at}
use Rattle.vm_store.proofs.TypedHeaps.{kinds-write, heap-read, heap-write}
use Rattle.vm_step.specs.Numbers.{dropped}
use Rattle.vm_step.specs.Settled.{goes_to}
use Rattle.law_sound.specs.Frames.{Typings, types_of_frame, IsStacked}
use Rattle.law_sound.specs.Soundness.{IsTypedOutcome}
use Rattle.law_sound.proofs.Finish.{IsTypedStore}
use Rattle.law_sound.proofs.Handles.{kinds_of}
use Rattle.law_sound.proofs.SafeTurns.{Here, replace-safe}

-- a state that has these objects
abbrev pub with_heap : List (Object Cell) → State Cell
with_heap heap = record { frames = []; heap = heap; statics = [] }

-- a cell that is there is the one that is read
pub some-nth : {X : Type 0} (P : X → Type 0) (xs : List X) (n : ℕ) (d : X) → IsSomeAnd (slice_get xs n) P → P (slice_index_or xs n d)
some-nth P [] n d h = absurd h
some-nth P (x ∷ xs) zero d h = h
some-nth P (x ∷ xs) (suc n) d h = some-nth P xs n d h

pub read-cell :
    (t : ClassTable) (heap : List (Object Cell)) (h i : ℕ) (ty : Ty) → IsTypedHeap t (with_heap heap) → cell_type_at t (with_heap heap) h i ≡ Some ty
    → HasType t (kinds_of heap) (slice_index_or (object_cells (with_heap heap) h) i cells.Empty) ty
    × HasContent (slice_index_or (object_cells (with_heap heap) h) i cells.Empty)
read-cell t heap h i ty typed e = grind (arith, kinds_of heap, heap-read t (with_heap heap) h i ty typed e, some-nth)

-- a write keeps the types of the cells of the object
type-kept :
    (t : ClassTable) (os : List (Object Cell)) (h i j : ℕ) (c : Cell)
    → option_and_then (λ (o : Object Cell). slice_get (cell_types t o.kind (length o.cells)) j) (slice_get (write_object os h i c) h)
    ≡ option_and_then (λ (o : Object Cell). slice_get (cell_types t o.kind (length o.cells)) j) (slice_get os h)
type-kept t [] h i j c = refl
type-kept t (o ∷ os) zero i j c = ap (λ n. slice_get (cell_types t o.kind n) j) (length-set o.cells i c)
type-kept t (o ∷ os) (suc h) i j c = type-kept t os h i j c

module _ (w : Linked) (heap : List (Object Cell)) (statics : List Cell) where
  -- a typed store in which a cell of an object is another of its type
  pub store-write :
      (h i : ℕ) (ty : Ty) (c : Cell) → IsTypedStore w heap statics → cell_type_at w.classes (with_heap heap) (suc h) i ≡ Some ty
      → HasType w.classes (kinds_of heap) c ty → HasContent c → IsTypedStore w (write_object heap h i c) statics
  store-write h i ty c store e has filled =
      grind (arith, kinds-write heap h i c, heap-write w.classes (with_heap heap) (suc h) i ty c store.objects e has filled)

module _ (w : Linked) (world : IsWorld w) (assigned : Typings) (f : Frame Cell) (below : List (Frame Cell)) (heap : List (Object Cell)) (statics : List Cell)
    (here : Here w assigned f below heap statics)
  where
    pub write-safe :
        (h i : ℕ) (ty : Ty) (c : Cell) (taken : ℕ) (op : Operation)
        → here.turn.operation ≡ op
        → effect w op (types_of_frame w.classes (assigned.unset f.method) (kinds_of heap) f) ≡ replacing taken given.Nothing → falls_from op ≡ true
        → (h ≡ 0 → ⊥) → cell_type_at w.classes (with_heap heap) h i ≡ Some ty → HasType w.classes (kinds_of heap) c ty → HasContent c
        → IsTypedOutcome w assigned
        (goes_to tagged w (here.turn.stands.instruction.place + here.turn.stands.instruction.insn.len)
        (record { frames = f ∷ below; heap = heap; statics = statics })
        (with_object_value (dropped (record { frames = f ∷ below; heap = heap; statics = statics }) taken) h i (c ∷ [])))
    write-safe zero i ty c taken op is does falls some e has filled = absurd (some refl)
    write-safe (suc h) i ty c taken op is does falls some e has filled =
        replace-safe w world assigned f below heap statics here taken given.Nothing [] (write_object heap h i c) statics
        (ap (λ o. effect w o (types_of_frame w.classes (assigned.unset f.method) (kinds_of heap) f)) is ∙ does) (ap falls_from is ∙ falls)
        no_cells (All-nil (IsStacked w here.turn.stands.rec (kinds_of heap)))
        (store-write w heap statics h i ty c here.store e has filled) (kinds-write heap h i c)

    pub write-int-safe :
        (h i : ℕ) (ty low : Ty) (c d : Cell) (taken : ℕ) (op : Operation)
        → here.turn.operation ≡ op
        → effect w op (types_of_frame w.classes (assigned.unset f.method) (kinds_of heap) f) ≡ replacing taken given.Nothing → falls_from op ≡ true
        → (h ≡ 0 → ⊥) → cell_type_at w.classes (with_heap heap) h i ≡ Some ty → HasType w.classes (kinds_of heap) c ty → HasContent c
        → cell_type_at w.classes (with_heap heap) h (i + 1) ≡ Some low → HasType w.classes (kinds_of heap) d low → HasContent d
        → IsTypedOutcome w assigned
        (goes_to tagged w (here.turn.stands.instruction.place + here.turn.stands.instruction.insn.len)
        (record { frames = f ∷ below; heap = heap; statics = statics })
        (with_object_value (dropped (record { frames = f ∷ below; heap = heap; statics = statics }) taken) h i (c ∷ d ∷ [])))
    write-int-safe zero i ty low c d taken op is does falls some e has filled e2 has2 filled2 = absurd (some refl)
    write-int-safe (suc h) i ty low c d taken op is does falls some e has filled e2 has2 filled2 =
        let first : List (Object Cell) = write_object heap h i c in
        let same : kinds_of first ≡ kinds_of heap = kinds-write heap h i c in
        replace-safe w world assigned f below heap statics here taken given.Nothing [] (write_object first h (i + 1) d) statics
        (ap (λ o. effect w o (types_of_frame w.classes (assigned.unset f.method) (kinds_of heap) f)) is ∙ does) (ap falls_from is ∙ falls)
        no_cells (All-nil (IsStacked w here.turn.stands.rec (kinds_of heap)))
        (store-write w first statics h (i + 1) low d (store-write w heap statics h i ty c here.store e has filled)
        (type-kept w.classes heap h i (i + 1) c ∙ e2) (subst (λ ks. HasType w.classes ks d low) (sym same) has2) filled2)
        (kinds-write first h (i + 1) d ∙ same)
