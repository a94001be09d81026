-- New objects, casts and what is thrown, at a frame's turn.
use Rattle.std.proofs.Common.{◌≡◌, ℕ, ◌+◌, ◌<◌, Bool, true, false, if◌then◌else◌, List, [], ◌∷◌, ◌++◌, length, drop}
use Rattle.std.proofs.Common.{refl, sym, ap, ◌∙◌, subst, arith}
use Rattle.std.specs.Prelude.{ℤ, pos, negsuc, Option, Some, None, Ok, All, slice_index_or, ◌==◌, ◌||◌}
use Rattle.std.proofs.lemmas.Bool.{false≢true, eqb-true, or_cases}
use Rattle.std.proofs.lemmas.List.Elements.{All-cons, All-drop, All-weaker}
use Rattle.jc_base.specs.declared.ty.Ty.{Ty}
use Rattle.jc_base.specs.declared.ty.Ty.TheVariants.{Bottom, Short, IntHigh, IntLow, Null, Class, ArrBool}
use Rattle.jc_base.specs.declared.ty.Ty.TheVariants.{ArrByte, ArrShort, ArrInt, ArrRef, Fresh, Top}
use Rattle.jc_base.specs.Class.{object, throwable}
use Rattle.jc_base.specs.Order.{Below, same, null_object, null_array, of_booleans, of_bytes, of_shorts, of_ints, of_references, IsArray}
use Rattle.jc_base.specs.Dispatch.{IsConcrete}
use Rattle.jc_base.specs.World.{Linked, IsWorld, code_of}
use Rattle.jc_base.proofs.Lists.{IsSomeAnd-from}
use Rattle.jc_ops.specs.declared.operation.TypeTest.{TypeTest}
use Rattle.jc_ops.specs.declared.operation.TypeTest.TheVariants as tests
use Rattle.jc_ops.specs.declared.operation.Operation.{Operation}
use Rattle.jc_ops.specs.declared.operation.Operation.TheVariants as ops
use Rattle.jc_ops.specs.Sound.{IsNamedType}
use Rattle.jc_ops.specs.Next.{falls_from}
use Rattle.jc_rules.specs.declared.effect.Cells.TheVariants as given
use Rattle.jc_rules.specs.Rule.{effect, replacing, seen}
use Rattle.jc_rules.specs.Flow.{no_cells, more_cells}
use Rattle.vm_store.specs.declared.cell.Cell.{Cell}
use Rattle.vm_store.specs.declared.cell.Cell.TheVariants as cells
use Rattle.vm_store.specs.declared.cell.ObjectKind.{ObjectKind}
use Rattle.vm_store.specs.declared.cell.ObjectKind.TheVariants.{Instance}
use Rattle.vm_store.specs.Kind.{kind_of_handle, type_of_kind, IsArrayKind}
use Rattle.vm_store.specs.Typing.{least_type, type_of_handle, type_of_fresh, fresh_seen}
use Rattle.vm_store.specs.Cells.{tagged, word_of}
use Rattle.vm_store.specs.State.{Frame, Object, State}
use Rattle.vm_store.specs.Objects.{new_instance_cells, array_cells}
use Rattle.vm_store.proofs.SeenClasses.{fresh-at}
use Rattle.vm_step.specs.declared.ending.Exception.TheVariants as exceptions
use Rattle.vm_step.specs.Methods.{instruction_at}
use Rattle.vm_step.specs.Act.{goes, makes, raises, throws}
use Rattle.vm_step.specs.Numbers.{handle_at, short_at, dropped}
use Rattle.vm_step.specs.Objects.{kind_of_type, new_act, array_of_count, new_array_act, throw_act}
use Rattle.vm_step.specs.Objects.{kind_passes, passes, may_cast, truth, type_test_act}
use Rattle.vm_step.specs.Settled.{goes_to, settled}
use Rattle.law_sound.specs.Frames.{Typings, types_of_frame, class_made, class_of_new, class_made_by}
use Rattle.law_sound.specs.Frames.{IsStacked, result_of, IsTypedFrame, AreWaiting}
use Rattle.law_sound.specs.State.{CanBeMade}
use Rattle.law_sound.specs.Soundness.{IsTypedOutcome}
use Rattle.law_sound.proofs.CellTypes.{stacked-filled, stacked-falls, types-fall}
use Rattle.law_sound.proofs.Growing.{all-waiting-fall}
use Rattle.law_sound.proofs.Handles.{kinds_of, kind-type, new-kind, kinds-more}
use Rattle.law_sound.proofs.Ready.{value-ready}
use Rattle.law_sound.proofs.Cells.{cell-at, one-stacked, stacked-at}
use Rattle.law_sound.proofs.References.{reference-handle, reference-same, handle-object}
use Rattle.law_sound.proofs.Instances.{made-at, instance-below}
use Rattle.law_sound.proofs.Places.{instruction-there}
use Rattle.law_sound.proofs.Stores.{with-instance, with-array}
use Rattle.law_sound.proofs.Finish.{IsTypedStore, makes-safe}
use Rattle.law_sound.proofs.Registers.{asked-of}
use Rattle.law_sound.proofs.SafeTurns.{Here, typed-after, replaced-below, replace-safe, null-safe, raise-safe, throw-safe}

-- a list that has an element is its first and the rest
top-and-rest : (xs : List Cell) → 0 < length xs → slice_index_or xs 0 cells.Empty ∷ drop 1 xs ≡ xs
top-and-rest x h = grind (arith)

module _ (w : Linked) (world : IsWorld w) (assigned : Typings) (f : Frame Cell) (below : List (Frame Cell)) (heap : List (Object Cell)) (statics : List Cell)
    (here : Here w assigned f below heap statics)
  where
    -- ---- new objects

    -- an object whose reference comes on the stack in place of cells
    made-safe :
        (taken : ℕ) (made_type : Ty) (kind : ObjectKind) (cs : List Cell) (reference : ℕ → Cell) (op : Operation)
        → here.turn.operation ≡ op
        → effect w op (types_of_frame w.classes (assigned.unset f.method) (kinds_of heap) f) ≡ replacing taken (given.One made_type)
        → falls_from op ≡ true
        → IsTypedStore w (heap ++ record { kind = kind; cells = cs } ∷ []) statics
        → Below w.classes (least_type w.classes (assigned.unset f.method) (kinds_of heap ++ kind ∷ []) (reference (length heap + 1))) made_type
        → IsStacked w here.turn.stands.rec (kinds_of heap ++ kind ∷ []) (reference (length heap + 1))
        → IsTypedOutcome w assigned
        (settled tagged w (here.turn.stands.instruction.place + here.turn.stands.instruction.insn.len)
        (record { frames = f ∷ below; heap = heap; statics = statics })
        (makes kind cs reference (dropped (record { frames = f ∷ below; heap = heap; statics = statics }) taken)))
    made-safe taken made_type kind cs reference op is does falls store lower stacked =
        let o : Object Cell = record { kind = kind; cells = cs } in
        let ks = kinds_of heap in
        let more : List ObjectKind = ks ++ kind ∷ [] in
        let st = here.turn.stands in
        let c : Cell = reference (length heap + 1) in
        let new : List Cell = c ∷ drop taken f.stack in
        let next : ℕ = st.instruction.place + st.instruction.insn.len in
        let top : Frame Cell = record { method = f.method; place = next; registers = f.registers; stack = new } in
        let under = replaced-below w world assigned f below heap statics here taken (given.One made_type) (c ∷ []) more
        (ap (λ o. effect w o (types_of_frame w.classes (assigned.unset f.method) ks f)) is ∙ does)
        (more_cells lower no_cells) (types-fall w.classes (assigned.unset f.method) ks (kind ∷ []) f.registers)
        (types-fall w.classes (assigned.unset f.method) ks (kind ∷ []) f.stack) in
        let all : All (IsStacked w st.rec more) new =
        All-cons (IsStacked w st.rec more) c (drop taken f.stack) stacked
        (All-drop (IsStacked w st.rec more) taken f.stack
        (All-weaker (IsStacked w st.rec ks) (IsStacked w st.rec more) (stacked-falls w st.rec ks (kind ∷ [])) f.stack here.turn.stacked)) in
        let same = sym (kinds-more heap o) in
        makes-safe w assigned (record f { stack = drop taken f.stack }) next below heap statics kind cs reference here.store (record {
          made = store.made;
          heap = store.objects;
          statics = store.fields;
          frames = (
            subst (λ xs. IsTypedFrame w assigned xs top) same
                (typed-after w world assigned f below heap statics here more f.registers new (ap falls_from is ∙ falls) under all),
            subst (λ xs. AreWaiting w assigned xs (result_of w f.method) below) same
                (all-waiting-fall w assigned ks (kind ∷ []) (result_of w f.method) below here.waits),
          );
        })

    -- the class that the instruction makes is the one that its place tells
    class-told : (place class : ℕ) → here.turn.operation ≡ ops.New place class → here.turn.stands.instruction.place ≡ place
        → class_made w here.turn.stands.rec place ≡ Some class
    class-told place class is at =
        let st = here.turn.stands in
        let there = instruction-there (code_of w.infos st.rec) f.place st.instruction st.there in
        let found : instruction_at (code_of w.infos st.rec) place ≡ Some st.instruction =
        subst (λ p. instruction_at (code_of w.infos st.rec) p ≡ Some st.instruction) (sym there.at ∙ at) st.there in
        ap (class_made_by w st.rec) found ∙ (ap class_of_new (sym here.turn.resolves) ∙ ap (λ op. class_of_new (Ok op)) is)

    pub new-safe :
        (place class : ℕ) → here.turn.operation ≡ ops.New place class → here.turn.stands.instruction.place ≡ place
        → IsConcrete w.classes w.methods class
        → IsTypedOutcome w assigned
        (settled tagged w (here.turn.stands.instruction.place + here.turn.stands.instruction.insn.len)
        (record { frames = f ∷ below; heap = heap; statics = statics })
        (new_act tagged w.classes place class (record { frames = f ∷ below; heap = heap; statics = statics })))
    new-safe place class is at concrete =
        let o : Object Cell = record { kind = Instance class; cells = new_instance_cells tagged w.classes class } in
        let more : List ObjectKind = kinds_of heap ++ Instance class ∷ [] in
        let handle : ℕ = length heap + 1 in
        let kind : kind_of_handle more handle ≡ Some (Instance class) = new-kind heap o in
        let ty : type_of_fresh more handle place ≡ Fresh place class = fresh-at more handle place ∙ ap (fresh_seen place) kind in
        made-safe 0 (Fresh place class) (Instance class) (new_instance_cells tagged w.classes class) (λ h. cells.Fresh h place) (ops.New place class) is
        refl refl
        (with-instance w heap statics here.store world class concrete)
        (subst (λ a. Below w.classes a (Fresh place class)) (sym ty) same)
        (IsSomeAnd-from (λ c. kind_of_handle more handle ≡ Some (Instance c)) (class_made w here.turn.stands.rec place) class
        (class-told place class is at) kind)

    -- an array, whose type stands for the elements of an interface too
    kind-seen : (ty : Ty) → IsArray ty → type_of_kind w.classes (kind_of_type ty) ≡ seen w.classes ty
    kind-seen ArrBool a = refl
    kind-seen ArrByte a = refl
    kind-seen ArrShort a = refl
    kind-seen ArrInt a = refl
    kind-seen (ArrRef c) a = refl
    kind-seen Bottom a = elim a [ ]
    kind-seen Short a = elim a [ ]
    kind-seen IntHigh a = elim a [ ]
    kind-seen IntLow a = elim a [ ]
    kind-seen Null a = elim a [ ]
    kind-seen (Class c) a = elim a [ ]
    kind-seen (Fresh p c) a = elim a [ ]
    kind-seen Top a = elim a [ ]

    kind-array : (ty : Ty) → IsArrayKind (kind_of_type ty)
    kind-array x = grind (arith)

    kind-made : (ty : Ty) → IsNamedType w.classes ty → CanBeMade w (kind_of_type ty)
    kind-made x named = grind (arith)

    array-safe :
        (ty : Ty) (count : ℤ) → here.turn.operation ≡ ops.NewArray ty → IsArray ty → IsNamedType w.classes ty
        → IsTypedOutcome w assigned
        (settled tagged w (here.turn.stands.instruction.place + here.turn.stands.instruction.insn.len)
        (record { frames = f ∷ below; heap = heap; statics = statics })
        (array_of_count tagged (kind_of_type ty) count (dropped (record { frames = f ∷ below; heap = heap; statics = statics }) 1)))
    array-safe ty (negsuc n) is array named = raise-safe w world assigned f below heap statics here exceptions.NegativeSize
    array-safe ty (pos count) is array named =
        let kind : ObjectKind = kind_of_type ty in
        let cs : List Cell = array_cells tagged kind count in
        let more : List ObjectKind = kinds_of heap ++ kind ∷ [] in
        let handle : ℕ = length heap + 1 in
        let told : type_of_handle w.classes more handle ≡ seen w.classes ty =
        kind-type w.classes more handle kind (new-kind heap (record { kind = kind; cells = cs })) ∙ kind-seen ty array in
        made-safe 1 (seen w.classes ty) kind cs cells.Ref (ops.NewArray ty) is refl refl
        (with-array w heap statics here.store kind count (kind-made ty named) (kind-array ty))
        (subst (λ a. Below w.classes a (seen w.classes ty)) (sym told) same) tt

    pub new-array-safe :
        (ty : Ty) → here.turn.operation ≡ ops.NewArray ty → IsArray ty → IsNamedType w.classes ty
        → IsTypedOutcome w assigned
        (settled tagged w (here.turn.stands.instruction.place + here.turn.stands.instruction.insn.len)
        (record { frames = f ∷ below; heap = heap; statics = statics })
        (new_array_act tagged ty (record { frames = f ∷ below; heap = heap; statics = statics })))
    new-array-safe ty is array named = array-safe ty (short_at tagged f.stack 0) is array named

    -- ---- what is thrown

    pub throw-act-safe :
        here.turn.operation ≡ ops.Throw
        → IsTypedOutcome w assigned
        (settled tagged w (here.turn.stands.instruction.place + here.turn.stands.instruction.insn.len)
        (record { frames = f ∷ below; heap = heap; statics = statics })
        (throw_act tagged (record { frames = f ∷ below; heap = heap; statics = statics })))
    throw-act-safe is =
        let c : Cell = slice_index_or f.stack 0 cells.Empty in
        let ty : Ty = Class (throwable w.classes) in
        let asked = asked-of w world assigned f below heap statics here ops.Throw is in
        let wanted = cell-at w.classes (assigned.unset f.method) (kinds_of heap) f.stack 0 (λ a. Below w.classes a ty) asked.0 in
        let handle = reference-handle w.classes world.chains (assigned.unset f.method) (kinds_of heap) c ty tt wanted.holds in
        null-safe w world assigned f below heap statics here (here.turn.stands.instruction.place + here.turn.stands.instruction.insn.len) (word_of c) throws
        (λ some.
        let o = handle-object w.classes world.chains heap (word_of c) ty tt some handle in
        throw-safe w world assigned f below heap statics here (word_of c) o.object.kind o.kind_is)

    -- ---- casts

    -- the reference, where it may be cast, is below the type
    cast-below :
        (ty : Ty) (h : ℕ) → IsNamedType w.classes ty → kind_passes w.classes ty (kind_of_handle (kinds_of heap) h) ≡ true
        → Below w.classes (type_of_handle w.classes (kinds_of heap) h) (seen w.classes ty)
    cast-below ty h named = go (kind_of_handle (kinds_of heap) h) refl
      where
        go : (o : Option ObjectKind) → kind_of_handle (kinds_of heap) h ≡ o → kind_passes w.classes ty o ≡ true
            → Below w.classes (type_of_handle w.classes (kinds_of heap) h) (seen w.classes ty)
        go None e test = absurd (false≢true test)
        go (Some k) e test =
            subst (λ a. Below w.classes a (seen w.classes ty)) (sym (kind-type w.classes (kinds_of heap) h k e))
            (instance-below w world.chains k ty (made-at w (kinds_of heap) h k here.store.made e) test)

    null-below : (ty : Ty) → IsNamedType w.classes ty → Below w.classes Null (seen w.classes ty)
    null-below (Class c) named = null_object
    null-below ArrBool named = null_array of_booleans
    null-below ArrByte named = null_array of_bytes
    null-below ArrShort named = null_array of_shorts
    null-below ArrInt named = null_array of_ints
    null-below (ArrRef c) named = null_array of_references
    null-below _ named = absurd named

    pub may-cast-below :
        (ty : Ty) (h : ℕ) → IsNamedType w.classes ty → (h == 0 || kind_passes w.classes ty (kind_of_handle (kinds_of heap) h)) ≡ true
        → Below w.classes (type_of_handle w.classes (kinds_of heap) h) (seen w.classes ty)
    may-cast-below ty h named test = grind (arith, or_cases, eqb-true, null-below, cast-below)

    pub type-test-safe :
        (test : TypeTest) (ty : Ty) → here.turn.operation ≡ ops.TypeTest test ty → IsNamedType w.classes ty
        → IsTypedOutcome w assigned
        (settled tagged w (here.turn.stands.instruction.place + here.turn.stands.instruction.insn.len)
        (record { frames = f ∷ below; heap = heap; statics = statics })
        (type_test_act tagged w.classes test ty (record { frames = f ∷ below; heap = heap; statics = statics })))
    type-test-safe tests.InstanceOf ty is named =
        let now : State Cell = record { frames = f ∷ below; heap = heap; statics = statics } in
        let c : Cell = cells.Short (truth (passes w.classes now ty (handle_at tagged f.stack 0))) in
        replace-safe w world assigned f below heap statics here 1 (given.One Short) (c ∷ []) heap statics
        (ap (λ o. effect w o (types_of_frame w.classes (assigned.unset f.method) (kinds_of heap) f)) is) (ap falls_from is)
        (more_cells same no_cells) (one-stacked w here.turn.stands.rec (kinds_of heap) c tt) here.store refl
    type-test-safe tests.Cast ty is named =
        go (may_cast w.classes (record { frames = f ∷ below; heap = heap; statics = statics }) ty (word_of (slice_index_or f.stack 0 cells.Empty))) refl
      where
        go : (b : Bool) → may_cast w.classes (record { frames = f ∷ below; heap = heap; statics = statics }) ty
            (word_of (slice_index_or f.stack 0 cells.Empty)) ≡ b
            → IsTypedOutcome w assigned
            (settled tagged w (here.turn.stands.instruction.place + here.turn.stands.instruction.insn.len)
            (record { frames = f ∷ below; heap = heap; statics = statics })
            (if b then goes (record { frames = f ∷ below; heap = heap; statics = statics }) else raises exceptions.ClassCast))
        go false e = raise-safe w world assigned f below heap statics here exceptions.ClassCast
        go true e =
            let t = w.classes in
            let ks = kinds_of heap in
            let c : Cell = slice_index_or f.stack 0 cells.Empty in
            let asked = asked-of w world assigned f below heap statics here (ops.TypeTest tests.Cast ty) is in
            let at = cell-at t (assigned.unset f.method) ks f.stack 0 (λ a. Below t a (Class (object t))) asked.0 in
            let filled = stacked-filled w here.turn.stands.rec ks c (stacked-at w here.turn.stands.rec ks f.stack 0 at.inside here.turn.stacked) in
            let lower : Below t (least_type t (assigned.unset f.method) ks c) (seen t ty) =
            subst (λ a. Below t a (seen t ty)) (sym (reference-same t world.chains (assigned.unset f.method) ks c (Class (object t)) tt filled at.holds))
            (may-cast-below ty (word_of c) named e) in
            subst
            (λ xs. IsTypedOutcome w assigned
            (goes_to tagged w (here.turn.stands.instruction.place + here.turn.stands.instruction.insn.len)
            (record { frames = f ∷ below; heap = heap; statics = statics })
            (record { frames = record { method = f.method; place = f.place; registers = f.registers; stack = xs } ∷ below; heap = heap; statics = statics })))
            (top-and-rest f.stack at.inside)
            (replace-safe w world assigned f below heap statics here 1 (given.One (seen t ty)) (c ∷ []) heap statics
            (ap (λ o. effect w o (types_of_frame t (assigned.unset f.method) ks f)) is) (ap falls_from is)
            (more_cells lower no_cells)
            (one-stacked w here.turn.stands.rec ks c (value-ready t world.chains (assigned.unset f.method) ks c (Class (object t)) filled tt tt at.holds))
            here.store refl)
