-- A store of the source in rewritten code.
use Rattle.std.proofs.Common.{◌≡◌, ◌⊎◌, inl, inr, ℕ, zero, suc, ◌+◌, ◌*◌, ◌<◌, ◌≤◌, true, List, [], ◌∷◌, ◌++◌, length}
use Rattle.std.proofs.Common.{map, refl, sym, ap, ◌∙◌, subst, arith}
use Rattle.std.specs.Prelude.{Option, Some, None, IsSomeAnd, flat_map, pos, slice_get}
use Rattle.std.proofs.lemmas.List.Concat.{flat_map-cons}
use Rattle.jc_base.specs.declared.ty.Ty.{Ty}
use Rattle.jc_base.specs.declared.ty.Ty.TheVariants.{Bottom, Short, IntHigh, IntLow, Class}
use Rattle.jc_base.specs.declared.record.MethodRec.{MethodRec}
use Rattle.jc_base.specs.Cell.{IsNoHalf}
use Rattle.jc_base.specs.Class.{ClassTable, object}
use Rattle.jc_base.specs.Each.{Each, IsAmong}
use Rattle.jc_base.specs.Laws.{IsOrderOfTypes}
use Rattle.jc_base.specs.Order.{Below, is_below}
use Rattle.jc_base.specs.World.{Linked}
use Rattle.jc_decode.specs.declared.insn.Insn.{Insn}
use Rattle.jc_decode.specs.Listing.{listing}
use Rattle.jc_decode.specs.Standing.{AreSteps}
use Rattle.jc_decode.specs.Symbols.{Step}
use Rattle.jc_control.specs.WellFormed.{IsPlace}
use Rattle.jc_ops.specs.declared.operation.Move.TheVariants as moves
use Rattle.jc_ops.specs.declared.operation.Operation.TheVariants as ops
use Rattle.jc_ops.specs.declared.operation.Sort.{Sort}
use Rattle.jc_ops.specs.declared.operation.Sort.TheVariants as sorts
use Rattle.jc_rules.specs.Demand.{IsHalf}
use Rattle.jc_rules.specs.Laws.{IsNotBottom}
use Rattle.vm_store.specs.declared.cell.Cell.{Cell}
use Rattle.vm_store.specs.declared.cell.Cell.TheVariants as cells
use Rattle.vm_store.specs.declared.cell.ObjectKind.{ObjectKind}
use Rattle.vm_store.specs.declared.cell.ObjectKind.TheVariants as kinds_of
use Rattle.vm_store.specs.Typing.{least_type, type_seen, fresh_seen}
use Rattle.vm_store.specs.Cells.{tagged}
use Rattle.vm_store.specs.Objects.{kinds}
use Rattle.vm_store.specs.State.{State, Frame, Object, first_frame, nth}
use Rattle.vm_store.specs.Laws.{HasContent}
use Rattle.vm_step.specs.Methods.{code_at, max_stack_of}
use Rattle.vm_step.specs.Raising.{running}
use Rattle.vm_step.specs.Run.{Runs, stands, steps as then}
use Rattle.vm_step.specs.Step.{Steps}
use Rattle.vm_step.specs.Values.{with_move}
use Rattle.law_sound.specs.Frames.{least_types}
use Rattle.xf_homes.specs.declared.home.Home.{Home}
use Rattle.xf_homes.specs.Laws.{HasRegister}
use Rattle.xf_homes.specs.Value.{type_width}
use Rattle.xf_homes.specs.Source.{Source}
use Rattle.xf_homes.specs.Plan.{needed, register}
use Rattle.xf_emission.specs.Group.{pop_item, store_to_homes as stored_items}
use Rattle.xf_emission.specs.Move.{copy}
use Rattle.xf_emission.specs.Mnemonics.{pop, pop2}
use Rattle.law_rewritten_typing.specs.Planned.{IsPlanned}
use Rattle.law_rewritten_typing.proofs.Carried.{is-short, is-high, is-low}
use Rattle.law_rewritten_typing.proofs.Rows.{pop-is, pop-two-is}
use Rattle.law_rewritten_typing.proofs.Running.{is-reference}
use Rattle.law_homes.specs.Edges.{insns, top_at, IsBeside}
use Rattle.law_homes.specs.Held.{HoldsValue}
use Rattle.law_homes.specs.Laws.{AreApart}
use Rattle.law_homes.specs.Moves.{IsExecutable, size, letter_of, InstructionsStandFrom, IsAtStep, copy_of, value_in_register, IsCopy}
use Rattle.law_homes.specs.Stores.{HasLocal, IsInHomes, StoresRun}
use Rattle.law_homes.proofs.Copies.{wide}
use Rattle.law_homes.proofs.Going.{operations-go-on}
use Rattle.law_homes.proofs.Loading.{step-place}
use Rattle.law_homes.proofs.Standing.{steps-execute}
use Rattle.law_homes.proofs.Valued.{asked_types, IsCellOf, CellsAt, at-nth, value-inside}
use Rattle.law_homes.proofs.StackStores.{stored, stored-count, stored-holds, stored-apart}
use Rattle.law_homes.proofs.Spilling.{one-store}
use Rattle.law_homes.proofs.Carrying.{insns-append, copies-count, copy-fits}
use Rattle.law_homes.proofs.Beside.{each-among, among-each, own, register-inside, register-small, needed-valued, types, held-as}
use Rattle.law_homes.specs.Premises.{AreMoveLaws}

-- ---- what was loaded is of its letter alone

module _ (t : ClassTable) (ks : List ObjectKind) where
  -- a cell in which something was stored has a type
  filled-full : (c : Cell) → HasContent c → IsNotBottom (least_type t Bottom ks c)
  filled-full cells.Empty h = absurd h
  filled-full (cells.Short n) h = tt
  filled-full (cells.High n) h = tt
  filled-full (cells.Low n) h = tt
  filled-full (cells.Ref zero) h = tt
  filled-full (cells.Ref (suc n)) h = by (slice_get ks n)
    where
      by : (o : Option ObjectKind) → IsNotBottom (type_seen t o)
      by None = tt
      by (Some (kinds_of.Instance c)) = tt
      by (Some kinds_of.Booleans) = tt
      by (Some kinds_of.Bytes) = tt
      by (Some kinds_of.Shorts) = tt
      by (Some kinds_of.Ints) = tt
      by (Some (kinds_of.References c)) = tt
  filled-full (cells.Fresh zero p) h = tt
  filled-full (cells.Fresh (suc n) p) h = by (slice_get ks n)
    where
      by : (o : Option ObjectKind) → IsNotBottom (fresh_seen p o)
      by None = tt
      by (Some (kinds_of.Instance c)) = tt
      by (Some kinds_of.Booleans) = tt
      by (Some kinds_of.Bytes) = tt
      by (Some kinds_of.Shorts) = tt
      by (Some kinds_of.Ints) = tt
      by (Some (kinds_of.References c)) = tt

  back-at : (cs : List Cell) (n : ℕ) (ty : Ty) → IsSomeAnd (slice_get (least_types t Bottom ks cs) n) (λ u. Below t u ty)
      → HasContent (nth tagged cs n) → IsSomeAnd (slice_get cs n) (IsCellOf t ks ty)
  back-at [] n ty h filled = absurd h
  back-at (c ∷ cs) zero ty h filled = (filled, h)
  back-at (c ∷ cs) (suc n) ty h filled = back-at cs n ty h filled

  module _ (types_are : IsOrderOfTypes t) where
    no-short-object : (u : Ty) (c : ℕ) → u ≡ Short → is_below t u (Class c) ≡ true → ⊥
    unfolding is_below
    no-short-object u c e h = absurd (cc)

    no-high-object : (u : Ty) (c : ℕ) → u ≡ IntHigh → is_below t u (Class c) ≡ true → ⊥
    unfolding is_below
    no-high-object u c e h = absurd (cc)

    short-high : Short ≡ IntHigh → ⊥
    short-high e = absurd (cc)

    -- two letters of one value are one
    pub one-letter : (cs : List Cell) (x : ℕ) (a b : Sort) → CellsAt t ks cs x (asked_types t a) → CellsAt t ks cs x (asked_types t b) → a ≡ b
    one-letter cs x sorts.Reference sorts.Reference p q = refl
    one-letter cs x sorts.Short sorts.Short p q = refl
    one-letter cs x sorts.Int sorts.Int p q = refl
    one-letter cs x sorts.Reference sorts.Short p q = absurd (reference-short cs x p.0 q.0)
      where
        reference-short : (cs : List Cell) (x : ℕ) → IsSomeAnd (slice_get cs x) (IsCellOf t ks (Class (object t)))
            → IsSomeAnd (slice_get cs x) (IsCellOf t ks Short) → ⊥
        reference-short cs x p q =
            let a = (at-nth cs x (IsCellOf t ks (Class (object t))) p).1 in
            let b = (at-nth cs x (IsCellOf t ks Short) q).1 in
            let u = least_type t Bottom ks (nth tagged cs x) in
            no-short-object u (object t) (is-short t types_are u b.1 (filled-full (nth tagged cs x) b.0)) ((types_are.decided u (Class (object t))).1 a.1)
    one-letter cs x sorts.Short sorts.Reference p q = absurd (short-reference cs x p.0 q.0)
      where
        short-reference : (cs : List Cell) (x : ℕ) → IsSomeAnd (slice_get cs x) (IsCellOf t ks Short)
            → IsSomeAnd (slice_get cs x) (IsCellOf t ks (Class (object t))) → ⊥
        short-reference cs x q p =
            let a = (at-nth cs x (IsCellOf t ks (Class (object t))) p).1 in
            let b = (at-nth cs x (IsCellOf t ks Short) q).1 in
            let u = least_type t Bottom ks (nth tagged cs x) in
            no-short-object u (object t) (is-short t types_are u b.1 (filled-full (nth tagged cs x) b.0)) ((types_are.decided u (Class (object t))).1 a.1)
    one-letter cs x sorts.Reference sorts.Int p q = absurd (reference-int cs x p.0 q.0)
      where
        reference-int : (cs : List Cell) (x : ℕ) → IsSomeAnd (slice_get cs x) (IsCellOf t ks (Class (object t)))
            → IsSomeAnd (slice_get cs x) (IsCellOf t ks IntHigh) → ⊥
        reference-int cs x p q =
            let a = (at-nth cs x (IsCellOf t ks (Class (object t))) p).1 in
            let b = (at-nth cs x (IsCellOf t ks IntHigh) q).1 in
            let u = least_type t Bottom ks (nth tagged cs x) in
            no-high-object u (object t) (is-high t types_are u b.1 (filled-full (nth tagged cs x) b.0)) ((types_are.decided u (Class (object t))).1 a.1)
    one-letter cs x sorts.Int sorts.Reference p q = absurd (int-reference cs x p.0 q.0)
      where
        int-reference : (cs : List Cell) (x : ℕ) → IsSomeAnd (slice_get cs x) (IsCellOf t ks IntHigh)
            → IsSomeAnd (slice_get cs x) (IsCellOf t ks (Class (object t))) → ⊥
        int-reference cs x q p =
            let a = (at-nth cs x (IsCellOf t ks (Class (object t))) p).1 in
            let b = (at-nth cs x (IsCellOf t ks IntHigh) q).1 in
            let u = least_type t Bottom ks (nth tagged cs x) in
            no-high-object u (object t) (is-high t types_are u b.1 (filled-full (nth tagged cs x) b.0)) ((types_are.decided u (Class (object t))).1 a.1)
    one-letter cs x sorts.Short sorts.Int p q = absurd (short-int cs x p.0 q.0)
      where
        short-int : (cs : List Cell) (x : ℕ) → IsSomeAnd (slice_get cs x) (IsCellOf t ks Short) → IsSomeAnd (slice_get cs x) (IsCellOf t ks IntHigh)
            → ⊥
        short-int cs x p q =
            let a = (at-nth cs x (IsCellOf t ks Short) p).1 in
            let b = (at-nth cs x (IsCellOf t ks IntHigh) q).1 in
            let u = least_type t Bottom ks (nth tagged cs x) in
            let full = filled-full (nth tagged cs x) b.0 in
            short-high (sym (is-short t types_are u a.1 full) ∙ is-high t types_are u b.1 full)
    one-letter cs x sorts.Int sorts.Short p q = absurd (int-short cs x p.0 q.0)
      where
        int-short : (cs : List Cell) (x : ℕ) → IsSomeAnd (slice_get cs x) (IsCellOf t ks IntHigh) → IsSomeAnd (slice_get cs x) (IsCellOf t ks Short)
            → ⊥
        int-short cs x p q =
            let a = (at-nth cs x (IsCellOf t ks Short) q).1 in
            let b = (at-nth cs x (IsCellOf t ks IntHigh) p).1 in
            let u = least_type t Bottom ks (nth tagged cs x) in
            let full = filled-full (nth tagged cs x) b.0 in
            short-high (sym (is-short t types_are u a.1 full) ∙ is-high t types_are u b.1 full)

    no-low-object : (u : Ty) (c : ℕ) → u ≡ IntLow → is_below t u (Class c) ≡ true → ⊥
    unfolding is_below
    no-low-object u c e h = absurd (cc)

    low-short : IntLow ≡ Short → ⊥
    low-short e = absurd (cc)

    low-high : IntLow ≡ IntHigh → ⊥
    low-high e = absurd (cc)

    -- no value begins with a low half
    pub none-low : (cs : List Cell) (x : ℕ) (a : Sort) → IsSomeAnd (slice_get cs x) (IsCellOf t ks IntLow) → CellsAt t ks cs x (asked_types t a) → ⊥
    none-low cs x a low h = by a h
      where
        u : Ty
        u = least_type t Bottom ks (nth tagged cs x)

        b : (x < length cs) × IsCellOf t ks IntLow (nth tagged cs x)
        b = at-nth cs x (IsCellOf t ks IntLow) low

        full : IsNotBottom u
        full = filled-full (nth tagged cs x) b.1.0

        is_low : u ≡ IntLow
        is_low = is-low t types_are u b.1.1 full

        by : (a : Sort) → CellsAt t ks cs x (asked_types t a) → ⊥
        by sorts.Reference h =
            no-low-object u (object t) is_low ((types_are.decided u (Class (object t))).1 (at-nth cs x (IsCellOf t ks (Class (object t))) h.0).1.1)
        by sorts.Short h = low-short (sym is_low ∙ is-short t types_are u (at-nth cs x (IsCellOf t ks Short) h.0).1.1 full)
        by sorts.Int h = low-high (sym is_low ∙ is-high t types_are u (at-nth cs x (IsCellOf t ks IntHigh) h.0).1.1 full)

    not-half : (u : Ty) → IsNoHalf u → IsHalf u → ⊥
    not-half u n h = grind (arith)

    whole-reference : (c : Cell) (k : ℕ) → IsCellOf t ks (Class k) c → IsHalf (least_type t Bottom ks c) → ⊥
    whole-reference c k is = not-half (least_type t Bottom ks c) (is-reference t types_are (least_type t Bottom ks c) k is.1 (filled-full c is.0)).no_half

    whole-short : (c : Cell) → IsCellOf t ks Short c → IsHalf (least_type t Bottom ks c) → ⊥
    whole-short c is = not-half (least_type t Bottom ks c) (subst IsNoHalf (sym (is-short t types_are (least_type t Bottom ks c) is.1 (filled-full c is.0))) tt)

    high-is : (c : Cell) → IsCellOf t ks IntHigh c → least_type t Bottom ks c ≡ IntHigh
    high-is c is = is-high t types_are (least_type t Bottom ks c) is.1 (filled-full c is.0)

copies-insns : (s : Source) (h : Home) (ks : List Home) → insns (flat_map (copy s h) ks) ≡ flat_map (copy_of s h) ks
copies-insns s h [] = refl
copies-insns s h (k ∷ ks) = grind (arith, flat_map-cons, insns-append, copies-insns s h ks)

pop_insn : Sort → Insn
pop_insn sorts.Int = record { op = pop2; x = pos 0; y = pos 0; z = pos 0; len = 1 }
pop_insn _ = record { op = pop; x = pos 0; y = pos 0; z = pos 0; len = 1 }

popped-insns : (letter : Sort) → insns (pop_item letter ∷ []) ≡ pop_insn letter ∷ []
unfolding pop_insn
popped-insns x = grind (arith)

module _
    (w : Linked) (world : IsExecutable w) (types_are : IsOrderOfTypes w.classes) (place : ℕ → ℕ) (steps : List Step)
    (values : List Cell)
    (method : ℕ) (below : List (Frame Cell)) (heap : List (Object Cell)) (statics : List Cell)
    (m : MethodRec) (is_method : slice_get w.methods method ≡ Some m)
    (are : AreSteps (code_at w method) place 0 steps (listing (code_at w method))) where
  abbrev at : ℕ → List Cell → List Cell → State Cell
  at p registers stack =
      record { frames = record { method = method; place = p; registers = registers; stack = stack } ∷ below; heap = heap; statics = statics }

  abbrev ks : List ObjectKind
  ks = map (λ (o : Object Cell). o.kind) heap

  -- a value that no home needs is popped
  pop-step :
      (n x : ℕ) (registers stack : List Cell) (letter : Sort)
      → slice_get steps n ≡ Some (record { insn = pop_insn letter; targets = []; keys = [] })
      → suc n < length steps
      → CellsAt w.classes (map (λ (o : Object Cell). o.kind) heap) values x (asked_types w.classes letter)
      → length stack ≤ max_stack_of w method
      → Steps tagged w (at (place n) registers (value_in_register letter x values ++ stack)) (running (at (place (n + 1)) registers stack))
  unfolding pop_insn
  pop-step n x registers stack sorts.Reference stand further is room =
      let t : State Cell = at (place n) registers (nth tagged values x ∷ stack) in
      let ex = steps-execute w world t m place steps n 0 (record { insn = pop_insn sorts.Reference; targets = []; keys = [] }) (ops.Move moves.Pop)
      (omega arith) is_method are stand refl (sym (pop-is w m 0 (pop_insn sorts.Reference))) in
      subst (λ (p : ℕ). Steps tagged w t (running (at p registers stack))) ex.ends
      (operations-go-on w world.chains t (with_move moves.Pop t) ex.instruction (ops.Move moves.Pop) ex.executes (
        whole-reference w.classes ks types_are (nth tagged values x) (object w.classes)
            (at-nth values x (IsCellOf w.classes ks (Class (object w.classes))) is.0).1,
        tt,
      ) refl room
      (subst (IsPlace (code_at w method)) (sym ex.ends) (step-place (code_at w method) place steps (n + 1) are (omega (arith, further)))))
  pop-step n x registers stack sorts.Short stand further is room =
      let t : State Cell = at (place n) registers (nth tagged values x ∷ stack) in
      let ex = steps-execute w world t m place steps n 0 (record { insn = pop_insn sorts.Short; targets = []; keys = [] }) (ops.Move moves.Pop)
      (omega arith) is_method are stand refl (sym (pop-is w m 0 (pop_insn sorts.Short))) in
      subst (λ (p : ℕ). Steps tagged w t (running (at p registers stack))) ex.ends
      (operations-go-on w world.chains t (with_move moves.Pop t) ex.instruction (ops.Move moves.Pop) ex.executes
      (whole-short w.classes ks types_are (nth tagged values x) (at-nth values x (IsCellOf w.classes ks Short) is.0).1, tt) refl room
      (subst (IsPlace (code_at w method)) (sym ex.ends) (step-place (code_at w method) place steps (n + 1) are (omega (arith, further)))))
  pop-step n x registers stack sorts.Int stand further is room =
      let t : State Cell = at (place n) registers (nth tagged values (x + 1) ∷ nth tagged values x ∷ stack) in
      let ex = steps-execute w world t m place steps n 0 (record { insn = pop_insn sorts.Int; targets = []; keys = [] }) (ops.Move moves.PopTwo)
      (omega arith) is_method are stand refl (sym (pop-two-is w m 0 (pop_insn sorts.Int))) in
      let high = high-is w.classes ks types_are (nth tagged values x) (at-nth values x (IsCellOf w.classes ks IntHigh) is.0).1 in
      subst (λ (p : ℕ). Steps tagged w t (running (at p registers stack))) ex.ends
      (operations-go-on w world.chains t (with_move moves.PopTwo t) ex.instruction (ops.Move moves.PopTwo) ex.executes
      (omega arith, (λ splits. no-low (least_type w.classes Bottom ks (nth tagged values x)) high splits.0, tt)) refl room
      (subst (IsPlace (code_at w method)) (sym ex.ends) (step-place (code_at w method) place steps (n + 1) are (omega (arith, further)))))
    where
      no-low : (u : Ty) → u ≡ IntHigh → Some u ≡ Some IntLow → ⊥
      no-low u e f = absurd (cc)

-- ---- the store

module _ (v w : Linked) (l : AreMoveLaws v w) (place : ℕ → ℕ) (steps : List Step) (s : Source) (is : s.world ≡ v) (plan : IsPlanned s) (letter : Sort)
    (q x : ℕ) (f : Frame Cell) (stack : List Cell) where
  module _
      (g : Frame Cell) (below : List (Frame Cell)) (heap : List (Object Cell)) (statics : List Cell) (n count : ℕ)
      (beside : IsBeside w s q f (record { frames = g ∷ below; heap = heap; statics = statics }))
      (local : HasLocal w (record { frames = g ∷ below; heap = heap; statics = statics }) letter x f)
      (at : IsAtStep w place steps (record { frames = g ∷ below; heap = heap; statics = statics }) n count)
      (stack_is : g.stack ≡ value_in_register letter x f.registers ++ stack)
      (low : length g.stack ≤ s.method.rec.max_stack) where
    abbrev t : State Cell
    t = record { frames = g ∷ below; heap = heap; statics = statics }

    value : CellsAt w.classes (kinds t) f.registers x (asked_types w.classes letter)
    value = grind (arith, back-at)

    fits : size letter + length stack ≤ max_stack_of w g.method
    fits = by letter (ap length stack_is)
      where
        by : (a : Sort) → length g.stack ≡ length (value_in_register a x f.registers ++ stack) → size a + length stack ≤ max_stack_of w g.method
        by sorts.Reference e = omega (arith, e, low, beside.room)
        by sorts.Short e = omega (arith, e, low, beside.room)
        by sorts.Int e = omega (arith, e, low, beside.room)

    abbrev at_now : List Cell → State Cell
    at_now cs = record { frames = record { method = g.method; place = place n; registers = g.registers; stack = cs } ∷ below; heap = heap; statics = statics }

    begins : (cs : List Cell) → cs ≡ g.stack
        → record { frames = record { method = g.method; place = place n; registers = g.registers; stack = cs } ∷ below; heap = heap; statics = statics }
        ≡ t
    begins cs e = grind (arith)

    -- a home that is needed has the letter of the store
    pub of-letter : (h : Home) → IsAmong h (needed s q x) → (h.slot ≡ x) × (letter_of h.ty ≡ letter) × HasRegister s.homes h
    of-letter h a =
        let n = needed-valued v w l s is plan q f t beside x h a in
        let there : CellsAt w.classes (kinds t) f.registers x (asked_types w.classes (letter_of h.ty)) =
        subst (λ (y : ℕ). CellsAt w.classes (kinds t) f.registers y (asked_types w.classes (letter_of h.ty))) n.0 n.2 in
        (n.0, one-letter w.classes (kinds t) (types v w l s is plan q f t beside) f.registers x (letter_of h.ty) letter there value, n.1.has)

    abbrev Ended : List Home → Type 0
    Ended hs = IsInHomes w s q x f t stack (length (insns (stored_items s letter hs))) (place (n + length (insns (stored_items s letter hs))))

    none-needed : needed s q x ≡ [] → count ≡ length (insns (stored_items s letter []))
        → InstructionsStandFrom steps n (insns (stored_items s letter [])) → Ended []
    none-needed none is_count stand =
        let one : length (insns (pop_item letter ∷ [])) ≡ 1 = ap length (popped-insns letter) in
        let lone = subst (InstructionsStandFrom steps n) (popped-insns letter) stand in
        let step = pop-step w l.world (types v w l s is plan q f t beside) place steps f.registers g.method below heap statics at.method at.is_method at.are
        n x g.registers stack letter lone.0
        (omega (arith, at.further, is_count, one)) value (omega (arith, fits)) in
        let ran : Runs tagged w 1 t (running (top_at t (place (n + 1)) g.registers stack)) =
        subst (λ (y : State Cell). Runs tagged w 1 y (running (top_at t (place (n + 1)) g.registers stack)))
        (begins (value_in_register letter x f.registers ++ stack) (sym stack_is)) (then step stands) in
        record {
          registers = g.registers;
          runs = subst (λ (k : ℕ). Runs tagged w k t (running (top_at t (place (n + k)) g.registers stack))) (sym one) ran;
          count = refl;
          values = subst (Each (HoldsValue s f.registers (record g { registers = g.registers }))) (sym none) tt;
          others = λ h has held. held-as s f.registers g (record g { registers = g.registers }) h refl held;
        }

    some-needed :
        (h : Home) (hs : List Home) → needed s q x ≡ h ∷ hs → count ≡ length (insns (stored_items s letter (h ∷ hs)))
        → InstructionsStandFrom steps n (insns (stored_items s letter (h ∷ hs)))
        → Ended (h ∷ hs)
    some-needed h hs some is_count stand =
        let own_h = of-letter h (subst (IsAmong h) (sym some) (inl refl)) in
        let inside_h : register s h + type_width h.ty ≤ length g.registers = omega (arith, register-inside v w l s is plan h own_h.2, beside.count) in
        let value_h : CellsAt w.classes (kinds t) f.registers h.slot (asked_types w.classes (letter_of h.ty)) =
        subst (λ (y : ℕ). CellsAt w.classes (kinds t) f.registers y (asked_types w.classes (letter_of h.ty))) (sym own_h.0)
        (subst (λ (a : Sort). CellsAt w.classes (kinds t) f.registers x (asked_types w.classes a)) (sym own_h.1) value) in
        let tail_is : insns (flat_map (copy s h) hs) ≡ flat_map (copy_of s h) hs = copies-insns s h hs in
        let tail_count : length (insns (flat_map (copy s h) hs)) ≡ 2 * length hs = ap length tail_is ∙ copies-count s h hs in
        let first = one-store w l.world place steps s (own v w l s is plan) f.registers g.method below heap statics at.method at.is_method at.are n
        g.registers stack h stand.0
        (omega (arith, at.further, is_count))
        (record { has = own_h.2; small = register-small v w l s is plan h own_h.2; inside = inside_h; value = value_h }) (omega (arith, fits)) in
        let there : h.slot + type_width h.ty ≤ length f.registers = let i = value-inside w.classes (kinds t) (letter_of h.ty) f.registers h.slot
        value_h in let e = wide h.ty in omega (arith, i, e) in
        let next : List Cell = stored (letter_of h.ty) f.registers h.slot (register s h) g.registers in
        let same : length next ≡ length g.registers = stored-count (letter_of h.ty) f.registers h.slot (register s h) g.registers in
        let written = stored-holds s (record { method = g.method; place = 0; registers = g.registers; stack = stack }) h f.registers inside_h there in
        let rest = copy-fits w l.world place steps s (own v w l s is plan) f.registers g.method stack below heap statics at.method at.is_method at.are room
        (n + 1) next h hs (subst (InstructionsStandFrom steps (n + 1)) tail_is stand.1) (omega (arith, at.further, is_count, tail_count))
        (record { own = own_h.2; small = register-small v w l s is plan h own_h.2; holds = written; value = value_h })
        (subst (λ (a : Sort). size a + length stack ≤ max_stack_of w g.method) (sym own_h.1) fits)
        (each-among (IsCopy s (length next) h) hs
        (λ k a.
        let own_k = of-letter k (subst (IsAmong k) (sym some) (inr a)) in
        record {
          slot = own_k.0 ∙ sym own_h.0;
          letter = own_k.1 ∙ sym own_h.1;
          own = own_k.2;
          small = register-small v w l s is plan k own_k.2;
          inside = omega (arith, register-inside v w l s is plan k own_k.2, beside.count, same);
        })) in
        let whole : 1 + 2 * length hs ≡ suc (length (insns (flat_map (copy s h) hs))) = omega (arith, tail_count) in
        let last : n + 1 + 2 * length hs ≡ n + suc (length (insns (flat_map (copy s h) hs))) = omega (arith, tail_count) in
        let stack_h : value_in_register (letter_of h.ty) h.slot f.registers ++ stack ≡ g.stack =
        ap (λ (y : ℕ). value_in_register (letter_of h.ty) y f.registers ++ stack) own_h.0
        ∙ ap (λ (a : Sort). value_in_register a x f.registers ++ stack) own_h.1 ∙ sym stack_is in
        let all : Runs tagged w (1 + 2 * length hs) t (running (top_at t (place (n + 1 + 2 * length hs)) rest.after stack)) =
        subst (λ (y : State Cell). Runs tagged w (1 + 2 * length hs) y (running (top_at t (place (n + 1 + 2 * length hs)) rest.after stack)))
        (begins (value_in_register (letter_of h.ty) h.slot f.registers ++ stack) stack_h)
        (subst
        (λ (k : ℕ). Runs tagged w k (at_now (value_in_register (letter_of h.ty) h.slot f.registers ++ stack))
        (running (top_at t (place (n + 1 + 2 * length hs)) rest.after stack))) next_count (then first rest.runs)) in
        record {
          registers = rest.after;
          runs = subst (λ (k : ℕ). Runs tagged w k t (running (top_at t (place (n + suc (length (insns (flat_map (copy s h) hs))))) rest.after stack))) whole
              (subst (λ (k : ℕ). Runs tagged w (1 + 2 * length hs) t (running (top_at t (place k) rest.after stack))) last all);
          count = rest.many ∙ same;
          values = subst (Each (HoldsValue s f.registers (record g { registers = rest.after }))) (sym some) (
            held-as s f.registers (record { method = g.method; place = 0; registers = rest.after; stack = stack }) (record g { registers = rest.after }) h
                refl (rest.keeps h own_h.2 written),
            each-among (HoldsValue s f.registers (record g { registers = rest.after })) hs
                (λ k a. held-as s f.registers (record { method = g.method; place = 0; registers = rest.after; stack = stack })
                (record g { registers = rest.after }) k refl
                (among-each (HoldsValue s f.registers (record { method = g.method; place = 0; registers = rest.after; stack = stack })) hs k rest.holds a)),
          );
          others = λ a has held.
              held-as s f.registers (record { method = g.method; place = 0; registers = rest.after; stack = stack }) (record g { registers = rest.after }) a
              refl
              (rest.keeps a has
              (kept a h inside_h (held-as s f.registers g (record { method = g.method; place = 0; registers = g.registers; stack = stack }) a refl held)
              (own v w l s is plan a h has own_h.2) written));
        }
      where
        room : 1 + length stack ≤ max_stack_of w g.method
        room = by letter fits
          where
            by : (a : Sort) → size a + length stack ≤ max_stack_of w g.method → 1 + length stack ≤ max_stack_of w g.method
            by sorts.Reference le = le
            by sorts.Short le = le
            by sorts.Int le = omega (arith, le)

        next_count : suc (2 * length hs) ≡ 1 + 2 * length hs
        next_count = omega arith

        kept :
            (a h : Home) → register s h + type_width h.ty ≤ length g.registers
            → HoldsValue s f.registers (record { method = g.method; place = 0; registers = g.registers; stack = stack }) a
            → (a ≡ h) ⊎ AreApart (register s a) (type_width a.ty) (register s h) (type_width h.ty)
            → HoldsValue s f.registers
            (record { method = g.method; place = 0; registers = stored (letter_of h.ty) f.registers h.slot (register s h) g.registers; stack = stack })
            h
            → HoldsValue s f.registers
            (record { method = g.method; place = 0; registers = stored (letter_of h.ty) f.registers h.slot (register s h) g.registers; stack = stack })
            a
        kept a h inside held (inl same) written =
            subst
            (λ (y : Home). HoldsValue s f.registers
            (record { method = g.method; place = 0; registers = stored (letter_of h.ty) f.registers h.slot (register s h) g.registers; stack = stack })
            y) (sym same) written
        kept a h inside held (inr apart) written =
            stored-apart s (record { method = g.method; place = 0; registers = g.registers; stack = stack }) h f.registers inside f.registers a apart held

    store-runs :
        count ≡ length (insns (stored_items s letter (needed s q x))) → InstructionsStandFrom steps n (insns (stored_items s letter (needed s q x)))
        → Ended (needed s q x)
    store-runs is_count stand = by (needed s q x) refl is_count stand
      where
        by : (hs : List Home) → needed s q x ≡ hs → count ≡ length (insns (stored_items s letter hs))
            → InstructionsStandFrom steps n (insns (stored_items s letter hs)) → Ended hs
        by [] e is_count stand = none-needed e is_count stand
        by (h ∷ hs) e is_count stand = some-needed h hs e is_count stand

  store-frames :
      (fs : List (Frame Cell)) (heap : List (Object Cell)) (statics : List Cell) (n : ℕ)
      → IsBeside w s q f (record { frames = fs; heap = heap; statics = statics })
      → HasLocal w (record { frames = fs; heap = heap; statics = statics }) letter x f
      → IsAtStep w place steps (record { frames = fs; heap = heap; statics = statics }) n (length (insns (stored_items s letter (needed s q x))))
      → InstructionsStandFrom steps n (insns (stored_items s letter (needed s q x)))
      → (first_frame fs).stack ≡ value_in_register letter x f.registers ++ stack
      → length (first_frame fs).stack ≤ s.method.rec.max_stack
      → IsInHomes w s q x f (record { frames = fs; heap = heap; statics = statics }) stack (length (insns (stored_items s letter (needed s q x))))
      (place (n + length (insns (stored_items s letter (needed s q x)))))
  store-frames x heap statics n beside local at stand stack_is low = grind (arith, store-runs)

pub stores-run : (v w : Linked) → AreMoveLaws v w → StoresRun v w
stores-run v w l place steps t n s letter q x f stack is plan beside local at stand stack_is low =
    store-frames v w l place steps s is plan letter q x f stack t.frames t.heap t.statics n beside local at stand stack_is low
