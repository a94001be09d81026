-- A store of a local in laid code: the value goes into all homes that are needed after it.
use Rattle.std.proofs.Common.{◌≡◌, ◌⊎◌, inl, inr, ℕ, zero, suc, ◌+◌, ◌*◌, ◌<◌, ◌≤◌, ◌==◌, ◌||◌, Bool, true, false, List}
use Rattle.std.proofs.Common.{[], ◌∷◌, ◌++◌, drop, length, map, set, length-set, refl, sym, ap, ◌∙◌, subst, arith}
use Rattle.std.specs.Prelude.{Option, Some, None, All, IsSomeAnd, option_map, flat_map, slice_get}
use Rattle.std.proofs.lemmas.Bool.Decides.{nat_tests}
use Rattle.std.proofs.lemmas.List.{length-map, map-append}
use Rattle.std.proofs.lemmas.Option.{slice_get-map}
use Rattle.std.proofs.lemmas.Bool.{or_parts}
use Rattle.jc_base.specs.declared.ty.Ty.{Ty}
use Rattle.jc_base.specs.declared.ty.Ty.TheVariants.{Bottom, Short, IntHigh, IntLow, Class, Top}
use Rattle.jc_base.specs.Class.{ClassTable, object}
use Rattle.jc_base.specs.Each.{Each, IsAmong}
use Rattle.jc_base.specs.Laws.{IsOrderOfTypes}
use Rattle.jc_base.specs.Order.{Below}
use Rattle.jc_base.specs.World.{Linked, IsWorld}
use Rattle.jc_base.proofs.Lists.{All-slice_get, slice_get-set_here, slice_get-set_other}
use Rattle.jc_base.proofs.SameTypes.{same_type-decides}
use Rattle.jc_decode.specs.declared.insn.Placed.{Placed}
use Rattle.jc_decode.specs.declared.symbols.Item.{Item}
use Rattle.jc_ops.specs.declared.operation.Operation.{Operation}
use Rattle.jc_ops.specs.declared.operation.Operation.TheVariants as ops
use Rattle.jc_ops.specs.declared.operation.Sort.{Sort}
use Rattle.jc_ops.specs.declared.operation.Sort.TheVariants as sorts
use Rattle.jc_ops.specs.Sound.{OperationsAreDecided}
use Rattle.jc_rules.specs.Demand.{Frame as Types, SatisfiesAll}
use Rattle.jc_rules.specs.Flow.{CellsBelow, no_cells, more_cells, IsFit, IsNotTop}
use Rattle.jc_rules.specs.Rule.{demands}
use Rattle.vm_store.specs.declared.cell.Cell.{Cell}
use Rattle.vm_store.specs.declared.cell.ObjectKind.{ObjectKind}
use Rattle.vm_store.specs.Typing.{least_type}
use Rattle.vm_store.specs.Cells.{tagged}
use Rattle.vm_store.specs.Laws.{HasContent}
use Rattle.vm_store.specs.Objects.{kinds}
use Rattle.vm_store.specs.State.{State, Frame, Object, nth, other_frames, top, with_place}
use Rattle.vm_step.specs.Performed.{act}
use Rattle.vm_step.specs.Raising.{Outcome, running}
use Rattle.vm_step.specs.Settled.{fault_next, settled}
use Rattle.vm_step.specs.Step.{Steps, performed, performs}
use Rattle.vm_step.specs.Tests.{fault_before}
use Rattle.vm_step.specs.Values.{with_store}
use Rattle.vm_step.proofs.Running.{steps-one}
use Rattle.law_sound.specs.Frames.{least_types, types_of_frame}
use Rattle.law_erasure.specs.Erasure.{IsNoFault}
use Rattle.law_alike.specs.Alike.{renamed_cell}
use Rattle.law_alike.specs.Running.{Executes}
use Rattle.law_alike.proofs.Asked.{passed-asks}
use Rattle.law_alike.proofs.Settling.{unless-none}
use Rattle.xf_homes.specs.declared.home.Home.{Home}
use Rattle.xf_homes.specs.Value.{type_width}
use Rattle.xf_homes.specs.Source.{Source}
use Rattle.xf_homes.specs.Plan.{needed}
use Rattle.xf_homes.proofs.Needed.{needed-are-kept}
use Rattle.xf_emission.specs.Edge.{is_stored}
use Rattle.xf_emission.specs.Group.{body, store_to_homes}
use Rattle.xf_emission.specs.Move.{copy}
use Rattle.law_homes.specs.Edges.{insns, top_at, HoldsAfter, IsBeside}
use Rattle.law_homes.specs.Held.{HoldsValue}
use Rattle.law_homes.specs.Moves.{IsExecutable, letter_of, value_in_register}
use Rattle.law_homes.specs.Stores.{IsInHomes, HasLocal}
use Rattle.law_homes.proofs.Valued.{asked_types, IsCellOf, CellsAt, cell-of, load-asked, load-filled}
use Rattle.law_homes.proofs.Few.{same-value, one-few}
use Rattle.law_homes.proofs.Stores.{stores-run, none-low}
use Rattle.law_homes.proofs.Beside.{Typed, each-among, among-each, objects, typed, types, needed-valued}
use Rattle.law_homes.specs.Premises.{AreMoveLaws}
use Rattle.law_groups.specs.Laid.{IsLaidIn, body_at, count_of, rename, steps_of}
use Rattle.law_groups.specs.Beside.{AreOf, IsTypedAt, StaysTyped}
use Rattle.law_groups.specs.Body.{AreAtBody, BodyRuns, body_falls}
use Rattle.law_groups.specs.Steps.{ItemsStandFrom}
use Rattle.law_groups.specs.Storing.{StoreBodiesRun}
use Rattle.law_groups.proofs.Arriving.{at-step, beside, depth-fits}
use Rattle.law_groups.proofs.Following.{next-of, steps-here}
use Rattle.law_groups.proofs.Moving.{AreMoves, count-moves, moves-both, moves-stand}
use Rattle.law_groups.proofs.Plain.{frames-are}
use Rattle.law_groups.proofs.Standing.{GroupSteps}

-- ---- cells

over-at :
    (t : ClassTable) (xs ys : List Ty) (n : ℕ) (a : Ty) → CellsBelow t xs ys → slice_get xs n ≡ Some a
    → (b : Ty) × (slice_get ys n ≡ Some b) × Below t a b
over-at t _ _ n a no_cells e = absurd (cc)
over-at t _ _ zero a (more_cells {a = c} {b = d} p ps) e = let own : c ≡ a = cc in (d, refl, subst (λ (u : Ty). Below t u d) own p)
over-at t _ _ (suc n) a (more_cells {xs = xs} {ys = ys} p ps) e = over-at t xs ys n a ps e

nth-is : (cs : List Cell) (n : ℕ) (c : Cell) → slice_get cs n ≡ Some c → nth tagged cs n ≡ c
nth-is [] n c e = absurd (cc)
nth-is (d ∷ ds) zero c e = cc
nth-is (d ∷ ds) (suc n) c e = nth-is ds n c e

-- ---- the step of the source

module _ (v : Linked) (world : IsWorld v) (decided : OperationsAreDecided v) (i : Placed) (letter : Sort) (x : ℕ) where
  -- what a store that meets no fault comes to
  record HasStored (f : Frame Cell) (below : List (Frame Cell)) (heap : List (Object Cell)) (statics : List Cell) (o : Outcome Cell) : Type 0 where
    asked : SatisfiesAll v.classes (types_of_frame v.classes Bottom (map (λ (q : Object Cell). q.kind) heap) f) (demands v (ops.Store letter x))
    comes :
        o
        ≡ running (with_place (with_store tagged letter x (record { frames = f ∷ below; heap = heap; statics = statics })) (i.place + i.insn.len))

  has-stored :
      (f : Frame Cell) (below : List (Frame Cell)) (heap : List (Object Cell)) (statics : List Cell) (o : Outcome Cell)
      → Executes v (record { frames = f ∷ below; heap = heap; statics = statics }) i (ops.Store letter x)
      → Steps tagged v (record { frames = f ∷ below; heap = heap; statics = statics }) o
      → IsNoFault o
      → HasStored f below heap statics o
  has-stored f below heap statics o ex step fine =
      let z : State Cell = record { frames = f ∷ below; heap = heap; statics = statics } in
      let op : Operation = ops.Store letter x in
      let next : ℕ = i.place + i.insn.len in
      let o_is : o ≡ performed tagged v i op z = steps-one tagged v decided z o (performed tagged v i op z) step (performs ex.fetched op ex.resolved refl) in
      let leads : Outcome Cell = settled tagged v next z (act tagged v i.insn op z) in
      let passed = unless-none z (fault_before tagged v op z) leads (subst IsNoFault o_is fine) in
      let after : State Cell = with_store tagged letter x z in
      let second = unless-none z (fault_next tagged v after (length (top after).stack) next) (running (with_place after next))
      (subst IsNoFault (o_is ∙ passed.1) fine) in
      record {
        asked = passed-asks v world f below heap statics op passed.0;
        comes = o_is ∙ (passed.1 ∙ second.1);
      }

-- ---- what it leaves

module _ (t : ClassTable) (ks : List ObjectKind) (x : ℕ) where
  -- the value goes from the stack into the registers
  pub record Put (letter : Sort) (registers stack after rest : List Cell) : Type 0 where
    pub split : stack ≡ value_in_register letter x after ++ rest
    pub value : CellsAt t ks after x (asked_types t letter)
    pub others : (n : ℕ) → is_stored (ops.Store letter x) n ≡ false → slice_get after n ≡ slice_get registers n
    pub count : length after ≡ length registers
    pub low : letter ≡ sorts.Int → IsSomeAnd (slice_get after (x + 1)) (IsCellOf t ks IntLow)

  same-number : (n : ℕ) → x ≡ n → (n == x) ≡ false → ⊥
  same-number n e f = absurd (differ (n == x) (let g : (n == x) ≡ true = grind (arith, nat_tests, e) in g) f)
    where
      differ : (b : Bool) → b ≡ true → b ≡ false → ⊥
      differ b p q = absurd (cc)

  one-put :
      (registers rest : List Cell) (c : Cell) (ty : Ty) → x + 1 ≤ length registers → IsCellOf t ks ty c
      → (nth tagged (set registers x c) x ≡ c) × IsSomeAnd (slice_get (set registers x c) x) (IsCellOf t ks ty)
  one-put registers rest c ty le is = grind (arith, slice_get-set_here registers x c (omega (arith, le)), nth-is)

  reference-put :
      (registers stack : List Cell) → x + 1 ≤ length registers → IsSomeAnd (slice_get stack 0) (IsCellOf t ks (Class (object t)))
      → Put sorts.Reference registers stack (set registers x (nth tagged stack 0)) (drop 1 stack)
  reference-put registers [] le h = absurd h
  reference-put registers (c ∷ rest) le h =
      grind (arith, one-put registers rest c (Class (object t)) le h, length-set registers x c, slice_get-set_other, same-number)

  short-put :
      (registers stack : List Cell) → x + 1 ≤ length registers → IsSomeAnd (slice_get stack 0) (IsCellOf t ks Short)
      → Put sorts.Short registers stack (set registers x (nth tagged stack 0)) (drop 1 stack)
  short-put registers [] le h = absurd h
  short-put registers (c ∷ rest) le h =
      grind (arith, one-put registers rest c Short le h, length-set registers x c, slice_get-set_other, same-number)

  second-number : (n : ℕ) → x + 1 ≡ n → (n == x + 1) ≡ false → ⊥
  second-number n e f = absurd (differ (n == x + 1) (let g : (n == x + 1) ≡ true = grind (arith, nat_tests, e) in g) f)
    where
      differ : (b : Bool) → b ≡ true → b ≡ false → ⊥
      differ b p q = absurd (cc)

  int-put :
      (registers stack : List Cell) → x + 2 ≤ length registers → IsSomeAnd (slice_get stack 0) (IsCellOf t ks IntLow)
      → IsSomeAnd (slice_get stack 1) (IsCellOf t ks IntHigh)
      → Put sorts.Int registers stack (set (set registers x (nth tagged stack 1)) (x + 1) (nth tagged stack 0)) (drop 2 stack)
  int-put registers [] le h k = absurd h
  int-put registers (c ∷ []) le h k = absurd k
  int-put registers (c ∷ d ∷ rest) le h k =
      let first = set registers x d in
      let count : length first ≡ length registers = length-set registers x d in
      let second : slice_get (set first (x + 1) c) (x + 1) ≡ Some c = slice_get-set_here first (x + 1) c (omega (arith, le, count)) in
      let here : slice_get (set first (x + 1) c) x ≡ Some d =
      slice_get-set_other first (x + 1) x c (λ e. omega (arith, e)) ∙ slice_get-set_here registers x d (omega (arith, le)) in
      record {
        split = grind (arith, nth-is);
        value = grind (arith);
        others = grind (arith, or_parts, slice_get-set_other, second-number, same-number);
        count = length-set first (x + 1) c ∙ count;
        low = λ e. subst (λ o. IsSomeAnd o (IsCellOf t ks IntLow)) (sym second) h;
      }

  -- a cell that is asked for, in which something was stored
  cell-on :
      (stack : List Cell) (n : ℕ) (ty : Ty) → IsSomeAnd (slice_get (least_types t Bottom ks stack) n) (λ u. Below t u ty)
      → ((c : Cell) → slice_get stack n ≡ Some c → HasContent c) → IsSomeAnd (slice_get stack n) (IsCellOf t ks ty)
  cell-on stack n ty h filled =
      by (slice_get stack n) refl (subst (λ o. IsSomeAnd o (λ u. Below t u ty)) (slice_get-map (least_type t Bottom ks) stack n) h)
    where
      by : (o : Option Cell) → slice_get stack n ≡ o → IsSomeAnd (option_map (least_type t Bottom ks) o) (λ u. Below t u ty)
          → IsSomeAnd o (IsCellOf t ks ty)
      by None e h = absurd h
      by (Some c) e h = (filled c e, h)

-- the first and the second register of what is stored
stored-is : (letter : Sort) (x n : ℕ) → is_stored (ops.Store letter x) n ≡ true → (n ≡ x) ⊎ ((letter ≡ sorts.Int) × (n ≡ x + 1))
stored-is sorts.Reference x n e = inl (let g : n ≡ x = grind (arith, nat_tests, e) in g)
stored-is sorts.Short x n e = inl (let g : n ≡ x = grind (arith, nat_tests, e) in g)
stored-is sorts.Int x n e = by (n == x) refl e
  where
    by : (b : Bool) → (n == x) ≡ b → (b || n == x + 1) ≡ true → (n ≡ x) ⊎ ((sorts.Int ≡ sorts.Int) × (n ≡ x + 1))
    by true f e = inl (let g : n ≡ x = grind (arith, nat_tests, f) in g)
    by false f e = inr (refl, (let g : n ≡ x + 1 = grind (arith, nat_tests, e) in g))

-- ---- its moves

copies-are-moves : (s : Source) (h : Home) (ks : List Home) → AreMoves (flat_map (copy s h) ks)
copies-are-moves s h [] = tt
copies-are-moves s h (k ∷ ks) = moves-both (copy s h k) (flat_map (copy s h) ks) tt (copies-are-moves s h ks)

stored-moves : (s : Source) (letter : Sort) (hs : List Home) → AreMoves (store_to_homes s letter hs)
stored-moves s letter z = grind (arith, copies-are-moves)

copies-few : (s : Source) (h : Home) (ks : List Home) → length (insns (flat_map (copy s h) ks)) ≤ 2 * length ks
copies-few s h [] = omega arith
copies-few s h (k ∷ ks) = omega (arith, copies-few s h ks)

stored-few : (s : Source) (letter : Sort) (hs : List Home) → length hs ≤ 255 → (1 ≤ length (insns (store_to_homes s letter hs)))
    × (length (insns (store_to_homes s letter hs)) ≤ 600)
stored-few s letter z le = grind (arith, copies-few)

-- ---- the whole

module _
    {v w : Linked} {s : Source} {place : ℕ → ℕ} (laid : IsLaidIn v w s place)
    (world : IsWorld v) (decided : OperationsAreDecided v) (laws : (w : Linked) → IsExecutable w → AreMoveLaws v w) (i : Placed) (x : ℕ)
    (f : Frame Cell) (below : List (Frame Cell)) (heap : List (Object Cell)) (statics : List Cell) (t : State Cell) where
  abbrev z : State Cell
  z = record { frames = f ∷ below; heap = heap; statics = statics }

  abbrev ks : List ObjectKind
  ks = map (λ (o : Object Cell). o.kind) heap

  abbrev q : ℕ
  q = i.place + i.insn.len

  abbrev y : List Cell → List Cell → State Cell
  y after rest =
      record {
        frames = record { method = f.method; place = i.place + i.insn.len; registers = after; stack = rest } ∷ below;
        heap = heap;
        statics = statics;
      }

  module _ (letter : Sort) (b : AreAtBody v w s place i (ops.Store letter x) z t) where
    l : AreMoveLaws v w
    l = laws w laid.new

    beside_z : IsBeside w s f.place f t
    beside_z = beside laid z t b.typed b.equal.heap b.of

    ty_z : Typed v w l s laid.world laid.planned f.place f t beside_z
    ty_z = typed v w l s laid.world laid.planned f.place f t beside_z

    -- something was stored in each cell of the stack
    filled : (n : ℕ) (c : Cell) → slice_get f.stack n ≡ Some c → HasContent c
    filled n c e =
        let here : slice_get (least_types w.classes Top (kinds t) f.stack) n ≡ Some (least_type w.classes Top (kinds t) c) =
        slice_get-map (least_type w.classes Top (kinds t)) f.stack n ∙ ap (option_map (least_type w.classes Top (kinds t))) e in
        let above = over-at w.classes (least_types w.classes Top (kinds t) f.stack) ty_z.frame.stack n (least_type w.classes Top (kinds t) c)
        ty_z.below.stack here in
        (cell-of w.classes (types v w l s laid.world laid.planned f.place f t beside_z) (objects v w l s laid.world laid.planned f.place f t beside_z)
        (kinds t) c above.0 above.2 (All-slice_get IsNotTop ty_z.frame.stack n above.0 no_top above.1)).0
      where
        no_top : All IsNotTop ty_z.frame.stack
        no_top = by (s.frames f.place) ty_z.at (laid.planned.typing.fit f.place b.typed.reached)
          where
            by : (o : Option Types) → o ≡ Some ty_z.frame → IsSomeAnd o (IsFit s.method) → All IsNotTop ty_z.frame.stack
            by None e h = absurd h
            by (Some g) e h = let own : g ≡ ty_z.frame = cc in subst (λ (k : Types). All IsNotTop k.stack) own h.no_top

    -- the frames of the target
    frames_t : t.frames ≡ top t ∷ other_frames t.frames
    frames_t = frames-are t (omega (arith, b.equal.frames))

    classes_are : v.classes ≡ w.classes
    classes_are = laid.code.same.classes

    kinds_are : ks ≡ kinds t
    kinds_are = ap (λ (os : List (Object Cell)). map (λ (o : Object Cell). o.kind) os) (sym b.equal.heap)

    module _
        (after rest : List Cell) (put : Put v.classes ks x letter f.registers f.stack after rest)
        (typed_y : IsTypedAt v s (y after rest)) where
      of_y : AreOf s (top (y after rest)) (top t)
      of_y = record { source = b.of.source; target = b.of.target; count = b.of.count }

      beside_y : IsBeside w s q (top (y after rest)) t
      beside_y = beside laid (y after rest) t typed_y b.equal.heap of_y

      value_w : CellsAt w.classes (kinds t) after x (asked_types w.classes letter)
      value_w = grind (arith, classes_are, kinds_are)

      local_y : HasLocal w t letter x (top (y after rest))
      local_y = record {
        asked = load-asked w (kinds t) letter x after (least_types w.classes Bottom (kinds t) rest) value_w;
        filled = load-filled w.classes (kinds t) letter x after value_w;
      }

      order_w : IsOrderOfTypes w.classes
      order_w = types v w l s laid.world laid.planned f.place f t beside_z

      stack_t : (top t).stack ≡ value_in_register letter x after ++ map (renamed_cell (rename s place)) rest
      stack_t =
          b.held.stack ∙ (ap (map (renamed_cell (rename s place))) put.split
          ∙ (map-append (renamed_cell (rename s place)) (value_in_register letter x after) rest
          ∙ ap (λ (cs : List Cell). cs ++ map (renamed_cell (rename s place)) rest)
          (same-value w.classes order_w (kinds t) (rename s place) letter after x value_w)))

      items : List Item
      items = store_to_homes s letter (needed s q x)

      body_is : body s i (ops.Store letter x) ≡ store_to_homes s letter (needed s q x)
      unfolding body
      body_is = refl

      g : GroupSteps s i (ops.Store letter x)
      g = steps-here laid i (ops.Store letter x) b.stands b.reached b.does

      n : ℕ
      n = body_at s i.place

      moves : AreMoves (store_to_homes s letter (needed s q x))
      moves = stored-moves s letter (needed s q x)

      count : count_of (body s i (ops.Store letter x)) ≡ length (insns (store_to_homes s letter (needed s q x)))
      count = ap count_of body_is ∙ count-moves (store_to_homes s letter (needed s q x)) moves

      further : body_at s i.place + length (insns (store_to_homes s letter (needed s q x))) < length (steps_of s)
      further =
          let next = next-of laid i (ops.Store letter x) b.stands b.reached b.does refl in
          let later = next.follows_it in
          let inside = next.inside in
          let size = g.size in
          omega (arith, later, inside, size, count)

      stored_there : IsInHomes w s q x (top (y after rest)) t (map (renamed_cell (rename s place)) rest)
          (length (insns (store_to_homes s letter (needed s q x))))
          (place (body_at s i.place + length (insns (store_to_homes s letter (needed s q x)))))
      stored_there =
          stores-run v w l place (steps_of s) t (body_at s i.place) s letter q x (top (y after rest)) (map (renamed_cell (rename s place)) rest) laid.world
          laid.planned beside_y local_y
          (at-step laid t (body_at s i.place) (length (insns (store_to_homes s letter (needed s q x)))) (omega (arith, b.equal.frames))
          b.of.target b.at further)
          (moves-stand s (body_at s i.place) (store_to_homes s letter (needed s q x)) moves (subst (ItemsStandFrom s (body_at s i.place)) body_is g.body_steps))
          stack_t
          (let deep = depth-fits laid z b.typed in let e = ap length b.held.stack in
          let m = length-map f.stack (renamed_cell (rename s place)) in omega (arith, deep, e, m))

      -- what is held afterwards
      held_after : HoldsAfter s i.place (ops.Store letter x) q (top (y after rest)) (record (top t) { registers = stored_there.registers })
      held_after = record {
        stored = λ k e. by k (stored-is letter x k e);
        others = λ k. each-among
            (λ h. ((j : ℕ) → j < type_width h.ty → is_stored (ops.Store letter x) (h.slot + j) ≡ false)
            → HoldsValue s after (record (top t) { registers = stored_there.registers }) h)
            (needed s i.place k) (λ h a free. other k h a free);
      }
        where
          by : (k : ℕ) → (k ≡ x) ⊎ ((letter ≡ sorts.Int) × (k ≡ x + 1))
              → Each (HoldsValue s after (record (top t) { registers = stored_there.registers })) (needed s q k)
          by k (inl e) =
              subst (λ (j : ℕ). Each (HoldsValue s after (record (top t) { registers = stored_there.registers })) (needed s q j)) (sym e)
              stored_there.values
          by k (inr (int, e)) =
              each-among (HoldsValue s after (record (top t) { registers = stored_there.registers })) (needed s q k) (λ h a. absurd (never h a))
            where
              low_w : IsSomeAnd (slice_get after (x + 1)) (IsCellOf w.classes (kinds t) IntLow)
              low_w =
                  subst (λ (c : ClassTable). IsSomeAnd (slice_get after (x + 1)) (IsCellOf c (kinds t) IntLow)) classes_are
                  (subst (λ (os : List ObjectKind). IsSomeAnd (slice_get after (x + 1)) (IsCellOf v.classes os IntLow)) kinds_are (put.low int))

              never : (h : Home) → IsAmong h (needed s q k) → ⊥
              never h a =
                  let m = needed-valued v w l s laid.world laid.planned q (top (y after rest)) t beside_y k h a in
                  none-low w.classes (kinds t) order_w after (x + 1) (letter_of h.ty) low_w
                  (subst (λ (j : ℕ). CellsAt w.classes (kinds t) after j (asked_types w.classes (letter_of h.ty))) (m.0 ∙ e) m.2)

          other : (k : ℕ) (h : Home) → IsAmong h (needed s i.place k)
              → ((j : ℕ) → j < type_width h.ty → is_stored (ops.Store letter x) (h.slot + j) ≡ false)
              → HoldsValue s after (record (top t) { registers = stored_there.registers }) h
          other k h a free =
              let before : HoldsValue s f.registers (top t) h = among-each (HoldsValue s f.registers (top t)) (needed s i.place k) h (b.held.locals k) a in
              let has =
              (needed-valued v w l s laid.world laid.planned f.place f t beside_z k h
              (subst (λ (p : ℕ). IsAmong h (needed s p k)) (sym b.here) a)).1.has in
              stored_there.others h has
              (record {
                known = let known = before.known in let c = put.count in omega (arith, known, c);
                there = before.there;
                equal = λ j lt. before.equal j lt ∙ sym (put.others (h.slot + j) (free j lt));
              })

      u : State Cell
      u =
          top_at t (place (body_at s i.place + length (insns (store_to_homes s letter (needed s q x))))) stored_there.registers
          (map (renamed_cell (rename s place)) rest)

      pub finished : (o : Outcome Cell) → o ≡ running (y after rest) → BodyRuns v w s place i (ops.Store letter x) z t o
      unfolding u
      finished o e =
          let few = stored-few s letter (needed s q x)
          (one-few v same_type-decides (needed-are-kept same_type-decides) l.needed s laid.world laid.planned q typed_q.0 typed_q.1 x) in
          subst (λ (p : Outcome Cell). BodyRuns v w s place i (ops.Store letter x) z t p) (sym e)
          (record {
            count = length (insns (store_to_homes s letter (needed s q x)));
            more = few.0;
            fewer = few.1;
            outcome =
                running (top_at t (place (body_at s i.place + length (insns (store_to_homes s letter (needed s q x))))) stored_there.registers
                (map (renamed_cell (rename s place)) rest));
            runs = stored_there.runs;
            comes =
                body_falls
                (record {
                  first = record { frames = refl };
                  second = record { frames = refl };
                  equal = record {
                    frames = let e = ap length frames_t in omega (arith, e, b.equal.frames);
                    heap = b.equal.heap;
                    statics = b.equal.statics;
                  };
                  of = record { source = b.of.source; target = b.of.target; count = stored_there.count ∙ b.of.count };
                  stack = refl;
                  holds = held_for stored_there.registers held_after;
                }) refl refl (ap (λ (k : ℕ). place (body_at s i.place + k)) (sym count));
          })
        where
          typed_q : (fr : Types) × (s.frames q ≡ Some fr)
          typed_q = let ty = typed v w l s laid.world laid.planned q (top (y after rest)) t beside_y in (ty.frame, ty.at)

          held_for :
              (registers : List Cell)
              → HoldsAfter s i.place (ops.Store letter x) q (top (y after rest)) (record (top t) { registers = registers })
              → HoldsAfter s i.place (ops.Store letter x) q (top (y after rest))
              (record (top t) {
                place = place (body_at s i.place + length (insns (store_to_homes s letter (needed s q x))));
                registers = registers;
                stack = map (renamed_cell (rename s place)) rest;
              })
          held_for registers h = record {
            stored = λ k e. each-among _ (needed s q k) (λ a among. over registers a (among-each _ (needed s q k) a (h.stored k e) among));
            others = λ k. each-among _ (needed s i.place k) (λ a among free. over registers a (among-each _ (needed s i.place k) a (h.others k) among free));
          }
            where
              over : (rs : List Cell) (a : Home) → HoldsValue s after (record (top t) { registers = rs }) a
                  → HoldsValue s after
                  (record (top t) {
                    place = place (body_at s i.place + length (insns (store_to_homes s letter (needed s q x))));
                    registers = rs;
                    stack = map (renamed_cell (rename s place)) rest;
                  }) a
              over rs a held = record { known = held.known; there = held.there; equal = held.equal }

  counted : (k : ℕ) → x + k ≤ length (least_types v.classes Bottom ks f.registers) → x + k ≤ length f.registers
  counted k le = omega (arith, le, length-map f.registers (least_type v.classes Bottom ks))

  -- the three letters
  by-letter :
      (letter : Sort) (o : Outcome Cell) → AreAtBody v w s place i (ops.Store letter x) z t → Steps tagged v z o → IsNoFault o → StaysTyped v s o
      → BodyRuns v w s place i (ops.Store letter x) z t o
  by-letter sorts.Reference o b step fine stays =
      let has = has-stored v world decided i sorts.Reference x f below heap statics o b.executes step fine in
      let after = set f.registers x (nth tagged f.stack 0) in
      let put = reference-put v.classes ks x f.registers f.stack (counted 1 has.asked.0)
      (cell-on v.classes ks x f.stack 0 (Class (object v.classes)) has.asked.1.0 (filled sorts.Reference b 0)) in
      finished sorts.Reference b after (drop 1 f.stack) put (subst (StaysTyped v s) has.comes stays (omega arith) b.of.source) o has.comes
  by-letter sorts.Short o b step fine stays =
      let has = has-stored v world decided i sorts.Short x f below heap statics o b.executes step fine in
      let after = set f.registers x (nth tagged f.stack 0) in
      let put = short-put v.classes ks x f.registers f.stack (counted 1 has.asked.0)
      (cell-on v.classes ks x f.stack 0 Short has.asked.1.0 (filled sorts.Short b 0)) in
      finished sorts.Short b after (drop 1 f.stack) put (subst (StaysTyped v s) has.comes stays (omega arith) b.of.source) o has.comes
  by-letter sorts.Int o b step fine stays =
      let has = has-stored v world decided i sorts.Int x f below heap statics o b.executes step fine in
      let after = set (set f.registers x (nth tagged f.stack 1)) (x + 1) (nth tagged f.stack 0) in
      let put = int-put v.classes ks x f.registers f.stack (counted 2 has.asked.0)
      (cell-on v.classes ks x f.stack 0 IntLow has.asked.1.0 (filled sorts.Int b 0))
      (cell-on v.classes ks x f.stack 1 IntHigh has.asked.1.1.0 (filled sorts.Int b 1)) in
      finished sorts.Int b after (drop 2 f.stack) put (subst (StaysTyped v s) has.comes stays (omega arith) b.of.source) o has.comes

pub store-bodies-run :
    (v : Linked) → IsWorld v → OperationsAreDecided v → ((w : Linked) → IsExecutable w → AreMoveLaws v w) → StoreBodiesRun v
store-bodies-run v world decided laws w s place i letter x z t o laid b step fine stays =
    by z.frames z.heap z.statics b step
  where
    by :
        (fs : List (Frame Cell)) (heap : List (Object Cell)) (statics : List Cell)
        → AreAtBody v w s place i (ops.Store letter x) (record { frames = fs; heap = heap; statics = statics }) t
        → Steps tagged v (record { frames = fs; heap = heap; statics = statics }) o
        → BodyRuns v w s place i (ops.Store letter x) (record { frames = fs; heap = heap; statics = statics }) t o
    by [] heap statics b step = absurd (let lt = b.typed.runs in omega (arith, lt))
    by (f ∷ below) heap statics b step =
        by-letter laid world decided laws i x f below heap statics t letter o b step fine stays
