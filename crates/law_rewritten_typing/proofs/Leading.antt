-- Where control comes together: the stack is stored into its homes before, and loaded from them after.
use Rattle.std.proofs.Common.{◌≡◌, ◌⊎◌, ℕ, zero, suc, ◌+◌, Bool, true, false, if◌then◌else◌, inl, inr, List, [], ◌∷◌, ◌++◌}
use Rattle.std.proofs.Common.{length, map, reverse, All, Option, Some, None, IsSomeAnd, IfSome, refl, sym, ◌∙◌, ap, subst, arith}
use Rattle.std.proofs.lemmas.List.{length-map}
use Rattle.std.proofs.lemmas.List.Elements.{All-head, All-tail}
use Rattle.jc_base.proofs.Lists.{All-reverse}
use Rattle.jc_base.specs.Cell.{IsDeclared}
use Rattle.jc_base.specs.Class.{ClassTable}
use Rattle.jc_base.specs.Each.{Each}
use Rattle.jc_base.specs.Laws.{IsOrderOfTypes}
use Rattle.jc_base.specs.Order.{IsKnown}
use Rattle.jc_base.specs.declared.record.MethodRec.{MethodRec}
use Rattle.jc_base.specs.declared.ty.Ty.{Ty}
use Rattle.jc_decode.specs.declared.insn.Placed.{Placed}
use Rattle.jc_decode.specs.declared.symbols.Item.{Item}
use Rattle.jc_decode.specs.declared.symbols.Item.TheVariants.{Branch}
use Rattle.jc_ops.specs.declared.operation.Branch.TheVariants as branches
use Rattle.jc_ops.specs.declared.operation.Operation.{Operation}
use Rattle.jc_ops.specs.declared.operation.Operation.TheVariants as ops
use Rattle.jc_rules.specs.Demand.{Frame}
use Rattle.jc_rules.specs.Flow.{CellsBelow, no_cells, more_cells, FrameBelow, At, IsFit, IsNotFresh, IsNotTop}
use Rattle.jc_rules.specs.Laws.{IsNotBottom}
use Rattle.xf_homes.specs.declared.home.Home.{Home}
use Rattle.xf_homes.specs.Home.{register_count, KeepsStack}
use Rattle.xf_homes.specs.Value.{value_in_cells}
use Rattle.xf_homes.specs.Source.{Source}
use Rattle.xf_homes.specs.Plan.{stack_homes, cells_from, with_home_of, home_of, stack_of, is_leader}
use Rattle.xf_emission.specs.declared.origin.Origin.TheVariants.{After}
use Rattle.xf_emission.specs.Laws.{IsCode}
use Rattle.xf_emission.specs.Move.{loads, spill}
use Rattle.xf_emission.specs.Edge.{copies, home_before}
use Rattle.xf_emission.specs.Jump.{goto}
use Rattle.xf_emission.specs.Group.{entrance, fall}
use Rattle.xf_emission.specs.Mnemonics.{goto_w}
use Rattle.law_rewritten_typing.specs.Typed.{registers_of}
use Rattle.law_rewritten_typing.proofs.Walks.{State, holding, left, Asked, nothing_asked, emptied}
use Rattle.law_rewritten_typing.proofs.Walks.{Passes, Flows, flow_label, flow_step, flow_end, Goes}
use Rattle.law_rewritten_typing.proofs.Walks.{goes-append}
use Rattle.law_rewritten_typing.proofs.Moves.{applies-by}
use Rattle.law_rewritten_typing.proofs.Stacks.{Stands, pushed, loads-go, spill-goes, stack-pushed}
use Rattle.law_rewritten_typing.proofs.Ready.{IsReady, value-plain, home-stands, reached}
use Rattle.law_rewritten_typing.proofs.Copies.{Carries, copies-go}
use Rattle.law_rewritten_typing.proofs.Renames.{named}
use Rattle.law_rewritten_typing.proofs.Carried.{carries-after}
use Rattle.law_rewritten_typing.proofs.Registers.{not-fresh, kept-ready}
use Rattle.law_rewritten_typing.proofs.Rows.{goto-is}
use Rattle.law_rewritten_typing.proofs.Turns.{IsLesser}
use Rattle.law_rewritten_typing.specs.Premises.{AreTypingLaws}
use Rattle.law_rewritten_typing.proofs.Running.{IsRecordFor, IsRun}
use Rattle.jc_rules.proofs.CellLists.{cells-same}

-- under cells that are ready no cell is an uninitialised object
named-one : (new : ℕ → ℕ) (apart : (a b : ℕ) → new a ≡ new b → a ≡ b) (a : Ty) → IsNotFresh a → named new apart a ≡ a
named-one new apart a h = grind (arith)

pub named-under : (new : ℕ → ℕ) (apart : (a b : ℕ) → new a ≡ new b → a ≡ b) (t : ClassTable) (types : IsOrderOfTypes t) {xs ys : List Ty}
    → CellsBelow t xs ys → All IsNotFresh ys → All IsNotTop ys → map (named new apart) xs ≡ xs
named-under new apart t types no_cells f n = refl
named-under new apart t types (more_cells {a = a} {b = b} {xs = xs} {ys = ys} p ps) f n =
    ap (λ (u : Ty). u ∷ map (named new apart) xs) (named-one new apart a (not-fresh t types a b p (All-head IsNotFresh b ys f) (All-head IsNotTop b ys n)))
    ∙ ap (λ (us : List Ty). a ∷ us) (named-under new apart t types ps (All-tail IsNotFresh b ys f) (All-tail IsNotTop b ys n))

module _ (new : ℕ → ℕ) (apart : (a b : ℕ) → new a ≡ new b → a ≡ b) (s : Source) (l : AreTypingLaws s.world) (ready : IsReady s) (r : MethodRec)
    (own_rec : IsRecordFor s.method.rec r) (asks : ℕ → Asked) (res : IfSome s.method.rec.sig.result (IsDeclared s.world.classes)) (code : IsCode s)
  where
    -- ---- the homes of a stack that is kept

    some-same : (f g : Frame) → ◌≡◌ {A = Option Frame} (Some f) (Some g) → f ≡ g
    some-same f g e = cc

    pub fit-at : (q : ℕ) (g : Frame) → s.frames q ≡ Some g → IsFit s.method g
    fit-at q g e = grind (arith, some-same)

    cells-stand-from : (q : ℕ) (g : Frame) → s.frames q ≡ Some g → KeepsStack s.world s.method s.frames q → (i n : ℕ)
        → Each (Stands s l.objects r (registers_of s.homes) asks) (cells_from (register_count s.method.rec) (reverse g.stack) i n)
    cells-stand-from q g e keeps i zero = tt
    cells-stand-from q g e keeps i (suc n) = by (value_in_cells (reverse g.stack) i) refl (cells-stand-from q g e keeps (suc i) n)
      where
        rest : List Home
        rest = cells_from (register_count s.method.rec) (reverse g.stack) (suc i) n

        by : (v : Option Ty) → value_in_cells (reverse g.stack) i ≡ v → Each (Stands s l.objects r (registers_of s.homes) asks) rest
            → Each (Stands s l.objects r (registers_of s.homes) asks) (with_home_of (home_of (register_count s.method.rec + i) v) rest)
        by None h more = more
        by (Some ty) h more =
            let whole = ready.whole q g e in
            let fresh = kept-ready l.objects l.rules ready r asks l.alike code q g e keeps in
            let plain = value-plain s.world.classes (reverse g.stack) i ty h (All-reverse (IsKnown s.world.classes) g.stack whole.known.stack)
            (All-reverse IsNotBottom g.stack whole.stack) (All-reverse IsNotFresh g.stack fresh) in
            let at : At s.frames q (λ (f : Frame). value_in_cells (reverse f.stack) i ≡ Some ty) = subst
            (λ (o : Option Frame). IsSomeAnd o (λ (f : Frame). value_in_cells (reverse f.stack) i ≡ Some ty)) (sym e) h in
            let has = ready.serve.cells q i ty (reached l.objects l.rules ready r asks q g e) keeps at in
            (home-stands l.objects l.rules ready r asks (record { slot = register_count s.method.rec + i; ty = ty }) has plain, more)

    pub cells-are : (q : ℕ) (g : Frame) → s.frames q ≡ Some g → stack_homes s q ≡ cells_from (register_count s.method.rec) (reverse g.stack) 0
        (length (reverse g.stack))
    unfolding stack_homes
    cells-are q g e = ap (λ (o : Option Frame). cells_from (register_count s.method.rec) (stack_of o) 0 (length (stack_of o))) e

    pub cells-stand : (q : ℕ) (g : Frame) → s.frames q ≡ Some g → KeepsStack s.world s.method s.frames q
        → Each (Stands s l.objects r (registers_of s.homes) asks) (stack_homes s q)
    cells-stand q g e keeps = grind (arith, cells-are q g e, cells-stand-from q g e keeps 0 (length (reverse g.stack)))

    pub cells-pushed : (q : ℕ) (g : Frame) → s.frames q ≡ Some g → pushed (stack_homes s q) [] ≡ g.stack
    cells-pushed q g e =
        ap (λ (hs : List Home). pushed hs []) (cells-are q g e)
        ∙ stack-pushed (register_count s.method.rec) g.stack (ready.whole q g e).whole (All-reverse IsNotTop g.stack (fit-at q g e).no_top)

    pub loads-at : (q : ℕ) (g : Frame) → s.frames q ≡ Some g → KeepsStack s.world s.method s.frames q
        → Goes s.world r (registers_of s.homes) asks (holding []) (loads s (stack_homes s q)) (holding g.stack)
    loads-at q g e keeps =
        let is = cells-pushed q g e in
        subst (λ (us : List Ty). Goes s.world r (registers_of s.homes) asks (holding []) (loads s (stack_homes s q)) (holding us)) is
        (loads-go s l.objects r (registers_of s.homes) asks (stack_homes s q) [] (cells-stand q g e keeps)
        (omega (arith, ap length is, (fit-at q g e).room, own_rec.room)))

    pub spill-at : (q : ℕ) (g : Frame) (st : List Ty) → s.frames q ≡ Some g → KeepsStack s.world s.method s.frames q
        → CellsBelow s.world.classes st g.stack → Goes s.world r (registers_of s.homes) asks (holding st) (spill s (stack_homes s q)) (holding [])
    spill-at q g st e keeps le =
        spill-goes s l.objects r (registers_of s.homes) asks (stack_homes s q) st (cells-stand q g e keeps)
        (subst (CellsBelow s.world.classes st) (sym (cells-pushed q g e)) le)
        (omega (arith, l.rules.order.lengths le, (fit-at q g e).room, own_rec.room))

    -- the stack before a place is below that there, so that it holds no uninitialised object where that stack is kept
    pub named-at : (q : ℕ) (g : Frame) (st : List Ty) → s.frames q ≡ Some g → KeepsStack s.world s.method s.frames q
        → CellsBelow s.world.classes st g.stack → map (named new apart) st ≡ st
    named-at q g st e keeps le =
        named-under new apart s.world.classes l.rules.types le (kept-ready l.objects l.rules ready r asks l.alike code q g e keeps)
        (fit-at q g e).no_top

    -- ---- gotos

    pub goto-flows : (n q : ℕ) → Flows s.world r (registers_of s.homes) asks n (holding []) (goto q ∷ []) left
    goto-flows n q =
        let does = applies-by s.world r.max_stack (ops.Branch branches.Always) (record { regs = registers_of s.homes; stack = [] })
        (record { regs = registers_of s.homes; stack = [] }) tt refl refl (omega arith) in
        flow_step {x = Branch goto_w q} refl
        (record {
          stack = [];
          here = refl;
          after = record { regs = registers_of s.homes; stack = [] };
          applies = (does.0, record { operation = ops.Branch branches.Always; resolves = sym (goto-is s.world r n); does = does.1 });
          stored = cells-same s.world.classes (registers_of s.homes);
          branch = λ j. refl;
          room = omega arith;
          onward = refl;
        })
        flow_end

    -- ---- into a place

    -- control comes to a place: to a leader with an empty stack, or only from elsewhere; else with a stack below that of its frame
    pub data Arrives (q : ℕ) : State → Type 0 where
      emptied_there : is_leader s q ≡ true → Arrives q (holding [])
      only_elsewhere : is_leader s q ≡ true → Arrives q left
      falls_there : {g : Frame} {st : List Ty} → is_leader s q ≡ false → s.frames q ≡ Some g → IsLesser s.world g st
          → Arrives q (holding (map (named new apart) st))

    pub is-kept : (q : ℕ) → is_leader s q ≡ true → KeepsStack s.world s.method s.frames q
    is-kept q e = inl ((ready.marks q).0 e)

    pub below-lesser : (f g : Frame) (st : List Ty) → CellsBelow s.world.classes f.stack g.stack → IsLesser s.world f st → IsLesser s.world g st
    below-lesser f g st le lesser = record { below = l.rules.order.through lesser.below le; full = lesser.full; known = lesser.known }

    pub record FallsInto (q : ℕ) (a : State) (xs : List Item) : Type 0 where
      pub state : State
      pub goes : Goes s.world r (registers_of s.homes) asks a xs state
      pub arrives : Arrives q state

    pub fall-arrives : (i : Placed) (op : Operation) (f after g : Frame) (q : ℕ) (st : List Ty) → IsRun s i op f after → s.frames q ≡ Some g
        → FrameBelow s.world.classes after g → IsLesser s.world after st
        → FallsInto q (holding (map (named new apart) st)) (fall s i.place op q)
    fall-arrives i op f after g q st run to below lesser = by (is_leader s q) refl
      where
        carries : (y : ℕ) (from : Home) → home_before s (After i.place op) y ≡ Some from → Carries l.objects l.rules ready r asks
            (After i.place op) q y from
        carries =
            carries-after l.objects l.rules ready r asks i.place q s.method.rec.max_stack op f after g run.outcome run.at run.does to
            below.regs

        by : (b : Bool) → is_leader s q ≡ b
            → FallsInto q (holding (map (named new apart) st)) ((if b then spill s (stack_homes s q) else []) ++ copies s (After i.place op) q)
        by true e =
            let le = l.rules.order.through lesser.below below.stack in
            let own = named-at q g st to (is-kept q e) le in
            record {
              state = holding [];
              goes =
                  subst
                  (λ (us : List Ty). Goes s.world r (registers_of s.homes) asks (holding us) (spill s (stack_homes s q) ++ copies s (After i.place op) q)
                  (holding [])) (sym own)
                  (goes-append s.world r (registers_of s.homes) asks (spill-at q g st to (is-kept q e) le)
                  (copies-go l.objects l.rules ready r asks (After i.place op) q [] carries (omega (arith, own_rec.room))));
              arrives = emptied_there e;
            }
        by false e =
            let more = below-lesser after g st below.stack lesser in
            record {
              state = holding (map (named new apart) st);
              goes = copies-go l.objects l.rules ready r asks (After i.place op) q (map (named new apart) st) carries
                  (omega (arith, length-map st (named new apart), l.rules.order.lengths more.below, (fit-at q g to).room, own_rec.room));
              arrives = falls_there e to more;
            }

    -- ---- the head of a group

    pub record IsEntered (n q : ℕ) (g : Frame) (a : State) : Type 0 where
      pub stack : List Ty
      pub lesser : IsLesser s.world g stack
      pub flow : Flows s.world r (registers_of s.homes) asks n a (entrance s q) (holding (map (named new apart) stack))

    module _ (n q : ℕ) (g : Frame) (to : s.frames q ≡ Some g) (wants : asks q ≡ (if is_leader s q then emptied else nothing_asked)) where
      leading : (b : State) → ((b ≡ left) ⊎ (b ≡ holding [])) → is_leader s q ≡ true → IsEntered n q g b
      leading b from e =
          let whole = ready.whole q g to in
          let own = named-at q g g.stack to (is-kept q e) (l.rules.order.self g.stack) in
          let asked : asks q ≡ emptied = wants ∙ ap (λ (x : Bool). if x then emptied else nothing_asked) e in
          record {
            stack = g.stack;
            lesser = record { below = l.rules.order.self g.stack; full = whole.stack; known = whole.known.stack };
            flow =
                flow_label (subst (λ (w : Asked). Passes w b (holding [])) (sym asked) (from, refl))
                (subst (λ (x : Bool). Flows s.world r (registers_of s.homes) asks n (holding []) (if x then loads s (stack_homes s q) else [])
                (holding (map (named new apart) g.stack))) (sym e)
                (subst (λ (us : List Ty). Flows s.world r (registers_of s.homes) asks n (holding []) (loads s (stack_homes s q)) (holding us)) (sym own)
                (loads-at q g to (is-kept q e) n)));
          }

      pub entered-flows : (a : State) → Arrives q a → IsEntered n q g a
      entered-flows _ (emptied_there e) = leading (holding []) (inr refl) e
      entered-flows _ (only_elsewhere e) = leading left (inl refl) e
      entered-flows _ (falls_there {g = k} {st = st} e at lesser) =
          let own : k ≡ g = some-same k g (sym at ∙ to) in
          let asked : asks q ≡ nothing_asked = wants ∙ ap (λ (x : Bool). if x then emptied else nothing_asked) e in
          record {
            stack = st;
            lesser = subst (λ (j : Frame). IsLesser s.world j st) own lesser;
            flow =
                flow_label (subst (λ (w : Asked). Passes w (holding (map (named new apart) st)) (holding (map (named new apart) st))) (sym asked) refl)
                (subst
                (λ (x : Bool). Flows s.world r (registers_of s.homes) asks n (holding (map (named new apart) st))
                (if x then loads s (stack_homes s q) else []) (holding (map (named new apart) st))) (sym e) flow_end);
          }
