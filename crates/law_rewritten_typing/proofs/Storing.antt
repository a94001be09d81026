-- Stores and increments of locals in rewritten code.
use Rattle.std.proofs.Common.{◌≡◌, ◌≢◌, ◌⊎◌, ℕ, zero, suc, ◌+◌, ◌<◌, ◌≤◌, true, false, inl, inr, List, [], ◌∷◌}
use Rattle.std.proofs.Common.{◌++◌, length, map, flat_map, set, drop, slice_get, All, Option}
use Rattle.std.proofs.Common.{Some, IsSomeAnd, IfSome, refl, sym, ◌∙◌, ap, subst}
use Rattle.std.proofs.Common.{arith}
use Rattle.std.specs.Prelude.{pos, ℤ, ◌==◌}
use Rattle.std.proofs.lemmas.Bool.Decides.{nat_tests}
use Rattle.std.proofs.lemmas.List.{length-map}
use Rattle.std.proofs.lemmas.List.Elements.{All-head, All-tail}
use Rattle.jc_base.specs.Cell.{IsDeclared, IsNoHalf}
use Rattle.jc_base.specs.Class.{ClassTable, object}
use Rattle.jc_base.specs.Each.{Each, IsAmong}
use Rattle.jc_base.specs.Laws.{IsOrderOfTypes}
use Rattle.jc_base.specs.Order.{Below, same, joined, is_below, IsKnown}
use Rattle.jc_base.specs.declared.record.MethodRec.{MethodRec}
use Rattle.jc_base.specs.declared.ty.Ty.{Ty}
use Rattle.jc_base.specs.declared.ty.Ty.TheVariants.{Short, IntHigh, IntLow, Class, Top}
use Rattle.jc_base.proofs.Lists.{All-slice_get}
use Rattle.jc_decode.specs.declared.insn.Placed.{Placed}
use Rattle.jc_decode.specs.declared.symbols.Item.{Item}
use Rattle.jc_decode.specs.declared.symbols.Item.TheVariants.{Plain}
use Rattle.jc_decode.specs.Layout.{layout_of, opcode}
use Rattle.jc_ops.specs.declared.operation.Move.TheVariants as moves
use Rattle.jc_ops.specs.declared.operation.Operation.TheVariants as ops
use Rattle.jc_ops.specs.declared.operation.Sort.{Sort}
use Rattle.jc_ops.specs.declared.operation.Sort.TheVariants as sorts
use Rattle.jc_ops.specs.declared.operation.Width.{Width}
use Rattle.jc_ops.specs.declared.operation.Width.TheVariants as widths
use Rattle.jc_rules.specs.declared.effect.Mode.TheVariants.{Flow}
use Rattle.jc_rules.specs.declared.rule.Outcome.{Outcome}
use Rattle.jc_rules.specs.Apply.{OperationApplies}
use Rattle.jc_rules.specs.Demand.{Frame}
use Rattle.jc_rules.specs.Flow.{CellsBelow, no_cells, more_cells, FrameBelow, IsNotFresh}
use Rattle.jc_rules.specs.Laws.{IsNotBottom}
use Rattle.jc_rules.specs.Rule.{cell}
use Rattle.jc_rules.proofs.Types.{no-half}
use Rattle.xf_homes.specs.declared.home.Home.{Home}
use Rattle.xf_homes.specs.Home.{asked_here, IsAsked}
use Rattle.xf_homes.specs.Laws.{IsAskedBefore}
use Rattle.xf_homes.specs.Value.{value_in_cells}
use Rattle.xf_homes.specs.Walk.{local_of}
use Rattle.xf_homes.specs.Source.{Source}
use Rattle.xf_homes.specs.Plan.{home_of, needed, register}
use Rattle.xf_emission.specs.Move.{copy}
use Rattle.xf_emission.specs.Group.{body, pop_item, store_to_homes}
use Rattle.xf_emission.specs.Mnemonics.{pop, pop2}
use Rattle.law_rewritten_typing.specs.Typed.{registers_of}
use Rattle.law_rewritten_typing.proofs.Walks.{holding, Asked, Turn, Flows, flow_plain, flow_end, Goes, goes-append, goes-nowhere}
use Rattle.law_rewritten_typing.proofs.Moves.{Holds, IsPlainValue, cells_on, applies-by, turn-by, store-turn}
use Rattle.law_rewritten_typing.proofs.Moves.{set-below, set-same, held, there}
use Rattle.law_rewritten_typing.proofs.Moves.{two-there}
use Rattle.law_rewritten_typing.proofs.Stacks.{Stands}
use Rattle.law_rewritten_typing.proofs.Ready.{IsReady, IsValueAt, value-is, local-stands, needed-are, needed-served, found}
use Rattle.law_rewritten_typing.proofs.Copies.{copy-goes, narrow, above-short, above-high}
use Rattle.law_rewritten_typing.proofs.Renames.{named}
use Rattle.law_rewritten_typing.proofs.Turns.{IsLesser}
use Rattle.law_rewritten_typing.proofs.Carried.{is-short, is-high, is-low, set-other}
use Rattle.law_rewritten_typing.proofs.Rows.{increased-at, pop-is, pop-two-is}
use Rattle.law_rewritten_typing.specs.Premises.{AreTypingLaws}
use Rattle.law_rewritten_typing.proofs.Running.{IsRecordFor, IsRun, IsPassed, has-room, is-reference}
use Rattle.law_rewritten_typing.proofs.Running.{found-below, value-one, value-int, local-at}
use Rattle.jc_rules.proofs.CellLists.{cells-same}
use Rattle.law_rewritten_typing.proofs.Below.{top-only}

-- ---- the top of a stack

-- a cell on top of both stacks
pub record HasTop (t : ClassTable) (P : Ty → Type 0) (st fs : List Ty) : Type 0 where
  pub v : Ty
  pub rest : List Ty
  pub c : Ty
  pub cs : List Ty
  pub st_is : st ≡ v ∷ rest
  pub fs_is : fs ≡ c ∷ cs
  pub below : Below t v c
  pub more : CellsBelow t rest cs
  pub has : P c

pub has-top : (t : ClassTable) (P : Ty → Type 0) (st fs : List Ty) → CellsBelow t st fs → IsSomeAnd (slice_get fs 0) P → HasTop t P st fs
has-top t P _ _ no_cells h = absurd h
has-top t P _ _ (more_cells {a = a} {b = b} {xs = xs} {ys = ys} p ps) h = grind (arith)

set-within : (xs : List Ty) (x : ℕ) (a : Ty) → x < length xs → slice_get (set xs x a) x ≡ Some a
set-within [] x a lt = absurd (omega (arith, lt))
set-within (b ∷ bs) zero a lt = refl
set-within (b ∷ bs) (suc x) a lt = set-within bs x a (omega (arith, lt))

one-cell-on : (ty : Ty) → (ty ≡ IntHigh → ⊥) → cells_on ty ≡ ty ∷ []
one-cell-on ty n = grind (arith)

half-not : (a : Ty) → IsNoHalf a → a ≡ IntHigh → ⊥
half-not a h e = grind (arith)

-- ---- values under others

record IsUnder (t : ClassTable) (xs : List Ty) (x : ℕ) (b : Ty) : Type 0 where
  a : Ty
  at : slice_get xs x ≡ Some a
  below : Below t a b

get-under : (t : ClassTable) {xs ys : List Ty} (x : ℕ) (b : Ty) → CellsBelow t xs ys → slice_get ys x ≡ Some b → IsUnder t xs x b
get-under t x b no_cells e = absurd (cc)
get-under t zero b (more_cells {a = a} {b = c} p ps) e = let own : c ≡ b = cc in record { a = a; at = refl; below = subst (Below t a) own p }
get-under t (suc x) b (more_cells p ps) e = let u = get-under t x b ps e in record { a = u.a; at = u.at; below = u.below }

module _ (t : ClassTable) (types : IsOrderOfTypes t) where
  over-high : (b : Ty) → is_below t IntHigh b ≡ true → b ≢ Top → b ≡ IntHigh
  unfolding is_below
  over-high b e n = grind (arith)

  over-low : (b : Ty) → is_below t IntLow b ≡ true → b ≢ Top → b ≡ IntLow
  unfolding is_below
  over-low b e n = grind (arith)

  -- under a value a value stands, where each cell holds something
  pub value-under : (xs ys : List Ty) (x : ℕ) (b : Ty) → CellsBelow t xs ys → All IsNotBottom xs → value_in_cells ys x ≡ Some b → (a : Ty)
      × (value_in_cells xs x ≡ Some a)
  value-under xs ys x b le full v = by under.a under.at under.below
    where
      is : IsValueAt ys x b
      is = value-is ys x b v

      under : IsUnder t xs x b
      under = get-under t x b le is.first

      by : (a : Ty) → slice_get xs x ≡ Some a → Below t a b → (a : Ty) × (value_in_cells xs x ≡ Some a)
      by IntHigh at p =
          let high : b ≡ IntHigh = over-high b ((types.decided IntHigh b).1 p) is.no_top in
          let next = get-under t (x + 1) IntLow le (is.second high) in
          let low = is-low t types next.a next.below (All-slice_get IsNotBottom xs (x + 1) next.a full next.at) in
          (IntHigh, value-int xs x at (next.at ∙ ap Some low))
      by IntLow at p = absurd (is.no_low (over-low b ((types.decided IntLow b).1 p) is.no_top))
      by Top at p = absurd (is.no_top (top-only t types b ((types.decided Top b).1 p)))
      by a at p = (a, value-one xs x a at tt tt)

module _ (new : ℕ → ℕ) (apart : (a b : ℕ) → new a ≡ new b → a ≡ b) (s : Source) (l : AreTypingLaws s.world) (ready : IsReady s) (r : MethodRec)
    (own_rec : IsRecordFor s.method.rec r) (asks : ℕ → Asked) (res : IfSome s.method.rec.sig.result (IsDeclared s.world.classes)) where
  abbrev Flowing : ℕ → List Ty → List Item → List Ty → Type 0
  Flowing n a xs b = Flows s.world r (registers_of s.homes) asks n (holding a) xs (holding b)

  -- ---- increments

  increment-by : (i : Placed) (width : Width) (x : ℕ) (amount : ℤ) (f after : Frame) (st : List Ty) (n : ℕ) (ty : Ty)
      → IsRun s i (ops.Increment width x amount) f after → IsLesser s.world f st → value_in_cells f.regs x ≡ Some ty → after.stack ≡ f.stack
      → ((k : ℕ) → Holds s.world l.objects r (registers_of s.homes) asks ty k → (regs : List Ty)
      × CellsBelow s.world.classes regs (registers_of s.homes)
      × (o : Outcome) × OperationApplies s.world r.max_stack (ops.Increment width k amount) Flow
      (record { regs = registers_of s.homes; stack = map (named new apart) st }) (record { regs = regs; stack = map (named new apart) st }) o)
      → IsPassed new apart s l ready r own_rec asks res n (body s i (ops.Increment width x amount)) (ops.Increment width x amount) st after
  unfolding body
  increment-by i width x amount f after st n ty run lesser value rest does =
      let h : Home = record { slot = x; ty = ty } in
      let own : home_of x (local_of (s.frames i.place) x) ≡ Some h = local-at s i.place x f ty run.at value in
      let stands = local-stands l.objects l.rules ready r asks i.place f x ty run.at value in
      let go = l.alike s.method.rec i.place i.insn (ops.Increment width x amount) run.small (sym run.resolves) in
      let d = does (register s h) stands in
      let room = has-room new apart s l ready r own_rec asks res i (ops.Increment width x amount) f after st run lesser in
      let turn : Turn s.world r (registers_of s.homes) asks n (record i.insn { x = pos (register s h) }) (holding (map (named new apart) st))
      (holding (map (named new apart) st)) =
      turn-by s.world l.objects r (registers_of s.homes) asks n (record i.insn { x = pos (register s h) }) (ops.Increment width (register s h) amount)
      (map (named new apart) st) (record { regs = d.0; stack = map (named new apart) st })
      (increased-at s.world s.method.rec r i.place n i.insn width x (register s h) amount run.small stands.small run.resolves) (d.2, d.3) d.1
      (sym go.jumps_alike) (sym go.falls_alike) (omega (arith, room, own_rec.room)) in
      record {
        stack = st;
        lesser = record { below = subst (CellsBelow s.world.classes st) (sym rest) lesser.below; full = lesser.full; known = lesser.known };
        flow = grind (arith, flow_plain s.world r (registers_of s.homes) asks turn flow_end);
      }

  pub increment-passed : (i : Placed) (width : Width) (x : ℕ) (amount : ℤ) (f after : Frame) (st : List Ty) (n : ℕ)
      → IsRun s i (ops.Increment width x amount) f after → IsLesser s.world f st
      → IsPassed new apart s l ready r own_rec asks res n (body s i (ops.Increment width x amount)) (ops.Increment width x amount) st after
  increment-passed i widths.Short x amount f after st n run lesser =
      let whole = ready.whole i.place f run.at in
      let k = found-below s.world.classes f.regs x Short run.does.asked.1.0 in
      let own = is-short s.world.classes l.rules.types k.ty k.below (All-slice_get IsNotBottom f.regs x k.ty whole.regs k.at) in
      let room = has-room new apart s l ready r own_rec asks res i (ops.Increment widths.Short x amount) f after st run lesser in
      increment-by i widths.Short x amount f after st n Short run lesser (value-one f.regs x Short (k.at ∙ ap Some own) tt tt) run.does.stack
      (λ y h.
      let does = applies-by s.world r.max_stack (ops.Increment widths.Short y amount)
      (record { regs = registers_of s.homes; stack = map (named new apart) st })
      (record { regs = set (registers_of s.homes) y Short; stack = map (named new apart) st }) (
        there s.world l.objects r (registers_of s.homes) asks y Short h.first,
        (held s.world l.objects r (registers_of s.homes) asks y Short Short h.first same, tt),
      ) (record { value = Short; stored = refl; after_is = refl })
      refl (omega (arith, room, own_rec.room)) in
      (set (registers_of s.homes) y Short, set-below s.world.classes (registers_of s.homes) y Short Short h.first same, does.0, does.1))
  increment-passed i widths.Int x amount f after st n run lesser =
      let whole = ready.whole i.place f run.at in
      let k = found-below s.world.classes f.regs x IntHigh run.does.asked.1.0 in
      let own = is-high s.world.classes l.rules.types k.ty k.below (All-slice_get IsNotBottom f.regs x k.ty whole.regs k.at) in
      let j = found-below s.world.classes f.regs (x + 1) IntLow run.does.asked.1.1.0 in
      let low = is-low s.world.classes l.rules.types j.ty j.below (All-slice_get IsNotBottom f.regs (x + 1) j.ty whole.regs j.at) in
      let room = has-room new apart s l ready r own_rec asks res i (ops.Increment widths.Int x amount) f after st run lesser in
      increment-by i widths.Int x amount f after st n IntHigh run lesser (value-int f.regs x (k.at ∙ ap Some own) (j.at ∙ ap Some low)) run.does.stack
      (λ y h.
      let regs = registers_of s.homes in
      let second = h.second refl in
      let high : set regs y IntHigh ≡ regs = set-same regs y IntHigh h.first in
      let later : List Ty = set (set regs y IntHigh) (y + 1) IntLow in
      let does = applies-by s.world r.max_stack (ops.Increment widths.Int y amount) (record { regs = regs; stack = map (named new apart) st })
      (record { regs = later; stack = map (named new apart) st }) (
        two-there s.world l.objects r regs asks y second,
        (held s.world l.objects r regs asks y IntHigh IntHigh h.first same, (held s.world l.objects r regs asks (y + 1) IntLow IntLow second same, tt)),
      )
      (record {
        between = set regs y IntHigh;
        high = record { value = IntHigh; stored = refl; after_is = refl };
        low = record { value = IntLow; stored = refl; after_is = refl };
      }) refl (omega (arith, room, own_rec.room)) in (
        later,
        subst (λ (ts : List Ty). CellsBelow s.world.classes (set ts (y + 1) IntLow) regs) (sym high)
            (set-below s.world.classes regs (y + 1) IntLow IntLow second same),
        does.0,
        does.1,
      ))

  -- ---- stores

  -- the value that is stored, on top of the stack, and what is under it
  record IsStacked (letter : Sort) (x : ℕ) (after : Frame) (st : List Ty) : Type 0 where
    vs : List Ty
    rest : List Ty
    parts : st ≡ vs ++ rest
    ty : Ty
    stored_is : slice_get after.regs x ≡ Some ty
    fits : (u : Ty) → IsPlainValue u → Below s.world.classes ty u → CellsBelow s.world.classes vs (cells_on u)
    fresh : map (named new apart) st ≡ vs ++ map (named new apart) rest
    lesser : IsLesser s.world after rest
    shorter : length rest + 1 ≤ length st
    pops : (n : ℕ) → length (vs ++ map (named new apart) rest) ≤ r.max_stack → Flowing n (vs ++ map (named new apart) rest) (pop_item letter ∷ [])
        (map (named new apart) rest)

  named-ready : (a : Ty) → IsNotFresh a → named new apart a ≡ a
  named-ready a h = grind (arith)

  pop-one : (n : ℕ) (v : Ty) (st : List Ty) → IsNoHalf v → length (v ∷ st) ≤ r.max_stack
      → Flowing n (v ∷ st) (Plain (record { op = pop; x = pos 0; y = pos 0; z = pos 0; len = 1 }) ∷ []) st
  unfolding layout_of opcode
  pop-one n v st whole room =
      let does = applies-by s.world r.max_stack (ops.Move moves.Pop) (record { regs = registers_of s.homes; stack = v ∷ st })
      (record { regs = registers_of s.homes; stack = st }) (no-half v whole, tt) refl refl (omega (arith, room)) in
      flow_plain s.world r (registers_of s.homes) asks
      (turn-by s.world l.objects r (registers_of s.homes) asks n (record { op = pop; x = pos 0; y = pos 0; z = pos 0; len = 1 }) (ops.Move moves.Pop)
      (v ∷ st) (record { regs = registers_of s.homes; stack = st })
      (pop-is s.world r n (record { op = pop; x = pos 0; y = pos 0; z = pos 0; len = 1 })) does (cells-same s.world.classes (registers_of s.homes)) refl refl
      room) flow_end

  pop-two : (n : ℕ) (st : List Ty) → length (IntLow ∷ IntHigh ∷ st) ≤ r.max_stack
      → Flowing n (IntLow ∷ IntHigh ∷ st) (Plain (record { op = pop2; x = pos 0; y = pos 0; z = pos 0; len = 1 }) ∷ []) st
  unfolding layout_of opcode
  pop-two n st room =
      let does = applies-by s.world r.max_stack (ops.Move moves.PopTwo) (record { regs = registers_of s.homes; stack = IntLow ∷ IntHigh ∷ st })
      (record { regs = registers_of s.homes; stack = st })
      (omega arith, (λ split. absurd (differ split.0), tt)) refl refl (omega (arith, room)) in
      flow_plain s.world r (registers_of s.homes) asks
      (turn-by s.world l.objects r (registers_of s.homes) asks n (record { op = pop2; x = pos 0; y = pos 0; z = pos 0; len = 1 }) (ops.Move moves.PopTwo)
      (IntLow ∷ IntHigh ∷ st) (record { regs = registers_of s.homes; stack = st })
      (pop-two-is s.world r n (record { op = pop2; x = pos 0; y = pos 0; z = pos 0; len = 1 })) does (cells-same s.world.classes (registers_of s.homes)) refl
      refl room) flow_end
    where
      differ : Some IntHigh ≡ Some IntLow → ⊥
      differ e = absurd (cc)

  one-stacked : (letter : Sort) (x : ℕ) (f after : Frame) (st : List Ty) (P : Ty → Type 0) (k : HasTop s.world.classes P st f.stack) (ty : Ty)
      → slice_get after.regs x ≡ Some ty
      → after.stack ≡ drop 1 f.stack
      → IsNoHalf k.v
      → IsNotFresh k.v
      → ((u : Ty) → IsPlainValue u → Below s.world.classes ty u → CellsBelow s.world.classes (k.v ∷ []) (cells_on u))
      → IsLesser s.world f st
      → ((n : ℕ) (us : List Ty) → length (k.v ∷ us) ≤ r.max_stack → Flowing n (k.v ∷ us) (pop_item letter ∷ []) us)
      → IsStacked letter x after st
  one-stacked letter x f after st P k ty stored_is under whole fresh fits lesser pops = record {
    vs = k.v ∷ [];
    rest = k.rest;
    parts = k.st_is;
    ty = ty;
    stored_is = stored_is;
    fits = fits;
    fresh = ap (map (named new apart)) k.st_is ∙ ap (λ (a : Ty). a ∷ map (named new apart) k.rest) (named-ready k.v fresh);
    lesser = record {
      below = subst (CellsBelow s.world.classes k.rest) (sym (under ∙ ap (drop 1) k.fs_is)) k.more;
      full = All-tail IsNotBottom k.v k.rest (subst (All IsNotBottom) k.st_is lesser.full);
      known = All-tail (IsKnown s.world.classes) k.v k.rest (subst (All (IsKnown s.world.classes)) k.st_is lesser.known);
    };
    shorter = omega (arith, ap length k.st_is);
    pops = λ n room. pops n (map (named new apart) k.rest) room;
  }

  stacked : (letter : Sort) (x limit : ℕ) (f after : Frame) (o : Outcome) (st : List Ty) → All IsNotBottom f.stack
      → OperationApplies s.world limit (ops.Store letter x) Flow f after o → IsLesser s.world f st → IsStacked letter x after st
  stacked sorts.Reference x limit f after o st full a lesser =
      let k = has-top s.world.classes (λ c. Below s.world.classes c (Class (object s.world.classes))) st f.stack lesser.below a.asked.1.0 in
      let c_full = All-head IsNotBottom k.c k.cs (subst (All IsNotBottom) k.fs_is full) in
      let v_full = All-head IsNotBottom k.v k.rest (subst (All IsNotBottom) k.st_is lesser.full) in
      let c = is-reference s.world.classes l.rules.types k.c (object s.world.classes) k.has c_full in
      let v = is-reference s.world.classes l.rules.types k.v (object s.world.classes) (joined k.below k.has) v_full in
      let value : a.regs.value ≡ k.c = a.regs.stored ∙ ap (λ (us : List Ty). cell us 0) k.fs_is in
      one-stacked sorts.Reference x f after st (λ c. Below s.world.classes c (Class (object s.world.classes))) k k.c
      (ap (λ (rs : List Ty). slice_get rs x) a.regs.after_is ∙ set-within f.regs x a.regs.value (omega (arith, a.asked.0)) ∙ ap Some value) a.stack
      v.no_half v.ready
      (λ u plain le. subst (CellsBelow s.world.classes (k.v ∷ []))
      (sym (one-cell-on u (λ e. half-not k.c c.no_half (is-high s.world.classes l.rules.types k.c (subst (Below s.world.classes k.c) e le) c_full))))
      (more_cells (joined k.below le) no_cells)) lesser
      (λ n us room. pop-one n k.v us v.no_half room)
  stacked sorts.Short x limit f after o st full a lesser =
      let k = has-top s.world.classes (λ c. Below s.world.classes c Short) st f.stack lesser.below a.asked.1.0 in
      let v_full = All-head IsNotBottom k.v k.rest (subst (All IsNotBottom) k.st_is lesser.full) in
      let own = is-short s.world.classes l.rules.types k.v (joined k.below k.has) v_full in
      one-stacked sorts.Short x f after st (λ c. Below s.world.classes c Short) k Short
      (ap (λ (rs : List Ty). slice_get rs x) a.regs.after_is ∙ set-within f.regs x a.regs.value (omega (arith, a.asked.0)) ∙ ap Some a.regs.stored)
      a.stack (subst IsNoHalf (sym own) tt) (subst IsNotFresh (sym own) tt)
      (λ u plain le. subst (λ (y : Ty). CellsBelow s.world.classes (k.v ∷ []) (cells_on y))
      (above-short s.world.classes l.rules.types u ((l.rules.types.decided Short u).1 le) plain)
      (more_cells (joined k.below k.has) no_cells)) lesser
      (λ n us room. pop-one n k.v us (subst IsNoHalf (sym own) tt) room)
  stacked sorts.Int x limit f after o st full a lesser =
      let k = has-top s.world.classes (λ c. Below s.world.classes c IntLow) st f.stack lesser.below a.asked.1.0 in
      let j = has-top s.world.classes (λ c. Below s.world.classes c IntHigh) k.rest k.cs k.more
      (subst (λ (us : List Ty). IsSomeAnd (slice_get us 1) (λ c. Below s.world.classes c IntHigh)) k.fs_is a.asked.1.1.0) in
      let all_full = subst (All IsNotBottom) k.st_is lesser.full in
      let rest_full = subst (All IsNotBottom) j.st_is (All-tail IsNotBottom k.v k.rest all_full) in
      let all_known = subst (All (IsKnown s.world.classes)) k.st_is lesser.known in
      let rest_known = subst (All (IsKnown s.world.classes)) j.st_is (All-tail (IsKnown s.world.classes) k.v k.rest all_known) in
      let low = is-low s.world.classes l.rules.types k.v (joined k.below k.has) (All-head IsNotBottom k.v k.rest all_full) in
      let high = is-high s.world.classes l.rules.types j.v (joined j.below j.has) (All-head IsNotBottom j.v j.rest rest_full) in
      let whole : st ≡ IntLow ∷ IntHigh ∷ j.rest = k.st_is ∙ ap (λ (us : List Ty). k.v ∷ us) j.st_is
      ∙ ap (λ (u : Ty). u ∷ j.v ∷ j.rest) low ∙ ap (λ (u : Ty). IntLow ∷ u ∷ j.rest) high in
      let frame : f.stack ≡ k.c ∷ j.c ∷ j.cs = k.fs_is ∙ ap (λ (us : List Ty). k.c ∷ us) j.fs_is in
      let set_high : slice_get a.regs.between x ≡ Some IntHigh = ap (λ (rs : List Ty). slice_get rs x) a.regs.high.after_is
      ∙ set-within f.regs x a.regs.high.value (omega (arith, a.asked.0)) ∙ ap Some a.regs.high.stored in
      let far : (x == x + 1) ≡ false = grind (arith, nat_tests) in
      record {
        vs = IntLow ∷ IntHigh ∷ [];
        rest = j.rest;
        parts = whole;
        ty = IntHigh;
        stored_is = ap (λ (rs : List Ty). slice_get rs x) a.regs.low.after_is ∙ set-other a.regs.between (x + 1) x a.regs.low.value far ∙ set_high;
        fits =
            λ u plain le. subst (λ (y : Ty). CellsBelow s.world.classes (IntLow ∷ IntHigh ∷ []) (cells_on y))
            (above-high s.world.classes l.rules.types u ((l.rules.types.decided IntHigh u).1 le) plain)
            (more_cells same (more_cells same no_cells));
        fresh = ap (map (named new apart)) whole;
        lesser = record {
          below = subst (CellsBelow s.world.classes j.rest) (sym (a.stack ∙ ap (drop 2) frame)) j.more;
          full = All-tail IsNotBottom j.v j.rest rest_full;
          known = All-tail (IsKnown s.world.classes) j.v j.rest rest_known;
        };
        shorter = omega (arith, ap length whole);
        pops = λ n room. pop-two n (map (named new apart) j.rest) room;
      }

  -- ---- the homes into which a local is stored

  each-among : (P : Home → Type 0) (hs : List Home) (h : Home) → Each P hs → IsAmong h hs → P h
  each-among P [] h e a = absurd a
  each-among P (k ∷ ks) h e (inl own) = subst P own e.0
  each-among P (k ∷ ks) h e (inr a) = each-among P ks h e.1 a

  in-order : (q x : ℕ) (h : Home) (hs : List Home) → needed s q x ≡ h ∷ hs → (k : Home) → IsAmong k hs → IsAskedBefore s.method s.frames q x h k
  in-order q x h hs e k a = grind (arith, needed-are, each-among)

  -- the first home that is needed is that of the type at the place
  first-needed : (q x : ℕ) (g : Frame) (h : Home) (hs : List Home) → s.frames q ≡ Some g → needed s q x ≡ h ∷ hs
      → value_in_cells g.regs x ≡ Some h.ty
  first-needed q x g h hs to e =
      let is = needed-are l.objects l.rules ready r asks q x in
      let n = (is.all h).0 (subst (IsAmong h) (sym e) (inl refl)) in
      let k = found l.objects l.rules ready r asks q x n.1.0 h.ty n.1.1 in
      let v = value-under s.world.classes l.rules.types g.regs k.frame.regs x h.ty (k.above g to) (ready.whole q g to).regs k.value in
      let here : IsAsked s.method s.frames q x 0 v.0 = asked_here
      (subst (λ (o : Option Frame). IsSomeAnd o (λ (f : Frame). value_in_cells f.regs x ≡ Some v.0)) (sym to) v.1) in
      let among : IsAmong (record { slot = x; ty = v.0 }) (h ∷ hs) = subst (IsAmong (record { slot = x; ty = v.0 })) e
      ((is.all (record { slot = x; ty = v.0 })).1 (refl, (0, here))) in
      by v.0 v.1 here among
    where
      by : (u : Ty) → value_in_cells g.regs x ≡ Some u → IsAsked s.method s.frames q x 0 u → IsAmong (record { slot = x; ty = u }) (h ∷ hs)
          → value_in_cells g.regs x ≡ Some h.ty
      by u v here (inl own) = v ∙ ap (λ (j : Home). Some j.ty) (sym own)
      by u v here (inr a) = let b = in-order q x h hs e (record { slot = x; ty = u }) a in absurd (omega (arith, b.2 0 here))

  copy-once : (q x : ℕ) (g : Frame) (h k : Home) (hs : List Home) (stack : List Ty) → s.frames q ≡ Some g → needed s q x ≡ h ∷ hs
      → IsAmong k hs → length stack + 1 ≤ r.max_stack
      → Goes s.world r (registers_of s.homes) asks (holding stack) (copy s h k) (holding stack)
  copy-once q x g h k hs stack to e a room =
      let first = first-needed q x g h hs to e in
      let own = needed-served l.objects l.rules ready r asks q x h (subst (IsAmong h) (sym e) (inl refl)) in
      let other = needed-served l.objects l.rules ready r asks q x k (subst (IsAmong k) (sym e) (inr a)) in
      let le = other.above g.regs g h.ty to (l.rules.order.self g.regs) (value-is g.regs x h.ty first).first in
      by own.stands other.stands le (narrow s.world.classes l.rules.types h.ty k.ty le own.stands.value other.stands.value)
    where
      by : Stands s l.objects r (registers_of s.homes) asks h → Stands s l.objects r (registers_of s.homes) asks k → Below s.world.classes h.ty k.ty
          → (h.ty ≡ k.ty) ⊎ ((cells_on h.ty ≡ h.ty ∷ []) × (cells_on k.ty ≡ k.ty ∷ []))
          → Goes s.world r (registers_of s.homes) asks (holding stack) (copy s h k) (holding stack)
      by p q' le (inl same_type) = let b = in-order q x h hs e k a in absurd (omega (arith, b.2 b.0 (subst (IsAsked s.method s.frames q x b.0) same_type b.1)))
      by p q' le (inr ones) = copy-goes l.objects l.rules ready r asks h k stack p q' le ones.0 ones.1 room

  copies-once : (q x : ℕ) (g : Frame) (h : Home) (hs ks : List Home) (stack : List Ty) → s.frames q ≡ Some g → needed s q x ≡ h ∷ hs
      → ((k : Home) → IsAmong k ks → IsAmong k hs) → length stack + 1 ≤ r.max_stack
      → Goes s.world r (registers_of s.homes) asks (holding stack) (flat_map (copy s h) ks) (holding stack)
  copies-once q x g h hs [] stack to e inside room = goes-nowhere s.world r (registers_of s.homes) asks
  copies-once q x g h hs (k ∷ ks) stack to e inside room =
      goes-append s.world r (registers_of s.homes) asks (copy-once q x g h k hs stack to e (inside k (inl refl)) room)
      (copies-once q x g h hs ks stack to e (λ j a. inside j (inr a)) room)

  pub store-passed : (i : Placed) (letter : Sort) (x : ℕ) (f after g : Frame) (st : List Ty) (n : ℕ) → IsRun s i (ops.Store letter x) f after
      → s.frames (i.place + i.insn.len) ≡ Some g → FrameBelow s.world.classes after g → IsLesser s.world f st
      → IsPassed new apart s l ready r own_rec asks res n (body s i (ops.Store letter x)) (ops.Store letter x) st after
  unfolding body
  store-passed i letter x f after g st n run to below lesser = record {
    stack = k.rest;
    lesser = k.lesser;
    flow = grind (arith, by);
  }
    where
      q : ℕ
      q = i.place + i.insn.len

      k : IsStacked letter x after st
      k = stacked letter x s.method.rec.max_stack f after run.outcome st (ready.whole i.place f run.at).stack run.does lesser

      room : length (k.vs ++ map (named new apart) k.rest) ≤ s.method.rec.max_stack
      room = omega (arith, ap length k.fresh, has-room new apart s l ready r own_rec asks res i (ops.Store letter x) f after st run lesser)

      less : length (map (named new apart) k.rest) + 1 ≤ r.max_stack
      less = grind (arith, length-map, has-room)

      by : (hs : List Home) → needed s q x ≡ hs → Flowing n (k.vs ++ map (named new apart) k.rest) (store_to_homes s letter hs)
          (map (named new apart) k.rest)
      by [] e = k.pops n (omega (arith, room, own_rec.room))
      by (h ∷ hs) e =
          let own = needed-served l.objects l.rules ready r asks q x h (subst (IsAmong h) (sym e) (inl refl)) in
          let le = own.above after.regs g k.ty to below.regs k.stored_is in
          flow_plain s.world r (registers_of s.homes) asks
          (store-turn s.world l.objects r (registers_of s.homes) asks n h.ty (register s h) k.vs (map (named new apart) k.rest) own.stands
          (k.fits h.ty own.stands.value le) (omega (arith, room, own_rec.room)) (omega (arith, less)))
          (copies-once q x g h hs hs (map (named new apart) k.rest) to e (λ j a. a) less (suc n))
