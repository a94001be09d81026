-- Reads and writes of fields of `this` in rewritten code: as they stand where register 0 is its home, else of an object on the stack.
use Rattle.std.proofs.Common.{◌≡◌, ◌≢◌, ℕ, suc, ◌+◌, ◌-◌, ◌<◌, ◌≤◌, Bool, true, false, if◌then◌else◌, List, [], ◌∷◌}
use Rattle.std.proofs.Common.{◌++◌, length, map, drop, slice_get, All, Option, Some, IsSomeAnd}
use Rattle.std.proofs.Common.{IfSome, Ok, refl, sym, ◌∙◌, ap, subst, arith}
use Rattle.std.proofs.Common.{length-append}
use Rattle.std.proofs.lemmas.Bool.Decides.{nat_tests}
use Rattle.std.proofs.lemmas.List.{length-map, map-append}
use Rattle.std.proofs.lemmas.List.Elements.{All-head, All-tail}
use Rattle.jc_base.specs.Cell.{IsDeclared, IsReference, IsOfKind, IsNoHalf}
use Rattle.jc_base.specs.Class.{ClassTable}
use Rattle.jc_base.specs.Order.{Below, same, joined, is_below, IsKnown}
use Rattle.jc_base.specs.declared.record.MethodRec.{MethodRec}
use Rattle.jc_base.specs.declared.ty.Kind.{Kind}
use Rattle.jc_base.specs.declared.ty.Ty.{Ty}
use Rattle.jc_base.specs.declared.ty.Ty.TheVariants.{Short, IntHigh, IntLow, Class, Top}
use Rattle.jc_base.proofs.Lists.{All-slice_get}
use Rattle.jc_decode.specs.declared.insn.Placed.{Placed}
use Rattle.jc_decode.specs.declared.symbols.Item.{Item}
use Rattle.jc_decode.specs.declared.symbols.Item.TheVariants.{Plain}
use Rattle.jc_decode.specs.Layout.{layout_of, opcode}
use Rattle.jc_decode.specs.Listing.{falls, jumps}
use Rattle.jc_ops.specs.declared.operation.Holder.TheVariants as holders
use Rattle.jc_ops.specs.declared.operation.InstanceField.{InstanceField}
use Rattle.jc_ops.specs.declared.operation.Move.TheVariants as moves
use Rattle.jc_ops.specs.declared.operation.Operation.{Operation}
use Rattle.jc_ops.specs.declared.operation.Operation.TheVariants as ops
use Rattle.jc_ops.specs.declared.operation.Want.TheVariants.{Value}
use Rattle.jc_rules.specs.declared.demand.Demand.{Demand}
use Rattle.jc_rules.specs.declared.demand.Demand.TheVariants.{Cell, Held}
use Rattle.jc_rules.specs.declared.effect.Mode.TheVariants.{Flow}
use Rattle.jc_rules.specs.declared.rule.Outcome.{Outcome}
use Rattle.jc_rules.specs.Apply.{OperationApplies}
use Rattle.jc_rules.specs.Demand.{Frame, SatisfiesAll}
use Rattle.jc_rules.specs.Effect.{in_stack_order}
use Rattle.jc_rules.specs.Flow.{IsNotFresh, IsNotTop}
use Rattle.jc_rules.specs.Laws.{IsNotBottom}
use Rattle.jc_rules.specs.Rule.{demands, value_given, value_wanted, value_size}
use Rattle.jc_rules.proofs.Types.{declared-not_fresh}
use Rattle.xf_homes.specs.declared.home.Home.{Home}
use Rattle.xf_homes.specs.Value.{value_in_cells}
use Rattle.xf_homes.specs.Walk.{local_of}
use Rattle.xf_homes.specs.Source.{Source}
use Rattle.xf_homes.specs.Plan.{home_of, register}
use Rattle.xf_emission.specs.Move.{with_byte, load}
use Rattle.xf_emission.specs.Group.{body, itself, stays, field_read, swap_words}
use Rattle.xf_emission.specs.Mnemonics.{from_read, from_write, swap_x}
use Rattle.law_rewritten_typing.specs.Typed.{registers_of}
use Rattle.law_rewritten_typing.proofs.Walks.{holding, Asked, Turn, Flows, flow_plain, flow_end, flows-append}
use Rattle.law_rewritten_typing.proofs.Moves.{cells_on, applies-by, turn-by, load-turn, held, there}
use Rattle.law_rewritten_typing.proofs.Stacks.{Stands}
use Rattle.law_rewritten_typing.proofs.Ready.{IsReady, local-stands}
use Rattle.law_rewritten_typing.proofs.Renames.{named, named_op, value-same}
use Rattle.law_rewritten_typing.proofs.Kept.{IsKeptOperation, applies-named}
use Rattle.law_rewritten_typing.proofs.Registers.{not-fresh}
use Rattle.law_rewritten_typing.proofs.Turns.{IsLesser, kept-resolves}
use Rattle.law_rewritten_typing.proofs.Carried.{is-high, is-low}
use Rattle.law_rewritten_typing.proofs.Rows.{read-on-stack, write-on-stack, swap-one-is, swap-two-is}
use Rattle.law_rewritten_typing.proofs.Storing.{has-top}
use Rattle.law_rewritten_typing.specs.Premises.{AreTypingLaws}
use Rattle.law_rewritten_typing.proofs.Running.{IsRecordFor, IsRun, IsPassed, has-room, IsReferenceIn}
use Rattle.law_rewritten_typing.proofs.Running.{is-reference, found-below, value-one, local-at}
use Rattle.law_rewritten_typing.proofs.Running.{push-lesser}
use Rattle.jc_rules.proofs.CellLists.{cells-same}

-- ---- the value of a field

given-full : (t : ClassTable) (ty : Ty) → IsDeclared t ty → All IsNotBottom (in_stack_order (value_given ty))
given-full t y h = grind (arith)

given-known : (t : ClassTable) (ty : Ty) → IsDeclared t ty → All (IsKnown t) (in_stack_order (value_given ty))
given-known t y h = grind (arith)

-- what is asked of the stack rests on the stack
value-held : (t : ClassTable) (ty : Ty) (regs others st : List Ty) (d : Demand)
    → SatisfiesAll t (record { regs = regs; stack = st }) (value_wanted ty ++ d ∷ [])
    → (SatisfiesAll t (record { regs = regs; stack = st }) (d ∷ []) → SatisfiesAll t (record { regs = others; stack = st }) (d ∷ []))
    → SatisfiesAll t (record { regs = others; stack = st }) (value_wanted ty ++ d ∷ [])
value-held t ty regs others st d h f = grind (arith)

module _ (new : ℕ → ℕ) (apart : (a b : ℕ) → new a ≡ new b → a ≡ b) (s : Source) (l : AreTypingLaws s.world) (ready : IsReady s) (r : MethodRec)
    (own_rec : IsRecordFor s.method.rec r) (asks : ℕ → Asked) (res : IfSome s.method.rec.sig.result (IsDeclared s.world.classes)) where
  abbrev Flowing : ℕ → List Ty → List Item → List Ty → Type 0
  Flowing n a xs b = Flows s.world r (registers_of s.homes) asks n (holding a) xs (holding b)

  -- the home of `this`
  record IsThis (i : Placed) (c : ℕ) : Type 0 where
    ty : Ty
    own : home_of 0 (local_of (s.frames i.place) 0) ≡ Some (record { slot = 0; ty = ty })
    stands : Stands s l.objects r (registers_of s.homes) asks (record { slot = 0; ty = ty })
    below : Below s.world.classes ty (Class c)
    is : IsReferenceIn ty

  this-is : (i : Placed) (f : Frame) (c : ℕ) → s.frames i.place ≡ Some f
      → IsSomeAnd (slice_get f.regs 0) (λ found. Below s.world.classes found (Class c)) → IsThis i c
  this-is i f c at h =
      let k = found-below s.world.classes f.regs 0 (Class c) h in
      let is = is-reference s.world.classes l.rules.types k.ty c k.below (All-slice_get IsNotBottom f.regs 0 k.ty (ready.whole i.place f at).regs k.at) in
      let value : value_in_cells f.regs 0 ≡ Some k.ty = value-one f.regs 0 k.ty k.at is.no_half is.no_top in
      record {
        ty = k.ty;
        own = local-at s i.place 0 f k.ty at value;
        stands = local-stands l.objects l.rules ready r asks i.place f 0 k.ty at value;
        below = k.below;
        is = is;
      }

  -- ---- where register 0 is its home

  -- what the operation does to the lesser stack, over the frame's registers
  record IsFallen (op : Operation) (f after : Frame) (st : List Ty) : Type 0 where
    frame : Frame
    outcome : Outcome
    does : OperationApplies s.world s.method.rec.max_stack op Flow (record { regs = f.regs; stack = st }) frame outcome
    lesser : IsLesser s.world after frame.stack

  fallen-is : (i : Placed) (op : Operation) (f after : Frame) (st : List Ty) → IsRun s i op f after → IsLesser s.world f st → IsFallen op f after st
  fallen-is i op f after st run lesser =
      let whole = ready.whole i.place f run.at in
      let k = l.falls s.method.rec.max_stack op Flow f (record { regs = f.regs; stack = st }) after run.outcome
      (record { regs = l.rules.order.self f.regs; stack = lesser.below }) run.fit.no_top lesser.full run.does in
      let kept_is = l.keeps s.method.rec.max_stack s.method.rec i.place op Flow (record { regs = f.regs; stack = st }) k.below k.outcome run.sound
      (record { few = whole.known.few; regs = whole.known.regs; stack = lesser.known; object = whole.known.object }) k.applies in
      record {
        frame = k.below;
        outcome = k.outcome;
        does = k.applies;
        lesser = record { below = k.lower.stack; full = kept_is.no_bottom lesser.full; known = kept_is.known.stack };
      }

  -- over the registers of the card
  stays-by : (i : Placed) (op : Operation) (f after : Frame) (st : List Ty) (n : ℕ) → IsRun s i op f after → IsKeptOperation op → new i.place ≡ n
      → IsLesser s.world f st
      → (out : List Ty)
      → (o : Outcome) × OperationApplies s.world s.method.rec.max_stack op Flow (record { regs = registers_of s.homes; stack = st })
      (record { regs = registers_of s.homes; stack = out }) o
      → named_op new apart op ≡ op
      → jumps i.insn.op ≡ false
      → falls i.insn.op ≡ true
      → Flowing n (map (named new apart) st) (itself i) (map (named new apart) out)
  stays-by i op f after st n run keeps here lesser out over same_op quiet goes =
      let room = has-room new apart s l ready r own_rec asks res i op f after st run lesser in
      let is = applies-named new apart s.world l.rules s.method.rec i.place s.method.rec.max_stack op (registers_of s.homes) st (registers_of s.homes) out
      over.0 run.sound res keeps over.1 in
      let wide = wider op (record { regs = registers_of s.homes; stack = map (named new apart) st })
      (record { regs = registers_of s.homes; stack = map (named new apart) out }) is.0
      (subst
      (λ (p : Operation). OperationApplies s.world s.method.rec.max_stack p Flow
      (record { regs = registers_of s.homes; stack = map (named new apart) st })
      (record { regs = registers_of s.homes; stack = map (named new apart) out }) is.0) same_op is.1) in
      let resolves = kept-resolves new apart s.world l.rules l.falls l.keeps l.none l.rests l.entry s.method.rec r i.place n i.insn op run.small here
      own_rec.home own_rec.sig run.sound run.resolves in
      flow_plain s.world r (registers_of s.homes) asks
      (turn-by s.world l.objects r (registers_of s.homes) asks n i.insn op (map (named new apart) st)
      (record { regs = registers_of s.homes; stack = map (named new apart) out })
      (sym resolves ∙ ap (λ (p : Operation). Ok p) same_op) (is.0, wide) (cells-same s.world.classes (registers_of s.homes)) quiet goes
      (omega (arith, room, own_rec.room))) flow_end
    where
      wider : (op : Operation) (before after : Frame) (o : Outcome) → OperationApplies s.world s.method.rec.max_stack op Flow before after o
          → OperationApplies s.world r.max_stack op Flow before after o
      wider op before after o a =
          record {
            asked = a.asked;
            regs = a.regs;
            stack = a.stack;
            room = omega (arith, a.room, own_rec.room);
            falls = a.falls;
            ends = a.ends;
            depth = a.depth;
            wrote_is = a.wrote_is;
            rose_is = a.rose_is;
          }

  -- ---- reads

  pub read-passed : (i : Placed) (fld : InstanceField) (f after : Frame) (st : List Ty) (n : ℕ) → IsRun s i (ops.FieldRead fld holders.This) f after
      → new i.place ≡ n → IsLesser s.world f st
      → IsPassed new apart s l ready r own_rec asks res n (body s i (ops.FieldRead fld holders.This)) (ops.FieldRead fld holders.This) st after
  unfolding body
  read-passed i fld f after st n run here lesser = record {
    stack = cells ++ st;
    lesser =
        push-lesser new apart s l ready r own_rec asks res cells f after st (given-full s.world.classes fld.ty run.sound.ty)
        (given-known s.world.classes fld.ty run.sound.ty) run.does.stack lesser;
    flow =
        subst (λ (o : Option Home). Flowing n (map (named new apart) st) (field_read s i o) (map (named new apart) (cells ++ st))) (sym k.own)
        (subst (λ (us : List Ty). Flowing n (map (named new apart) st) (field_read s i (Some h)) us) (sym pushed) (by (stays s h) refl));
  }
    where
      k : IsThis i fld.class
      k = this-is i f fld.class run.at run.does.asked.1.0

      h : Home
      h = record { slot = 0; ty = k.ty }

      cells : List Ty
      cells = in_stack_order (value_given fld.ty)

      regs : List Ty
      regs = registers_of s.homes

      pushed : map (named new apart) (cells ++ st) ≡ cells ++ map (named new apart) st
      pushed =
          map-append (named new apart) cells st ∙ ap (λ (us : List Ty). us ++ map (named new apart) st)
          (sym (value-same new apart fld.ty (declared-not_fresh s.world.classes fld.ty run.sound.ty)))

      room : length (cells ++ map (named new apart) st) ≤ s.method.rec.max_stack
      room = grind (arith, length-append, length-map)

      less : length (map (named new apart) st) ≤ s.method.rec.max_stack
      less = has-room new apart s l ready r own_rec asks res i (ops.FieldRead fld holders.This) f after st run lesser

      by : (b : Bool) → stays s h ≡ b
          → Flowing n (map (named new apart) st) (if b then itself i else load s h ∷ Plain (record i.insn { op = i.insn.op - from_read }) ∷ [])
          (cells ++ map (named new apart) st)
      by true e =
          let go = l.alike s.method.rec i.place i.insn (ops.FieldRead fld holders.This) run.small (sym run.resolves) in
          let zero_is : register s h ≡ 0 = grind (arith, nat_tests, e) in
          let first : slice_get regs 0 ≡ Some k.ty = ap (slice_get regs) (sym zero_is) ∙ k.stands.first in
          let over = applies-by s.world s.method.rec.max_stack (ops.FieldRead fld holders.This) (record { regs = regs; stack = st })
          (record { regs = regs; stack = cells ++ st })
          (there s.world l.objects r regs asks 0 k.ty first, (held s.world l.objects r regs asks 0 k.ty (Class fld.class) first k.below, tt)) refl refl
          (omega (arith, length-append cells st, length-append cells (map (named new apart) st), length-map st (named new apart), room)) in
          subst (λ (us : List Ty). Flowing n (map (named new apart) st) (itself i) us) pushed
          (stays-by i (ops.FieldRead fld holders.This) f after st n run tt here lesser (cells ++ st) over refl (sym go.jumps_alike) (sym go.falls_alike))
      by false e =
          let small : i.insn.op - from_read < 256 = omega (arith, run.small) in
          let is = read-on-stack s.world s.method.rec r i.place (suc n) i.insn fld run.small (sym own_rec.home) run.resolves in
          let go = l.alike r (suc n) (record i.insn { op = i.insn.op - from_read }) (ops.FieldRead fld holders.Stack) small (sym is) in
          let full : length (cells_on k.ty ++ map (named new apart) st) ≤ r.max_stack = omega
          (arith, ap length k.is.one, length-append (cells_on k.ty) (map (named new apart) st), less, own_rec.room) in
          let turn = load-turn s.world l.objects r regs asks n k.ty (register s h) (map (named new apart) st) k.stands full
          (omega (arith, less, own_rec.room)) in
          let does = applies-by s.world r.max_stack (ops.FieldRead fld holders.Stack) (record { regs = regs; stack = k.ty ∷ map (named new apart) st })
          (record { regs = regs; stack = cells ++ map (named new apart) st })
          (k.below, tt) refl refl (omega (arith, room, own_rec.room)) in
          let read : Turn s.world r regs asks (suc n) (record i.insn { op = i.insn.op - from_read }) (holding (k.ty ∷ map (named new apart) st))
          (holding (cells ++ map (named new apart) st)) =
          turn-by s.world l.objects r regs asks (suc n) (record i.insn { op = i.insn.op - from_read }) (ops.FieldRead fld holders.Stack)
          (k.ty ∷ map (named new apart) st) (record { regs = regs; stack = cells ++ map (named new apart) st })
          is does (cells-same s.world.classes regs) (sym go.jumps_alike) (sym go.falls_alike) (omega (arith, less, own_rec.room)) in
          flow_plain s.world r regs asks turn
          (flow_plain s.world r regs asks
          (subst (λ (us : List Ty). Turn s.world r regs asks (suc n) (record i.insn { op = i.insn.op - from_read }) (holding (us ++ map (named new apart) st))
          (holding (cells ++ map (named new apart) st))) (sym k.is.one) read) flow_end)

  -- ---- writes

  -- a value of one cell is asked for, or an int
  data IsSized (k : Kind) (ty : Ty) : Type 0 where
    sized_one : swap_words k ≡ 17 → value_wanted ty ≡ Cell 0 (Value ty) ∷ [] → value_size ty ≡ 1 → IsNotFresh ty → IsNotTop ty
        → ty ≢ IntLow → IsSized k ty
    sized_int : swap_words k ≡ 18 → ty ≡ IntHigh → IsSized k ty

  sized-reference : (k : Kind) (ty : Ty) → swap_words k ≡ 17 → IsReference ty → IsSized k ty
  sized-reference k ty e h = grind (arith)

  sized-short : (k : Kind) (ty : Ty) → swap_words k ≡ 17 → ty ≡ Short → IsSized k ty
  sized-short k ty e own = subst (IsSized k) (sym own) (sized_one e refl refl tt tt (λ q. absurd (cc)))

  sized : (k : Kind) (ty : Ty) → IsOfKind k ty → IsSized k ty
  sized x ty h = grind (arith, sized-reference, sized-short)

  -- the last that is asked
  last-held : (ty : Ty) (f : Frame) (d : Demand) → SatisfiesAll s.world.classes f (value_wanted ty ++ d ∷ []) → SatisfiesAll s.world.classes f (d ∷ [])
  last-held ty f d h = grind (arith)

  over-low : (b : Ty) → is_below s.world.classes IntLow b ≡ true → b ≢ Top → b ≡ IntLow
  unfolding is_below
  over-low b e n = grind (arith)

  top-not : (b : Ty) → IsNotTop b → b ≢ Top
  top-not b h e = grind (arith)

  low-not : (a : Ty) → IsNoHalf a → Some a ≡ Some IntLow → ⊥
  low-not a h e = grind (arith)

  swap-one : (n : ℕ) (a v : Ty) (st : List Ty) → IsNoHalf a → v ≢ IntLow → length (a ∷ v ∷ st) ≤ r.max_stack
      → Flowing n (a ∷ v ∷ st) (Plain (with_byte swap_x 17) ∷ []) (v ∷ a ∷ st)
  unfolding layout_of opcode
  swap-one n a v st whole low room =
      let regs = registers_of s.homes in
      let does = applies-by s.world r.max_stack (ops.Move (moves.Exchange 1 1)) (record { regs = regs; stack = a ∷ v ∷ st })
      (record { regs = regs; stack = v ∷ a ∷ st })
      (omega arith, ((λ split. low-not a whole split.0), (omega arith, ((λ split. low (some-is v IntLow split.0)), tt)))) refl refl (omega (arith, room)) in
      flow_plain s.world r regs asks
      (turn-by s.world l.objects r regs asks n (with_byte swap_x 17) (ops.Move (moves.Exchange 1 1)) (a ∷ v ∷ st)
      (record { regs = regs; stack = v ∷ a ∷ st }) (swap-one-is s.world r n) does (cells-same s.world.classes regs) refl refl room) flow_end
    where
      some-is : (x y : Ty) → Some x ≡ Some y → x ≡ y
      some-is x y e = cc

  swap-two : (n : ℕ) (a : Ty) (st : List Ty) → IsNoHalf a → length (a ∷ IntLow ∷ IntHigh ∷ st) ≤ r.max_stack
      → Flowing n (a ∷ IntLow ∷ IntHigh ∷ st) (Plain (with_byte swap_x 18) ∷ []) (IntLow ∷ IntHigh ∷ a ∷ st)
  unfolding layout_of opcode
  swap-two n a st whole room =
      let regs = registers_of s.homes in
      let does = applies-by s.world r.max_stack (ops.Move (moves.Exchange 1 2)) (record { regs = regs; stack = a ∷ IntLow ∷ IntHigh ∷ st })
      (record { regs = regs; stack = IntLow ∷ IntHigh ∷ a ∷ st })
      (omega arith, ((λ split. low-not a whole split.0), (omega arith, ((λ split. absurd (differ split.0)), tt)))) refl refl (omega (arith, room)) in
      flow_plain s.world r regs asks
      (turn-by s.world l.objects r regs asks n (with_byte swap_x 18) (ops.Move (moves.Exchange 1 2)) (a ∷ IntLow ∷ IntHigh ∷ st)
      (record { regs = regs; stack = IntLow ∷ IntHigh ∷ a ∷ st }) (swap-two-is s.world r n) does (cells-same s.world.classes regs) refl refl room)
      flow_end
    where
      differ : Some IntHigh ≡ Some IntLow → ⊥
      differ e = absurd (cc)

  named-ready : (a : Ty) → IsNotFresh a → named new apart a ≡ a
  named-ready a h = grind (arith)

  pub write-passed : (i : Placed) (fld : InstanceField) (f after : Frame) (st : List Ty) (n : ℕ) → IsRun s i (ops.FieldWrite fld holders.This) f after
      → new i.place ≡ n → IsLesser s.world f st
      → IsPassed new apart s l ready r own_rec asks res n (body s i (ops.FieldWrite fld holders.This)) (ops.FieldWrite fld holders.This) st after
  unfolding body
  write-passed i fld f after st n run here lesser = record {
    stack = k.frame.stack;
    lesser = k.lesser;
    flow = grind (arith, this, by);
  }
    where
      op : Operation
      op = ops.FieldWrite fld holders.This

      k : IsFallen op f after st
      k = fallen-is i op f after st run lesser

      this : IsThis i fld.class
      this = this-is i f fld.class run.at (last-held fld.ty f (Held 0 (Class fld.class)) run.does.asked.1).0

      h : Home
      h = record { slot = 0; ty = this.ty }

      regs : List Ty
      regs = registers_of s.homes

      less : length (map (named new apart) st) ≤ s.method.rec.max_stack
      less = has-room new apart s l ready r own_rec asks res i op f after st run lesser

      stack_ops : Item
      stack_ops = Plain (record i.insn { op = i.insn.op - from_write })

      -- the write of the object that is under the value
      written : (place : ℕ) (cells us : List Ty) → SatisfiesAll s.world.classes (record { regs = regs; stack = cells ++ us })
          (demands s.world (ops.FieldWrite fld holders.Stack)) → us ≡ drop (value_size fld.ty + 1) (cells ++ us)
          → length (cells ++ us) ≤ r.max_stack
          → Flowing place (cells ++ us) (stack_ops ∷ []) us
      written place cells us asked e room =
          let small : i.insn.op - from_write < 256 = omega (arith, run.small) in
          let is = write-on-stack s.world s.method.rec r i.place place i.insn fld run.small (sym own_rec.home) run.resolves in
          let go = l.alike r place (record i.insn { op = i.insn.op - from_write }) (ops.FieldWrite fld holders.Stack) small (sym is) in
          let does = applies-by s.world r.max_stack (ops.FieldWrite fld holders.Stack) (record { regs = regs; stack = cells ++ us })
          (record { regs = regs; stack = us }) asked refl e (omega (arith, length-append cells us, room)) in
          flow_plain s.world r regs asks
          (turn-by s.world l.objects r regs asks place (record i.insn { op = i.insn.op - from_write }) (ops.FieldWrite fld holders.Stack) (cells ++ us)
          (record { regs = regs; stack = us }) is does (cells-same s.world.classes regs) (sym go.jumps_alike) (sym go.falls_alike) room) flow_end

      loaded-first : (xs : List Item) (us : List Ty) → ((m : ℕ) → Flowing m (this.ty ∷ map (named new apart) st) xs us)
          → Flowing n (map (named new apart) st) (load s h ∷ xs) us
      loaded-first xs us rest =
          let full : length (cells_on this.ty ++ map (named new apart) st) ≤ r.max_stack = omega
          (arith, ap length this.is.one, length-append (cells_on this.ty) (map (named new apart) st), less, own_rec.room) in
          let turn = load-turn s.world l.objects r regs asks n this.ty (register s h) (map (named new apart) st) this.stands full
          (omega (arith, less, own_rec.room)) in
          flow_plain s.world r regs asks turn
          (subst (λ (cs : List Ty). Flowing (suc n) (cs ++ map (named new apart) st) xs us) (sym this.is.one) (rest (suc n)))

      by-size : IsSized fld.kind fld.ty
          → Flowing n (map (named new apart) st) (load s h ∷ Plain (with_byte swap_x (swap_words fld.kind)) ∷ stack_ops ∷ [])
          (map (named new apart) k.frame.stack)
      by-size (sized_one words wanted size fresh no_top low) =
          let asked : SatisfiesAll s.world.classes f (Cell 0 (Value fld.ty) ∷ Held 0 (Class fld.class) ∷ []) = subst
          (λ (ds : List Demand). SatisfiesAll s.world.classes f (ds ++ Held 0 (Class fld.class) ∷ [])) wanted run.does.asked.1 in
          let top = has-top s.world.classes (λ c. Below s.world.classes c fld.ty) st f.stack lesser.below asked.0 in
          let below = joined top.below top.has in
          let ready_v = not-fresh s.world.classes l.rules.types top.v fld.ty below fresh no_top in
          let us = map (named new apart) top.rest in
          let shape : map (named new apart) st ≡ top.v ∷ us = ap (map (named new apart)) top.st_is
          ∙ ap (λ (u : Ty). u ∷ us) (named-ready top.v ready_v) in
          let room : length (this.ty ∷ top.v ∷ us) ≤ r.max_stack = omega (arith, ap length shape, less, own_rec.room) in
          let low_v : top.v ≢ IntLow = λ e. low
          (over-low fld.ty ((l.rules.types.decided IntLow fld.ty).1 (subst (λ (u : Ty). Below s.world.classes u fld.ty) e below))
          (top-not fld.ty no_top)) in
          let end : map (named new apart) k.frame.stack ≡ us = ap (map (named new apart))
          (k.does.stack ∙ ap (λ (c : ℕ). drop c st) size ∙ ap (drop 1) top.st_is) in
          let taken : us ≡ drop (value_size fld.ty + 1) (top.v ∷ this.ty ∷ us) = sym (ap (λ (c : ℕ). drop (c + 1) (top.v ∷ this.ty ∷ us)) size) in
          let all : SatisfiesAll s.world.classes (record { regs = regs; stack = top.v ∷ this.ty ∷ us })
          (demands s.world (ops.FieldWrite fld holders.Stack)) =
          subst (λ (ds : List Demand). SatisfiesAll s.world.classes (record { regs = regs; stack = top.v ∷ this.ty ∷ us })
          (ds ++ Cell (value_size fld.ty) (Value (Class fld.class)) ∷ [])) (sym wanted) (
            below,
            (
              subst (λ (c : ℕ). IsSomeAnd (slice_get (top.v ∷ this.ty ∷ us) c) (λ found. Below s.world.classes found (Class fld.class))) (sym size)
                  this.below,
              tt,
            ),
          ) in
          subst (λ (ws : List Ty). Flowing n (map (named new apart) st) (load s h ∷ Plain (with_byte swap_x (swap_words fld.kind)) ∷ stack_ops ∷ []) ws)
          (sym end)
          (loaded-first (Plain (with_byte swap_x (swap_words fld.kind)) ∷ stack_ops ∷ []) us
          (λ m. subst (λ (ws : List Ty). Flowing m (this.ty ∷ ws) (Plain (with_byte swap_x (swap_words fld.kind)) ∷ stack_ops ∷ []) us) (sym shape)
          (subst (λ (c : ℕ). Flowing m (this.ty ∷ top.v ∷ us) (Plain (with_byte swap_x c) ∷ stack_ops ∷ []) us) (sym words)
          (flows-append s.world r regs asks (swap-one m this.ty top.v us this.is.no_half low_v room)
          (written (m + 1) (top.v ∷ this.ty ∷ []) us all taken (omega (arith, room)))))))
      by-size (sized_int words int) =
          let asked : SatisfiesAll s.world.classes f (Cell 0 (Value IntLow) ∷ Cell 1 (Value IntHigh) ∷ Held 0 (Class fld.class) ∷ []) = subst
          (λ (ty : Ty). SatisfiesAll s.world.classes f (value_wanted ty ++ Held 0 (Class fld.class) ∷ [])) int run.does.asked.1 in
          let top = has-top s.world.classes (λ c. Below s.world.classes c IntLow) st f.stack lesser.below asked.0 in
          let next = has-top s.world.classes (λ c. Below s.world.classes c IntHigh) top.rest top.cs top.more
          (subst (λ (us : List Ty). IsSomeAnd (slice_get us 1) (λ c. Below s.world.classes c IntHigh)) top.fs_is asked.1.0) in
          let all_full = subst (All IsNotBottom) top.st_is lesser.full in
          let rest_full = subst (All IsNotBottom) next.st_is (All-tail IsNotBottom top.v top.rest all_full) in
          let low = is-low s.world.classes l.rules.types top.v (joined top.below top.has) (All-head IsNotBottom top.v top.rest all_full) in
          let high = is-high s.world.classes l.rules.types next.v (joined next.below next.has) (All-head IsNotBottom next.v next.rest rest_full) in
          let us = map (named new apart) next.rest in
          let whole : st ≡ IntLow ∷ IntHigh ∷ next.rest = top.st_is ∙ ap (λ (us : List Ty). top.v ∷ us) next.st_is
          ∙ ap (λ (u : Ty). u ∷ next.v ∷ next.rest) low ∙ ap (λ (u : Ty). IntLow ∷ u ∷ next.rest) high in
          let shape : map (named new apart) st ≡ IntLow ∷ IntHigh ∷ us = ap (map (named new apart)) whole in
          let room : length (this.ty ∷ IntLow ∷ IntHigh ∷ us) ≤ r.max_stack = omega (arith, ap length shape, less, own_rec.room) in
          let size : value_size fld.ty ≡ 2 = ap value_size int in
          let end : map (named new apart) k.frame.stack ≡ us = ap (map (named new apart))
          (k.does.stack ∙ ap (λ (c : ℕ). drop c st) size ∙ ap (drop 2) whole) in
          let taken : us ≡ drop (value_size fld.ty + 1) (IntLow ∷ IntHigh ∷ this.ty ∷ us) = sym
          (ap (λ (c : ℕ). drop (c + 1) (IntLow ∷ IntHigh ∷ this.ty ∷ us)) size) in
          let all : SatisfiesAll s.world.classes (record { regs = regs; stack = IntLow ∷ IntHigh ∷ this.ty ∷ us })
          (demands s.world (ops.FieldWrite fld holders.Stack)) =
          subst (λ (ty : Ty). SatisfiesAll s.world.classes (record { regs = regs; stack = IntLow ∷ IntHigh ∷ this.ty ∷ us })
          (value_wanted ty ++ Cell (value_size ty) (Value (Class fld.class)) ∷ [])) (sym int)
          (same, (same, (this.below, tt))) in
          subst (λ (ws : List Ty). Flowing n (map (named new apart) st) (load s h ∷ Plain (with_byte swap_x (swap_words fld.kind)) ∷ stack_ops ∷ []) ws)
          (sym end)
          (loaded-first (Plain (with_byte swap_x (swap_words fld.kind)) ∷ stack_ops ∷ []) us
          (λ m. subst (λ (ws : List Ty). Flowing m (this.ty ∷ ws) (Plain (with_byte swap_x (swap_words fld.kind)) ∷ stack_ops ∷ []) us) (sym shape)
          (subst (λ (c : ℕ). Flowing m (this.ty ∷ IntLow ∷ IntHigh ∷ us) (Plain (with_byte swap_x c) ∷ stack_ops ∷ []) us) (sym words)
          (flows-append s.world r regs asks (swap-two m this.ty us this.is.no_half room)
          (written (m + 1) (IntLow ∷ IntHigh ∷ this.ty ∷ []) us all taken (omega (arith, room)))))))

      by : (b : Bool) → stays s h ≡ b
          → Flowing n (map (named new apart) st)
          (if b then itself i else load s h ∷ Plain (with_byte swap_x (swap_words fld.kind)) ∷ Plain (record i.insn { op = i.insn.op - from_write }) ∷ [])
          (map (named new apart) k.frame.stack)
      by true e =
          let go = l.alike s.method.rec i.place i.insn op run.small (sym run.resolves) in
          let zero_is : register s h ≡ 0 = grind (arith, nat_tests, e) in
          let first : slice_get regs 0 ≡ Some this.ty = ap (slice_get regs) (sym zero_is) ∙ this.stands.first in
          let over = applies-by s.world s.method.rec.max_stack op (record { regs = regs; stack = st }) (record { regs = regs; stack = k.frame.stack }) (
            there s.world l.objects r regs asks 0 this.ty first,
            value-held s.world.classes fld.ty f.regs regs st (Held 0 (Class fld.class)) k.does.asked.1
                (λ old. (held s.world l.objects r regs asks 0 this.ty (Class fld.class) first this.below, tt)),
          ) refl k.does.stack k.does.room in
          stays-by i op f after st n run tt here lesser k.frame.stack over refl (sym go.jumps_alike) (sym go.falls_alike)
      by false e = by-size (sized fld.kind fld.ty run.sound.cells.kind)
