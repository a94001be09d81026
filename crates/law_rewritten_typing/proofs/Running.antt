-- An instruction that control reaches, in rewritten code: from a stack below that of its frame, to one below that of what it leaves.
use Rattle.std.proofs.Common.{◌≡◌, ℕ, ◌+◌, ◌<◌, ◌≤◌, Bool, true, false, if◌then◌else◌, List, [], ◌∷◌, ◌++◌, length, map}
use Rattle.std.proofs.Common.{slice_get, All, Option, Some, None, Ok, IsSomeAnd, IfSome, refl, sym, ◌∙◌, ap, subst, arith}
use Rattle.std.proofs.lemmas.List.{length-map, map-append}
use Rattle.std.proofs.lemmas.List.Elements.{All-append}
use Rattle.std.proofs.lemmas.Bool.{both_ways}
use Rattle.jc_base.specs.Cell.{IsDeclared, IsNoHalf}
use Rattle.jc_base.specs.Class.{ClassTable}
use Rattle.jc_base.specs.Laws.{IsOrderOfTypes}
use Rattle.jc_base.specs.Order.{Below, same, is_below, IsKnown}
use Rattle.jc_base.specs.declared.record.MethodRec.{MethodRec}
use Rattle.jc_base.specs.declared.ty.Ty.{Ty}
use Rattle.jc_base.specs.declared.ty.Ty.TheVariants.{IntHigh, IntLow, Class}
use Rattle.jc_base.specs.World.{Linked}
use Rattle.jc_decode.specs.declared.insn.Placed.{Placed}
use Rattle.jc_decode.specs.declared.symbols.Item.{Item}
use Rattle.jc_decode.specs.Listing.{jumps}
use Rattle.jc_ops.specs.declared.operation.Operation.{Operation}
use Rattle.jc_ops.specs.declared.operation.Operation.TheVariants as ops
use Rattle.jc_ops.specs.declared.operation.Sort.{Sort}
use Rattle.jc_ops.specs.Next.{falls_from, jumps_from}
use Rattle.jc_ops.specs.Resolve.{resolved}
use Rattle.jc_ops.specs.Row.{row_at}
use Rattle.jc_ops.specs.Sound.{IsSound}
use Rattle.jc_control.specs.WellFormed.{HasInstruction as IsListed}
use Rattle.jc_rules.specs.declared.effect.Mode.TheVariants.{Flow}
use Rattle.jc_rules.specs.declared.rule.Outcome.{Outcome}
use Rattle.jc_rules.specs.Apply.{OperationApplies}
use Rattle.jc_rules.specs.Demand.{Frame}
use Rattle.jc_rules.specs.Flow.{CellsBelow, more_cells, IsFit, IsNotFresh, IsNotTop}
use Rattle.jc_rules.specs.Laws.{IsNotBottom}
use Rattle.jc_rules.specs.Rule.{or_null}
use Rattle.xf_homes.specs.declared.home.Home.{Home}
use Rattle.xf_homes.specs.Value.{value_in_cells, value_of}
use Rattle.xf_homes.specs.Walk.{local_of}
use Rattle.xf_homes.specs.Source.{Source}
use Rattle.xf_homes.specs.Plan.{home_of, register}
use Rattle.xf_emission.specs.Move.{load}
use Rattle.xf_emission.specs.Group.{body, itself}
use Rattle.law_rewritten_typing.specs.Premises.{AreTypingLaws}
use Rattle.law_rewritten_typing.specs.Typed.{registers_of}
use Rattle.law_rewritten_typing.proofs.Walks.{holding, left, Asked, Flows, flow_plain, flow_end}
use Rattle.law_rewritten_typing.proofs.Moves.{IsPlainValue, cells_on, load-turn, get-reg}
use Rattle.law_rewritten_typing.proofs.Ready.{IsReady, value-plain, local-stands}
use Rattle.law_rewritten_typing.proofs.Renames.{named, named_op}
use Rattle.law_rewritten_typing.proofs.Kept.{IsKeptOperation}
use Rattle.law_rewritten_typing.proofs.Turns.{NamesNone, IsLesser, kept-done, kept-resolves}
use Rattle.law_rewritten_typing.proofs.Carried.{is-short, is-high, is-low}
use Rattle.law_rewritten_typing.proofs.Stacks.{one-value}

-- the record of rewritten code: there is room for one cell more
pub record IsRecordFor (m r : MethodRec) : Type 0 where
  pub room : r.max_stack ≡ m.max_stack + 1
  pub home : r.package ≡ m.package
  pub sig : r.sig ≡ m.sig

-- an instruction that control reaches, with what its rule does to the frame there
pub record IsRun (s : Source) (i : Placed) (op : Operation) (f after : Frame) : Type 0 where
  pub listed : IsListed s.method.code i
  pub at : s.frames i.place ≡ Some f
  pub resolves : resolved s.world s.method.rec i.place i.insn (row_at i.insn.op) ≡ Ok op
  pub outcome : Outcome
  pub does : OperationApplies s.world s.method.rec.max_stack op Flow f after outcome
  pub small : i.insn.op < 256
  pub sound : IsSound s.world s.method.rec i.place op
  pub fit : IsFit s.method f

-- ---- values of one cell

pub value-one : (cells : List Ty) (x : ℕ) (a : Ty) → slice_get cells x ≡ Some a → IsNoHalf a → IsNotTop a → value_in_cells cells x ≡ Some a
unfolding value_in_cells
value-one cells x a e h n = ap (λ (o : Option Ty). value_of o (slice_get cells (x + 1))) e ∙ one-value a (slice_get cells (x + 1)) h n

pub value-int : (cells : List Ty) (x : ℕ) → slice_get cells x ≡ Some IntHigh → slice_get cells (x + 1) ≡ Some IntLow
    → value_in_cells cells x ≡ Some IntHigh
unfolding value_in_cells
value-int cells x e f = ap (λ (o : Option Ty). value_of o (slice_get cells (x + 1))) e ∙ ap (value_of (Some IntHigh)) f

-- a cell that is a reference
pub record IsReferenceIn (a : Ty) : Type 0 where
  pub no_half : IsNoHalf a
  pub no_top : IsNotTop a
  pub ready : IsNotFresh a
  pub one : cells_on a ≡ a ∷ []
  pub null : or_null a ≡ a

module _ (t : ClassTable) (types : IsOrderOfTypes t) where
  reference-in : (a : Ty) (c : ℕ) → is_below t a (Class c) ≡ true → IsNotBottom a → IsReferenceIn a
  unfolding is_below
  reference-in x c e n = grind (arith)

  pub is-reference : (a : Ty) (c : ℕ) → Below t a (Class c) → IsNotBottom a → IsReferenceIn a
  is-reference a c le n = reference-in a c ((types.decided a (Class c)).1 le) n

-- a register that is held below a type
pub record IsFoundBelow (t : ClassTable) (cells : List Ty) (x : ℕ) (b : Ty) : Type 0 where
  pub ty : Ty
  pub at : slice_get cells x ≡ Some ty
  pub below : Below t ty b

pub found-below : (t : ClassTable) (cells : List Ty) (x : ℕ) (b : Ty) → IsSomeAnd (slice_get cells x) (λ found. Below t found b)
    → IsFoundBelow t cells x b
found-below t cells x b h = by (slice_get cells x) refl h
  where
    by : (o : Option Ty) → slice_get cells x ≡ o → IsSomeAnd o (λ found. Below t found b) → IsFoundBelow t cells x b
    by None e h = absurd h
    by (Some a) e h = record { ty = a; at = e; below = h }

-- ---- loads

-- the value that a load reads, and what it leaves
pub record IsLoaded (f after : Frame) (x : ℕ) : Type 0 where
  pub ty : Ty
  pub value : value_in_cells f.regs x ≡ Some ty
  pub stack : after.stack ≡ cells_on ty ++ f.stack

load-is : (w : Linked) (types : IsOrderOfTypes w.classes) (limit : ℕ) (letter : Sort) (x : ℕ) (f after : Frame) (o : Outcome) → All IsNotBottom f.regs
    → OperationApplies w limit (ops.Load letter x) Flow f after o → IsLoaded f after x
load-is w types limit u x f after o full a =
    grind (arith, found-below, is-reference, value-one, get-reg, is-short, is-high, is-low, value-int)

pub local-at : (s : Source) (p x : ℕ) (f : Frame) (ty : Ty) → s.frames p ≡ Some f → value_in_cells f.regs x ≡ Some ty
    → home_of x (local_of (s.frames p) x) ≡ Some (record { slot = x; ty = ty })
local-at s p x f ty e v = ap (λ (o : Option Frame). home_of x (local_of o x)) e ∙ ap (home_of x) v

pub cells-plain : (P : Ty → Type 0) (ty : Ty) → P ty → P IntLow → All P (cells_on ty)
cells-plain x ty p low = grind (arith)

plain-full : (ty : Ty) → IsPlainValue ty → IsNotBottom ty
plain-full ty h = grind (arith)

module _ (new : ℕ → ℕ) (apart : (a b : ℕ) → new a ≡ new b → a ≡ b) where
  pub cells-named : (ty : Ty) → IsPlainValue ty → map (named new apart) (cells_on ty) ≡ cells_on ty
  cells-named ty h = grind (arith)

module _ (new : ℕ → ℕ) (apart : (a b : ℕ) → new a ≡ new b → a ≡ b) (s : Source) (l : AreTypingLaws s.world) (ready : IsReady s) (r : MethodRec)
    (own_rec : IsRecordFor s.method.rec r) (asks : ℕ → Asked) (res : IfSome s.method.rec.sig.result (IsDeclared s.world.classes)) where
  -- the items take a stack below that of the frame to one below that of what the operation leaves, where it falls through
  pub record IsPassed (n : ℕ) (xs : List Item) (op : Operation) (st : List Ty) (after : Frame) : Type 0 where
    pub stack : List Ty
    pub lesser : IsLesser s.world after stack
    pub flow : Flows s.world r (registers_of s.homes) asks n (holding (map (named new apart) st)) xs
        (if falls_from op then holding (map (named new apart) stack) else left)

  pub has-room : (i : Placed) (op : Operation) (f after : Frame) (st : List Ty) → IsRun s i op f after → IsLesser s.world f st
      → length (map (named new apart) st) ≤ s.method.rec.max_stack
  has-room i op f after st run lesser = omega (arith, length-map st (named new apart), l.rules.order.lengths lesser.below, run.fit.room)

  -- ---- instructions that are kept

  pub kept-passed : (i : Placed) (op : Operation) (f after : Frame) (st : List Ty) (n : ℕ) → IsRun s i op f after → NamesNone op
      → IsKeptOperation op → jumps_from op ≡ false → new i.place ≡ n → IsLesser s.world f st → IsPassed n (itself i) op st after
  kept-passed i op f after st n run none keeps quiet here lesser =
      let whole = ready.whole i.place f run.at in
      let room = has-room i op f after st run lesser in
      let wide : s.method.rec.max_stack ≤ r.max_stack = omega (arith, own_rec.room) in
      let k = kept-done new apart s.world l.rules l.falls l.keeps l.none l.rests l.entry s.method.rec i.place r.max_stack op f after run.outcome
      (registers_of s.homes) st none keeps run.sound res whole.known run.fit.no_top lesser wide run.does in
      let go = l.alike s.method.rec i.place i.insn op run.small (sym run.resolves) in
      let calm : jumps i.insn.op ≡ false = sym go.jumps_alike ∙ quiet in
      record {
        stack = k.stack;
        lesser = k.lesser;
        flow =
            flow_plain s.world r (registers_of s.homes) asks
            (record {
              stack = map (named new apart) st;
              here = refl;
              after = record { regs = k.stored; stack = map (named new apart) k.stack };
              applies = (
                k.applies.0,
                record {
                  operation = named_op new apart op;
                  resolves =
                      kept-resolves new apart s.world l.rules l.falls l.keeps l.none l.rests l.entry s.method.rec r i.place n i.insn op run.small here
                      own_rec.home own_rec.sig run.sound run.resolves;
                  does = k.applies.1;
                },
              );
              stored = k.stays;
              branch = λ j. absurd (both_ways (jumps i.insn.op) calm j);
              room = omega (arith, room, own_rec.room);
              onward = ap (λ (b : Bool). if b then holding (map (named new apart) k.stack) else left) go.falls_alike;
            })
            flow_end;
      }

  -- ---- loads

  pub push-lesser : (cells : List Ty) (f after : Frame) (st : List Ty) → All IsNotBottom cells → All (IsKnown s.world.classes) cells
      → after.stack ≡ cells ++ f.stack → IsLesser s.world f st → IsLesser s.world after (cells ++ st)
  push-lesser cells f after st full known e lesser = record {
    below = subst (CellsBelow s.world.classes (cells ++ st)) (sym e) (above cells);
    full = All-append IsNotBottom cells st full lesser.full;
    known = All-append (IsKnown s.world.classes) cells st known lesser.known;
  }
    where
      above : (cs : List Ty) → CellsBelow s.world.classes (cs ++ st) (cs ++ f.stack)
      above [] = lesser.below
      above (c ∷ cs) = more_cells same (above cs)

  pub load-passed : (i : Placed) (letter : Sort) (x : ℕ) (f after : Frame) (st : List Ty) (n : ℕ) → IsRun s i (ops.Load letter x) f after
      → IsLesser s.world f st → IsPassed n (body s i (ops.Load letter x)) (ops.Load letter x) st after
  unfolding body
  load-passed i letter x f after st n run lesser =
      let whole = ready.whole i.place f run.at in
      let is = load-is s.world l.rules.types s.method.rec.max_stack letter x f after run.outcome whole.regs run.does in
      let plain = value-plain s.world.classes f.regs x is.ty is.value whole.known.regs whole.regs whole.ready in
      let stands = local-stands l.objects l.rules ready r asks i.place f x is.ty run.at is.value in
      let h : Home = record { slot = x; ty = is.ty } in
      let own : home_of x (local_of (s.frames i.place) x) ≡ Some h = local-at s i.place x f is.ty run.at is.value in
      let room = has-room i (ops.Load letter x) f after st run lesser in
      let pushed : map (named new apart) (cells_on is.ty ++ st) ≡ cells_on is.ty ++ map (named new apart) st =
      map-append (named new apart) (cells_on is.ty) st ∙ ap (λ (us : List Ty). us ++ map (named new apart) st) (cells-named new apart is.ty plain.0) in
      let more = push-lesser (cells_on is.ty) f after st (cells-plain IsNotBottom is.ty (plain-full is.ty plain.0) tt)
      (cells-plain (IsKnown s.world.classes) is.ty plain.1 tt) is.stack lesser in
      let full : length (cells_on is.ty ++ map (named new apart) st) ≤ r.max_stack =
      omega (arith, own_rec.room, ap length pushed, length-map (cells_on is.ty ++ st) (named new apart), l.rules.order.lengths more.below, run.does.room) in
      let below : length (map (named new apart) st) ≤ r.max_stack = omega (arith, own_rec.room, room) in
      let turn : Flows s.world r (registers_of s.homes) asks n (holding (map (named new apart) st)) (load s h ∷ [])
      (holding (cells_on is.ty ++ map (named new apart) st)) =
      flow_plain s.world r (registers_of s.homes) asks
      (load-turn s.world l.objects r (registers_of s.homes) asks n is.ty (register s h) (map (named new apart) st) stands full below) flow_end in
      record {
        stack = cells_on is.ty ++ st;
        lesser = more;
        flow = grind (arith, holding);
      }
