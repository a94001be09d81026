-- Every operation in two states that are alike, by its kind.
use Rattle.std.proofs.Common.{◌≡◌, ℕ, ◌+◌, ◌≤◌, true, false, List, [], ◌∷◌, ◌++◌, length, map, refl, sym, ap, ◌∙◌, subst}
use Rattle.std.proofs.Common.{arith}
use Rattle.std.specs.Prelude.{ℤ, Option, Some, None, option_map, IsSomeAnd, IfSome, slice_get}
use Rattle.std.proofs.lemmas.List.{length-map}
use Rattle.jc_base.specs.declared.ty.Ty.{Ty}
use Rattle.jc_base.specs.declared.ty.Ty.TheVariants.{Bottom, Short, IntHigh, IntLow, Class}
use Rattle.jc_base.specs.declared.ty.Kind.{Kind}
use Rattle.jc_base.specs.declared.ty.Kind.TheVariants as fields
use Rattle.jc_base.specs.declared.record.MethodRec.{MethodRec}
use Rattle.jc_base.specs.Cell.{IsDeclared, IsOfKind}
use Rattle.jc_base.specs.Class.{object}
use Rattle.jc_base.specs.Linked.{IsMethod}
use Rattle.jc_base.specs.World.{Linked, IsWorld}
use Rattle.jc_base.proofs.Lists.{All-slice_get}
use Rattle.jc_decode.specs.declared.insn.Case.{Case}
use Rattle.jc_decode.specs.declared.insn.Placed.{Placed}
use Rattle.jc_decode.specs.Cases.{cases}
use Rattle.jc_ops.specs.declared.operation.Sort.{Sort}
use Rattle.jc_ops.specs.declared.operation.Sort.TheVariants as sorts
use Rattle.jc_ops.specs.declared.operation.Width.{Width}
use Rattle.jc_ops.specs.declared.operation.Width.TheVariants as widths
use Rattle.jc_ops.specs.declared.operation.Constant.{Constant}
use Rattle.jc_ops.specs.declared.operation.Constant.TheVariants as constants
use Rattle.jc_ops.specs.declared.operation.Move.{Move}
use Rattle.jc_ops.specs.declared.operation.Move.TheVariants as moves
use Rattle.jc_ops.specs.declared.operation.Arithmetic.{Arithmetic}
use Rattle.jc_ops.specs.declared.operation.Arithmetic.TheVariants as arithmetic
use Rattle.jc_ops.specs.declared.operation.Branch.{Branch}
use Rattle.jc_ops.specs.declared.operation.Branch.TheVariants as branches
use Rattle.jc_ops.specs.declared.operation.Holder.TheVariants as holders
use Rattle.jc_ops.specs.declared.operation.TypeTest.{TypeTest}
use Rattle.jc_ops.specs.declared.operation.TypeTest.TheVariants as tests
use Rattle.jc_ops.specs.declared.operation.Operation.{Operation}
use Rattle.jc_ops.specs.declared.operation.Operation.TheVariants as ops
use Rattle.jc_ops.specs.declared.operation.Want.TheVariants.{Value}
use Rattle.jc_ops.specs.Next.{falls_from, jumps_from}
use Rattle.jc_ops.specs.Sound.{IsResult, IsSound}
use Rattle.jc_rules.specs.declared.demand.Demand.{Demand}
use Rattle.jc_rules.specs.declared.demand.Demand.TheVariants.{Cell as ACell, Held}
use Rattle.jc_rules.specs.Demand.{Frame as Types, Meets, SatisfiesAll}
use Rattle.jc_rules.specs.Footprint.{registers_asked, cells_asked, registers_read, footprint, AreInFrame}
use Rattle.jc_rules.specs.Flow.{IsNotFresh, IsNotTop}
use Rattle.jc_rules.specs.Rule.{value_wanted, value_size, call_demands, args_at, demands}
use Rattle.jc_rules.proofs.Footprints.{asked-is-there}
use Rattle.vm_store.specs.declared.cell.Cell.{Cell}
use Rattle.vm_store.specs.declared.cell.ObjectKind.{ObjectKind}
use Rattle.vm_store.specs.Typing.{least_type}
use Rattle.vm_store.specs.Cells.{tagged}
use Rattle.vm_store.specs.State.{Frame, Object, map_object, nth}
use Rattle.vm_step.specs.Calls.{args_of, chosen_act}
use Rattle.vm_step.specs.Branching.{is_taken}
use Rattle.vm_step.specs.Methods.{of_method, code_at}
use Rattle.vm_step.specs.Performed.{act}
use Rattle.law_sound.specs.Frames.{types_of_frame}
use Rattle.law_sound.proofs.Cells.{cell-at}
use Rattle.law_sound.proofs.Fields.{one-cell}
use Rattle.law_laid.specs.Apart.{apart_from_code}
use Rattle.law_alike.specs.Alike.{IsOneToOne, renamed_cell}
use Rattle.law_alike.specs.Running.{HaveKeys}
use Rattle.law_alike.proofs.Asked.{register-same}
use Rattle.law_alike.proofs.Cells.{value-stays}
use Rattle.law_alike.proofs.Twins.{Pair, first, second, Does}
use Rattle.law_alike.proofs.Acting.{constant-does, move-does, arithmetic-does, static-read-does}
use Rattle.law_alike.proofs.Acting.{array-read-does, array-length-does, type-test-does, new-does}
use Rattle.law_alike.proofs.Acting.{new-array-does, throw-does, branch-does}
use Rattle.law_alike.proofs.Switching.{ways, switch-does}
use Rattle.law_alike.proofs.Storing.{ValueStays, static-write-does, field-read-does, field-write-does, array-write-does}
use Rattle.law_alike.proofs.Registering.{RegisterSame, RegisterStays, LoadedFor, load-does, store-does, increment-does}
use Rattle.law_alike.proofs.Calling.{all-split, tested-stays, declared-stays, asked-does, return-does}
use Rattle.law_alike.proofs.Views.{View, IsNoNew, same_op, new_ops, load_ops, store_ops, increment_ops}

-- ---- operations that write no register

module _ (w : Linked) where
  pub none-constant : (c : Constant) → (footprint w (ops.Constant c)).written ≡ 0
  none-constant constants.Nothing = refl
  none-constant constants.Null = refl
  none-constant (constants.Short n) = refl
  none-constant (constants.Int n) = refl

  pub none-load : (sort : Sort) (x : ℕ) → (footprint w (ops.Load sort x)).written ≡ 0
  none-load sorts.Reference x = refl
  none-load sorts.Short x = refl
  none-load sorts.Int x = refl

  pub none-move : (m : Move) → (footprint w (ops.Move m)).written ≡ 0
  none-move moves.Pop = refl
  none-move moves.PopTwo = refl
  none-move moves.Duplicate = refl
  none-move moves.DuplicateTwo = refl
  none-move (moves.CopyUnder m n) = refl
  none-move (moves.Exchange m n) = refl

  pub none-arithmetic : (a : Arithmetic) → (footprint w (ops.Arithmetic a)).written ≡ 0
  none-arithmetic (arithmetic.Binary o widths.Short) = refl
  none-arithmetic (arithmetic.Binary o widths.Int) = refl
  none-arithmetic (arithmetic.Negate width) = refl
  none-arithmetic arithmetic.ShortToByte = refl
  none-arithmetic arithmetic.ShortToInt = refl
  none-arithmetic arithmetic.IntToByte = refl
  none-arithmetic arithmetic.IntToShort = refl
  none-arithmetic arithmetic.CompareInts = refl

  pub none-read : (kind : Kind) → (footprint w (ops.ArrayRead kind)).written ≡ 0
  none-read fields.Ref = refl
  none-read fields.Byte = refl
  none-read fields.Short = refl
  none-read fields.Int = refl

  pub none-write : (kind : Kind) → (footprint w (ops.ArrayWrite kind)).written ≡ 0
  none-write fields.Ref = refl
  none-write fields.Byte = refl
  none-write fields.Short = refl
  none-write fields.Int = refl

  pub none-branch : (b : Branch) → (footprint w (ops.Branch b)).written ≡ 0
  none-branch branches.Always = refl
  none-branch (branches.Zero o) = refl
  none-branch (branches.Null e) = refl
  none-branch (branches.References e) = refl
  none-branch (branches.Shorts o) = refl

  pub none-test : (test : TypeTest) (ty : Ty) → (footprint w (ops.TypeTest test ty)).written ≡ 0
  none-test tests.Cast ty = refl
  none-test tests.InstanceOf ty = refl

-- a branch that is not taken falls through
branch-falls : (b : Branch) (stack : List Cell) → is_taken tagged b stack ≡ false → falls_from (ops.Branch b) ≡ true
branch-falls branches.Always stack e = absurd (cc)
branch-falls (branches.Zero o) stack e = refl
branch-falls (branches.Null s) stack e = refl
branch-falls (branches.References s) stack e = refl
branch-falls (branches.Shorts o) stack e = refl

-- ---- worlds that differ in code alone

args-same-by :
    (o p : Option MethodRec) → option_map apart_from_code o ≡ option_map apart_from_code p
    → of_method 0 (λ m. length m.sig.args) p ≡ of_method 0 (λ m. length m.sig.args) o
args-same-by None None e = refl
args-same-by None (Some m) e = absurd (cc)
args-same-by (Some m) None e = absurd (cc)
args-same-by (Some m) (Some n) e = grind (arith)

module _
    (v : Linked) (world : IsWorld v) (infos : List (List ℕ)) (methods : List MethodRec) (indexes : List (Option (List ℕ)))
    (same : (n : ℕ) → option_map apart_from_code (slice_get v.methods n) ≡ option_map apart_from_code (slice_get methods n)) where
  abbrev pub other : Linked
  other =
      record {
        infos = infos;
        pools = v.pools;
        classes = v.classes;
        methods = methods;
        statics = v.statics;
        arrays = v.arrays;
        indexes = indexes;
      }

  pub method_of : (n : ℕ) (r : MethodRec) → slice_get v.methods n ≡ Some r → IsMethod v.infos v.pools v.classes r
  method_of n r e = All-slice_get (IsMethod v.infos v.pools v.classes) v.methods n r world.methods e

  -- the states before the step, where the instructions are i and j, and the operations a and b
  module _
      (f : ℕ → ℕ) (one_to_one : IsOneToOne f)
      (frame : Frame Cell) (below : List (Frame Cell)) (heap : List (Object Cell)) (statics : List Cell)
      (method place : ℕ) (registers : List Cell) (under : List (Frame Cell))
      (depth : length under ≡ length below)
      (heap_stays : map (map_object (renamed_cell f)) heap ≡ heap)
      (statics_stay : map (renamed_cell f) statics ≡ statics)
      (targets others : List ℤ) where
    abbrev pub pair : Operation → Operation → Pair
    pair a b =
        record {
          rename = f;
          frame = frame;
          below = below;
          heap = heap;
          statics = statics;
          method = method;
          place = place;
          registers = registers;
          under = under;
          depth = depth;
          heap_stays = heap_stays;
          statics_stay = statics_stay;
          print = footprint v a;
          other_print = footprint v b;
          falls = falls_from b;
          targets = targets;
          other_targets = others;
        }

    -- what each object is
    abbrev pub objects : List ObjectKind
    objects = map (λ (o : Object Cell). o.kind) heap

    abbrev pub types : Types
    types = types_of_frame v.classes Bottom objects frame

    -- what is known of the two instructions
    pub record Known (i j : Placed) (a b : Operation) : Type 0 where
      pub asked : SatisfiesAll v.classes types (demands v a)
      pub named : registers_asked (demands v b) ≤ length registers
      pub read :
          map (slice_get registers) (registers_read (demands v b)) ≡ map (slice_get frame.registers) (registers_read (demands v a))
      pub keys :
          HaveKeys a (map (λ (c : Case). c.key) (cases (code_at v frame.method) frame.place i.insn))
          (map (λ (c : Case). c.key) (cases (code_at other method) place j.insn))
      pub ways_are : jumps_from a ≡ true → targets ≡ ways frame.place i.insn.x (cases (code_at v frame.method) frame.place i.insn)
      pub leads_are : jumps_from b ≡ true → others ≡ ways place j.insn.x (cases (code_at other method) place j.insn)

    -- ---- registers that are read

    stays-in :
        (a b : Operation) (n : ℕ) (ty : Ty) → IsNotFresh ty → IsNotTop ty
        → IsSomeAnd (slice_get types.regs n) (Meets v.classes (Value ty)) → RegisterStays (pair a b) n
    stays-in a b n ty fresh top h =
        value-stays f v.classes world.chains objects (nth tagged frame.registers n) ty fresh top
        (cell-at v.classes Bottom objects frame.registers n (Meets v.classes (Value ty)) h).holds

    same-in : (a b : Operation) (n k : ℕ) → slice_get registers k ≡ slice_get frame.registers n → RegisterSame (pair a b) n k
    same-in a b n k e = register-same frame.registers registers n k e

    one-of :
        (n k : ℕ) → map (slice_get registers) (k ∷ []) ≡ map (slice_get frame.registers) (n ∷ []) → slice_get registers k
        ≡ slice_get frame.registers n
    one-of n k e = cc

    first-of :
        (n k p q : ℕ) → map (slice_get registers) (k ∷ p ∷ []) ≡ map (slice_get frame.registers) (n ∷ q ∷ [])
        → slice_get registers k ≡ slice_get frame.registers n
    first-of n k p q e = cc

    second-of :
        (n k p q : ℕ) → map (slice_get registers) (k ∷ p ∷ []) ≡ map (slice_get frame.registers) (n ∷ q ∷ [])
        → slice_get registers p ≡ slice_get frame.registers q
    second-of n k p q e = cc

    -- ---- registers that are written

    counted : (n : ℕ) → n ≤ length types.regs → n ≤ length frame.registers
    counted n le = subst (λ k. n ≤ k) (length-map frame.registers (least_type v.classes Bottom objects)) le

    -- ---- the value of a field

    value-of :
        (a b : Operation) (kind : Kind) (ty : Ty) → IsOfKind kind ty → IsDeclared v.classes ty
        → SatisfiesAll v.classes types (value_wanted ty) → ValueStays (pair a b) kind
    value-of a b fields.Byte ty of d h = tt
    value-of a b fields.Ref ty of d h =
        declared-stays (pair a b) v.classes world.chains 0 ty d
        (subst (SatisfiesAll v.classes types) (one-cell fields.Ref ty of refl).wanted h).0
    value-of a b fields.Short ty of d h =
        declared-stays (pair a b) v.classes world.chains 0 ty d
        (subst (SatisfiesAll v.classes types) (one-cell fields.Short ty of refl).wanted h).0
    value-of a b fields.Int ty of d h =
        let halves = subst (λ u. SatisfiesAll v.classes types (value_wanted u)) of h in (
          tested-stays (pair a b) v.classes world.chains 1 IntHigh tt tt halves.1.0,
          tested-stays (pair a b) v.classes world.chains 0 IntLow tt tt halves.0,
        )

    array-value-of :
        (a b : Operation) (kind : Kind) → SatisfiesAll v.classes types (demands v (ops.ArrayWrite kind)) → ValueStays (pair a b) kind
    array-value-of a b fields.Byte h = tt
    array-value-of a b fields.Ref h = tested-stays (pair a b) v.classes world.chains 0 (Class (object v.classes)) tt tt h.0
    array-value-of a b fields.Short h = tested-stays (pair a b) v.classes world.chains 0 Short tt tt h.0
    array-value-of a b fields.Int h = (
      tested-stays (pair a b) v.classes world.chains 1 IntHigh tt tt h.1.0,
      tested-stays (pair a b) v.classes world.chains 0 IntLow tt tt h.0,
    )

    -- a value of a field names no register
    value-reads : (ty : Ty) (ds : List Demand) → registers_read (value_wanted ty ++ ds) ≡ registers_read ds
    value-reads IntHigh ds = refl
    value-reads _ ds = refl

    -- the object of a field in register 0
    this-same :
        map (slice_get registers) (0 ∷ []) ≡ map (slice_get frame.registers) (0 ∷ []) → nth tagged registers 0
        ≡ nth tagged frame.registers 0
    this-same e = grind (arith, register-same)

    results-declared : (result : Option Ty) → IfSome result (IsResult v.classes) → IfSome result (IsDeclared v.classes)
    results-declared None h = h
    results-declared (Some ty) h = h.declared

    -- ---- operations on registers

    named-there :
        (op : Operation) → registers_asked (demands v op) ≤ length registers
        → AreInFrame (length registers) (cells_asked (demands v op)) (demands v op)
    named-there op named = (asked-is-there (length registers) (cells_asked (demands v op)) (demands v op)).there named (omega arith)

    loaded :
        (i j : Placed) (sort : Sort) (x y : ℕ) → Known i j (ops.Load sort x) (ops.Load sort y)
        → Does (pair (ops.Load sort x) (ops.Load sort y))
        (act tagged v i.insn (ops.Load sort x) (first (pair (ops.Load sort x) (ops.Load sort y))))
        (act tagged other j.insn (ops.Load sort y) (second (pair (ops.Load sort x) (ops.Load sort y))))
    loaded i j sort x y known =
        load-does (pair (ops.Load sort x) (ops.Load sort y)) (none-load v sort x) refl sort x y (go sort known) where
          go :
              (sort : Sort) → Known i j (ops.Load sort x) (ops.Load sort y)
              → LoadedFor (pair (ops.Load sort x) (ops.Load sort y)) sort x y
          go sorts.Reference k =
              let a = ops.Load sorts.Reference x in
              let b = ops.Load sorts.Reference y in
              let e : slice_get registers y ≡ slice_get frame.registers x = one-of x y k.read in
              record { same = same-in a b x y e; stays = stays-in a b x (Class (object v.classes)) tt tt k.asked.1.0 }
          go sorts.Short k =
              let a = ops.Load sorts.Short x in
              let b = ops.Load sorts.Short y in
              let e : slice_get registers y ≡ slice_get frame.registers x = one-of x y k.read in
              record { same = same-in a b x y e; stays = stays-in a b x Short tt tt k.asked.1.0 }
          go sorts.Int k =
              let a = ops.Load sorts.Int x in
              let b = ops.Load sorts.Int y in
              let e : slice_get registers y ≡ slice_get frame.registers x = first-of x y (y + 1) (x + 1) k.read in
              let g : slice_get registers (y + 1) ≡ slice_get frame.registers (x + 1) = second-of x y (y + 1) (x + 1) k.read in (
                record { same = same-in a b x y e; stays = stays-in a b x IntHigh tt tt k.asked.1.0 },
                record { same = same-in a b (x + 1) (y + 1) g; stays = stays-in a b (x + 1) IntLow tt tt k.asked.1.1.0 },
              )

    kept :
        (i j : Placed) (sort : Sort) (x y : ℕ) → Known i j (ops.Store sort x) (ops.Store sort y)
        → Does (pair (ops.Store sort x) (ops.Store sort y))
        (act tagged v i.insn (ops.Store sort x) (first (pair (ops.Store sort x) (ops.Store sort y))))
        (act tagged other j.insn (ops.Store sort y) (second (pair (ops.Store sort x) (ops.Store sort y))))
    kept i j sorts.Reference x y k =
        let a : Operation = ops.Store sorts.Reference x in
        let b : Operation = ops.Store sorts.Reference y in
        store-does (pair a b) refl sorts.Reference x y
        (record {
          here = counted (x + 1) k.asked.0;
          there = (named-there b k.named).0;
          print =
              record { register = refl; written = refl };
          other = record { register = refl; written = refl };
        })
        (tested-stays (pair a b) v.classes world.chains 0 (Class (object v.classes)) tt tt k.asked.1.0)
    kept i j sorts.Short x y k =
        let a : Operation = ops.Store sorts.Short x in
        let b : Operation = ops.Store sorts.Short y in
        store-does (pair a b) refl sorts.Short x y
        (record {
          here = counted (x + 1) k.asked.0;
          there = (named-there b k.named).0;
          print =
              record { register = refl; written = refl };
          other = record { register = refl; written = refl };
        })
        (tested-stays (pair a b) v.classes world.chains 0 Short tt tt k.asked.1.0)
    kept i j sorts.Int x y k =
        let a : Operation = ops.Store sorts.Int x in
        let b : Operation = ops.Store sorts.Int y in
        store-does (pair a b) refl sorts.Int x y
        (record {
          here = counted (x + 2) k.asked.0;
          there = (named-there b k.named).0;
          print =
              record { register = refl; written = refl };
          other = record { register = refl; written = refl };
        }) (
          tested-stays (pair a b) v.classes world.chains 1 IntHigh tt tt k.asked.1.1.0,
          tested-stays (pair a b) v.classes world.chains 0 IntLow tt tt k.asked.1.0,
        )

    counts :
        (i j : Placed) (width : Width) (x y : ℕ) (amount : ℤ)
        → Known i j (ops.Increment width x amount) (ops.Increment width y amount)
        → Does (pair (ops.Increment width x amount) (ops.Increment width y amount))
        (act tagged v i.insn (ops.Increment width x amount)
        (first (pair (ops.Increment width x amount) (ops.Increment width y amount))))
        (act tagged other j.insn (ops.Increment width y amount)
        (second (pair (ops.Increment width x amount) (ops.Increment width y amount))))
    counts i j widths.Short x y amount k =
        let a : Operation = ops.Increment widths.Short x amount in
        let b : Operation = ops.Increment widths.Short y amount in
        increment-does (pair a b) refl widths.Short x y amount
        (record {
          here = counted (x + 1) k.asked.0;
          there = (named-there b k.named).0;
          print =
              record { register = refl; written = refl };
          other = record { register = refl; written = refl };
        })
        (same-in a b x y (one-of x y k.read))
    counts i j widths.Int x y amount k =
        let a : Operation = ops.Increment widths.Int x amount in
        let b : Operation = ops.Increment widths.Int y amount in
        increment-does (pair a b) refl widths.Int x y amount
        (record {
          here = counted (x + 2) k.asked.0;
          there = (named-there b k.named).0;
          print =
              record { register = refl; written = refl };
          other = record { register = refl; written = refl };
        })
        (same-in a b x y (first-of x y (y + 1) (x + 1) k.read), same-in a b (x + 1) (y + 1) (second-of x y (y + 1) (x + 1) k.read))

    -- ---- by the operation

    same-does :
        (i j : Placed) (m : MethodRec) (at : ℕ) (op : Operation) → IsNoNew op → IsSound v m at op → Known i j op op
        → Does (pair op op) (act tagged v i.insn op (first (pair op op))) (act tagged other j.insn op (second (pair op op)))
    same-does i j m at (ops.Constant c) n sound known =
        constant-does (pair (ops.Constant c) (ops.Constant c)) (none-constant v c) refl c
    same-does i j m at (ops.Load sort x) n sound known = loaded i j sort x x known
    same-does i j m at (ops.Store sort x) n sound known = kept i j sort x x known
    same-does i j m at (ops.Increment width x amount) n sound known = counts i j width x x amount known
    same-does i j m at (ops.Move move) n sound known = move-does (pair (ops.Move move) (ops.Move move)) (none-move v move) refl move
    same-does i j m at (ops.Arithmetic a) n sound known =
        arithmetic-does (pair (ops.Arithmetic a) (ops.Arithmetic a)) (none-arithmetic v a) refl a
    same-does i j m at (ops.ArrayRead kind) n sound known =
        array-read-does (pair (ops.ArrayRead kind) (ops.ArrayRead kind)) (none-read v kind) refl kind
    same-does i j m at (ops.ArrayWrite kind) n sound known =
        array-write-does (pair (ops.ArrayWrite kind) (ops.ArrayWrite kind)) (none-write v kind) refl v.classes kind
        (array-value-of (ops.ArrayWrite kind) (ops.ArrayWrite kind) kind known.asked)
    same-does i j m at ops.ArrayLength n sound known = array-length-does (pair ops.ArrayLength ops.ArrayLength) refl refl
    same-does i j m at (ops.Branch b) n sound known =
        branch-does (pair (ops.Branch b) (ops.Branch b)) i.insn j.insn b (none-branch v b) (branch-falls b frame.stack)
        (ap (λ (ts : List ℤ). slice_get ts 0) (known.ways_are refl)) (ap (λ (ts : List ℤ). slice_get ts 0) (known.leads_are refl))
    same-does i j m at (ops.Switch width) n sound known =
        switch-does (pair (ops.Switch width) (ops.Switch width)) (code_at v frame.method) (code_at other method) i.insn j.insn width
        refl known.keys
        (known.ways_are refl) (known.leads_are refl)
    same-does i j m at (ops.StaticRead fd) n sound known =
        static-read-does (pair (ops.StaticRead fd) (ops.StaticRead fd)) refl refl fd
    same-does i j m at (ops.StaticWrite fd) n sound known =
        static-write-does (pair (ops.StaticWrite fd) (ops.StaticWrite fd)) refl refl fd
        (value-of (ops.StaticWrite fd) (ops.StaticWrite fd) fd.kind fd.ty sound.kind sound.ty known.asked)
    same-does i j m at (ops.FieldRead fd holders.Stack) n sound known =
        field-read-does (pair (ops.FieldRead fd holders.Stack) (ops.FieldRead fd holders.Stack)) refl refl fd holders.Stack tt
    same-does i j m at (ops.FieldRead fd holders.This) n sound known =
        field-read-does (pair (ops.FieldRead fd holders.This) (ops.FieldRead fd holders.This)) refl refl fd holders.This
        (this-same known.read)
    same-does i j m at (ops.FieldWrite fd holders.Stack) n sound known =
        let op : Operation = ops.FieldWrite fd holders.Stack in
        field-write-does (pair op op) refl refl fd holders.Stack tt
        (value-of op op fd.kind fd.ty sound.cells.kind sound.ty
        (all-split v.classes types (value_wanted fd.ty) (ACell (value_size fd.ty) (Value (Class fd.class)) ∷ []) known.asked).0)
    same-does i j m at (ops.FieldWrite fd holders.This) n sound known =
        let op : Operation = ops.FieldWrite fd holders.This in
        let reads : registers_read (demands v op) ≡ 0 ∷ [] = value-reads fd.ty (Held 0 (Class fd.class) ∷ []) in
        field-write-does (pair op op) refl refl fd holders.This
        (this-same (subst (λ xs. map (slice_get registers) xs ≡ map (slice_get frame.registers) xs) reads known.read))
        (value-of op op fd.kind fd.ty sound.cells.kind sound.ty
        (all-split v.classes types (value_wanted fd.ty) (Held 0 (Class fd.class) ∷ []) known.asked.1).0)
    same-does i j m at (ops.Call callee) n sound known =
        let x = pair (ops.Call callee) (ops.Call callee) in
        let count : args_of v callee.method
        ≡ length sound.rec.sig.args = ap (of_method 0 (λ (r : MethodRec). length r.sig.args)) sound.is_method in
        let also : args_of other callee.method ≡ length sound.rec.sig.args =
        args-same-by (slice_get v.methods callee.method) (slice_get methods callee.method) (same callee.method) ∙ count in
        subst (λ k. Does x (chosen_act tagged v.classes callee k callee.choice (first x))
        (chosen_act tagged v.classes callee (args_of other callee.method) callee.choice (second x))) (sym count)
        (subst (λ k. Does x (chosen_act tagged v.classes callee (length sound.rec.sig.args) callee.choice (first x))
        (chosen_act tagged v.classes callee k callee.choice (second x))) (sym also)
        (asked-does x v.classes world.chains types.regs refl one_to_one v callee sound.rec sound.chosen
        (method_of callee.method sound.rec sound.is_method).arguments
        (subst (λ o. SatisfiesAll v.classes types (call_demands (args_at o) callee.receiver)) sound.is_method known.asked)))
    same-does i j m at (ops.New p class) n sound known = absurd n
    same-does i j m at (ops.NewArray ty) n sound known = new-array-does (pair (ops.NewArray ty) (ops.NewArray ty)) refl refl ty
    same-does i j m at ops.Throw n sound known = throw-does (pair ops.Throw ops.Throw)
    same-does i j m at (ops.TypeTest test ty) n sound known =
        type-test-does (pair (ops.TypeTest test ty) (ops.TypeTest test ty)) (none-test v test ty) refl v.classes test ty
    same-does i j m at (ops.Return result) n sound known =
        return-does (pair (ops.Return result) (ops.Return result)) v.classes world.chains types.regs result
        (results-declared result sound.1) known.asked

    pub does :
        (i j : Placed) (m : MethodRec) (at : ℕ) (a b : Operation) → View f a b → IsSound v m at a → Known i j a b
        → Does (pair a b) (act tagged v i.insn a (first (pair a b))) (act tagged other j.insn b (second (pair a b)))
    does i j m at _ _ (same_op op n) sound known = same-does i j m at op n sound known
    does i j m at _ _ (new_ops p class) sound known =
        new-does (pair (ops.New p class) (ops.New (f p) class)) refl refl v.classes p class
    does i j m at _ _ (load_ops sort x y) sound known = loaded i j sort x y known
    does i j m at _ _ (store_ops sort x y) sound known = kept i j sort x y known
    does i j m at _ _ (increment_ops width x y amount) sound known = counts i j width x y amount known
