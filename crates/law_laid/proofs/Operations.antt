-- An operation that applies to a frame applies where the places of uninitialised objects are renamed one to one, that of its own `new`
-- too.
use Rattle.std.proofs.Common.{◌≡◌, ℕ, suc, ◌+◌, true, List, [], ◌∷◌, ◌++◌, length, map, reverse, Option, Some, None, IfSome, slice_get}
use Rattle.std.proofs.Common.{All, refl, sym, ◌∙◌, ap, subst, arith}
use Rattle.std.specs.Prelude.{◌&&◌}
use Rattle.std.specs.List.{list_all}
use Rattle.std.proofs.lemmas.List.{map-set, length-map}
use Rattle.std.proofs.lemmas.List.Folds.{list_all-append}
use Rattle.std.proofs.Math.ListN.{get_or-map}
use Rattle.jc_base.proofs.Lists.{All-reverse, All-slice_get}
use Rattle.jc_base.specs.declared.ty.Ty.{Ty}
use Rattle.jc_base.specs.declared.ty.Ty.TheVariants.{IntHigh, IntLow, Class, Top}
use Rattle.jc_base.specs.declared.ty.Kind.TheVariants as kinds
use Rattle.jc_base.specs.declared.record.MethodRec.{MethodRec}
use Rattle.jc_base.specs.Cell.{IsDeclared}
use Rattle.jc_base.specs.Class.{ClassTable}
use Rattle.jc_base.specs.Linked.{IsMethod}
use Rattle.jc_base.specs.Order.{IsArray, of_booleans, of_bytes, of_shorts, of_ints, of_references}
use Rattle.jc_base.specs.World.{Linked, IsWorld}
use Rattle.jc_ops.specs.declared.operation.Sort.TheVariants as sorts
use Rattle.jc_ops.specs.declared.operation.Width.TheVariants as widths
use Rattle.jc_ops.specs.declared.operation.Constant.TheVariants as constants
use Rattle.jc_ops.specs.declared.operation.Move.TheVariants as moves
use Rattle.jc_ops.specs.declared.operation.Arithmetic.TheVariants as arithmetic
use Rattle.jc_ops.specs.declared.operation.Branch.TheVariants as branches
use Rattle.jc_ops.specs.declared.operation.Callee.{Callee}
use Rattle.jc_ops.specs.declared.operation.Choice.{Choice}
use Rattle.jc_ops.specs.declared.operation.Choice.TheVariants as choices
use Rattle.jc_ops.specs.declared.operation.Holder.TheVariants as holders
use Rattle.jc_ops.specs.declared.operation.TypeTest.TheVariants as tests
use Rattle.jc_ops.specs.declared.operation.Operation.{Operation}
use Rattle.jc_ops.specs.declared.operation.Operation.TheVariants as ops
use Rattle.jc_ops.specs.declared.operation.Want.{Want}
use Rattle.jc_ops.specs.declared.operation.Want.TheVariants.{Value, Receiver}
use Rattle.jc_ops.specs.Next.{falls_from, ends_at}
use Rattle.jc_ops.specs.Sound.{IsReceiverOf, IsChosen, IsCalleeOf, IsNamedType, IsSound}
use Rattle.jc_rules.specs.declared.demand.Demand.{Demand}
use Rattle.jc_rules.specs.declared.effect.Cells.{Cells}
use Rattle.jc_rules.specs.declared.effect.Cells.TheVariants as given
use Rattle.jc_rules.specs.declared.effect.Mode.TheVariants.{Flow}
use Rattle.jc_rules.specs.declared.rule.Outcome.{Outcome}
use Rattle.jc_rules.specs.Effect.{changed, WritesRegister, WritesCells, StoresInRegisters}
use Rattle.jc_rules.specs.Demand.{Frame, SatisfiesAll}
use Rattle.jc_rules.specs.Rule.{cell, or_null, element, value_given, value_wanted, cells_wanted, receiver_wanted, call_demands, result_given}
use Rattle.jc_rules.specs.Rule.{ready_with, call_effect, args_at, seen, demands, effect, wrote}
use Rattle.jc_rules.specs.Apply.{OperationApplies}
use Rattle.law_laid.specs.Laid.{renamed}
use Rattle.law_laid.proofs.Renaming.{is_ready, ready_demand, are_ready, frame_renamed, given_renamed, effect_renamed, change_renamed, ready-stays, all-renamed}
use Rattle.law_laid.proofs.Renaming.{changed-renamed}

-- ---- what is asked names no uninitialised object

declared-ready : (t : ClassTable) (ty : Ty) → IsDeclared t ty → is_ready ty ≡ true
declared-ready t x h = grind (arith)

named-ready : (t : ClassTable) (ty : Ty) → IsNamedType t ty → is_ready ty ≡ true
named-ready t x h = grind (arith)

array-ready : (ty : Ty) → IsArray ty → is_ready ty ≡ true
array-ready _ of_booleans = refl
array-ready _ of_bytes = refl
array-ready _ of_shorts = refl
array-ready _ of_ints = refl
array-ready _ of_references = refl

seen-ready : (t : ClassTable) (ty : Ty) → is_ready ty ≡ true → is_ready (seen t ty) ≡ true
seen-ready t x r = grind (arith)

value-ready : (ty : Ty) → is_ready ty ≡ true → are_ready (value_wanted ty) ≡ true
value-ready x r = grind (arith)

both-ready : (ds es : List Demand) → are_ready ds ≡ true → are_ready es ≡ true → are_ready (ds ++ es) ≡ true
both-ready ds es a b = list_all-append ready_demand ds es ∙ ap (λ x. x && list_all ready_demand es) a ∙ b

cells-ready : (t : ClassTable) (n : ℕ) (tys : List Ty) → All (IsDeclared t) tys → are_ready (cells_wanted n tys) ≡ true
cells-ready t n [] all = refl
cells-ready t n (ty ∷ tys) all =
    ap (λ x. x && are_ready (cells_wanted (n + 1) tys)) (declared-ready t ty (all 0 ty (omega arith)))
    ∙ cells-ready t (n + 1) tys (λ k d lt. all (suc k) d (omega (arith, lt)))

module _ (w : Linked) where
  receiver-ready : (m : MethodRec) (n k : ℕ) (receiver : Option Want) (choice : Choice) → IsChosen w k m receiver choice
      → are_ready (receiver_wanted n receiver) ≡ true
  receiver-ready m n k receiver (choices.Virtual c token) h = ap (λ r. are_ready (receiver_wanted n r)) h.receiver_is
  receiver-ready m n k receiver choices.Static h = ap (λ r. are_ready (receiver_wanted n r)) h.receiver_is
  receiver-ready m n k receiver (choices.Interface c token words) h = ap (λ r. are_ready (receiver_wanted n r)) h.receiver_is
  receiver-ready m n k receiver choices.Special h = by receiver h.receives
    where
      by : (o : Option Want) → IsReceiverOf w m o → are_ready (receiver_wanted n o) ≡ true
      by (Some (Receiver c)) h = refl
      by (Some (Value (Class c))) h = refl
      by _ h = absurd h

  module _ (is : IsWorld w) where
    method_of : (n : ℕ) (r : MethodRec) → slice_get w.methods n ≡ Some r → IsMethod w.infos w.pools w.classes r
    method_of n r e = All-slice_get (IsMethod w.infos w.pools w.classes) w.methods n r is.methods e

    call-ready : (c : Callee) → IsCalleeOf w c → are_ready (call_demands (args_at (slice_get w.methods c.method)) c.receiver) ≡ true
    call-ready c h =
        subst (λ o. are_ready (call_demands (args_at o) c.receiver) ≡ true) (sym h.is_method)
        (both-ready (cells_wanted 0 (reverse h.rec.sig.args)) (receiver_wanted (length h.rec.sig.args) c.receiver)
        (cells-ready w.classes 0 (reverse h.rec.sig.args) (All-reverse (IsDeclared w.classes) h.rec.sig.args (method_of c.method h.rec h.is_method).arguments))
        (receiver-ready h.rec (length h.rec.sig.args) c.method c.receiver c.choice h.chosen))

    pub demands-ready : (m : MethodRec) (place : ℕ) (op : Operation) → IsSound w m place op → are_ready (demands w op) ≡ true
    demands-ready m place x h = grind (arith, value-ready, declared-ready, both-ready, call-ready)

-- ---- what is done, with renamed places

-- the operation where the places of objects are renamed
abbrev pub operation_renamed : (ℕ → ℕ) → Operation → Operation
operation_renamed f (ops.New p c) = ops.New (f p) c
operation_renamed f op = op

module _ (f : ℕ → ℕ) where
  given-stays : (ty : Ty) → is_ready ty ≡ true → given_renamed f (value_given ty) ≡ value_given ty
  given-stays x r = grind (arith)

  null-alike : (ty : Ty) → or_null (renamed f ty) ≡ renamed f (or_null ty)
  null-alike x = grind (arith)

  element-alike : (ty : Ty) → element (renamed f ty) ≡ renamed f (element ty)
  element-alike x = grind (arith)

  cell-alike : (xs : List Ty) (n : ℕ) → cell (map (renamed f) xs) n ≡ renamed f (cell xs n)
  cell-alike xs n = get_or-map (renamed f) xs n Top

  ready-with-alike : (taken : ℕ) (cells : Cells) (ty : Ty) (want : Want) → given_renamed f cells ≡ cells
      → ready_with taken cells (renamed f ty) want ≡ change_renamed f (ready_with taken cells ty want)
  ready-with-alike taken cells x x2 e = grind (arith)

  call-alike : (args : List Ty) (result : Option Ty) (receiver : Option Want) (g : Frame) → given_renamed f (result_given result) ≡ result_given result
      → call_effect args result receiver (frame_renamed f g) ≡ effect_renamed f (call_effect args result receiver g)
  call-alike args result x g e = grind (arith, length, cell-alike, ready-with-alike)

  result-stays : (t : ClassTable) (result : Option Ty) → IfSome result (IsDeclared t) → given_renamed f (result_given result) ≡ result_given result
  result-stays t x h = grind (arith, given-stays, declared-ready)

  module _ (w : Linked) (is : IsWorld w) where
    effect-alike : (m : MethodRec) (place : ℕ) (op : Operation) (g : Frame) → IsSound w m place op
        → effect w (operation_renamed f op) (frame_renamed f g) ≡ effect_renamed f (effect w op g)
    effect-alike m place (ops.Constant constants.Nothing) g h = refl
    effect-alike m place (ops.Constant constants.Null) g h = refl
    effect-alike m place (ops.Constant (constants.Short n)) g h = refl
    effect-alike m place (ops.Constant (constants.Int n)) g h = refl
    effect-alike m place (ops.Load sorts.Reference x) g h = grind (arith, cell-alike, null-alike)
    effect-alike m place (ops.Load sorts.Short x) g h = refl
    effect-alike m place (ops.Load sorts.Int x) g h = refl
    effect-alike m place (ops.Store sorts.Reference x) g h = grind (arith, cell-alike)
    effect-alike m place (ops.Store sorts.Short x) g h = refl
    effect-alike m place (ops.Store sorts.Int x) g h = refl
    effect-alike m place (ops.Increment widths.Short x amount) g h = refl
    effect-alike m place (ops.Increment widths.Int x amount) g h = refl
    effect-alike m place (ops.Move moves.Pop) g h = refl
    effect-alike m place (ops.Move moves.PopTwo) g h = refl
    effect-alike m place (ops.Move moves.Duplicate) g h = refl
    effect-alike m place (ops.Move moves.DuplicateTwo) g h = refl
    effect-alike m place (ops.Move (moves.CopyUnder copied under)) g h = refl
    effect-alike m place (ops.Move (moves.Exchange top under)) g h = refl
    effect-alike m place (ops.Arithmetic (arithmetic.Binary o widths.Short)) g h = refl
    effect-alike m place (ops.Arithmetic (arithmetic.Binary o widths.Int)) g h = refl
    effect-alike m place (ops.Arithmetic (arithmetic.Negate widths.Short)) g h = refl
    effect-alike m place (ops.Arithmetic (arithmetic.Negate widths.Int)) g h = refl
    effect-alike m place (ops.Arithmetic arithmetic.ShortToByte) g h = refl
    effect-alike m place (ops.Arithmetic arithmetic.ShortToInt) g h = refl
    effect-alike m place (ops.Arithmetic arithmetic.IntToByte) g h = refl
    effect-alike m place (ops.Arithmetic arithmetic.IntToShort) g h = refl
    effect-alike m place (ops.Arithmetic arithmetic.CompareInts) g h = refl
    effect-alike m place (ops.ArrayRead kinds.Ref) g h = grind (arith, cell-alike, element-alike)
    effect-alike m place (ops.ArrayRead kinds.Byte) g h = refl
    effect-alike m place (ops.ArrayRead kinds.Short) g h = refl
    effect-alike m place (ops.ArrayRead kinds.Int) g h = refl
    effect-alike m place (ops.ArrayWrite kinds.Ref) g h = refl
    effect-alike m place (ops.ArrayWrite kinds.Byte) g h = refl
    effect-alike m place (ops.ArrayWrite kinds.Short) g h = refl
    effect-alike m place (ops.ArrayWrite kinds.Int) g h = refl
    effect-alike m place ops.ArrayLength g h = refl
    effect-alike m place (ops.Branch branches.Always) g h = refl
    effect-alike m place (ops.Branch (branches.Zero o)) g h = refl
    effect-alike m place (ops.Branch (branches.Null e)) g h = refl
    effect-alike m place (ops.Branch (branches.References e)) g h = refl
    effect-alike m place (ops.Branch (branches.Shorts o)) g h = refl
    effect-alike m place (ops.Switch widths.Short) g h = refl
    effect-alike m place (ops.Switch widths.Int) g h = refl
    effect-alike m place (ops.StaticRead field) g h = grind (arith, given-stays, declared-ready)
    effect-alike m place (ops.StaticWrite field) g h = refl
    effect-alike m place (ops.FieldRead field holders.Stack) g h = grind (arith, given-stays, declared-ready)
    effect-alike m place (ops.FieldRead field holders.This) g h = grind (arith, given-stays, declared-ready)
    effect-alike m place (ops.FieldWrite field holders.Stack) g h = refl
    effect-alike m place (ops.FieldWrite field holders.This) g h = refl
    effect-alike m place (ops.Call c) g h = grind (arith, call-alike, result-stays, method_of)
    effect-alike m place (ops.New p c) g h = refl
    effect-alike m place (ops.NewArray ty) g h = grind (arith, ready-stays, seen-ready, array-ready)
    effect-alike m place ops.Throw g h = refl
    effect-alike m place (ops.TypeTest tests.Cast ty) g h = grind (arith, ready-stays, seen-ready, named-ready)
    effect-alike m place (ops.TypeTest tests.InstanceOf ty) g h = refl
    effect-alike m place (ops.Return None) g h = refl
    effect-alike m place (ops.Return (Some ty)) g h = refl

    demands-alike : (op : Operation) → demands w (operation_renamed f op) ≡ demands w op
    demands-alike x = grind (arith)

    falls-alike : (op : Operation) → falls_from (operation_renamed f op) ≡ falls_from op
    falls-alike x = grind (arith)

    ends-alike : (op : Operation) → ends_at (operation_renamed f op) ≡ ends_at op
    ends-alike x = grind (arith)

    wrote-alike : (x : ℕ) (cells : Cells) → wrote x (given_renamed f cells) ≡ wrote x cells
    wrote-alike x x2 = grind (arith)

    -- ---- stores

    writes-renamed : (t : ClassTable) (x : ℕ) (ty : Ty) (before after : List Ty) → WritesRegister t Flow x ty before after
        → WritesRegister t Flow x (renamed f ty) (map (renamed f) before) (map (renamed f) after)
    writes-renamed t x ty before after h = grind (arith, map, map-set)

    stores-renamed : (t : ClassTable) (x : ℕ) (cells : Cells) (before after : List Ty) → WritesCells t Flow x cells before after
        → WritesCells t Flow x (given_renamed f cells) (map (renamed f) before) (map (renamed f) after)
    stores-renamed t x given.Nothing before after h = ap (map (renamed f)) h
    stores-renamed t x (given.One ty) before after h = writes-renamed t x ty before after h
    stores-renamed t x given.Int before after h = record {
      between = map (renamed f) h.between;
      high = writes-renamed t x IntHigh before h.between h.high;
      low = writes-renamed t (x + 1) IntLow h.between after h.low;
    }

    pub operation-renamed :
        (one : (n k : ℕ) → f n ≡ f k → n ≡ k) (m : MethodRec) (place limit : ℕ) (op : Operation) (before after : Frame) (o : Outcome)
        → IsSound w m place op
        → OperationApplies w limit op Flow before after o
        → OperationApplies w limit (operation_renamed f op) Flow (frame_renamed f before) (frame_renamed f after) o
    operation-renamed one m place limit op before after o sound h =
        let e = effect-alike m place op before sound in
        record {
          asked =
              subst (SatisfiesAll w.classes (frame_renamed f before)) (sym (demands-alike op))
              (all-renamed f w.classes before (demands w op) (demands-ready w is m place op sound) h.asked);
          regs =
              subst (λ x. StoresInRegisters w.classes Flow x.store (map (renamed f) before.regs) (map (renamed f) after.regs)) (sym e)
              (stores-renamed w.classes (effect w op before).store.register (effect w op before).store.cells before.regs after.regs h.regs);
          stack =
              ap (map (renamed f)) h.stack ∙ sym (changed-renamed f one (effect w op before).change before.stack)
              ∙ ap (λ x. changed x.change (map (renamed f) before.stack)) (sym e);
          room = omega (arith, h.room, length-map after.stack (renamed f));
          falls = h.falls ∙ sym (falls-alike op);
          ends = h.ends ∙ sym (ends-alike op);
          depth = h.depth ∙ sym (length-map after.stack (renamed f));
          wrote_is =
              h.wrote_is ∙ sym (wrote-alike (effect w op before).store.register (effect w op before).store.cells)
              ∙ ap (λ x. wrote x.store.register x.store.cells) (sym e);
          rose_is = h.rose_is;
        }
