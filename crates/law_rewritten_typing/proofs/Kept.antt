-- An instruction that is kept does in rewritten code what it does in the method, but for the places of uninitialised objects.
use Rattle.std.proofs.Common.{◌≡◌, ℕ, suc, ◌+◌, List, [], ◌∷◌, ◌++◌, map, reverse, slice_get, All, Option, Some, None, IfSome}
use Rattle.std.proofs.Common.{refl, sym, ◌∙◌, ap, subst, arith}
use Rattle.std.specs.Prelude.{⊤}
use Rattle.std.proofs.lemmas.List.{length-map}
use Rattle.jc_base.proofs.Lists.{All-slice_get, All-reverse}
use Rattle.jc_base.specs.Each.{Each}
use Rattle.jc_base.specs.declared.ty.Ty.{Ty}
use Rattle.jc_base.specs.declared.ty.Ty.TheVariants.{Short, Null}
use Rattle.jc_base.specs.declared.ty.Kind.TheVariants as kinds
use Rattle.jc_base.specs.declared.record.MethodRec.{MethodRec}
use Rattle.jc_base.specs.Cell.{IsDeclared}
use Rattle.jc_base.specs.Linked.{IsMethod}
use Rattle.jc_base.specs.World.{Linked}
use Rattle.jc_ops.specs.declared.operation.Want.{Want}
use Rattle.jc_ops.specs.declared.operation.Choice.{Choice}
use Rattle.jc_ops.specs.declared.operation.Arithmetic.TheVariants as arithmetic
use Rattle.jc_ops.specs.declared.operation.Branch.TheVariants as branches
use Rattle.jc_ops.specs.declared.operation.Holder.TheVariants as holders
use Rattle.jc_ops.specs.declared.operation.Move.TheVariants as moves
use Rattle.jc_ops.specs.declared.operation.Operation.{Operation}
use Rattle.jc_ops.specs.declared.operation.Operation.TheVariants as ops
use Rattle.jc_ops.specs.declared.operation.TypeTest.TheVariants as tests
use Rattle.jc_ops.specs.declared.operation.Width.TheVariants as widths
use Rattle.jc_ops.specs.declared.operation.Constant.TheVariants as constants
use Rattle.jc_ops.specs.Sound.{IsSound, IsChosen, IsReceiverOf, IsNamedType}
use Rattle.jc_rules.specs.declared.demand.Demand.{Demand}
use Rattle.jc_rules.specs.declared.effect.Cells.{Cells}
use Rattle.jc_rules.specs.declared.effect.Cells.TheVariants as given
use Rattle.jc_rules.specs.declared.effect.Mode.TheVariants.{Flow}
use Rattle.jc_rules.specs.declared.effect.RegisterStore.{RegisterStore}
use Rattle.jc_rules.specs.declared.rule.Outcome.{Outcome}
use Rattle.jc_rules.specs.Demand.{SatisfiesAll}
use Rattle.jc_rules.specs.Effect.{changed, in_stack_order, StoresInRegisters}
use Rattle.jc_rules.specs.Flow.{IsNotFresh}
use Rattle.jc_rules.specs.FlowLaws.{AreRules}
use Rattle.jc_rules.specs.Apply.{OperationApplies}
use Rattle.jc_rules.specs.Rule.{demands, effect, replacing, value_wanted, value_size, cells_wanted, receiver_wanted}
use Rattle.jc_rules.specs.Rule.{result_given, result_at, args_at, seen}
use Rattle.jc_rules.proofs.Types.{declared-not_fresh}
use Rattle.law_rewritten_typing.proofs.Moves.{applies-by}
use Rattle.law_rewritten_typing.proofs.Renames.{named, named_op, same-named, IsSteady}
use Rattle.law_rewritten_typing.proofs.Renames.{all-named, replaced, value-same, result-same, under-named}
use Rattle.law_rewritten_typing.proofs.Renames.{exchange-named, cell-named, element-same, element-ready, call-named}

-- names no register to load or store
abbrev pub IsKeptOperation : Operation → Type 0
IsKeptOperation (ops.Load letter x) = ⊥
IsKeptOperation (ops.Store letter x) = ⊥
IsKeptOperation (ops.Increment width x amount) = ⊥
IsKeptOperation op = ⊤

module _ (new : ℕ → ℕ) (apart : (a b : ℕ) → new a ≡ new b → a ≡ b) (w : Linked) (rules : AreRules w) where
  -- what it asks and does over a stack with other places
  pub record Renames (op : Operation) (regs st : List Ty) : Type 0 where
    pub asks : demands w (named_op new apart op) ≡ demands w op
    pub steady : Each (IsSteady new apart) (demands w op)
    pub store : (effect w (named_op new apart op) (record { regs = regs; stack = map (named new apart) st })).store
        ≡ (effect w op (record { regs = regs; stack = st })).store
    pub change :
        changed (effect w (named_op new apart op) (record { regs = regs; stack = map (named new apart) st })).change (map (named new apart) st)
        ≡ map (named new apart) (changed (effect w op (record { regs = regs; stack = st })).change st)

  each-steady : (ds es : List Demand) → Each (IsSteady new apart) ds → Each (IsSteady new apart) es → Each (IsSteady new apart) (ds ++ es)
  each-steady [] es a b = b
  each-steady (d ∷ ds) es a b = (a.0, each-steady ds es a.1 b)

  value-steady : (ty : Ty) → IsNotFresh ty → Each (IsSteady new apart) (value_wanted ty)
  value-steady ty h = grind (arith)

  cells-steady : (n : ℕ) (tys : List Ty) → All IsNotFresh tys → Each (IsSteady new apart) (cells_wanted n tys)
  cells-steady n [] h = tt
  cells-steady n (ty ∷ tys) h = (h 0 ty (omega arith), cells-steady (n + 1) tys (λ k d lt. h (suc k) d (omega (arith, lt))))

  named-type-ready : (ty : Ty) → IsNamedType w.classes ty → IsNotFresh (seen w.classes ty)
  named-type-ready x h = grind (arith)

  one-same : (ty : Ty) → IsNotFresh ty → in_stack_order (given.One ty) ≡ map (named new apart) (in_stack_order (given.One ty))
  one-same ty h = ap (λ (u : Ty). u ∷ []) (sym (same-named new apart ty h))

  method-at : (n : ℕ) (m : MethodRec) → slice_get w.methods n ≡ Some m → IsMethod w.infos w.pools w.classes m
  method-at n m e = All-slice_get (IsMethod w.infos w.pools w.classes) w.methods n m rules.world.methods e

  receiver-steady : (n : ℕ) (m : MethodRec) (receiver : Option Want) → IsReceiverOf w m receiver → Each (IsSteady new apart) (receiver_wanted n receiver)
  receiver-steady n m z h = grind (arith)

  chosen-steady : (k n : ℕ) (m : MethodRec) (receiver : Option Want) (choice : Choice) → IsChosen w n m receiver choice
      → Each (IsSteady new apart) (receiver_wanted k receiver)
  chosen-steady k n m receiver v h = grind (arith, receiver-steady)

  declared-some : (result : Option Ty) → IfSome result (IsDeclared w.classes) → IfSome result IsNotFresh
  declared-some x h = grind (arith, declared-not_fresh)

  -- what goes from the stack and what comes in its place
  by-replacing : (op : Operation) (regs st : List Ty) (n : ℕ) (cells : Cells)
      → demands w (named_op new apart op) ≡ demands w op
      → Each (IsSteady new apart) (demands w op)
      → in_stack_order cells ≡ map (named new apart) (in_stack_order cells)
      → (effect w (named_op new apart op) (record { regs = regs; stack = map (named new apart) st })) ≡ replacing n cells
      → (effect w op (record { regs = regs; stack = st })) ≡ replacing n cells
      → Renames op regs st
  by-replacing op regs st n cells d s same a b = record {
    asks = d;
    steady = s;
    store = ap (λ e. e.store) a ∙ ap (λ e. e.store) (sym b);
    change =
        ap (λ e. changed e.change (map (named new apart) st)) a
        ∙ replaced new apart n cells cells st same
        ∙ ap (λ e. map (named new apart) (changed e.change st)) (sym b);
  }

  pub renames : (m : MethodRec) (place : ℕ) (op : Operation) → IsSound w m place op → IfSome m.sig.result (IsDeclared w.classes)
      → IsKeptOperation op → (regs st : List Ty) → Renames op regs st
  renames m place (ops.Load letter x) sound res kept regs st = absurd kept
  renames m place (ops.Store letter x) sound res kept regs st = absurd kept
  renames m place (ops.Increment width x amount) sound res kept regs st = absurd kept
  renames m place (ops.Constant constants.Nothing) sound res kept regs st = grind (arith, by-replacing)
  renames m place (ops.Constant constants.Null) sound res kept regs st = grind (arith, by-replacing)
  renames m place (ops.Constant (constants.Short n)) sound res kept regs st = grind (arith, by-replacing)
  renames m place (ops.Constant (constants.Int n)) sound res kept regs st = grind (arith, by-replacing)
  renames m place (ops.Move moves.Pop) sound res kept regs st = by-replacing (ops.Move moves.Pop) regs st 1 given.Nothing refl (tt, tt) refl refl refl
  renames m place (ops.Move moves.PopTwo) sound res kept regs st = grind (arith, by-replacing)
  renames m place (ops.Move moves.Duplicate) sound res kept regs st = grind (arith, under-named)
  renames m place (ops.Move moves.DuplicateTwo) sound res kept regs st = grind (arith, under-named)
  renames m place (ops.Move (moves.CopyUnder a b)) sound res kept regs st = grind (arith, under-named new apart a b st)
  renames m place (ops.Move (moves.Exchange a b)) sound res kept regs st = grind (arith, exchange-named new apart a b st)
  renames m place (ops.Arithmetic (arithmetic.Binary o widths.Short)) sound res kept regs st = grind (arith, by-replacing)
  renames m place (ops.Arithmetic (arithmetic.Binary o widths.Int)) sound res kept regs st = grind (arith, by-replacing)
  renames m place (ops.Arithmetic (arithmetic.Negate widths.Short)) sound res kept regs st = grind (arith, by-replacing)
  renames m place (ops.Arithmetic (arithmetic.Negate widths.Int)) sound res kept regs st = grind (arith, by-replacing)
  renames m place (ops.Arithmetic arithmetic.ShortToByte) sound res kept regs st = grind (arith, by-replacing)
  renames m place (ops.Arithmetic arithmetic.ShortToInt) sound res kept regs st = grind (arith, by-replacing)
  renames m place (ops.Arithmetic arithmetic.IntToByte) sound res kept regs st = grind (arith, by-replacing)
  renames m place (ops.Arithmetic arithmetic.IntToShort) sound res kept regs st = grind (arith, by-replacing)
  renames m place (ops.Arithmetic arithmetic.CompareInts) sound res kept regs st = grind (arith, by-replacing)
  renames m place (ops.ArrayRead kinds.Ref) sound res kept regs st =
      grind (arith, cell-named, element-same, by-replacing, one-same, element-ready)
  renames m place (ops.ArrayRead kinds.Byte) sound res kept regs st = grind (arith, by-replacing)
  renames m place (ops.ArrayRead kinds.Short) sound res kept regs st = grind (arith, by-replacing)
  renames m place (ops.ArrayRead kinds.Int) sound res kept regs st = grind (arith, by-replacing)
  renames m place (ops.ArrayWrite kinds.Ref) sound res kept regs st = grind (arith, by-replacing)
  renames m place (ops.ArrayWrite kinds.Byte) sound res kept regs st = grind (arith, by-replacing)
  renames m place (ops.ArrayWrite kinds.Short) sound res kept regs st = grind (arith, by-replacing)
  renames m place (ops.ArrayWrite kinds.Int) sound res kept regs st = grind (arith, by-replacing)
  renames m place ops.ArrayLength sound res kept regs st = by-replacing ops.ArrayLength regs st 1 (given.One Short) refl (tt, tt) refl refl refl
  renames m place (ops.Branch branches.Always) sound res kept regs st = by-replacing (ops.Branch branches.Always) regs st 0 given.Nothing refl tt refl refl refl
  renames m place (ops.Branch (branches.Zero o)) sound res kept regs st = grind (arith, by-replacing)
  renames m place (ops.Branch (branches.Null o)) sound res kept regs st = grind (arith, by-replacing)
  renames m place (ops.Branch (branches.References o)) sound res kept regs st = grind (arith, by-replacing)
  renames m place (ops.Branch (branches.Shorts o)) sound res kept regs st = grind (arith, by-replacing)
  renames m place (ops.Switch widths.Short) sound res kept regs st = by-replacing (ops.Switch widths.Short) regs st 1 given.Nothing refl (tt, tt) refl refl refl
  renames m place (ops.Switch widths.Int) sound res kept regs st = grind (arith, by-replacing)
  renames m place (ops.StaticRead f) sound res kept regs st = grind (arith, by-replacing, value-same, declared-not_fresh)
  renames m place (ops.StaticWrite f) sound res kept regs st = grind (arith, by-replacing, value-steady, declared-not_fresh)
  renames m place (ops.FieldRead f holders.Stack) sound res kept regs st = grind (arith, by-replacing, value-same, declared-not_fresh)
  renames m place (ops.FieldRead f holders.This) sound res kept regs st = grind (arith, by-replacing, value-same, declared-not_fresh)
  renames m place (ops.FieldWrite f holders.Stack) sound res kept regs st =
      grind (arith, by-replacing, each-steady, value-steady, declared-not_fresh)
  renames m place (ops.FieldWrite f holders.This) sound res kept regs st =
      grind (arith, by-replacing, each-steady, value-steady, declared-not_fresh)
  renames m place (ops.Call c) sound res kept regs st =
      let is = method-at c.method sound.rec sound.is_method in
      let args = args_at (slice_get w.methods c.method) in
      let own : args ≡ sound.rec.sig.args = ap args_at sound.is_method in
      let result : result_at (slice_get w.methods c.method) ≡ sound.rec.sig.result = ap result_at sound.is_method in
      let ready : All IsNotFresh sound.rec.sig.args = λ k d lt. declared-not_fresh w.classes _ (is.arguments k d lt) in
      let cells : Each (IsSteady new apart) (cells_wanted 0 (reverse args)) =
      subst (λ (tys : List Ty). Each (IsSteady new apart) (cells_wanted 0 (reverse tys))) (sym own)
      (cells-steady 0 (reverse sound.rec.sig.args) (All-reverse IsNotFresh sound.rec.sig.args ready)) in
      record {
        asks = refl;
        steady = grind (arith, each-steady, reverse, chosen-steady);
        store = refl;
        change =
            call-named new apart args (result_given (result_at (slice_get w.methods c.method))) c.receiver regs st
            (subst (λ (o : Option Ty). in_stack_order (result_given o) ≡ map (named new apart) (in_stack_order (result_given o))) (sym result)
            (result-same new apart sound.rec.sig.result (declared-some sound.rec.sig.result is.result)));
      }
  renames m place (ops.New p c) sound res kept regs st = grind (arith)
  renames m place (ops.NewArray ty) sound res kept regs st = grind (arith, by-replacing, one-same, named-type-ready)
  renames m place ops.Throw sound res kept regs st = by-replacing ops.Throw regs st 1 given.Nothing refl (tt, tt) refl refl refl
  renames m place (ops.TypeTest tests.Cast ty) sound res kept regs st = grind (arith, by-replacing, one-same, named-type-ready)
  renames m place (ops.TypeTest tests.InstanceOf ty) sound res kept regs st = grind (arith, by-replacing)
  renames m place (ops.Return None) sound res kept regs st = by-replacing (ops.Return None) regs st 0 given.Nothing refl tt refl refl refl
  renames m place (ops.Return (Some ty)) sound res kept regs st =
      by-replacing (ops.Return (Some ty)) regs st (value_size ty) given.Nothing refl
      (value-steady ty (returned ty (subst (λ (o : Option Ty). IfSome o (IsDeclared w.classes)) (sym sound.0) res))) refl refl refl
    where
      returned : (ty : Ty) → IsDeclared w.classes ty → IsNotFresh ty
      returned ty h = declared-not_fresh w.classes ty h

  -- it applies to a stack with other places, and gives that stack with other places
  pub applies-named :
      (m : MethodRec) (place limit : ℕ) (op : Operation) (regs st stored after : List Ty) (o : Outcome)
      → IsSound w m place op
      → IfSome m.sig.result (IsDeclared w.classes)
      → IsKeptOperation op
      → OperationApplies w limit op Flow (record { regs = regs; stack = st }) (record { regs = stored; stack = after }) o
      → (other : Outcome)
      × OperationApplies w limit (named_op new apart op) Flow (record { regs = regs; stack = map (named new apart) st })
      (record { regs = stored; stack = map (named new apart) after }) other
  applies-named m place limit op regs st stored after o sound res kept a =
      let n = renames m place op sound res kept regs st in
      applies-by w limit (named_op new apart op) (record { regs = regs; stack = map (named new apart) st })
      (record { regs = stored; stack = map (named new apart) after })
      (subst (SatisfiesAll w.classes (record { regs = regs; stack = map (named new apart) st })) (sym n.asks)
      (all-named new apart w.classes rules.types regs st (demands w op) n.steady a.asked))
      (subst (λ (e : RegisterStore). StoresInRegisters w.classes Flow e regs stored) (sym n.store) a.regs)
      (ap (map (named new apart)) a.stack ∙ sym n.change)
      (omega (arith, length-map after (named new apart), a.room))
