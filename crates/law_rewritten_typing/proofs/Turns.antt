-- The turn of a kept instruction.
use Rattle.std.proofs.Common.{◌≡◌, ℕ, ◌+◌, ◌<◌, ◌≤◌, List, [], ◌∷◌, ◌++◌, map, reverse, slice_get, All, Option, Some}
use Rattle.std.proofs.Common.{None, Ok, IfSome, refl, sym, ◌∙◌, ap, arith}
use Rattle.jc_base.specs.declared.ty.Ty.{Ty}
use Rattle.jc_base.specs.declared.record.MethodRec.{MethodRec}
use Rattle.jc_base.specs.Cell.{IsDeclared}
use Rattle.jc_base.specs.Order.{IsKnown}
use Rattle.jc_base.specs.World.{Linked, member_at}
use Rattle.jc_decode.specs.declared.insn.Insn.{Insn}
use Rattle.jc_ops.specs.declared.operation.Holder.TheVariants as holders
use Rattle.jc_ops.specs.declared.operation.Operation.{Operation}
use Rattle.jc_ops.specs.declared.operation.Operation.TheVariants as ops
use Rattle.jc_ops.specs.Entry.{RestsOnEntry, entry_named}
use Rattle.jc_ops.specs.Resolve.{resolved}
use Rattle.jc_ops.specs.Row.{row_at}
use Rattle.jc_ops.specs.Sound.{IsSound}
use Rattle.jc_rules.specs.declared.demand.Demand.{Demand}
use Rattle.jc_rules.specs.declared.demand.Demand.TheVariants.{Registers, Depth, Cell, Cut, Held}
use Rattle.jc_rules.specs.declared.effect.Mode.TheVariants.{Flow}
use Rattle.jc_rules.specs.declared.rule.Outcome.{Outcome}
use Rattle.jc_rules.specs.Demand.{Frame, AreKnown}
use Rattle.jc_rules.specs.Flow.{CellsBelow, IsNotTop}
use Rattle.jc_rules.specs.FlowLaws.{AreRules}
use Rattle.jc_rules.specs.Footprint.{registers_asked, OperationNamesNone}
use Rattle.jc_rules.specs.Laws.{IsNotBottom, OperationFalls, OperationKeeps, OperationRests}
use Rattle.jc_rules.specs.Apply.{OperationApplies}
use Rattle.jc_rules.specs.Rule.{demands, cells_wanted}
use Rattle.jc_rules.proofs.Footprints.{receiver-registers}
use Rattle.xf_emission.proofs.RowByRow.{moved_to, resolved-elsewhere}
use Rattle.law_rewritten_typing.proofs.Renames.{named, named_op}
use Rattle.law_rewritten_typing.proofs.Kept.{IsKeptOperation, applies-named}

-- ---- operations that name no register

abbrev pub NamesNone : Operation → Type 0
NamesNone (ops.FieldRead f holders.This) = ⊥
NamesNone (ops.FieldWrite f holders.This) = ⊥
NamesNone op = IsKeptOperation op

none-append : (ds es : List Demand) → registers_asked ds ≡ 0 → registers_asked es ≡ 0 → registers_asked (ds ++ es) ≡ 0
none-append ds es a b = both ds es a b
  where
    both : (ds es : List Demand) → registers_asked ds ≡ 0 → registers_asked es ≡ 0 → registers_asked (ds ++ es) ≡ 0
    both [] es a b = b
    both (Registers x n ∷ ds) es a b = let none : registers_asked ds ≡ 0 = omega (arith, a) in let rest = both ds es none b in omega (arith, a, rest)
    both (Held x ty ∷ ds) es a b = absurd (omega (arith, a))
    both (Depth n ∷ ds) es a b = both ds es a b
    both (Cell n want ∷ ds) es a b = both ds es a b
    both (Cut n ∷ ds) es a b = both ds es a b

cells-none : (n : ℕ) (tys : List Ty) → registers_asked (cells_wanted n tys) ≡ 0
cells-none n [] = refl
cells-none n (ty ∷ tys) = cells-none (n + 1) tys

pub none-asked : (w : Linked) (op : Operation) → NamesNone op → registers_asked (demands w op) ≡ 0
none-asked w y h = grind (arith, none-append, slice_get, reverse, cells-none, receiver-registers)

-- ---- the turn

wider : (w : Linked) (limit more : ℕ) (op : Operation) (before after : Frame) (o : Outcome) → limit ≤ more
    → OperationApplies w limit op Flow before after o → OperationApplies w more op Flow before after o
wider w limit more op before after o le a = grind (arith)

-- a stack below that of a frame, of values of the world
pub record IsLesser (w : Linked) (f : Frame) (st : List Ty) : Type 0 where
  pub below : CellsBelow w.classes st f.stack
  pub full : All IsNotBottom st
  pub known : All (IsKnown w.classes) st

module _ (new : ℕ → ℕ) (apart : (a b : ℕ) → new a ≡ new b → a ≡ b) (w : Linked) (rules : AreRules w) (falls_to : OperationFalls w)
    (keeps : OperationKeeps w) (names_none : OperationNamesNone w) (rests : OperationRests w) (entry : RestsOnEntry w) where
  -- over the registers of the card the operation gives a stack below what the method's gives
  pub record IsDone (limit : ℕ) (op : Operation) (regs st : List Ty) (after : Frame) : Type 0 where
    pub stack : List Ty
    pub lesser : IsLesser w after stack
    pub stored : List Ty
    pub stays : CellsBelow w.classes stored regs
    pub applies : (o : Outcome) × OperationApplies w limit (named_op new apart op) Flow (record { regs = regs; stack = map (named new apart) st })
        (record { regs = stored; stack = map (named new apart) stack }) o

  pub kept-done :
      (m : MethodRec) (place limit : ℕ) (op : Operation) (f after : Frame) (o : Outcome) (regs st : List Ty)
      → NamesNone op
      → IsKeptOperation op
      → IsSound w m place op
      → IfSome m.sig.result (IsDeclared w.classes)
      → AreKnown w.classes f
      → All IsNotTop f.stack
      → IsLesser w f st
      → m.max_stack ≤ limit
      → OperationApplies w m.max_stack op Flow f after o
      → IsDone limit op regs st after
  kept-done m place limit op f after o regs st none kept sound res known no_top lesser le a =
      let under : Frame = record { regs = f.regs; stack = st } in
      let fallen = falls_to m.max_stack op Flow f under after o (record { regs = rules.order.self f.regs; stack = lesser.below }) no_top lesser.full a in
      let kept_is = keeps m.max_stack m place op Flow under fallen.below fallen.outcome sound
      (record { few = known.few; regs = known.regs; stack = lesser.known; object = known.object }) fallen.applies in
      let card = names_none m.max_stack op under fallen.below fallen.outcome regs (none-asked w op none) fallen.applies in
      let at = rests m.max_stack op (record { regs = regs; stack = st }) (record { regs = regs; stack = fallen.below.stack }) fallen.outcome card refl in
      let same = applies-named new apart w rules m place m.max_stack op regs st at.stored fallen.below.stack fallen.outcome sound res kept at.applies in
      record {
        stack = fallen.below.stack;
        lesser = record { below = fallen.lower.stack; full = kept_is.no_bottom lesser.full; known = kept_is.known.stack };
        stored = at.stored;
        stays = at.below;
        applies = (same.0, wider w m.max_stack limit (named_op new apart op) _ _ same.0 le same.1);
      }

  -- an instruction that stands at the place that its `new` has gets the operation
  moved-is : (place n : ℕ) (m : MethodRec) (op : Operation) → new place ≡ n → IsSound w m place op → moved_to n op ≡ named_op new apart op
  moved-is place n m op e sound = grind (arith)

  pub kept-resolves :
      (m r : MethodRec) (place n : ℕ) (i : Insn) (op : Operation)
      → i.op < 256
      → new place ≡ n
      → r.package ≡ m.package
      → r.sig ≡ m.sig
      → IsSound w m place op
      → resolved w m place i (row_at i.op) ≡ Ok op
      → Ok (named_op new apart op) ≡ resolved w r n i (row_at i.op)
  kept-resolves m r place n i op lt e home sig sound is =
      let moved : resolved w m n i (row_at i.op) ≡ Ok (named_op new apart op) = resolved-elsewhere w m place n i op lt is
      ∙ ap Ok (moved-is place n m op e sound) in
      entry m r n i (Ok (named_op new apart op)) (by (entry_named i)) (ap (λ s. s.result) (sym sig)) (sym moved)
    where
      by : (o : Option ℕ) → IfSome o (λ k. member_at w m.package k ≡ member_at w r.package k)
      by None = tt
      by (Some k) = ap (λ (p : ℕ). member_at w p k) (sym home)
