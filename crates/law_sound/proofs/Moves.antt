-- Moves on the stack at a frame's turn.
use Rattle.std.proofs.Common.{◌≡◌, ℕ, ◌+◌, List, ◌∷◌, ◌++◌, take, drop, map, refl, sym, ap, ◌∙◌, subst, arith}
use Rattle.std.specs.Prelude.{All}
use Rattle.std.proofs.lemmas.List.{map-append, take-map, drop-map, drop-take}
use Rattle.std.proofs.lemmas.List.Elements.{All-append, All-take, All-drop}
use Rattle.jc_base.specs.declared.ty.Ty.{Ty}
use Rattle.jc_base.specs.World.{Linked, IsWorld}
use Rattle.jc_ops.specs.declared.operation.Move.{Move}
use Rattle.jc_ops.specs.declared.operation.Move.TheVariants as moves
use Rattle.jc_ops.specs.declared.operation.Operation.TheVariants as ops
use Rattle.jc_ops.specs.Next.{falls_from}
use Rattle.jc_rules.specs.declared.effect.Effect.{Effect}
use Rattle.jc_rules.specs.declared.effect.Mode.TheVariants.{Flow}
use Rattle.jc_rules.specs.Effect.{changed, StoresInRegisters}
use Rattle.jc_rules.specs.Rule.{on_stack, move_effect, effect}
use Rattle.jc_rules.specs.Flow.{CellsBelow}
use Rattle.jc_rules.proofs.CellLists.{cells-same}
use Rattle.vm_store.specs.declared.cell.Cell.{Cell}
use Rattle.vm_store.specs.Typing.{least_type}
use Rattle.vm_store.specs.Cells.{tagged}
use Rattle.vm_store.specs.State.{Frame, Object, rotated}
use Rattle.vm_step.specs.Values.{moved, with_move}
use Rattle.vm_step.specs.Settled.{goes_to}
use Rattle.law_sound.specs.Frames.{Typings, least_types, types_of_frame, IsStacked}
use Rattle.law_sound.specs.Soundness.{IsTypedOutcome}
use Rattle.law_sound.proofs.Handles.{kinds_of}
use Rattle.law_sound.proofs.SafeTurns.{Here, on-safe}

-- the types of moved cells are moved types
copied-types : (ty : Cell → Ty) (copied under : ℕ) (cs : List Cell) →
    map ty (take under cs ++ (take copied cs ++ drop under cs)) ≡ take under (map ty cs) ++ (take copied (map ty cs) ++ drop under (map ty cs))
copied-types ty copied under cs = grind (arith, map-append, take-map, drop-map)

exchanged-types : (ty : Cell → Ty) (top under : ℕ) (cs : List Cell) →
    map ty (rotated (top + under) top cs) ≡ take under (drop top (map ty cs)) ++ (take top (map ty cs) ++ drop (top + under) (map ty cs))
exchanged-types ty top under cs = grind (arith, drop-take, map-append, take-map, drop-map)

moved-types : (ty : Cell → Ty) (m : Move) (cs : List Cell) → map ty (moved m cs) ≡ changed (move_effect m).change (map ty cs)
moved-types ty y cs = grind (arith, drop-map, copied-types, exchanged-types)

moved-all : {X : Type 0} (P : X → Type 0) (m : Move) (cs : List X) → All P cs → All P (moved m cs)
moved-all P moves.Pop cs h = All-drop P 1 cs h
moved-all P moves.PopTwo cs h = All-drop P 2 cs h
moved-all P moves.Duplicate cs h = All-append P (take 1 cs) cs (All-take P 1 cs h) h
moved-all P moves.DuplicateTwo cs h = All-append P (take 2 cs) cs (All-take P 2 cs h) h
moved-all P (moves.CopyUnder copied under) cs h =
    All-append P (take under cs) (take copied cs ++ drop under cs) (All-take P under cs h)
    (All-append P (take copied cs) (drop under cs) (All-take P copied cs h) (All-drop P under cs h))
moved-all P (moves.Exchange top under) cs h =
    All-append P (drop top (take (top + under) cs)) (take top cs ++ drop (top + under) cs)
    (All-drop P top (take (top + under) cs) (All-take P (top + under) cs h))
    (All-append P (take top cs) (drop (top + under) cs) (All-take P top cs h) (All-drop P (top + under) cs h))

on-stack-alone : (m : Move) → move_effect m ≡ on_stack (move_effect m).change
on-stack-alone x = grind (arith)

module _ (w : Linked) (world : IsWorld w) (assigned : Typings) (f : Frame Cell) (below : List (Frame Cell)) (heap : List (Object Cell)) (statics : List Cell)
    (here : Here w assigned f below heap statics)
  where
    pub move-safe :
        (m : Move) → here.turn.operation ≡ ops.Move m
        → IsTypedOutcome w assigned
        (goes_to tagged w (here.turn.stands.instruction.place + here.turn.stands.instruction.insn.len)
        (record { frames = f ∷ below; heap = heap; statics = statics })
        (with_move m (record { frames = f ∷ below; heap = heap; statics = statics })))
    move-safe m is =
        let ks = kinds_of heap in
        let exact = types_of_frame w.classes (assigned.unset f.method) ks f in
        let a = here.turn.applies in
        let after = here.turn.after in
        let e : effect w here.turn.operation exact ≡ on_stack (move_effect m).change = ap (λ o. effect w o exact) is ∙ on-stack-alone m in
        let stack_is : after.stack ≡ changed (move_effect m).change exact.stack = a.stack ∙ ap (λ (z : Effect). changed z.change exact.stack) e in
        let regs_are : after.regs ≡ exact.regs = subst (λ (z : Effect). StoresInRegisters w.classes Flow z.store exact.regs after.regs) e a.regs in
        let stack_now : least_types w.classes (assigned.unset f.method) ks (moved m f.stack) ≡ after.stack = moved-types
        (least_type w.classes (assigned.unset f.method) ks) m f.stack ∙ sym stack_is in
        on-safe w world assigned f below heap statics here f.registers (moved m f.stack) heap statics (ap falls_from is)
        (record {
          regs = subst (CellsBelow w.classes exact.regs) (sym regs_are) (cells-same w.classes exact.regs);
          stack = grind (arith, cells-same);
        })
        (moved-all (IsStacked w here.turn.stands.rec ks) m f.stack here.turn.stacked) here.store refl
