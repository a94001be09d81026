-- The turn of a typed frame: its instruction, and what the rule of the operation says of the least types of its cells.
use Rattle.std.proofs.Common.{◌≡◌, ℕ, ◌+◌, List, [], ⊎_elim, sym, ap, ◌∙◌, subst, arith}
use Rattle.std.specs.Prelude.{Option, Some, Ok, All, pos}
use Rattle.std.proofs.lemmas.List.Elements.{All-contains}
use Rattle.jc_base.specs.declared.ty.Ty.{Ty}
use Rattle.jc_base.specs.declared.ty.Ty.TheVariants.{Bottom}
use Rattle.jc_base.specs.Class.{ClassTable}
use Rattle.jc_base.specs.Laws.{IsOrderOfTypes}
use Rattle.jc_base.specs.World.{Linked, IsWorld, code_of}
use Rattle.jc_base.proofs.Orders.{order-of-types}
use Rattle.jc_base.proofs.Lists.{IsSomeAnd-some, IsSomeAnd-from}
use Rattle.jc_decode.specs.Listing.{targets}
use Rattle.jc_control.specs.Method.{method_with}
use Rattle.jc_control.specs.WellFormed.{IsPlace, IsTargetPlace}
use Rattle.jc_control.specs.Control.{IsSuccessor, falls_through, jumped, IsReached, follows}
use Rattle.jc_decode.proofs.InstructionLists.{all-are-listed}
use Rattle.jc_control.proofs.Closing.{instructions-are-placed}
use Rattle.jc_ops.specs.declared.operation.Operation.{Operation}
use Rattle.jc_ops.specs.Resolve.{Resolves}
use Rattle.jc_rules.specs.declared.effect.Mode.TheVariants.{Flow}
use Rattle.jc_rules.specs.declared.rule.Outcome.{Outcome}
use Rattle.jc_rules.specs.Demand.{Frame as Types, SatisfiesAll}
use Rattle.jc_rules.specs.Rule.{demands}
use Rattle.jc_rules.specs.Apply.{OperationApplies, RuleApplies}
use Rattle.jc_rules.specs.Flow.{CellsBelow, FrameBelow, At, IsFit, IsFollowed}
use Rattle.jc_rules.specs.Laws.{OperationFallsTo}
use Rattle.jc_rules.proofs.CellLists.{cells-trans}
use Rattle.jc_rules.proofs.RuleFalls.{operation-falls}
use Rattle.vm_store.specs.declared.cell.Cell.{Cell}
use Rattle.vm_store.specs.declared.cell.ObjectKind.{ObjectKind}
use Rattle.vm_store.specs.State.{Frame}
use Rattle.vm_step.specs.Methods.{of_method, code_at, instruction_at}
use Rattle.vm_step.specs.Settled.{return_place}
use Rattle.law_sound.specs.Frames.{Typings, least_types, types_of_frame, types_with, IsStacked, Standing, IsTypedFrame, at_next, IsWaiting}
use Rattle.law_sound.proofs.CellTypes.{some-both, some-weaker, not_bottoms, bottoms-below}
use Rattle.law_sound.proofs.Places.{IsThere, instruction-there, place-instruction}

pub frame-trans : (t : ClassTable) {f g h : Types} → FrameBelow t f g → FrameBelow t g h → FrameBelow t f h
frame-trans t a b = record { regs = cells-trans t a.regs b.regs; stack = cells-trans t a.stack b.stack }

-- the turn of a frame: what the typing holds above it, and what the rule gives of the least types of its cells
pub record Turn (w : Linked) (assigned : Typings) (ks : List ObjectKind) (f : Frame Cell) : Type 0 where
  pub stands : Standing w assigned f
  pub stacked : All (IsStacked w stands.rec ks) f.stack
  pub above : Types
  pub held : (assigned.frames f.method) f.place ≡ Some above
  pub under : FrameBelow w.classes (types_of_frame w.classes (assigned.unset f.method) ks f) above
  pub fit : IsFit (method_with w f.method stands.rec) above
  pub followed : IsFollowed w (method_with w f.method stands.rec) (assigned.frames f.method) stands.instruction above
  pub operation : Operation
  pub resolves : Resolves w stands.rec stands.instruction.place stands.instruction.insn (Ok operation)
  pub after : Types
  pub outcome : Outcome
  pub applies : OperationApplies w stands.rec.max_stack operation Flow (types_of_frame w.classes (assigned.unset f.method) ks f) after outcome
  pub lower : FrameBelow w.classes after followed.after
  pub asked : SatisfiesAll w.classes (types_of_frame w.classes Bottom ks f) (demands w operation)

module _ (w : Linked) (world : IsWorld w) (assigned : Typings) where
  order : IsOrderOfTypes w.classes
  order = order-of-types w.classes world.chains

  pub turn : (ks : List ObjectKind) (f : Frame Cell) → IsTypedFrame w assigned ks f → Turn w assigned ks f
  turn ks f typed =
      let st = typed.stands in
      let m = method_with w f.method st.rec in
      let there = instruction-there (code_of w.infos st.rec) f.place st.instruction st.there in
      let rules : At (assigned.frames f.method) f.place (IsFollowed w m (assigned.frames f.method) st.instruction) =
      subst (λ p. At (assigned.frames f.method) p (IsFollowed w m (assigned.frames f.method) st.instruction)) there.at
      (st.typing.rules st.instruction there.stands (subst (IsReached m) (sym there.at) st.reached)) in
      let fit : At (assigned.frames f.method) f.place (IsFit m) = st.typing.fit f.place st.reached in
      let exact = types_of_frame w.classes (assigned.unset f.method) ks f in
      let all = IsSomeAnd-some (λ (g : Types). FrameBelow w.classes exact g × (IsFollowed w m (assigned.frames f.method) st.instruction g × IsFit m g))
      ((assigned.frames f.method) f.place)
      (some-both (FrameBelow w.classes exact) (λ g. IsFollowed w m (assigned.frames f.method) st.instruction g × IsFit m g)
      ((assigned.frames f.method) f.place) typed.below
      (some-both (IsFollowed w m (assigned.frames f.method) st.instruction) (IsFit m) ((assigned.frames f.method) f.place) rules fit)) in
      let above : Types = all.0 in
      let below : FrameBelow w.classes exact above = all.2.0 in
      let followed : IsFollowed w m (assigned.frames f.method) st.instruction above = all.2.1.0 in
      let fits : IsFit m above = all.2.1.1 in
      let r : RuleApplies w st.rec st.instruction.place st.instruction.insn Flow above followed.after followed.steps.0 = followed.steps.1 in
      let given : OperationFallsTo w st.rec.max_stack r.operation Flow exact followed.after =
      operation-falls w order st.rec.max_stack r.operation Flow above exact followed.after followed.steps.0 below fits.no_top
      (not_bottoms w st.rec (assigned.unset f.method) ks f.stack typed.stacked) r.does in
      let least = types_of_frame w.classes Bottom ks f in
      let least_below : FrameBelow w.classes least above =
      frame-trans w.classes
      (record {
        regs = bottoms-below w.classes (assigned.unset f.method) ks f.registers;
        stack = bottoms-below w.classes (assigned.unset f.method) ks
            f.stack;
      }) below in
      let tested : OperationFallsTo w st.rec.max_stack r.operation Flow least followed.after =
      operation-falls w order st.rec.max_stack r.operation Flow above least followed.after followed.steps.0 least_below fits.no_top
      (not_bottoms w st.rec Bottom ks f.stack typed.stacked) r.does in
      record {
        stands = st;
        stacked = typed.stacked;
        above = above;
        held = all.1;
        under = below;
        fit = fits;
        followed = followed;
        operation = r.operation;
        resolves = r.resolves;
        after = given.below;
        outcome = given.outcome;
        applies = given.applies;
        lower = given.lower;
        asked = tested.applies.asked;
      }

  -- ---- where control goes from there

  module _ (f : Frame Cell) (st : Standing w assigned f) where
    at-instruction : IsThere (code_of w.infos st.rec) f.place st.instruction
    at-instruction = instruction-there (code_of w.infos st.rec) f.place st.instruction st.there

    instruction-reached : IsReached (method_with w f.method st.rec) st.instruction.place
    instruction-reached = subst (IsReached (method_with w f.method st.rec)) (sym at-instruction.at) st.reached

    successor-place : {q : ℕ} → IsSuccessor (code_of w.infos st.rec) st.instruction q → IsPlace (code_of w.infos st.rec) q
    successor-place (falls_through goes) =
        let next = (instructions-are-placed all-are-listed (method_with w f.method st.rec) st.typing.formed).next st.instruction at-instruction.stands in
        let inside = st.typing.stays st.instruction at-instruction.stands instruction-reached goes in
        ⊎_elim (λ end. absurd (omega (arith, end, inside))) (λ here. here) next
    successor-place (jumped {q = q} leads) =
        All-contains (IsTargetPlace (code_of w.infos st.rec)) (targets (code_of w.infos st.rec) st.instruction) (pos q)
        (st.typing.formed.targets st.instruction at-instruction.stands) leads

  -- a frame whose cells are below what the rule gave is typed at each successor
  pub lands :
      (ks : List ObjectKind) (f : Frame Cell) (turn : Turn w assigned ks f) (more : List ObjectKind) (registers stack : List Cell) (q : ℕ)
      → IsSuccessor (code_of w.infos turn.stands.rec) turn.stands.instruction q
      → FrameBelow w.classes
      (record {
        regs = least_types w.classes (assigned.unset f.method) more registers;
        stack = least_types w.classes (assigned.unset f.method) more
            stack;
      }) turn.after
      → All (IsStacked w turn.stands.rec more) stack
      → IsTypedFrame w assigned more (record { method = f.method; place = q; registers = registers; stack = stack })
  lands ks f turn more registers stack q to below stacked =
      let st = turn.stands in
      let at = place-instruction (code_of w.infos st.rec) q (successor-place f st to) in
      record {
        stands = record {
          rec = st.rec;
          is_method = st.is_method;
          instruction = at.0;
          there = at.1;
          reached = follows (at-instruction f st).stands (instruction-reached f st) to;
          typing = st.typing;
        };
        below = some-weaker (FrameBelow w.classes turn.followed.after)
            (FrameBelow w.classes
            (record {
              regs = least_types w.classes (assigned.unset f.method) more registers;
              stack = least_types w.classes (assigned.unset f.method)
                  more stack;
            }))
            (λ g b. frame-trans w.classes below (frame-trans w.classes turn.lower b))
            ((assigned.frames f.method) q) (turn.followed.below q to);
        stacked = stacked;
      }

  -- a caller whose cells, with a result on the stack, are below what the rule gave waits for that result
  pub waits :
      (ks : List ObjectKind) (f : Frame Cell) (turn : Turn w assigned ks f) (registers stack : List Cell) (result : Option Ty)
      → IsSuccessor (code_of w.infos turn.stands.rec) turn.stands.instruction (turn.stands.instruction.place + turn.stands.instruction.insn.len)
      → CellsBelow w.classes (least_types w.classes (assigned.unset f.method) ks registers) turn.above.regs
      → FrameBelow w.classes
      (types_with w.classes (assigned.unset f.method) ks result (record { method = f.method; place = f.place; registers = registers; stack = stack }))
      turn.after
      → All (IsStacked w turn.stands.rec ks) stack
      → IsWaiting w assigned ks result (record { method = f.method; place = f.place; registers = registers; stack = stack })
  waits ks f turn registers stack result to held below stacked =
      let st = turn.stands in
      let code : List ℕ = code_of w.infos st.rec in
      let q : ℕ = st.instruction.place + st.instruction.insn.len in
      let caller : Frame Cell = record { method = f.method; place = f.place; registers = registers; stack = stack } in
      let at = place-instruction (code_of w.infos st.rec) q (successor-place f st to) in
      let here : instruction_at (code_at w f.method) f.place ≡ Some st.instruction =
      ap (λ bytes. instruction_at bytes f.place) (ap (of_method [] (code_of w.infos)) st.is_method) ∙ st.there in
      let next : q ≡ (at_next w caller).place = ap return_place (sym here) in
      let exact : Types = types_with w.classes (assigned.unset f.method) ks result caller in
      record {
        stands = grind (arith);
        regs =
            IsSomeAnd-from (λ (g : Types). CellsBelow w.classes (least_types w.classes (assigned.unset f.method) ks registers) g.regs)
            ((assigned.frames f.method) f.place) turn.above turn.held held;
        next = record {
          rec = st.rec;
          is_method = st.is_method;
          instruction = at.0;
          there = subst (λ p. instruction_at (code_of w.infos st.rec) p ≡ Some at.0) next at.1;
          reached = subst (IsReached (method_with w f.method st.rec)) next (follows (at-instruction f st).stands (instruction-reached f st) to);
          typing = st.typing;
        };
        below = subst (λ p. At (assigned.frames f.method) p (FrameBelow w.classes exact)) next
            (some-weaker (FrameBelow w.classes turn.followed.after) (FrameBelow w.classes exact)
            (λ g b. frame-trans w.classes below (frame-trans w.classes turn.lower b))
            ((assigned.frames f.method) q) (turn.followed.below q to));
        stacked = stacked;
      }
