-- In a typed state the rule of the instruction applies to the least types of the cells.
use Rattle.std.proofs.Common.{List, [], ◌∷◌, arith}
use Rattle.std.specs.Prelude.{Ok}
use Rattle.std.proofs.lemmas.Option.{same_Some}
use Rattle.jc_base.specs.declared.record.MethodRec.{MethodRec}
use Rattle.jc_base.specs.World.{Linked, IsWorld}
use Rattle.jc_decode.specs.declared.insn.Placed.{Placed}
use Rattle.jc_ops.specs.declared.operation.Operation.{Operation}
use Rattle.jc_ops.specs.Resolve.{Resolves}
use Rattle.jc_rules.specs.declared.effect.Mode.TheVariants.{Flow}
use Rattle.jc_rules.specs.declared.rule.Outcome.{Outcome as Rule}
use Rattle.jc_rules.specs.Demand.{Frame as Types}
use Rattle.jc_rules.specs.Apply.{OperationApplies}
use Rattle.vm_store.specs.declared.cell.Cell.{Cell}
use Rattle.vm_store.specs.State.{Frame, Object, first_frame}
use Rattle.vm_step.specs.Step.{Fetches}
use Rattle.law_sound.specs.Frames.{Typings, types_of_frame}
use Rattle.law_sound.specs.State.{IsTypedState}
use Rattle.law_sound.proofs.Handles.{kinds_of}
use Rattle.law_sound.proofs.Turns.{Turn, turn}
use Rattle.law_erasure.specs.Erasure.{TypedStatesApply}

module _ (w : Linked) (world : IsWorld w) (typings : Typings) where
  -- what is fetched is the instruction of the frame's turn
  of-turn :
      (f : Frame Cell) (below : List (Frame Cell)) (heap : List (Object Cell)) (statics : List Cell) (m : MethodRec) (i : Placed) (op : Operation)
      → Turn w typings (kinds_of heap) f
      → Fetches w (record { frames = f ∷ below; heap = heap; statics = statics }) m i
      → Resolves w m i.place i.insn (Ok op)
      → (after : Types) × (o : Rule) × OperationApplies w m.max_stack op Flow (types_of_frame w.classes (typings.unset f.method) (kinds_of heap) f) after o
  of-turn f below heap statics m i op t fetched resolves = grind (arith, same_Some)

  applies-by :
      (fs : List (Frame Cell)) (heap : List (Object Cell)) (statics : List Cell) (m : MethodRec) (i : Placed) (op : Operation)
      → IsTypedState w typings (record { frames = fs; heap = heap; statics = statics })
      → Fetches w (record { frames = fs; heap = heap; statics = statics }) m i
      → Resolves w m i.place i.insn (Ok op)
      → (after : Types) × (o : Rule)
      × OperationApplies w m.max_stack op Flow (types_of_frame w.classes (typings.unset (first_frame fs).method) (kinds_of heap) (first_frame fs))
      after o
  applies-by [] heap statics m i op typed fetched resolves = let runs = fetched.runs in absurd (omega (arith, runs))
  applies-by (f ∷ below) heap statics m i op typed fetched resolves =
      of-turn f below heap statics m i op (turn w world typings (kinds_of heap) f typed.frames.0) fetched resolves

pub typed-states-apply : (w : Linked) → IsWorld w → TypedStatesApply w
typed-states-apply w world typings s m i op typed fetched resolves = applies-by w world typings s.frames s.heap s.statics m i op typed fetched resolves
