-- What is typed stays typed among more objects.
use Rattle.jc_rules.specs.Flow.{CellsBelow, FrameBelow}
use Rattle.jc_rules.specs.Demand.{Frame as Types}
use Rattle.std.proofs.Common.{List, [], ◌∷◌, ◌++◌}
use Rattle.std.specs.Prelude.{Option}
use Rattle.std.proofs.lemmas.List.Elements.{All-weaker}
use Rattle.jc_base.specs.declared.ty.Ty.{Ty}
use Rattle.jc_base.specs.World.{Linked}
use Rattle.jc_rules.specs.Effect.{in_stack_order}
use Rattle.jc_rules.specs.Rule.{result_given}
use Rattle.jc_rules.proofs.CellLists.{cells-same, cells-trans, cells-append}
use Rattle.vm_store.specs.declared.cell.Cell.{Cell}
use Rattle.vm_store.specs.declared.cell.ObjectKind.{ObjectKind}
use Rattle.vm_store.specs.State.{Frame}
use Rattle.law_sound.specs.Frames.{Typings, IsStacked, IsWaiting, result_of, AreWaiting, least_types, types_with, at_next}
use Rattle.law_sound.proofs.CellTypes.{some-weaker, types-fall, stacked-falls}

module _ (w : Linked) (assigned : Typings) (ks more : List ObjectKind) where
  pub waiting-falls : (result : Option Ty) (f : Frame Cell) → IsWaiting w assigned ks result f → IsWaiting w assigned (ks ++ more) result f
  waiting-falls result f waits =
      let st = waits.stands in
      let next = waits.next in
      record {
        stands = st;
        regs = some-weaker (λ (g : Types). CellsBelow w.classes (least_types w.classes (assigned.unset f.method) ks f.registers) g.regs)
            (λ (g : Types). CellsBelow w.classes (least_types w.classes (assigned.unset f.method) (ks ++ more) f.registers) g.regs)
            (λ g b. cells-trans w.classes (types-fall w.classes (assigned.unset f.method) ks more f.registers) b)
            ((assigned.frames f.method) f.place) waits.regs;
        next = next;
        below =
            some-weaker (FrameBelow w.classes (types_with w.classes (assigned.unset f.method) ks result f))
            (FrameBelow w.classes (types_with w.classes (assigned.unset f.method) (ks ++ more) result f))
            (λ g b. record {
              regs = cells-trans w.classes (types-fall w.classes (assigned.unset f.method) ks more f.registers) b.regs;
              stack = cells-trans w.classes
                  (cells-append w.classes (cells-same w.classes (in_stack_order (result_given result)))
                  (types-fall w.classes (assigned.unset f.method) ks more f.stack)) b.stack;
            })
            ((assigned.frames f.method) (at_next w f).place) waits.below;
        stacked = All-weaker (IsStacked w next.rec ks) (IsStacked w next.rec (ks ++ more)) (stacked-falls w next.rec ks more) f.stack waits.stacked;
      }

  pub all-waiting-fall : (result : Option Ty) (fs : List (Frame Cell)) → AreWaiting w assigned ks result fs → AreWaiting w assigned (ks ++ more) result fs
  all-waiting-fall result [] h = h
  all-waiting-fall result (f ∷ fs) h = (waiting-falls result f h.0, all-waiting-fall (result_of w f.method) fs h.1)
