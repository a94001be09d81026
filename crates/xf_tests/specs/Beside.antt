-- Worked cases of states of laid code beside those of the source, and of what is told of them.
use Rattle.std.specs.Prelude.{◌≡◌, ◌+◌, ℕ, pos, [], ◌∷◌, length, Option, Some, None, if◌then◌else◌, is_some}
use Rattle.std.proofs.Common.{ap, refl}
use Rattle.jc_base.specs.World.{Linked}
use Rattle.jc_decode.specs.declared.symbols.Item.TheVariants.{Branch, Label, Plain}
use Rattle.jc_rules.specs.Demand.{Frame as Types}
use Rattle.vm_store.specs.declared.cell.Cell.{Cell}
use Rattle.vm_store.specs.declared.cell.Cell.TheVariants as cells
use Rattle.vm_store.specs.declared.cell.ObjectKind.TheVariants.{Instance}
use Rattle.vm_store.specs.State.{State, arguments, top, with_place}
use Rattle.vm_step.specs.declared.ending.Ending.TheVariants.{Faulted, Plain as Ended}
use Rattle.vm_step.specs.declared.ending.Fault.TheVariants.{StackFault}
use Rattle.vm_step.specs.declared.ending.Plain.TheVariants.{HeapFull}
use Rattle.vm_step.specs.Raising.{ended}
use Rattle.xf_homes.specs.Source.{Source}
use Rattle.xf_emission.specs.Move.{with_byte}
use Rattle.law_groups.specs.Laid.{body_at, count_of, rename, steps_of}
use Rattle.law_groups.specs.Beside.{AreEqualBut, MovesTop, SameUnder, StaysTyped}
use Rattle.law_groups.specs.Comes.{GroupComes, group_ends, without_arguments}

-- ---- items

-- a load and a jump are instructions, and the label between them is none
counted : count_of (Plain (with_byte 22 3) ∷ Label 4 ∷ Branch 168 9 ∷ []) ≡ 2
counted = refl

-- the `new` of a place that control reaches is laid after the loads of its group; other places follow after the end
reached_renamed : (s : Source) (place : ℕ → ℕ) (f : Types) → s.frames 4 ≡ Some f → rename s place 4 ≡ place (body_at s 4)
reached_renamed s place f there =
    ap (λ (o : Option Types). if is_some o then place (body_at s 4) else place (length (steps_of s)) + 4) there

other_renamed : (s : Source) (place : ℕ → ℕ) → s.frames 4 ≡ None → rename s place 4 ≡ place (length (steps_of s)) + 4
other_renamed s place none =
    ap (λ (o : Option Types). if is_some o then place (body_at s 4) else place (length (steps_of s)) + 4) none

-- ---- states

-- a method at place 5 over its caller, with one object
abbrev source : State Cell
source = record {
  frames =
      record {
        method = 2;
        place = 5;
        registers = cells.Short (pos 3) ∷ [];
        stack = cells.Ref 1 ∷ cells.Short (pos 7) ∷ cells.Short (pos 9) ∷ [];
      }
      ∷ record { method = 1; place = 8; registers = []; stack = [] } ∷ [];
  heap = record { kind = Instance 7; cells = cells.Ref 0 ∷ [] } ∷ [];
  statics = cells.Ref 1 ∷ [];
}

-- the same in laid code: at other places, and with a register more
abbrev target : State Cell
target = record source {
  frames =
      record {
        method = 2;
        place = 9;
        registers = cells.Empty ∷ cells.Short (pos 3) ∷ [];
        stack = cells.Ref 1 ∷ cells.Short (pos 7) ∷ cells.Short (pos 9) ∷ [];
      }
      ∷ record { method = 1; place = 11; registers = []; stack = [] } ∷ [];
}

-- what is compared apart from frames
equal : AreEqualBut source target
equal = record { frames = refl; heap = refl; statics = refl }

-- a step of the target's frame alone
moved : MovesTop target (with_place target 10)
moved = record { frames = refl; heap = refl; statics = refl }

-- the caller is as it was
under : SameUnder source (with_place source 6)
under = record { frames = refl }

-- the first of two arguments lies under the second, and both are popped
handed : arguments 2 (top source).stack ≡ cells.Short (pos 7) ∷ cells.Ref 1 ∷ []
handed = refl

left : (top (without_arguments 2 source)).stack ≡ cells.Short (pos 9) ∷ []
left = refl

-- ---- outcomes

-- no room for an object ends both runs, with equal objects and static fields
both_full :
    (v w : Linked) (s : Source) (place : ℕ → ℕ)
    → GroupComes v w s place source target (ended (Ended HeapFull) source) (ended (Ended HeapFull) source)
both_full v w s place = group_ends HeapFull source

-- a fault does not stay typed
no_fault : (v : Linked) (s : Source) → StaysTyped v s (ended (Faulted StackFault) source) → ⊥
no_fault v s stays = stays
