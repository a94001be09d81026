-- Where the steps of groups and stubs stand in the rewritten code.
use Rattle.std.specs.Prelude.{◌≡◌, ◌≢◌, ◌+◌, ℕ, ℤ, true, List, [], ◌++◌, length, is_some, Some, Ok}
use Rattle.std.specs.Prelude.{slice_get}
use Rattle.jc_base.specs.declared.record.Handler.{Handler}
use Rattle.jc_decode.specs.declared.insn.Placed.{Placed}
use Rattle.jc_decode.specs.declared.symbols.Item.{Item}
use Rattle.jc_decode.specs.Listing.{targets}
use Rattle.jc_decode.specs.Symbols.{Step, place_of, steps_in}
use Rattle.jc_control.specs.WellFormed.{HasInstruction}
use Rattle.jc_ops.specs.declared.operation.Operation.{Operation}
use Rattle.xf_homes.specs.Walk.{operands_of}
use Rattle.xf_homes.specs.Source.{Source}
use Rattle.xf_homes.specs.Plan.{operation}
use Rattle.xf_emission.specs.declared.origin.Origin.TheVariants.{Start}
use Rattle.xf_emission.specs.Edge.{copies}
use Rattle.xf_emission.specs.Emission.{catching_stub, is_live, items}
use Rattle.xf_emission.specs.Group.{group}
use Rattle.xf_emission.specs.Jump.{each_once, handler_label, place, stub, stub_label, branch_copies}
use Rattle.xf_emission.specs.Laws.{IsCode}
use Rattle.law_groups.specs.Laid.{count_of, group_at, steps_of}

-- the steps of these items stand among those of the method, from a number on
pub record ItemsStandFrom (s : Source) (n : ℕ) (is : List Item) : Type 0 where
  pub before : List Step
  pub after : List Step
  pub parts : steps_of s ≡ before ++ (steps_in s.method.code (items s) is ++ after)
  pub at : length before ≡ n

-- those of a group from the place of its label on
abbrev pub GroupsStandAtSteps : Type 0
GroupsStandAtSteps =
    (s : Source) (i : Placed)
    → IsCode s
    → HasInstruction s.method.code i
    → is_some (s.frames i.place) ≡ true
    → ItemsStandFrom s (group_at s i.place) (group s i)

-- and so do those of the stub of the k-th way of a branch
abbrev pub StubsStandAtSteps : Type 0
StubsStandAtSteps =
    (s : Source) (i : Placed) (op : Operation) (n k : ℕ) (t : ℤ)
    → IsCode s
    → HasInstruction s.method.code i
    → is_some (s.frames i.place) ≡ true
    → operation s i ≡ Ok op
    → operands_of s.world (Ok op) ≡ Some n
    → slice_get (each_once (targets s.method.code i)) k ≡ Some t
    → branch_copies s i.place op n (place t) ≢ []
    → ItemsStandFrom s (place_of (stub_label i.place k) (items s)) (stub s i.place op n k t)

-- of the stub of a live handler
abbrev pub HandlersStandAtSteps : Type 0
HandlersStandAtSteps =
    (s : Source) (n : ℕ) (h : Handler)
    → IsCode s
    → slice_get s.method.rec.handlers n ≡ Some h
    → is_live s h ≡ true
    → ItemsStandFrom s (place_of (handler_label n) (items s)) (catching_stub s n h)

-- the copies of arguments come first, and then the group of place 0
abbrev pub StartsStandAtSteps : Type 0
StartsStandAtSteps =
    (s : Source) (i : Placed)
    → IsCode s
    → HasInstruction s.method.code i
    → is_some (s.frames i.place) ≡ true
    → i.place ≡ 0
    → ItemsStandFrom s 0 (copies s Start 0) × (group_at s 0 ≡ count_of (copies s Start 0))

-- where the next instruction is reached too, its group follows
abbrev pub GroupsFollow : Type 0
GroupsFollow =
    (s : Source) (i j : Placed)
    → IsCode s
    → HasInstruction s.method.code i
    → is_some (s.frames i.place) ≡ true
    → HasInstruction s.method.code j
    → is_some (s.frames j.place) ≡ true
    → j.place ≡ i.place + i.insn.len
    → group_at s j.place ≡ group_at s i.place + count_of (group s i)
