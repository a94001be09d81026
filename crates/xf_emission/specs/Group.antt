-- The group of items that stands for an instruction of the source: by nine forms. Opcodes are named only where they are written.
use Rattle.std.specs.Prelude.{ℕ, ℤ, ◌+◌, ◌-◌, ◌==◌, Bool, if◌then◌else◌, pos, List, [], ◌∷◌, ◌++◌, flat_map}
use Rattle.std.specs.Prelude.{Option, Some, None, Result, Ok, Err}
use Rattle.jc_base.specs.declared.ty.Kind.{Kind}
use Rattle.jc_base.specs.declared.ty.Kind.TheVariants as kinds
use Rattle.jc_decode.specs.declared.insn.Placed.{Placed}
use Rattle.jc_decode.specs.declared.symbols.Item.{Item}
use Rattle.jc_decode.specs.declared.symbols.Item.TheVariants.{Plain, Label}
use Rattle.jc_decode.specs.Listing.{targets}
use Rattle.jc_ops.specs.declared.fault.RuleFault.{RuleFault}
use Rattle.jc_ops.specs.declared.operation.Branch.TheVariants as branches
use Rattle.jc_ops.specs.declared.operation.Sort.{Sort}
use Rattle.jc_ops.specs.declared.operation.Sort.TheVariants as sorts
use Rattle.jc_ops.specs.declared.operation.Holder.TheVariants as holders
use Rattle.jc_ops.specs.declared.operation.Operation.{Operation}
use Rattle.jc_ops.specs.declared.operation.Operation.TheVariants as ops
use Rattle.jc_ops.specs.Next.{falls_from}
use Rattle.jc_rules.specs.Demand.{Frame}
use Rattle.xf_homes.specs.declared.home.Home.{Home}
use Rattle.xf_homes.specs.Walk.{operands_of}
use Rattle.xf_homes.specs.Source.{Source}
use Rattle.xf_homes.specs.Plan.{register, local, needed, stack_homes, is_leader, operation}
use Rattle.xf_emission.specs.declared.origin.Origin.TheVariants.{After}
use Rattle.xf_emission.specs.Mnemonics.{pop, pop2, swap_x, from_read, from_write}
use Rattle.xf_emission.specs.Move.{with_byte, load, store, copy, loads, spill}
use Rattle.xf_emission.specs.Edge.{copies}
use Rattle.xf_emission.specs.Jump.{branch, goto, has_under, place, branch_copies, under}

abbrev pub itself : Placed → List Item
itself i = Plain i.insn ∷ []

-- ---- the forms

-- a load of a local, from its home at the place
abbrev pub loaded : Source → Placed → Option Home → List Item
loaded s i None = itself i
loaded s i (Some h) = load s h ∷ []

-- an increment of a local, in its home at the place
abbrev pub increased : Source → Placed → Option Home → List Item
increased s i None = itself i
increased s i (Some h) = Plain (record i.insn { x = pos (register s h) }) ∷ []

-- of one cell, or of the two of an int
abbrev pub pop_item : Sort → Item
pop_item sorts.Int = Plain (record { op = pop2; x = pos 0; y = pos 0; z = pos 0; len = 1 })
pop_item _ = Plain (record { op = pop; x = pos 0; y = pos 0; z = pos 0; len = 1 })

-- a store into a local, into the first of the homes that are needed afterwards, and from there to the others
abbrev pub store_to_homes : Source → Sort → List Home → List Item
store_to_homes s letter [] = pop_item letter ∷ []
store_to_homes s letter (h ∷ hs) = store s h ∷ flat_map (copy s h) hs

-- a field of `this` is read or written as it stands where register 0 is the home of local 0 at the place
abbrev pub stays : Source → Home → Bool
stays s h = register s h == 0

-- getfield_<t>_this as getfield_<t> of the loaded object
abbrev pub field_read : Source → Placed → Option Home → List Item
field_read s i None = itself i
field_read s i (Some h) = if stays s h then itself i else load s h ∷ Plain (record i.insn { op = i.insn.op - from_read }) ∷ []

-- how swap_x puts an object under a value: the words above and under it, in four bits each
abbrev pub swap_words : Kind → ℕ
swap_words kinds.Int = 18
swap_words k = 17

-- putfield_<t>_this as putfield_<t> of the object that is loaded and put under the value
abbrev pub field_written : Source → Placed → Kind → Option Home → List Item
field_written s i k None = itself i
field_written s i k (Some h) =
    if stays s h then itself i
    else load s h ∷ Plain (with_byte swap_x (swap_words k)) ∷ Plain (record i.insn { op = i.insn.op - from_write }) ∷ []

-- goto: the stack goes into the homes of the target's cells, and then come the copies of locals
abbrev pub gone : Source → ℕ → Operation → ℕ → List Item
gone s p op q = spill s (stack_homes s q) ++ (copies s (After p op) q ++ goto q ∷ [])

-- the place of the first target
abbrev pub first_place : List ℤ → ℕ
first_place [] = 0
first_place (t ∷ ts) = place t

abbrev pub branch_by : Source → Placed → Operation → Option ℕ → List Item
branch_by s i op None = itself i
branch_by s i op (Some n) = branch s i op n

-- the instruction of an operation
unfoldable pub body : Source → Placed → Operation → List Item
body s i (ops.Load _ x) = loaded s i (local s i.place x)
body s i (ops.Increment width x amount) = increased s i (local s i.place x)
body s i (ops.Store letter x) = store_to_homes s letter (needed s (i.place + i.insn.len) x)
body s i (ops.FieldRead f holders.This) = field_read s i (local s i.place 0)
body s i (ops.FieldWrite f holders.This) = field_written s i f.kind (local s i.place 0)
body s i (ops.Branch branches.Always) = gone s i.place (ops.Branch branches.Always) (first_place (targets s.method.code i))
body s i op = branch_by s i op (operands_of s.world (Ok op))

-- ---- falling

-- into a place: the stack goes into the homes of its cells where it is a leader, and then come the copies of locals
abbrev pub fall : Source → ℕ → Operation → ℕ → List Item
fall s p op q = (if is_leader s q then spill s (stack_homes s q) else []) ++ copies s (After p op) q

-- from a conditional that keeps its stack in homes: the cells under its operands are copied to the homes of a leader, or go on the
-- stack again
abbrev pub fall_over : Source → ℕ → Operation → ℕ → ℕ → List Item
fall_over s p op n q =
    if is_leader s q then branch_copies s p op n q
    else copies s (After p op) q ++ loads s (under s p n)

abbrev pub fall_by : Source → ℕ → Operation → Option ℕ → ℕ → List Item
fall_by s p op None q = fall s p op q
fall_by s p op (Some n) q = if has_under s p n then fall_over s p op n q else fall s p op q

-- what comes after the instruction, where control may fall into the next place
unfoldable pub fallen : Source → Placed → Operation → List Item
fallen s i op = if falls_from op then fall_by s i.place op (operands_of s.world (Ok op)) (i.place + i.insn.len) else []

-- ---- groups

abbrev pub entrance : Source → ℕ → List Item
entrance s p = Label p ∷ (if is_leader s p then loads s (stack_homes s p) else [])

abbrev pub done : Source → Placed → Result Operation RuleFault → List Item
done s i (Err fault) = []
done s i (Ok op) = body s i op ++ fallen s i op

abbrev pub group_by : Source → Placed → Option Frame → List Item
group_by s i None = []
group_by s i (Some f) = entrance s i.place ++ done s i (operation s i)

-- the group of an instruction that control reaches: the label of its place, the loads of a leader's stack, the instruction, and the way
-- into the next place
unfoldable pub group : Source → Placed → List Item
group s i = group_by s i (s.frames i.place)
