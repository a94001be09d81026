-- Where branches and switches lead (JCVM 2.2, chapter 7).
use Rattle.std.specs.Prelude.{ℕ, ℤ, pos, Bool, true, false, not, ◌==◌, List, Option, Some, None, find}
use Rattle.std.specs.Int.{w32, cast_unsigned}
use Rattle.jc_decode.specs.declared.insn.Insn.{Insn}
use Rattle.jc_decode.specs.declared.insn.Case.{Case}
use Rattle.jc_decode.specs.Cases.{cases}
use Rattle.jc_decode.specs.Listing.{target}
use Rattle.jc_ops.specs.declared.operation.Width.{Width}
use Rattle.jc_ops.specs.declared.operation.Branch.{Branch}
use Rattle.jc_ops.specs.declared.operation.Branch.TheVariants as branches
use Rattle.jc_ops.specs.declared.operation.Sameness.{Sameness}
use Rattle.jc_ops.specs.declared.operation.Sameness.TheVariants as sameness
use Rattle.vm_arithmetic.specs.Arithmetic.{succeeds}
use Rattle.vm_store.specs.Cells.{Cells}
use Rattle.vm_store.specs.State.{State, top}
use Rattle.vm_step.specs.Act.{Act, goes, jumps}
use Rattle.vm_step.specs.Numbers.{handle_at, short_at, number_on, number_width, dropped}

abbrev pub is_same : Sameness → ℕ → ℕ → Bool
is_same sameness.Equal a b = a == b
is_same sameness.Different a b = not (a == b)

-- whether the branch is taken
abbrev pub is_taken : {A : Type 0} → Cells A → Branch → List A → Bool
is_taken k branches.Always stack = true
is_taken k (branches.Zero order) stack = succeeds order (short_at k stack 0) (pos 0)
is_taken k (branches.Null wanted) stack = is_same wanted (handle_at k stack 0) 0
is_taken k (branches.References wanted) stack = is_same wanted (handle_at k stack 1) (handle_at k stack 0)
is_taken k (branches.Shorts order) stack = succeeds order (short_at k stack 1) (short_at k stack 0)

-- how many cells a branch pops
abbrev pub branch_width : Branch → ℕ
branch_width branches.Always = 0
branch_width (branches.Zero order) = 1
branch_width (branches.Null wanted) = 1
branch_width (branches.References wanted) = 2
branch_width (branches.Shorts order) = 2

-- to the target, told by its distance from the instruction's own place, where it is taken
abbrev pub leads_if : {A : Type 0} → Bool → ℤ → State A → Act A
leads_if true to s = jumps to s
leads_if false to s = goes s

abbrev pub branch_act : {A : Type 0} → Cells A → Insn → Branch → State A → Act A
branch_act k i branch s =
    leads_if (is_taken k branch (top s).stack) (target (top s).place i.x) (dropped s (branch_width branch))

-- ---- switches

-- the case of a key: two ints are equal where their 32 bits are
abbrev pub has_key : ℤ → Case → Bool
has_key key c = cast_unsigned w32 c.key == cast_unsigned w32 key

-- the distance of the case, or else the default's
abbrev pub case_offset : ℤ → Option Case → ℤ
case_offset default None = default
case_offset default (Some c) = c.offset

-- to the first case with the number on the stack, and else to the default
abbrev pub switch_act : {A : Type 0} → Cells A → List ℕ → Insn → Width → State A → Act A
switch_act k code i width s =
    let place = (top s).place in
    let chosen = find (has_key (number_on k width (top s).stack)) (cases code place i) in
    jumps (target place (case_offset i.x chosen)) (dropped s (number_width width))
