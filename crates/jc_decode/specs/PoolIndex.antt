-- Where an instruction has an index into the constant pool (JCVM 2.2, sections 6.11 and 7.5).
use Rattle.std.specs.Prelude.{ℕ, ℤ, pos, ◌≡◌, Bool, Option, Some, None, unsigned_abs, ◌||◌, ◌&&◌, ◌==◌}
use Rattle.std.specs.Prelude.{if◌then◌else◌}
use Rattle.std.proofs.Common.{refl}
use Rattle.jc_decode.specs.declared.insn.Insn.{Insn}
use Rattle.jc_decode.specs.Forms.{is_between}
use Rattle.jc_decode.specs.declared.pool_index.PoolIndex.{PoolIndex}
use Rattle.jc_decode.specs.declared.pool_index.IndexWidth.{IndexWidth}
use Rattle.jc_decode.specs.declared.pool_index.IndexWidth.TheVariants.{One, Two}

abbrev pub bytes_of_index : IndexWidth → ℕ
bytes_of_index One = 1
bytes_of_index Two = 2

-- getfield_<t>, putfield_<t>, getfield_<t>_this and putfield_<t>_this
abbrev pub has_short_index : ℕ → Bool
has_short_index op = is_between 131 138 op || is_between 173 176 op || is_between 181 184 op

-- getstatic_<t>, putstatic_<t>, invokevirtual, invokespecial and invokestatic, new, anewarray, getfield_<t>_w
-- and putfield_<t>_w
abbrev pub has_index : ℕ → Bool
has_index op =
    is_between 123 130 op || is_between 139 141 op || op == 143 || op == 145 || is_between 169 172 op || is_between 177 180 op

-- invokeinterface, after its nargs; checkcast and instanceof after an atype 0, a class, or 14, an array of one
abbrev pub has_second_index : Insn → Bool
has_second_index i =
    i.op == 142 || (is_between 148 149 i.op && (unsigned_abs i.x == 0 || unsigned_abs i.x == 14))

-- the index that is the first operand, and the one that is the second after a byte
abbrev pub first_index : ℤ → IndexWidth → PoolIndex
first_index x width = record { at = 1; width = width; entry = unsigned_abs x }

abbrev pub second_index : ℤ → PoolIndex
second_index y = record { at = 2; width = Two; entry = unsigned_abs y }

-- the index of an instruction, if it has one
abbrev pub pool_index : Insn → Option PoolIndex
pool_index i =
    if has_short_index i.op then Some (first_index i.x One)
    else if has_index i.op then Some (first_index i.x Two)
    else if has_second_index i then Some (second_index i.y)
    else None

-- getstatic_a 258; checkcast to class 7 and to an array of bytes
static_field : pool_index (record { op = 123; x = pos 258; y = pos 0; z = pos 0; len = 3 })
    ≡ Some (record { at = 1; width = Two; entry = 258 })
static_field = refl

to_class : pool_index (record { op = 148; x = pos 0; y = pos 7; z = pos 0; len = 4 }) ≡ Some (record { at = 2; width = Two; entry = 7 })
to_class = refl

to_bytes : pool_index (record { op = 148; x = pos 11; y = pos 7; z = pos 0; len = 4 }) ≡ None
to_bytes = refl
