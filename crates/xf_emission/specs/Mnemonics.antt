-- The opcodes that rewritten code is written with, by their mnemonics (JCVM 2.2, section 7.5).
use Rattle.std.specs.Prelude.{ℕ, ◌-◌}

abbrev pub aload : ℕ
aload = 21

abbrev pub sload : ℕ
sload = 22

abbrev pub iload : ℕ
iload = 23

abbrev pub astore : ℕ
astore = 40

abbrev pub sstore : ℕ
sstore = 41

abbrev pub istore : ℕ
istore = 42

abbrev pub pop : ℕ
pop = 59

abbrev pub pop2 : ℕ
pop2 = 60

abbrev pub swap_x : ℕ
swap_x = 64

abbrev pub goto_w : ℕ
goto_w = 168

-- the first that reads a field, in the order of which those of `this` stand too
abbrev pub getfield_a : ℕ
getfield_a = 131

abbrev pub getfield_a_this : ℕ
getfield_a_this = 173

-- the first that writes a field, in the order of which those of `this` stand too
abbrev pub putfield_a : ℕ
putfield_a = 135

abbrev pub putfield_a_this : ℕ
putfield_a_this = 181

-- how far the reads and the writes of a field of `this` stand from those of an object on the stack
abbrev pub from_read : ℕ
from_read = getfield_a_this - getfield_a

abbrev pub from_write : ℕ
from_write = putfield_a_this - putfield_a
