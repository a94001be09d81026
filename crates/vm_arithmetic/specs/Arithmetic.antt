-- The arithmetic of shorts and ints (JCVM 2.2, section 2.2.2 and chapter 7): results wrap to 16 or 32 bits. A quotient is rounded towards
-- zero, and a remainder has the sign of the dividend; the least number divided by -1 is itself, with remainder 0.
use Rattle.std.specs.Prelude.{ℕ, ◌+◌, ◌*◌, ◌/◌, ◌%◌, ◌^◌, ℤ, pos, negsuc, Bool, not, ◌==◌, if◌then◌else◌}
use Rattle.std.specs.Prelude.{int_lt, int_le, int_rem, Option, Some, None}
use Rattle.std.specs.Int.{w8, w16, w32, cast_signed, cast_unsigned, int_wrapping_add, int_wrapping_sub, int_wrapping_mul, int_wrapping_div}
use Rattle.std.specs.Int.{int_bit_and, int_bit_or, int_bit_xor, int_shl, int_shr}
use Rattle.jc_ops.specs.declared.operation.Operator.{Operator}
use Rattle.jc_ops.specs.declared.operation.Operator.TheVariants.{Add, Subtract, Multiply, Divide, Remainder, ShiftLeft, ShiftRight}
use Rattle.jc_ops.specs.declared.operation.Operator.TheVariants.{ShiftRightUnsigned, And, Or, ExclusiveOr}
use Rattle.jc_ops.specs.declared.operation.Order.{Order}
use Rattle.jc_ops.specs.declared.operation.Order.TheVariants.{Equal, NotEqual, Less, GreaterOrEqual, Greater, LessOrEqual}

-- the short of the low sixteen bits of a word of 32 bits
abbrev pub low_short : ℕ → ℤ
low_short word = cast_signed w16 (word % 2 ^ 16)

-- the low eight bits, with their sign
abbrev pub low_byte : ℕ → ℤ
low_byte word = cast_signed w8 (word % 2 ^ 8)

-- a shift counts by the low five bits
abbrev pub shift_count : ℕ → ℕ
shift_count word = word % 2 ^ 5

-- a result, unless the divisor is zero: then an ArithmeticException is thrown
abbrev pub unless_zero : ℕ → ℤ → Option ℤ
unless_zero divisor value = if divisor == 0 then None else Some value

-- of the shorts a and b, of which b was on top of the stack; a is extended to 32 bits, shifted and cut to 16
abbrev pub of_shorts : Operator → ℤ → ℤ → Option ℤ
of_shorts Add a b = Some (int_wrapping_add w16 a b)
of_shorts Subtract a b = Some (int_wrapping_sub w16 a b)
of_shorts Multiply a b = Some (int_wrapping_mul w16 a b)
of_shorts Divide a b = unless_zero (cast_unsigned w16 b) (int_wrapping_div w16 a b)
of_shorts Remainder a b = unless_zero (cast_unsigned w16 b) (int_rem a b)
of_shorts ShiftLeft a b = Some (low_short (cast_unsigned w32 (int_shl w32 a (shift_count (cast_unsigned w16 b)))))
of_shorts ShiftRight a b = Some (low_short (cast_unsigned w32 (int_shr a (shift_count (cast_unsigned w16 b)))))
of_shorts ShiftRightUnsigned a b = Some (low_short (cast_unsigned w32 a / 2 ^ shift_count (cast_unsigned w16 b)))
of_shorts And a b = Some (int_bit_and w16 a b)
of_shorts Or a b = Some (int_bit_or w16 a b)
of_shorts ExclusiveOr a b = Some (int_bit_xor w16 a b)

-- of the ints a and b
abbrev pub of_ints : Operator → ℤ → ℤ → Option ℤ
of_ints Add a b = Some (int_wrapping_add w32 a b)
of_ints Subtract a b = Some (int_wrapping_sub w32 a b)
of_ints Multiply a b = Some (int_wrapping_mul w32 a b)
of_ints Divide a b = unless_zero (cast_unsigned w32 b) (int_wrapping_div w32 a b)
of_ints Remainder a b = unless_zero (cast_unsigned w32 b) (int_rem a b)
of_ints ShiftLeft a b = Some (int_shl w32 a (shift_count (cast_unsigned w32 b)))
of_ints ShiftRight a b = Some (int_shr a (shift_count (cast_unsigned w32 b)))
of_ints ShiftRightUnsigned a b = Some (cast_signed w32 (cast_unsigned w32 a / 2 ^ shift_count (cast_unsigned w32 b)))
of_ints And a b = Some (int_bit_and w32 a b)
of_ints Or a b = Some (int_bit_or w32 a b)
of_ints ExclusiveOr a b = Some (int_bit_xor w32 a b)

-- ---- conversions and comparisons

abbrev pub short_to_byte : ℤ → ℤ
short_to_byte a = low_byte (cast_unsigned w16 a)

abbrev pub int_to_byte : ℤ → ℤ
int_to_byte a = low_byte (cast_unsigned w32 a)

abbrev pub int_to_short : ℤ → ℤ
int_to_short a = low_short (cast_unsigned w32 a)

-- -1, 0 or 1 as the int a is less than b, equal or greater
abbrev pub compared : ℤ → ℤ → ℤ
compared a b = if int_lt a b then negsuc 0 else if int_lt b a then pos 1 else pos 0

-- the conditions of if<cond> and if_scmp<cond>: two shorts are equal where their sixteen bits are
abbrev pub succeeds : Order → ℤ → ℤ → Bool
succeeds Equal a b = cast_unsigned w16 a == cast_unsigned w16 b
succeeds NotEqual a b = not (cast_unsigned w16 a == cast_unsigned w16 b)
succeeds Less a b = int_lt a b
succeeds GreaterOrEqual a b = int_le b a
succeeds Greater a b = int_lt b a
succeeds LessOrEqual a b = int_le a b

-- ---- the numbers in words of 16 bits

abbrev pub short_of_word : ℕ → ℤ
short_of_word word = cast_signed w16 word

-- the int of its high and its low word, and the words of an int
abbrev pub int_of_words : ℕ → ℕ → ℤ
int_of_words high low = cast_signed w32 (high * 2 ^ 16 + low)

abbrev pub high_word : ℤ → ℕ
high_word a = cast_unsigned w32 a / 2 ^ 16

abbrev pub low_word : ℤ → ℕ
low_word a = cast_unsigned w32 a % 2 ^ 16
