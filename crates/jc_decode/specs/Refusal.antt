-- Why no instruction begins at a place of a method's code (JCVM 2.2, chapter 7). It is asked in this order: the opcode, whether
-- the bytes reach after the operands, the first operand, and of a switch the bounds or the bytes of the table, and then its keys.
use Rattle.std.specs.Prelude.{◌≡◌, ◌<◌, ◌≤◌, ◌<ℤ◌, ◌≤ℤ◌, ◌+◌, ◌-◌, ◌*◌, ℕ, ℤ, List, length}
use Rattle.std.specs.Prelude.{Some, Ok, false, IsTrue, unsigned_abs}
use Rattle.cap_bytes.specs.Number.{number_at}
use Rattle.jc_decode.specs.declared.layout.Operand.{Operand}
use Rattle.jc_decode.specs.declared.layout.Cases.TheVariants.{Range, Pairs}
use Rattle.jc_decode.specs.declared.layout.Layout.{Layout}
use Rattle.jc_decode.specs.declared.insn.CodeEnd.{CodeEnd}
use Rattle.jc_decode.specs.declared.insn.CodeEnd.TheVariants.{Cut, BadOperand, NoOpcode, OutOfScope}
use Rattle.jc_decode.specs.Layout.{operand_width, total_width, is_out_of_scope, layout_of}
use Rattle.jc_decode.specs.Decoding.{allows, operand_at, pair_width, key_at, range_count}

-- the opcode of an instruction with these operands stands at the place
pub record HasOpcode (xs : List ℕ) (at : ℕ) (l : Layout) : Type 0 where
  pub op : ℕ
  pub opcode : number_at 1 at xs ≡ Some op
  pub layout : layout_of op ≡ Ok l

-- and its operands, which it allows; y and z are the last two
pub record HasOperands (xs : List ℕ) (at : ℕ) (l : Layout) (y z : ℤ) : Type 0 where
  pub begun : HasOpcode xs at l
  pub reaches : at + 1 + total_width l ≤ length xs
  pub first : ℤ
  pub first_is : operand_at l.x xs (at + 1) ≡ Ok first
  pub second_is : operand_at l.y xs (at + 1 + operand_width l.x) ≡ Ok y
  pub third_is : operand_at l.z xs (at + 1 + operand_width l.x + operand_width l.y) ≡ Ok z

-- the n-th key of a table of so many pairs is the first that is not above the one before it
pub record IsFirstFall (key : Operand) (xs : List ℕ) (table count n : ℕ) : Type 0 where
  pub after : 1 ≤ n
  pub inside : n < count
  pub falls : key_at key xs table n ≤ℤ key_at key xs table (n - 1)
  pub rises : (k : ℕ) → 1 ≤ k → k < n → key_at key xs table (k - 1) <ℤ key_at key xs table k

-- an operand is named by its first byte: the forbidden one, high where it is below low, a key that is not above the one before it
pub data RefusesBytes (xs : List ℕ) (at : ℕ) : CodeEnd → Type 0 where
  nothing_there : length xs ≤ at → RefusesBytes xs at Cut
  left_out : (op : ℕ) → number_at 1 at xs ≡ Some op → IsTrue (is_out_of_scope op) → RefusesBytes xs at (OutOfScope op)
  unused : (op : ℕ) → number_at 1 at xs ≡ Some op → 185 ≤ op → op ≤ 253 → RefusesBytes xs at (NoOpcode op)
  operands_cut : (l : Layout) → HasOpcode xs at l → length xs < at + 1 + total_width l → RefusesBytes xs at Cut
  forbidden :
      (l : Layout) (b : ℕ)
      → HasOpcode xs at l
      → at + 1 + total_width l ≤ length xs
      → number_at 1 (at + 1) xs ≡ Some b
      → allows l.x b ≡ false
      → RefusesBytes xs at (BadOperand b)
  bounds_turned : (l : Layout) (low high : ℤ) (b : ℕ) → HasOperands xs at l low high → l.cases ≡ Range → high <ℤ low
      → number_at 1 (at + 1 + operand_width l.x + operand_width l.y) xs ≡ Some b → RefusesBytes xs at (BadOperand b)
  range_cut : (l : Layout) (low high : ℤ) → HasOperands xs at l low high → l.cases ≡ Range → low ≤ℤ high
      → length xs < at + 1 + total_width l + 2 * range_count low high → RefusesBytes xs at Cut
  pairs_cut : (l : Layout) (key : Operand) (count z : ℤ) → HasOperands xs at l count z → l.cases ≡ Pairs key
      → length xs < at + 1 + total_width l + pair_width key * unsigned_abs count → RefusesBytes xs at Cut
  key_falls : (l : Layout) (key : Operand) (count z : ℤ) (n b : ℕ) → HasOperands xs at l count z → l.cases ≡ Pairs key
      → at + 1 + total_width l + pair_width key * unsigned_abs count ≤ length xs
      → IsFirstFall key xs (at + 1 + total_width l) (unsigned_abs count) n
      → number_at 1 (at + 1 + total_width l + pair_width key * n) xs ≡ Some b → RefusesBytes xs at (BadOperand b)
