-- What stands where an instruction has an index into the constant pool.
use Rattle.std.proofs.Common.{◌≡◌, ◌<◌, ◌+◌, ℕ, Bool, true, false, cond, Option, Some, None, Result, Ok, Err, List, refl, arith, rules}
use Rattle.std.specs.Prelude.{ℤ, pos, unsigned_abs, IfSome, not, ◌&&◌, ◌||◌, ◌==◌, map, replicate}
use Rattle.std.specs.List.{range_with_len}
use Rattle.std.proofs.lemmas.Bool.{eqb-true, and_parts}
use Rattle.std.proofs.lemmas.Bool.Decides.{nat_tests}
use Rattle.cap_bytes.specs.Number.{number_at}
use Rattle.jc_decode.specs.declared.layout.Operand.{Operand}
use Rattle.jc_decode.specs.declared.layout.Operand.TheVariants.{Absent, U1, U2, S1, S2, S4, DupWords, SwapWords, ArrayType, TestedType}
use Rattle.jc_decode.specs.declared.layout.Layout.{Layout}
use Rattle.jc_decode.specs.declared.insn.Insn.{Insn}
use Rattle.jc_decode.specs.declared.insn.CodeEnd.{CodeEnd}
use Rattle.jc_decode.specs.declared.pool_index.IndexWidth.TheVariants.{One, Two}
use Rattle.jc_decode.specs.Layout.{layout_of, opcode, operand_width}
use Rattle.jc_decode.specs.Decoding.{◌>>=◌, or_cut, operand_at, decoded, Begins}
use Rattle.jc_decode.specs.Encoding.{Allows, AllowsBy, IsAllowed}
use Rattle.jc_decode.specs.Forms.{is_between}
use Rattle.jc_decode.specs.PoolIndex.{pool_index, first_index, second_index, bytes_of_index, has_short_index, has_index, has_second_index}
use Rattle.jc_decode.proofs.Passed.{passed-at, or-rest}
use Rattle.jc_decode.proofs.Decoded.{Begins-decoded}

-- an operand that is an unsigned number of so many bytes
abbrev is_number : ℕ → Operand → Bool
is_number w U1 = w == 1
is_number w U2 = w == 2
is_number w Absent = false
is_number w S1 = false
is_number w S2 = false
is_number w S4 = false
is_number w DupWords = false
is_number w SwapWords = false
is_number w ArrayType = false
is_number w TestedType = false

abbrev has_first : ℕ → Result Layout CodeEnd → Bool
has_first w (Ok l) = is_number w l.x
has_first w (Err e) = false

abbrev has_second : Result Layout CodeEnd → Bool
has_second (Ok l) = operand_width l.x == 1 && is_number 2 l.y
has_second (Err e) = false

-- opcode by opcode
abbrev one_byte : ℕ → Bool
one_byte op = not (has_short_index op) || has_first 1 (layout_of op)

abbrev two_bytes : ℕ → Bool
two_bytes op = not (has_index op) || has_first 2 (layout_of op)

abbrev second_bytes : ℕ → Bool
second_bytes op = not (op == 142 || is_between 148 149 op) || has_second (layout_of op)

one_byte-all : map one_byte (range_with_len 0 256) ≡ replicate 256 true
unfolding layout_of opcode
one_byte-all = refl

two_bytes-all : map two_bytes (range_with_len 0 256) ≡ replicate 256 true
unfolding layout_of opcode
two_bytes-all = refl

second_bytes-all : map second_bytes (range_with_len 0 256) ≡ replicate 256 true
unfolding layout_of opcode
second_bytes-all = refl

first-at : (op : ℕ) → has_short_index op ≡ true → has_first 1 (layout_of op) ≡ true
first-at op h = let small : op < 256 = grind (arith, nat_tests) in or-rest _ _ (passed-at one_byte one_byte-all op small) h

first-at2 : (op : ℕ) → has_index op ≡ true → has_first 2 (layout_of op) ≡ true
first-at2 op h = let small : op < 256 = grind (arith, nat_tests) in or-rest _ _ (passed-at two_bytes two_bytes-all op small) h

pub second-op : (a b c : Bool) → (a || (b && c)) ≡ true → (a || b) ≡ true
second-op x b c h = grind (arith)

second-at : (i : Insn) → has_second_index i ≡ true → has_second (layout_of i.op) ≡ true
second-at i h =
    let op = second-op (i.op == 142) (is_between 148 149 i.op) (unsigned_abs i.x == 0 || unsigned_abs i.x == 14) h in
    let small : i.op < 256 = small-by i.op op in
    or-rest _ _ (passed-at second_bytes second_bytes-all i.op small) op
  where
    small-by : (op : ℕ) → (op == 142 || is_between 148 149 op) ≡ true → op < 256
    small-by op h = grind (arith, nat_tests)

-- such an operand is below its power of 256, and its bytes are the number that it is
number-fits : (w : ℕ) (o : Operand) (v : ℤ) → is_number w o ≡ true → Allows o v → unsigned_abs v < 65536
number-fits w y v h a = grind (arith)

number-by : (o : Option ℕ) (v : ℤ) → (or_cut o >>= (λ n. Ok (pos n))) ≡ Ok v → o ≡ Some (unsigned_abs v)
number-by x v h = grind (arith)

number-read : (w : ℕ) (o : Operand) (xs : List ℕ) (at : ℕ) (v : ℤ) → is_number w o ≡ true → operand_at o xs at ≡ Ok v
    → number_at w at xs ≡ Some (unsigned_abs v)
number-read w y xs at v h e = grind (arith, eqb-true, number-by)

-- what an allowed instruction has as its index fits two bytes
fits-first : (w : ℕ) (i : Insn) (r : Result Layout CodeEnd) → has_first w r ≡ true → AllowsBy i r → unsigned_abs i.x < 65536
fits-first w i z h a = grind (arith, number-fits)

fits-second : (i : Insn) (r : Result Layout CodeEnd) → has_second r ≡ true → AllowsBy i r → unsigned_abs i.y < 65536
fits-second i y h a = grind (arith, number-fits, and_parts)

pub index-fits : (i : Insn) → has_short_index i.op ≡ true → IsAllowed i → unsigned_abs i.x < 65536
index-fits i h a = fits-first 1 i (layout_of i.op) (first-at i.op h) a

pub index-fits2 : (i : Insn) → has_index i.op ≡ true → IsAllowed i → unsigned_abs i.x < 65536
index-fits2 i h a = fits-first 2 i (layout_of i.op) (first-at2 i.op h) a

pub index-fits3 : (i : Insn) → has_second_index i ≡ true → IsAllowed i → unsigned_abs i.y < 65536
index-fits3 i h a = fits-second i (layout_of i.op) (second-at i h) a

pub ruleset index_facts = (index-fits, index-fits2, index-fits3)

stands-first : (w : ℕ) (i : Insn) (code : List ℕ) (at : ℕ) → Begins code at i → has_first w (layout_of i.op) ≡ true
    → number_at w (at + 1) code ≡ Some (unsigned_abs i.x)
stands-first w i code at b h = grind (arith, number-read)

stands-second : (i : Insn) (code : List ℕ) (at : ℕ) → Begins code at i → has_second (layout_of i.op) ≡ true
    → number_at 2 (at + 2) code ≡ Some (unsigned_abs i.y)
stands-second i code at b h = grind (arith, and_parts, eqb-true, number-read)

-- the index stands where it is said to stand
pub index-stands : (i : Insn) (code : List ℕ) (at : ℕ) → decoded code at ≡ Ok i
    → IfSome (pool_index i) (λ n. number_at (bytes_of_index n.width) (at + n.at) code ≡ Some n.entry)
index-stands i code at h = by_test (has_short_index i.op) refl (has_index i.op) refl (has_second_index i) refl
  where
    by_test : (a : Bool) → has_short_index i.op ≡ a → (b : Bool) → has_index i.op ≡ b → (c : Bool) → has_second_index i ≡ c
        → IfSome (cond a (Some (first_index i.x One)) (cond b (Some (first_index i.x Two)) (cond c (Some (second_index i.y)) None)))
        (λ n. number_at (bytes_of_index n.width) (at + n.at) code ≡ Some n.entry)
    by_test true e b f c g = stands-first 1 i code at (Begins-decoded code at i h) (first-at i.op e)
    by_test false e true f c g = stands-first 2 i code at (Begins-decoded code at i h) (first-at2 i.op f)
    by_test false e false f true g = stands-second i code at (Begins-decoded code at i h) (second-at i g)
    by_test false e false f false g = search rules
