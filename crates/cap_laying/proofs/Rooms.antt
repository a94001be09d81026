-- The first byte of an index is a byte of its instruction, after the opcode.
use Rattle.std.proofs.Common.{◌≡◌, ◌≤◌, ◌<◌, ℕ, Bool, true, false, cond, List, Option, Some, None, Ok, refl, arith, rules}
use Rattle.std.specs.Prelude.{map, replicate, not, ◌&&◌, ◌||◌, ◌==◌, nat_le, IfSome, unsigned_abs}
use Rattle.std.specs.List.{range_with_len}
use Rattle.std.proofs.lemmas.Bool.{leb-true, and_parts, not-true}
use Rattle.std.proofs.lemmas.Bool.Decides.{nat_tests}
use Rattle.jc_decode.specs.declared.insn.Insn.{Insn}
use Rattle.jc_decode.specs.declared.pool_index.PoolIndex.{PoolIndex}
use Rattle.jc_decode.specs.declared.pool_index.IndexWidth.TheVariants.{One, Two}
use Rattle.jc_decode.specs.Cases.{is_switch}
use Rattle.jc_decode.specs.Layout.{layout_of, opcode}
use Rattle.jc_decode.specs.Decoding.{decoded}
use Rattle.jc_decode.specs.Forms.{is_between, bytes_by, length_of}
use Rattle.jc_decode.specs.PoolIndex.{has_short_index, has_index, has_second_index, first_index, second_index, pool_index}
use Rattle.cap_laying.specs.Indices.{HasIndexInside}
use Rattle.jc_decode.proofs.Passed.{passed-at, or-rest}
use Rattle.jc_decode.proofs.Sized.{length-decoded}
use Rattle.jc_decode.proofs.PoolIndices.{second-op}

-- opcode by opcode: no switch, and so many bytes
abbrev has_bytes : ℕ → ℕ → Bool
has_bytes n op = not (is_switch op) && nat_le n (bytes_by (layout_of op))

abbrev short_room : ℕ → Bool
short_room op = not (has_short_index op) || has_bytes 2 op

abbrev first_room : ℕ → Bool
first_room op = not (has_index op) || has_bytes 2 op

abbrev second_room : ℕ → Bool
second_room op = not (op == 142 || is_between 148 149 op) || has_bytes 3 op

short_room-all : map short_room (range_with_len 0 256) ≡ replicate 256 true
unfolding layout_of opcode
short_room-all = refl

first_room-all : map first_room (range_with_len 0 256) ≡ replicate 256 true
unfolding layout_of opcode
first_room-all = refl

second_room-all : map second_room (range_with_len 0 256) ≡ replicate 256 true
unfolding layout_of opcode
second_room-all = refl

long : (i : Insn) (code : List ℕ) (at n : ℕ) → decoded code at ≡ Ok i → has_bytes n i.op ≡ true → n ≤ i.len
long i code at n d h =
    let p = and_parts (not (is_switch i.op)) (nat_le n (bytes_by (layout_of i.op))) h in
    let size : length_of i ≡ i.len = length-decoded code at i d in
    let own : is_switch i.op ≡ false = not-true (is_switch i.op) p.0 in
    let bytes : length_of i ≡ bytes_by (layout_of i.op) = by (is_switch i.op) own in
    let enough : n ≤ bytes_by (layout_of i.op) = leb-true _ _ p.1 in
    omega arith
  where
    by : (b : Bool) → b ≡ false → cond b i.len (bytes_by (layout_of i.op)) ≡ bytes_by (layout_of i.op)
    by true e = absurd (cc)
    by false e = refl

small-second : (op : ℕ) → (op == 142 || is_between 148 149 op) ≡ true → op < 256
small-second op h = grind (arith, nat_tests)

small-short : (op : ℕ) → has_short_index op ≡ true → op < 256
small-short op h = grind (arith, nat_tests)

small-first : (op : ℕ) → has_index op ≡ true → op < 256
small-first op h = grind (arith, nat_tests)

-- where the index stands in its instruction
abbrev pub IsRoomy : Insn → PoolIndex → Type 0
IsRoomy i n = (1 ≤ n.at) × (n.at < i.len)

index_room : (i : Insn) (code : List ℕ) (at : ℕ) → decoded code at ≡ Ok i → IfSome (pool_index i) (IsRoomy i)
index_room i code at d = by_test (has_short_index i.op) refl (has_index i.op) refl (has_second_index i) refl
  where
    by_test : (a : Bool) → has_short_index i.op ≡ a → (b : Bool) → has_index i.op ≡ b → (c : Bool) → has_second_index i ≡ c
        → IfSome (cond a (Some (first_index i.x One)) (cond b (Some (first_index i.x Two)) (cond c (Some (second_index i.y)) None))) (IsRoomy i)
    by_test true e b f c g =
        let l = long i code at 2 d (or-rest (has_short_index i.op) _ (passed-at short_room short_room-all i.op (small-short i.op e)) e) in
        (omega arith, omega arith)
    by_test false e true f c g =
        let l = long i code at 2 d (or-rest (has_index i.op) _ (passed-at first_room first_room-all i.op (small-first i.op f)) f) in (omega arith, omega arith)
    by_test false e false f true g =
        let op = second-op (i.op == 142) (is_between 148 149 i.op) (unsigned_abs i.x == 0 || unsigned_abs i.x == 14) g in
        let l = long i code at 3 d (or-rest (i.op == 142 || is_between 148 149 i.op) _ (passed-at second_room second_room-all i.op (small-second i.op op))
        op) in (omega arith, omega arith)
    by_test false e false f false g = search rules

pub has_room : (i : Insn) (code : List ℕ) (at : ℕ) → decoded code at ≡ Ok i → HasIndexInside i
has_room i code at d = record { room = index_room i code at d }

-- an index that was found
pub index_there : (i : Insn) (n : PoolIndex) → HasIndexInside i → pool_index i ≡ Some n → IsRoomy i n
index_there i n h e = of (pool_index i) e h.room
  where
    of : (o : Option PoolIndex) → o ≡ Some n → IfSome o (IsRoomy i) → IsRoomy i n
    of None e h = absurd (cc)
    of (Some m) e h = let same : m ≡ n = cc in rw (← same) h
