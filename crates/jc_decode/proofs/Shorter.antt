-- The short form of an instruction is no longer than its plain one, in which a load or store has its operand and a jump is wide.
use Rattle.std.proofs.Common.{◌≡◌, ◌≤◌, ◌<◌, ◌+◌, ◌-◌, ◌*◌, ℕ, Bool, true, false, cond, refl, ap, arith}
use Rattle.std.specs.Prelude.{pos, not, ◌&&◌, ◌||◌, nat_le, unsigned_abs, map, replicate}
use Rattle.std.specs.List.{range_with_len}
use Rattle.std.proofs.lemmas.Bool.Decides.{nat_tests}
use Rattle.std.proofs.lemmas.Bool.{and_parts, not-true}
use Rattle.jc_decode.specs.declared.insn.Insn.{Insn}
use Rattle.jc_decode.specs.Layout.{layout_of, opcode}
use Rattle.jc_decode.specs.Listing.{is_branch}
use Rattle.jc_decode.specs.Cases.{is_switch}
use Rattle.jc_decode.specs.Forms.{names_register, is_load_n, is_store_n, is_register_move, first_short}
use Rattle.jc_decode.specs.Forms.{short_form, length_of, plain_length, bytes_by}
use Rattle.jc_decode.proofs.Passed.{passed-at, or-rest}

-- opcode by opcode: no switch, and so many bytes at most
abbrev has_at_most : ℕ → ℕ → Bool
has_at_most n op = not (is_switch op) && nat_le (bytes_by (layout_of op)) n

abbrev is_small : ℕ → Bool
is_small op =
    (not (is_load_n op || is_store_n op) || has_at_most 1 op)
    && ((not (is_register_move op) || has_at_most 2 op) && (not (is_branch op) || has_at_most 3 op))

is_small-all : map is_small (range_with_len 0 256) ≡ replicate 256 true
unfolding layout_of opcode
is_small-all = refl

length-small : (i : Insn) (n : ℕ) → has_at_most n i.op ≡ true → length_of i ≤ n
length-small i n h =
    let p = and_parts (not (is_switch i.op)) _ h in
    rw (not-true (is_switch i.op) p.0) (small (bytes_by (layout_of i.op)) p.1)
  where
    small : (m : ℕ) → nat_le m n ≡ true → m ≤ n
    small m h = grind (arith, nat_tests)

record IsSmall (op : ℕ) : Type 0 where
  pub moved : (is_load_n op || is_store_n op) ≡ true → has_at_most 1 op ≡ true
  pub named : is_register_move op ≡ true → has_at_most 2 op ≡ true
  pub branch : is_branch op ≡ true → has_at_most 3 op ≡ true

IsSmall-at : (op : ℕ) → op < 256 → IsSmall op
IsSmall-at op h = grind (arith, passed-at is_small is_small-all op h, and_parts, or-rest)

move-small : (op : ℕ) → is_register_move op ≡ true → op < 256
move-small op h = grind (arith, nat_tests)

branch-small : (op : ℕ) → is_branch op ≡ true → op < 256
branch-small op h = grind (arith, nat_tests)

-- an instruction as it is
pub length-plain : (i : Insn) → length_of i ≤ plain_length i
length-plain i = by_kind (is_register_move i.op) refl (is_branch i.op) refl
  where
    by_kind : (a : Bool) → is_register_move i.op ≡ a → (b : Bool) → is_branch i.op ≡ b → length_of i ≤ cond a 2 (cond b 3 (length_of i))
    by_kind true e b f = length-small i 2 ((IsSmall-at i.op (move-small i.op e)).named e)
    by_kind false e true f = length-small i 3 ((IsSmall-at i.op (branch-small i.op f)).branch f)
    by_kind false e false f = omega arith

first-moved : (op n : ℕ) → names_register op ≡ true → nat_le n 3 ≡ true → (is_load_n (first_short op + n) || is_store_n (first_short op + n))
    ≡ true
first-moved op n h k = by_kind (nat_le op 23) refl
  where
    by_kind : (b : Bool) → nat_le op 23 ≡ b
        → (is_load_n (cond b (24 + 4 * (op - 21)) (43 + 4 * (op - 40)) + n) || is_store_n (cond b (24 + 4 * (op - 21)) (43 + 4 * (op - 40)) + n)) ≡ true
    by_kind true e = grind (arith, nat_tests)
    by_kind false e = grind (arith, nat_tests)

first-small : (op n : ℕ) → names_register op ≡ true → nat_le n 3 ≡ true → first_short op + n < 256
first-small op n h k = by_kind (nat_le op 23) refl
  where
    by_kind : (b : Bool) → nat_le op 23 ≡ b → cond b (24 + 4 * (op - 21)) (43 + 4 * (op - 40)) + n < 256
    by_kind true e = grind (arith, nat_tests)
    by_kind false e = grind (arith, nat_tests)

named-moves : (op : ℕ) → names_register op ≡ true → is_register_move op ≡ true
named-moves op h = rw h refl

pub short-no-longer : (i : Insn) → length_of (short_form i) ≤ plain_length i
short-no-longer i = by_test (names_register i.op) refl (nat_le (unsigned_abs i.x) 3) refl
  where
    as-it-is : short_form i ≡ i → length_of (short_form i) ≤ plain_length i
    as-it-is same = omega (arith, length-plain i, ap length_of same)

    by_test : (a : Bool) → names_register i.op ≡ a → (b : Bool) → nat_le (unsigned_abs i.x) 3 ≡ b → length_of (short_form i) ≤ plain_length i
    by_test false e b f = as-it-is (rw e refl)
    by_test true e false f = as-it-is (rw (e, f) refl)
    by_test true e true f =
        let small = IsSmall-at (first_short i.op + unsigned_abs i.x) (first-small i.op (unsigned_abs i.x) e f) in
        let one = length-small (record i { op = first_short i.op + unsigned_abs i.x; x = pos 0 }) 1 (small.moved (first-moved i.op (unsigned_abs i.x) e f)) in
        let two : plain_length i ≡ 2 = rw (named-moves i.op e) refl in
        let same : short_form i ≡ record i { op = first_short i.op + unsigned_abs i.x; x = pos 0 } = rw (e, f) refl in
        omega (arith, one, two, ap length_of same)
