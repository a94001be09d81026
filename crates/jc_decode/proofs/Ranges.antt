-- The ranges of operands that are read from bytes.
use Rattle.std.proofs.Common.{cond, nat_le, ◌≡◌, ◌<◌, ◌+◌, ◌^◌, ℕ, Bool, true, false, Some, None, List, length, drop, get_or, refl}
use Rattle.std.proofs.Common.{sym, ap, ◌∙◌, subst, arith, rules}
use Rattle.std.specs.Prelude.{IfOk, ℤ, FitsSigned, not, ◌||◌, map, replicate, Result, Ok, Err}
use Rattle.std.specs.Int.{w16}
use Rattle.std.specs.List.{range_with_len}
use Rattle.std.proofs.Math.Facts.{sfits_widen, sfits_to_z}
use Rattle.std.proofs.lemmas.List.{get_or-replicate, get_or-drop}
use Rattle.std.proofs.lemmas.List.FromFn.{get_or-map-range_with_len}
use Rattle.byteorder.specs.Endian.{big_number}
use Rattle.byteorder.specs.Numbers.{big_from-lt}
use Rattle.cap_bytes.specs.Number.{number_at}
use Rattle.jc_decode.specs.declared.layout.Operand.{Operand}
use Rattle.jc_decode.specs.declared.layout.Operand.TheVariants.{Absent, U1, U2, S1, S2, S4, DupWords, SwapWords, ArrayType, TestedType}
use Rattle.jc_decode.specs.declared.layout.Layout.{Layout}
use Rattle.jc_decode.specs.declared.insn.CodeEnd.{CodeEnd}
use Rattle.jc_decode.specs.declared.insn.CodeEnd.TheVariants.{BadOperand}
use Rattle.jc_decode.specs.declared.insn.Insn.{Insn}
use Rattle.jc_decode.specs.Layout.{operand_width, layout_of, opcode}
use Rattle.cap_bytes.specs.Bytes.{AreBytes}
use Rattle.jc_decode.specs.Decoding.{Begins, IsWithin, allows, decoded, operand_at, or_cut, operand_number, value, FitsOperand, FitsLayout}
use Rattle.jc_decode.specs.Encoding.{bits, Allows, AllowsBy, IsAllowed}
use Rattle.jc_decode.specs.Listing.{jumps}
use Rattle.jc_decode.proofs.Decoded.{Begins-decoded, IsWithin-decoded, from_bind, or_cut-ok}

-- a number of so many bytes is below the next power of 256
number_at-fits : (w at n : ℕ) (xs : List ℕ) → AreBytes xs → number_at w at xs ≡ Some n → n < 256 ^ w
number_at-fits w at n xs bytes h = by_reach (nat_le (at + w) (length xs)) h
  where
    below : big_number w (drop at xs) < 256 ^ w
    below = big_from-lt 0 w (drop at xs) (λ k. let e = get_or-drop at xs k 0 in let b = bytes (at + k) in omega (arith, e, b))

    by_reach : (b : Bool) → cond b (Some (big_number w (drop at xs))) None ≡ Some n → n < 256 ^ w
    by_reach true h = let e : big_number w (drop at xs) ≡ n = cc in omega (arith, below, e)
    by_reach false h = absurd (cc)

pub number_of-fits : (o : Operand) (xs : List ℕ) (at n : ℕ) → AreBytes xs → operand_number o xs at ≡ Some n → n < 256 ^ operand_width o
number_of-fits Absent xs at n bytes h = let e : 0 ≡ n = cc in omega (arith, e)
number_of-fits U1 xs at n bytes h = number_at-fits 1 at n xs bytes h
number_of-fits U2 xs at n bytes h = number_at-fits 2 at n xs bytes h
number_of-fits S1 xs at n bytes h = number_at-fits 1 at n xs bytes h
number_of-fits S2 xs at n bytes h = number_at-fits 2 at n xs bytes h
number_of-fits S4 xs at n bytes h = number_at-fits 4 at n xs bytes h
number_of-fits DupWords xs at n bytes h = number_at-fits 1 at n xs bytes h
number_of-fits SwapWords xs at n bytes h = number_at-fits 1 at n xs bytes h
number_of-fits ArrayType xs at n bytes h = number_at-fits 1 at n xs bytes h
number_of-fits TestedType xs at n bytes h = number_at-fits 1 at n xs bytes h

pub allowed-value : (o : Operand) (b : Bool) (n : ℕ) (v : ℤ) → cond b (Ok (value o n)) (Err (BadOperand n)) ≡ Ok v → value o n ≡ v
allowed-value o y n v h = grind (arith)

-- an operand that is read lies in the range of its form
pub FitsOperand-read : (o : Operand) (xs : List ℕ) (at : ℕ) (v : ℤ) → AreBytes xs → operand_at o xs at ≡ Ok v → FitsOperand o v
FitsOperand-read o xs at v bytes h = grind (arith, from_bind, allowed-value, number_of-fits, or_cut-ok, sfits_to_z)

-- the operands of an instruction that is decoded lie in the ranges of its layout
pub FitsLayout-decoded : (xs : List ℕ) (at : ℕ) (i : Insn) → AreBytes xs → decoded xs at ≡ Ok i → FitsLayout i (layout_of i.op)
FitsLayout-decoded xs at i bytes h =
    let b = Begins-decoded xs at i h in
    subst (FitsLayout i) (sym b.is_layout)
    (FitsOperand-read b.layout.x xs _ i.x bytes b.x, FitsOperand-read b.layout.y xs _ i.y bytes b.y, FitsOperand-read b.layout.z xs _ i.z bytes b.z)

-- an opcode that is decoded is a byte
pub op-fits : (xs : List ℕ) (at : ℕ) (i : Insn) → AreBytes xs → decoded xs at ≡ Ok i → i.op < 256
op-fits xs at i bytes h = let b = Begins-decoded xs at i h in omega (arith, number_at-fits 1 at i.op xs bytes b.opcode)

-- the first operand of what jumps is an offset, opcode by opcode
abbrev is_signed : Operand → Bool
is_signed S1 = true
is_signed S2 = true
is_signed Absent = false
is_signed U1 = false
is_signed U2 = false
is_signed S4 = false
is_signed DupWords = false
is_signed SwapWords = false
is_signed ArrayType = false
is_signed TestedType = false

abbrev is_offset : Result Layout CodeEnd → Bool
is_offset (Ok l) = is_signed l.x
is_offset (Err e) = true

abbrev names_offset : ℕ → Bool
names_offset op = not (jumps op) || is_offset (layout_of op)

names_offset-all : map names_offset (range_with_len 0 256) ≡ replicate 256 true
unfolding layout_of opcode
names_offset-all = refl

names_offset-at : (op : ℕ) → op < 256 → names_offset op ≡ true
names_offset-at op h =
    sym (get_or-map-range_with_len names_offset 0 256 op op false h (omega arith))
    ∙ ap (λ (bs : List Bool). get_or bs op false) names_offset-all ∙ get_or-replicate 256 op true false h

fits-offset : (o : Operand) (x : ℤ) → is_signed o ≡ true → FitsOperand o x → FitsSigned w16 x
fits-offset x x2 h fits = grind (arith, sfits_widen)

-- the first operand of a jump that is decoded is an offset
pub offset-decoded : (xs : List ℕ) (at : ℕ) (i : Insn) → AreBytes xs → decoded xs at ≡ Ok i → jumps i.op ≡ true → FitsSigned w16 i.x
offset-decoded xs at i bytes h jump =
    let b = Begins-decoded xs at i h in
    let named = names_offset-at i.op (op-fits xs at i bytes h) in
    let signed : is_offset (layout_of i.op) ≡ true = let e : names_offset i.op ≡ is_offset (layout_of i.op) = rw jump refl in sym e ∙ named in
    fits-offset b.layout.x i.x (ap is_offset (sym b.is_layout) ∙ signed) (FitsOperand-read b.layout.x xs _ i.x bytes b.x)

-- what an operand is read from is what it is written as
bits-value : (o : Operand) (n : ℕ) → allows o n ≡ true → allows o (bits o (value o n)) ≡ true
bits-value x n h = grind (arith)

allowed-test : (o : Operand) (b : Bool) (n : ℕ) (v : ℤ) → cond b (Ok (value o n)) (Err (BadOperand n)) ≡ Ok v → b ≡ true
allowed-test o y n v h = grind (arith)

-- an operand that is read is allowed
Allows-read : (o : Operand) (xs : List ℕ) (at : ℕ) (v : ℤ) → AreBytes xs → operand_at o xs at ≡ Ok v → Allows o v
Allows-read o xs at v bytes h =
    let fits = FitsOperand-read o xs at v bytes h in
    let test : allows o (bits o v) ≡ true =
    from_bind (or_cut (operand_number o xs at)) _ v h (λ n n_is h1.
    ap (λ (x : ℤ). allows o (bits o x)) (sym (allowed-value o (allows o n) n v h1)) ∙ bits-value o n (allowed-test o (allows o n) n v h1)) in
    (fits, rw test (search rules))

-- what is decoded is allowed
pub IsAllowed-decoded : (xs : List ℕ) (at : ℕ) (i : Insn) → AreBytes xs → decoded xs at ≡ Ok i → IsAllowed i
IsAllowed-decoded xs at i bytes h =
    let b = Begins-decoded xs at i h in
    subst (AllowsBy i) (sym b.is_layout)
    (Allows-read b.layout.x xs _ i.x bytes b.x, Allows-read b.layout.y xs _ i.y bytes b.y, Allows-read b.layout.z xs _ i.z bytes b.z)

-- what is known of an instruction that is decoded
pub begins-answer : (xs : List ℕ) (at : ℕ) (r : Result Insn CodeEnd) → r ≡ decoded xs at → IfOk r (λ i. Begins xs at i)
begins-answer xs at (Ok i) h = Begins-decoded xs at i (sym h)
begins-answer xs at (Err e) h = search rules

pub fits-answer : (xs : List ℕ) (at : ℕ) (r : Result Insn CodeEnd) → AreBytes xs → r ≡ decoded xs at → IfOk r (λ i. FitsLayout i (layout_of i.op))
fits-answer xs at (Ok i) bytes h = FitsLayout-decoded xs at i bytes (sym h)
fits-answer xs at (Err e) bytes h = search rules

pub allowed-answer : (xs : List ℕ) (at : ℕ) (r : Result Insn CodeEnd) → AreBytes xs → r ≡ decoded xs at → IfOk r (λ i. IsAllowed i)
allowed-answer xs at (Ok i) bytes h = IsAllowed-decoded xs at i bytes (sym h)
allowed-answer xs at (Err e) bytes h = search rules

pub within-answer : (xs : List ℕ) (at : ℕ) (r : Result Insn CodeEnd) → r ≡ decoded xs at → IfOk r (λ i. IsWithin xs at i)
within-answer xs at (Ok i) h = IsWithin-decoded xs at i (sym h)
within-answer xs at (Err e) h = search rules
