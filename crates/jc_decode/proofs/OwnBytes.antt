-- An instruction that is decoded is encoded as the bytes that stand there.
use Rattle.std.proofs.Common.{◌≡◌, ◌<◌, ◌≤◌, ◌+◌, ◌*◌, ◌-◌, ◌^◌, ◌/◌, ◌%◌, ℕ, zero, suc, Bool, true, false, cond}
use Rattle.std.proofs.Common.{nat_le, Some, None, Result, Ok, List, [], ◌∷◌, ◌++◌, length, take, drop, slice_index, refl, sym, ap, ◌∙◌}
use Rattle.std.proofs.Common.{arith, append_assoc}
use Rattle.std.specs.Prelude.{ℤ}
use Rattle.std.specs.Int.{byte_at, bytes_high_first}
use Rattle.std.proofs.Math.Facts.{of_z-to_z}
use Rattle.std.proofs.Math.Nat.{div-one, mod-eq_of_lt, mul_assoc, mul-add-div_right, mul-add-mod_self_right, one-le-pow, pow-succ'}
use Rattle.std.proofs.lemmas.Nat.{pow-add, div-mul-add}
use Rattle.std.proofs.Math.Seq.{drop-cons, take-add}
use Rattle.std.proofs.lemmas.List.{drop-drop, get_or-drop, length-drop}
use Rattle.byteorder.specs.Endian.{big_from, big_number, big_bytes}
use Rattle.byteorder.specs.Numbers.{big_from-lt}
use Rattle.cap_bytes.specs.Number.{number_at}
use Rattle.jc_decode.specs.declared.layout.Operand.{Operand}
use Rattle.jc_decode.specs.declared.layout.Cases.{Cases}
use Rattle.jc_decode.specs.declared.layout.Cases.TheVariants.{Range, Pairs}
use Rattle.jc_decode.specs.declared.layout.Cases.TheVariants.{Absent as NoCases}
use Rattle.jc_decode.specs.declared.layout.Layout.{Layout}
use Rattle.jc_decode.specs.declared.insn.CodeEnd.{CodeEnd}
use Rattle.jc_decode.specs.declared.insn.Insn.{Insn}
use Rattle.jc_decode.specs.Layout.{operand_width, total_width}
use Rattle.cap_bytes.specs.Bytes.{AreBytes}
use Rattle.jc_decode.specs.Decoding.{operand_at, end_of_cases, decoded, Begins}
use Rattle.jc_decode.specs.Encoding.{operand_bytes, table_bytes, encoding, encoding_by}
use Rattle.jc_decode.proofs.Decoded.{Begins-decoded, from_bind, or_cut-ok, ok-same, table_end-ok}
use Rattle.jc_decode.proofs.Ranges.{number_of-fits, allowed-value}

byte_at-div : (k x : ℕ) → byte_at k x ≡ x / 256 ^ k % 256
byte_at-div zero x = ap (λ (y : ℕ). y % 256) (sym (div-one x))
byte_at-div (suc k) x = refl

pow256-above : (n : ℕ) → zero < 256 ^ n
pow256-above n = let h = one-le-pow n 256 (omega arith) in omega arith

-- a low byte does not depend on what stands above it
byte_at-below : (a r n j : ℕ) → j < n → byte_at j (a * 256 ^ n + r) ≡ byte_at j r
byte_at-below a r n j h =
    let m = n - suc j in
    let split : n ≡ m + suc j = omega arith in
    let power : 256 ^ n ≡ (256 ^ m * 256) * 256 ^ j =
    ap (λ (k : ℕ). 256 ^ k) split ∙ pow-add 256 m (suc j) ∙ ap (λ (q : ℕ). 256 ^ m * q) (pow-succ' 256 j)
    ∙ sym (mul_assoc (256 ^ m) 256 (256 ^ j)) in
    let moved : a * 256 ^ n ≡ ((a * 256 ^ m) * 256) * 256 ^ j =
    ap (λ (q : ℕ). a * q) power ∙ sym (mul_assoc a (256 ^ m * 256) (256 ^ j)) ∙ ap (λ (q : ℕ). q * 256 ^ j) (sym (mul_assoc a (256 ^ m) 256)) in
    byte_at-div j (a * 256 ^ n + r)
    ∙ ap (λ (q : ℕ). (q + r) / 256 ^ j % 256) moved
    ∙ ap (λ (q : ℕ). q % 256) (mul-add-div_right (pow256-above j) ((a * 256 ^ m) * 256) r)
    ∙ mul-add-mod_self_right (a * 256 ^ m) 256 (r / 256 ^ j)
    ∙ sym (byte_at-div j r)

bytes-below : (a r n k : ℕ) → k ≤ n → bytes_high_first k (a * 256 ^ n + r) ≡ bytes_high_first k r
bytes-below a r n zero h = refl
bytes-below a r n (suc k) h = rw (byte_at-below a r n k h, bytes-below a r n k (omega arith)) refl

-- the bytes of the number that bytes are
bytes-number : (w i : ℕ) (xs : List ℕ) → AreBytes xs → i + w ≤ length xs → bytes_high_first w (big_from i w xs) ≡ take w (drop i xs)
bytes-number zero i xs bytes h = refl
bytes-number (suc w) i xs bytes h =
    let x = slice_index xs i in
    let r = big_from (suc i) w xs in
    let small = big_from-lt (suc i) w xs bytes in
    let top : byte_at w (x * 256 ^ w + r) ≡ x =
    byte_at-div w (x * 256 ^ w + r) ∙ ap (λ (q : ℕ). q % 256) (div-mul-add x (256 ^ w) r small) ∙ mod-eq_of_lt (bytes i) in
    let rest = bytes-below x r w w (omega arith) ∙ bytes-number w (suc i) xs bytes (omega arith) in
    let first = drop-cons xs i 0 (omega arith) in
    rw (top, rest, first) refl

pub AreBytes-drop : (n : ℕ) (xs : List ℕ) → AreBytes xs → AreBytes (drop n xs)
AreBytes-drop n xs bytes k = let e = get_or-drop n xs k 0 in let b = bytes (n + k) in omega (arith, e, b)

-- a number that is read is written as its bytes
number_at-bytes : (w at n : ℕ) (xs : List ℕ) → AreBytes xs → number_at w at xs ≡ Some n → big_bytes w n ≡ take w (drop at xs)
number_at-bytes w at n xs bytes h = by_reach (nat_le (at + w) (length xs)) refl h
  where
    by_reach : (b : Bool) → nat_le (at + w) (length xs) ≡ b → cond b (Some (big_number w (drop at xs))) None ≡ Some n
        → big_bytes w n ≡ take w (drop at xs)
    by_reach true reach h =
        let e : big_number w (drop at xs) ≡ n = cc in
        let room : 0 + w ≤ length (drop at xs) = grind (arith, length-drop at xs) in
        ap (big_bytes w) (sym e) ∙ bytes-number w 0 (drop at xs) (AreBytes-drop at xs bytes) room
    by_reach false reach h = absurd (cc)

-- an operand that is read is written as its bytes
pub operand-bytes : (o : Operand) (xs : List ℕ) (at : ℕ) (v : ℤ) → AreBytes xs → operand_at o xs at ≡ Ok v
    → operand_bytes o v ≡ take (operand_width o) (drop at xs)
operand-bytes o xs at v bytes h = grind (arith, from_bind, or_cut-ok, number_of-fits, allowed-value, number_at-bytes, of_z-to_z)

-- two parts of a list, one after the other
pub take-more : (xs : List ℕ) (at m n : ℕ) → take (m + n) (drop at xs) ≡ take m (drop at xs) ++ take n (drop (at + m) xs)
take-more xs at m n = take-add m n (drop at xs) ∙ ap (λ (ys : List ℕ). take m (drop at xs) ++ take n ys) (drop-drop m at xs)

-- the opcode is a byte of its own
opcode-byte : (xs : List ℕ) (at op : ℕ) → number_at 1 at xs ≡ Some op → take 1 (drop at xs) ≡ op ∷ []
opcode-byte xs at op h = by_reach (nat_le (at + 1) (length xs)) refl h
  where
    by_reach : (b : Bool) → nat_le (at + 1) (length xs) ≡ b → cond b (Some (big_number 1 (drop at xs))) None ≡ Some op
        → take 1 (drop at xs) ≡ op ∷ []
    by_reach true reach h =
        let here : at < length xs = grind arith in
        let first = drop-cons xs at 0 here in
        let same : big_number 1 (drop at xs) ≡ op = cc in
        let one : big_number 1 (slice_index xs at ∷ drop (suc at) xs) ≡ slice_index xs at = omega arith in
        rw first (ap (λ (b : ℕ). b ∷ []) (sym one ∙ sym (ap (big_number 1) first) ∙ same))
    by_reach false reach h = absurd (cc)

-- the bytes of the table are those after the operands
table-own : (xs : List ℕ) (at : ℕ) (i : Insn) (b : Begins xs at i) → table_bytes b.layout xs at i ≡ take (i.len - (1 + total_width b.layout))
    (drop (at + 1 + total_width b.layout) xs)
table-own xs at i b = by_table b.layout.cases refl
  where
    by_table : (k : Cases) → b.layout.cases ≡ k → table_bytes b.layout xs at i ≡ take (i.len - (1 + total_width b.layout))
        (drop (at + 1 + total_width b.layout) xs)
    by_table NoCases is =
        let ends : end_of_cases NoCases b.layout.z xs (at + 1 + total_width b.layout) i.y i.z ≡ Ok (at + i.len) = rw is at b.ends in
        let same : at + 1 + total_width b.layout ≡ at + i.len = ok-same _ _ _ refl ends in
        let none : i.len - (1 + total_width b.layout) ≡ 0 = omega (arith, same) in
        rw (is, none) refl
    by_table Range is = rw is refl
    by_table (Pairs key) is = rw is refl

-- what is decoded is encoded as the bytes that stand there
pub encoding-own : (xs : List ℕ) (at : ℕ) (i : Insn) → AreBytes xs → decoded xs at ≡ Ok i → encoding xs at i ≡ take i.len (drop at xs)
unfolding encoding
encoding-own xs at i bytes h =
    let b = Begins-decoded xs at i h in
    let l = b.layout in
    let inside = table_end-ok l l.cases xs (at + 1 + total_width l) i.y i.z (at + i.len) b.ends b.reaches in
    let m = i.len - (1 + total_width l) in
    let whole : i.len ≡ 1 + (operand_width l.x + (operand_width l.y + (operand_width l.z + m))) = omega (arith, inside.0) in
    let op = opcode-byte xs at i.op b.opcode in
    let x = operand-bytes l.x xs (at + 1) i.x bytes b.x in
    let y = operand-bytes l.y xs (at + 1 + operand_width l.x) i.y bytes b.y in
    let z = operand-bytes l.z xs (at + 1 + operand_width l.x + operand_width l.y) i.z bytes b.z in
    let t = table-own xs at i b in
    let place : at + 1 + operand_width l.x + operand_width l.y + operand_width l.z ≡ at + 1 + total_width l = omega arith in
    ap (λ (r : Result Layout CodeEnd). encoding_by r xs at i) b.is_layout
    ∙ pieces xs at i.op (operand_bytes l.x i.x) (operand_bytes l.y i.y) (operand_bytes l.z i.z) (table_bytes l xs at i) (operand_width l.x)
    (operand_width l.y) (operand_width l.z) m
    op x y z (t ∙ ap (λ (k : ℕ). take m (drop k xs)) (sym place))
    ∙ ap (λ (n : ℕ). take n (drop at xs)) (sym whole)
  where
    pieces : (xs : List ℕ) (at op : ℕ) (x y z t : List ℕ) (a b c m : ℕ) → take 1 (drop at xs) ≡ op ∷ [] → x ≡ take a (drop (at + 1) xs)
        → y ≡ take b (drop (at + 1 + a) xs) → z ≡ take c (drop (at + 1 + a + b) xs) → t ≡ take m (drop (at + 1 + a + b + c) xs)
        → (op ∷ (x ++ (y ++ z))) ++ t ≡ take (1 + (a + (b + (c + m)))) (drop at xs)
    pieces xs at op x y z t a b c m e f g h k =
        let last = take-more xs (at + 1 + a + b) c m in
        let third = take-more xs (at + 1 + a) b (c + m) in
        let second = take-more xs (at + 1) a (b + (c + m)) in
        let first = take-more xs at 1 (a + (b + (c + m))) in
        rw (first, second, third, last, e, ← f, ← g, ← h, ← k) (simp append_assoc)
