-- A load or store of one of the first four registers in its short form is the same instruction, and allowed.
use Rattle.std.proofs.Common.{◌≡◌, ◌∙◌, ◌<◌, ◌≤◌, ◌+◌, ◌-◌, ◌/◌, ◌%◌, ℕ, zero, suc, Bool, true, false, cond, Result, Ok}
use Rattle.std.proofs.Common.{Err, refl, sym, ap, arith}
use Rattle.std.specs.Prelude.{ℤ, pos, unsigned_abs, not, ◌&&◌, ◌||◌, ◌==◌, nat_le, map, replicate}
use Rattle.std.specs.List.{range_with_len}
use Rattle.std.proofs.lemmas.Bool.{eqb-true, not-true, or_parts, and_parts}
use Rattle.std.proofs.lemmas.Bool.Decides.{nat_tests}
use Rattle.jc_decode.specs.declared.layout.Operand.{Operand}
use Rattle.jc_decode.specs.declared.layout.Operand.TheVariants.{Absent, U1}
use Rattle.jc_decode.specs.declared.layout.Layout.{Layout}
use Rattle.jc_decode.specs.declared.insn.Insn.{Insn}
use Rattle.jc_decode.specs.declared.insn.CodeEnd.{CodeEnd}
use Rattle.jc_decode.specs.Layout.{layout_of, opcode}
use Rattle.jc_decode.specs.Listing.{jumps}
use Rattle.jc_decode.specs.Encoding.{Allows, AllowsBy, IsAllowed}
use Rattle.jc_decode.specs.Forms.{names_register, is_load_n, is_store_n, first_short, short_form, essence}
use Rattle.jc_decode.proofs.Passed.{passed-at, or-rest}

abbrev pub is_absent : Operand → Bool
is_absent Absent = true
is_absent _ = false

abbrev pub is_byte : Operand → Bool
is_byte U1 = true
is_byte _ = false

abbrev has_none : Result Layout CodeEnd → Bool
has_none (Ok l) = is_absent l.x && (is_absent l.y && is_absent l.z)
has_none (Err e) = false

abbrev pub has_byte : Result Layout CodeEnd → Bool
has_byte (Ok l) = is_byte l.x && (is_absent l.y && is_absent l.z)
has_byte (Err e) = false

-- the first operand is a byte
abbrev pub first_byte : Result Layout CodeEnd → Bool
first_byte (Ok l) = is_byte l.x
first_byte (Err e) = false

-- opcode by opcode: a load or store with its register in the opcode has no operand, one with an operand has a byte
abbrev is_moved : ℕ → Bool
is_moved op = not (is_load_n op || is_store_n op) || (has_none (layout_of op) && not (jumps op))

abbrev is_named : ℕ → Bool
is_named op = not (names_register op) || (has_byte (layout_of op) && (not (jumps op) && not (is_load_n op || is_store_n op)))

is_moved-all : map is_moved (range_with_len 0 256) ≡ replicate 256 true
unfolding layout_of opcode
is_moved-all = refl

is_named-all : map is_named (range_with_len 0 256) ≡ replicate 256 true
unfolding layout_of opcode
is_named-all = refl

pub absent-one : (o : Operand) → is_absent o ≡ true → o ≡ Absent
absent-one Absent h = refl
absent-one _ h = absurd (cc)

pub byte-one : (o : Operand) → is_byte o ≡ true → o ≡ U1
byte-one U1 h = refl
byte-one _ h = absurd (cc)

absent-is : (o : Operand) (v : ℤ) → is_absent o ≡ true → Allows o v → v ≡ pos 0
absent-is x v h a = grind (arith)

pub absent-allows : (o : Operand) → is_absent o ≡ true → Allows o (pos 0)
absent-allows x h = grind (arith)

pub byte-allows : (o : Operand) (r : ℕ) → is_byte o ≡ true → r < 256 → Allows o (pos r)
byte-allows U1 r h lt = (lt, refl)
byte-allows _ r h lt = absurd (cc)

-- another register in the first operand
pub other-register : (i : Insn) (r : ℕ) → first_byte (layout_of i.op) ≡ true → r < 256 → IsAllowed i → IsAllowed (record i { x = pos r })
other-register i r e lt a = by (layout_of i.op) e a
  where
    by : (l : Result Layout CodeEnd) → first_byte l ≡ true → AllowsBy i l → AllowsBy (record i { x = pos r }) l
    by (Ok l) e a = (byte-allows l.x r e lt, a.1, a.2)
    by (Err f) e a = absurd (cc)

-- the operands of a load or store of a register
record IsNamed (i : Insn) : Type 0 where
  pub x : pos (unsigned_abs i.x) ≡ i.x
  pub y : i.y ≡ pos 0
  pub z : i.z ≡ pos 0

IsNamed-allowed : (i : Insn) (r : Result Layout CodeEnd) → has_byte r ≡ true → AllowsBy i r → IsNamed i
IsNamed-allowed i y h a = grind (arith, and_parts, absent-is)

AllowsBy-none : (i : Insn) (r : Result Layout CodeEnd) → has_none r ≡ true → i.x ≡ pos 0 → i.y ≡ pos 0 → i.z ≡ pos 0 → AllowsBy i r
AllowsBy-none i y h x y2 z = grind (arith, and_parts, absent-allows)

-- the short opcode is that of a load or store with the register in it, and gives back the long one and the register
record IsShort (op n short : ℕ) : Type 0 where
  pub small : short < 256
  pub moved : (is_load_n short || is_store_n short) ≡ true
  pub long : cond (is_load_n short) (21 + (short - 24) / 4) (40 + (short - 43) / 4) ≡ op
  pub register : cond (is_load_n short) ((short - 24) % 4) ((short - 43) % 4) ≡ n

abbrev is_short : ℕ → ℕ → Bool
is_short n op =
    not (names_register op)
    || ((is_load_n (first_short op + n) || is_store_n (first_short op + n))
    && ((cond (is_load_n (first_short op + n)) (21 + (first_short op + n - 24) / 4) (40 + (first_short op + n - 43) / 4) == op)
    && (cond (is_load_n (first_short op + n)) ((first_short op + n - 24) % 4) ((first_short op + n - 43) % 4) == n)))

is_short-at : (n op : ℕ) → n ≤ 3 → op < 256 → is_short n op ≡ true
is_short-at zero op few h = grind (arith, passed-at)
is_short-at (suc zero) op few h = grind (arith, passed-at)
is_short-at (suc (suc zero)) op few h = grind (arith, passed-at)
is_short-at (suc (suc (suc zero))) op few h = grind (arith, passed-at)
is_short-at (suc (suc (suc (suc n)))) op few h = absurd (omega arith)

IsShort-at : (op n : ℕ) → op < 256 → names_register op ≡ true → n ≤ 3 → IsShort op n (first_short op + n)
IsShort-at op n h named few =
    let p = and_parts _ _ (or-rest (names_register op) _ (is_short-at n op few h) named) in
    let q = and_parts _ _ p.1 in
    record { small = small (nat_le op 23) refl; moved = p.0; long = eqb-true _ _ q.0; register = eqb-true _ _ q.1 }
  where
    small : (b : Bool) → nat_le op 23 ≡ b → first_short op + n < 256
    small b e = grind (arith, nat_tests)

-- a load or store with its register in the opcode, in its long form
essence-moved : (j : Insn) (op n : ℕ) → jumps j.op ≡ false → (is_load_n j.op || is_store_n j.op) ≡ true
    → cond (is_load_n j.op) (21 + (j.op - 24) / 4) (40 + (j.op - 43) / 4) ≡ op
    → cond (is_load_n j.op) ((j.op - 24) % 4) ((j.op - 43) % 4) ≡ n
    → essence j ≡ record j { op = op; x = pos n; len = 0 }
essence-moved j op n still moved long register = by_form (is_load_n j.op) refl (is_store_n j.op) refl
  where
    by_form : (a : Bool) → is_load_n j.op ≡ a → (b : Bool) → is_store_n j.op ≡ b → essence j ≡ record j { op = op; x = pos n; len = 0 }
    by_form true e b f = let l = rw e at long in let r = rw e at register in rw (still, e, l, r) refl
    by_form false e true f = let l = rw e at long in let r = rw e at register in rw (still, e, f, l, r) refl
    by_form false e false f = let m = rw (e, f) at moved in absurd (cc)

essence-named : (i : Insn) → jumps i.op ≡ false → is_load_n i.op ≡ false → is_store_n i.op ≡ false → essence i ≡ record i { len = 0 }
essence-named i still load store = rw (still, load, store) refl

small-by : (op : ℕ) → names_register op ≡ true → op < 256
small-by op h = grind (arith, nat_tests)

few-by : (n : ℕ) → nat_le n 3 ≡ true → n ≤ 3
few-by n h = grind (arith, nat_tests)

pub short-essence : (i : Insn) → IsAllowed i → essence (short_form i) ≡ essence i
short-essence i allowed = by_test (names_register i.op) refl (nat_le (unsigned_abs i.x) 3) refl
  where
    by_test : (a : Bool) → names_register i.op ≡ a → (b : Bool) → nat_le (unsigned_abs i.x) 3 ≡ b → essence (short_form i) ≡ essence i
    by_test false e b f = rw e refl
    by_test true e false f = rw (e, f) refl
    by_test true e true f =
        let small = small-by i.op e in
        let named = and_parts _ _ (or-rest (names_register i.op) _ (passed-at is_named is_named-all i.op small) e) in
        let still = and_parts _ _ named.1 in
        let n = IsNamed-allowed i (layout_of i.op) named.0 allowed in
        let few = few-by (unsigned_abs i.x) f in
        let short = IsShort-at i.op (unsigned_abs i.x) small e few in
        let other = and_parts _ _ (or-rest _ _ (passed-at is_moved is_moved-all (first_short i.op + unsigned_abs i.x) short.small) short.moved) in
        let free = or_parts _ _ (not-true _ still.1) in
        rw (e, f)
        (essence-moved (record i { op = first_short i.op + unsigned_abs i.x; x = pos 0 }) i.op (unsigned_abs i.x) (not-true _ other.1) short.moved
        short.long short.register
        ∙ ap (λ (x : ℤ). record i { x = x; len = 0 }) n.x
        ∙ sym (essence-named i (not-true _ still.0) free.0 free.1))

pub short-allowed : (i : Insn) → IsAllowed i → IsAllowed (short_form i)
short-allowed i allowed = by_test (names_register i.op) refl (nat_le (unsigned_abs i.x) 3) refl
  where
    by_test : (a : Bool) → names_register i.op ≡ a → (b : Bool) → nat_le (unsigned_abs i.x) 3 ≡ b → IsAllowed (short_form i)
    by_test false e b f = rw e allowed
    by_test true e false f = rw (e, f) allowed
    by_test true e true f =
        let small = small-by i.op e in
        let named = and_parts _ _ (or-rest (names_register i.op) _ (passed-at is_named is_named-all i.op small) e) in
        let n = IsNamed-allowed i (layout_of i.op) named.0 allowed in
        let few = few-by (unsigned_abs i.x) f in
        let short = IsShort-at i.op (unsigned_abs i.x) small e few in
        let other = and_parts _ _ (or-rest _ _ (passed-at is_moved is_moved-all (first_short i.op + unsigned_abs i.x) short.small) short.moved) in
        rw (e, f) (AllowsBy-none (record i { op = first_short i.op + unsigned_abs i.x; x = pos 0 }) (layout_of (first_short i.op + unsigned_abs i.x))
        other.0 refl n.y n.z)

pub short-jumps : (i : Insn) → jumps (short_form i).op ≡ jumps i.op
short-jumps i = by_test (names_register i.op) refl (nat_le (unsigned_abs i.x) 3) refl
  where
    by_test : (a : Bool) → names_register i.op ≡ a → (b : Bool) → nat_le (unsigned_abs i.x) 3 ≡ b → jumps (short_form i).op ≡ jumps i.op
    by_test false e b f = rw e refl
    by_test true e false f = rw (e, f) refl
    by_test true e true f =
        let small = small-by i.op e in
        let named = and_parts _ _ (or-rest (names_register i.op) _ (passed-at is_named is_named-all i.op small) e) in
        let still = and_parts _ _ named.1 in
        let few = few-by (unsigned_abs i.x) f in
        let short = IsShort-at i.op (unsigned_abs i.x) small e few in
        let other = and_parts _ _ (or-rest _ _ (passed-at is_moved is_moved-all (first_short i.op + unsigned_abs i.x) short.small) short.moved) in
        rw (e, f) (not-true _ other.1 ∙ sym (not-true _ still.0))
