-- What holds where an instruction is decoded.
use Rattle.std.proofs.Common.{◌≡◌, ◌≤◌, ◌+◌, ◌-◌, ◌*◌, ℕ, Bool, true, false, cond, Option, Some, Result, Ok, Err, List, length}
use Rattle.std.proofs.Common.{refl, sym, ap, ◌∙◌, subst, arith}
use Rattle.std.specs.Prelude.{ℤ, int_lt}
use Rattle.cap_bytes.specs.Number.{number_at}
use Rattle.jc_decode.specs.declared.layout.Operand.{Operand}
use Rattle.jc_decode.specs.declared.layout.Cases.{Cases}
use Rattle.jc_decode.specs.declared.layout.Layout.{Layout}
use Rattle.jc_decode.specs.declared.insn.CodeEnd.{CodeEnd}
use Rattle.jc_decode.specs.declared.insn.Insn.{Insn}
use Rattle.jc_decode.specs.Layout.{operand_width, total_width, layout_of}
use Rattle.jc_decode.specs.Decoding.{◌>>=◌, or_cut, within_bytes, pairs_end}
use Rattle.jc_decode.specs.Decoding.{pair_width, range_end, range_count, bad_operand, operand_at}
use Rattle.jc_decode.specs.Decoding.{table_end, end_of_cases, decoded, Begins, IsWithin}

-- a step that succeeds, and what comes of it
pub bind-ok : {A B : Type 0} (r : Result A CodeEnd) (f : A → Result B CodeEnd) (y : B)
    → (r >>= f) ≡ Ok y → (x : A) × (r ≡ Ok x) × (f x ≡ Ok y)
bind-ok x f y h = grind (arith)

pub or_cut-ok : {A : Type 0} (o : Option A) (x : A) → or_cut o ≡ Ok x → o ≡ Some x
or_cut-ok x x2 h = grind (arith)

-- what is reached is the place, and lies within the bytes
pub reached-ok : (xs : List ℕ) (end e : ℕ) → within_bytes xs end ≡ Ok e → (e ≡ end) × (e ≤ length xs)
reached-ok xs end e h = grind arith

pub reached-within : (xs : List ℕ) (end : ℕ) → end ≤ length xs → within_bytes xs end ≡ Ok end
reached-within xs end h = grind arith

pub pairs_end-ok : (key : Operand) (xs : List ℕ) (table count e : ℕ) → pairs_end key xs table count ≡ Ok e
    → (e ≡ table + pair_width key * count) × (e ≤ length xs)
pairs_end-ok key xs table count e h = grind (arith, bind-ok, reached-ok)

pub range_end-ok : (bound : Operand) (xs : List ℕ) (table : ℕ) (low high : ℤ) (e : ℕ) → range_end bound xs table low high ≡ Ok e
    → (e ≡ table + 2 * range_count low high) × (e ≤ length xs)
range_end-ok bound xs table low high e h = by_test (int_lt high low) h
  where
    by_test : (b : Bool) → cond b (Err (bad_operand xs (table - operand_width bound))) (within_bytes xs (table + 2 * range_count low high)) ≡ Ok e
        → (e ≡ table + 2 * range_count low high) × (e ≤ length xs)
    by_test true h = absurd (cc)
    by_test false h = reached-ok xs _ e h

pub table_end-ok : (l : Layout) (c : Cases) (xs : List ℕ) (table : ℕ) (y z : ℤ) (e : ℕ) → end_of_cases c l.z xs table y z ≡ Ok e
    → table ≤ length xs → (table ≤ e) × (e ≤ length xs)
table_end-ok l y xs table y2 z e h inside = grind (arith, range_end-ok, pairs_end-ok)

-- the same for a chain of steps
pub from_bind : {A B C : Type 0} (r : Result A CodeEnd) (f : A → Result B CodeEnd) (y : B)
    → (r >>= f) ≡ Ok y → ((x : A) → r ≡ Ok x → f x ≡ Ok y → C) → C
from_bind x f y h k = grind (arith)

pub ok-same : {A : Type 0} (x y : A) (r : Result A CodeEnd) → r ≡ Ok x → r ≡ Ok y → x ≡ y
ok-same x y r h k = cc

-- what is decoded begins there
pub Begins-decoded : (xs : List ℕ) (at : ℕ) (i : Insn) → decoded xs at ≡ Ok i → Begins xs at i
unfolding decoded
Begins-decoded xs at i h =
    from_bind (or_cut (number_at 1 at xs)) _ i h (λ op op_is h1.
    from_bind (layout_of op) _ i h1 (λ l l_is h2.
    from_bind (within_bytes xs (at + 1 + total_width l)) _ i h2 (λ table table_is h3.
    from_bind (operand_at l.x xs (at + 1)) _ i h3 (λ x x_is h4.
    from_bind (operand_at l.y xs (at + 1 + operand_width l.x)) _ i h4 (λ y y_is h5.
    from_bind (operand_at l.z xs (at + 1 + operand_width l.x + operand_width l.y)) _ i h5 (λ z z_is h6.
    from_bind (table_end l xs table y z) _ i h6 (λ end end_is h7.
    let place = reached-ok xs (at + 1 + total_width l) table table_is in
    let inside = table_end-ok l l.cases xs table y z end end_is place.1 in
    let farther : at + (end - at) ≡ end = omega (arith, place.0, inside.0) in
    let at_table : table_end l xs (at + 1 + total_width l) y z ≡ Ok end = rw (← place.0) end_is in
    subst (Begins xs at) (ok-same _ i _ refl h7) (record {
      opcode = or_cut-ok _ _ op_is;
      layout = l;
      is_layout = l_is;
      reaches = omega (arith, place.0, place.1);
      x = x_is;
      y = y_is;
      z = z_is;
      ends = at_table ∙ ap Ok (sym farther);
    }))))))))

-- and what begins there is decoded
pub decoded-Begins : (xs : List ℕ) (at : ℕ) (i : Insn) → Begins xs at i → decoded xs at ≡ Ok i
unfolding decoded
decoded-Begins xs at i b = grind (arith, reached-within)

-- an instruction takes a byte at least, and only bytes that are there
pub IsWithin-decoded : (xs : List ℕ) (at : ℕ) (i : Insn) → decoded xs at ≡ Ok i → IsWithin xs at i
IsWithin-decoded xs at i h =
    let b = Begins-decoded xs at i h in
    let inside = table_end-ok b.layout b.layout.cases xs _ i.y i.z (at + i.len) b.ends b.reaches in
    record { one = omega (arith, inside.0); reaches = inside.1 }
