-- The plain size of code and its length.
use Rattle.std.proofs.Common.{◌≡◌, ◌≤◌, ◌<◌, ◌+◌, ◌-◌, ◌*◌, ℕ, Bool, true, false, cond, Ok, List, [], ◌∷◌, length, ap, if◌then◌else◌, Result, Err}
use Rattle.std.proofs.Common.{◌∙◌, arith}
use Rattle.jc_decode.specs.declared.insn.Insn.{Insn}
use Rattle.jc_decode.specs.declared.insn.Placed.{Placed}
use Rattle.jc_decode.specs.Decoding.{decoded}
use Rattle.jc_decode.specs.Forms.{is_register_move, length_of, plain_length, bytes_by}
use Rattle.jc_decode.specs.Laws.{AreListed}
use Rattle.jc_decode.specs.Listing.{is_branch, listing, listing_end, end_from, Lists}
use Rattle.jc_decode.proofs.Decoded.{IsWithin-decoded}
use Rattle.jc_decode.proofs.Shorter.{length-plain}
use Rattle.jc_decode.proofs.Sized.{length-decoded}
use Rattle.jc_decode.specs.CodeSize.{plain_sum, plain_code_size}
use Rattle.jc_decode.specs.declared.layout.Layout.{Layout}
use Rattle.jc_decode.specs.declared.layout.Operand.{Operand}
use Rattle.jc_decode.specs.declared.layout.Operand.TheVariants.{U2, S2, S4}
use Rattle.jc_decode.specs.declared.insn.CodeEnd.{CodeEnd}
use Rattle.jc_decode.specs.Layout.{layout_of, operand_width}
use Rattle.jc_decode.specs.Cases.{is_switch}

plain_least : (code : List ℕ) (at : ℕ) (i : Insn) → decoded code at ≡ Ok i → i.len ≤ plain_length i
plain_least code at i e = omega (arith, length-plain i, length-decoded code at i e)

plain_most : (code : List ℕ) (at : ℕ) (i : Insn) → decoded code at ≡ Ok i → plain_length i ≤ 3 * i.len
plain_most code at i e = by (is_register_move i.op) (is_branch i.op)
  where
    one : 0 < i.len
    one = (IsWithin-decoded code at i e).one

    by : (a b : Bool) → cond a 2 (cond b 3 (length_of i)) ≤ 3 * i.len
    by true b = omega (arith, one)
    by false true = omega (arith, one)
    by false false = omega (arith, length-decoded code at i e)

record IsBounded (code : List ℕ) (at : ℕ) (is : List Placed) : Type 0 where
  least : end_from at is ≤ at + plain_sum is
  most : plain_sum is + 3 * at ≤ 3 * end_from at is
  ends : end_from at is ≤ length code

bounded : (code : List ℕ) (at : ℕ) (is : List Placed) → at ≤ length code → Lists code at is → IsBounded code at is
bounded code at [] low l = record { least = omega arith; most = omega arith; ends = low }
bounded code at (p ∷ ps) low l =
    let w = IsWithin-decoded code at p.insn l.1 in
    let r = bounded code (at + p.insn.len) ps w.reaches l.2 in
    let a = plain_least code at p.insn l.1 in
    let b = plain_most code at p.insn l.1 in
    record { least = omega (arith, r.least); most = omega (arith, r.most); ends = r.ends }

-- what is known of the plain size of code
pub record IsPlain (code : List ℕ) : Type 0 where
  pub ends : listing_end code ≤ length code
  pub sum : plain_sum (listing code) ≤ 3 * length code
  pub least : length code ≤ plain_sum (listing code) + (length code - listing_end code)
  pub most : plain_sum (listing code) + (length code - listing_end code) ≤ 3 * length code

pub plain_known : (code : List ℕ) → AreListed code → IsPlain code
plain_known code listed = grind (arith, bounded)

pub plain_is : (code : List ℕ) (sum end : ℕ) → sum ≡ plain_sum (listing code) → end ≡ listing_end code
    → sum + (length code - end) ≡ plain_code_size code
unfolding plain_code_size
plain_is code sum end a b = ap (λ n. n + (length code - end)) a ∙ ap (λ n. plain_sum (listing code) + (length code - n)) b

operand-width : (o : Operand) → operand_width o ≤ 4
operand-width S4 = omega arith
operand-width U2 = omega arith
operand-width S2 = omega arith
operand-width o = omega arith

pub own-length : (i : Insn) → length_of i ≤ i.len + 13
own-length i = by (is_switch i.op) (layout_of i.op)
  where
    by : (b : Bool) (l : Result Layout CodeEnd) → (if b then i.len else bytes_by l) ≤ i.len + 13
    by true l = omega arith
    by false (Ok l) = omega (arith, operand-width l.x, operand-width l.y, operand-width l.z)
    by false (Err e) = omega arith

pub plain-length : (i : Insn) → plain_length i ≤ i.len + 13
plain-length i = by (is_register_move i.op) (is_branch i.op)
  where
    by : (a b : Bool) → (if a then 2 else if b then 3 else length_of i) ≤ i.len + 13
    by true b = omega arith
    by false true = omega arith
    by false false = own-length i
