-- What appending in steps leaves.
use Rattle.std.proofs.Common.{◌≡◌, ℕ, Result, Ok, Err, List, [], ◌++◌, map, sym, ap, ◌∙◌, append_assoc, arith}
use Rattle.std.specs.Prelude.{ℤ}
use Rattle.std.specs.Fmt.{signed_decimal}
use Rattle.std.proofs.lemmas.List.{append-nil, map-append}
use Rattle.cap_listing.specs.Words.{spaced}
use Rattle.jc_decode.specs.declared.layout.Layout.{Layout}
use Rattle.jc_decode.specs.declared.insn.CodeEnd.{CodeEnd}
use Rattle.jc_decode.specs.declared.insn.Insn.{Insn}
use Rattle.jc_decode.specs.declared.insn.Case.{Case}
use Rattle.jc_decode.specs.Layout.{layout_of}
use Rattle.jc_decode.specs.Listing.{jumps}
use Rattle.cap_listing.specs.Numbers.{shown, shown_operand, shown_first, shown_cases, numbers_by, numbers_of}
use Rattle.cap_listing.proofs.Words.{spaced-append, text-append}

pub shown-append : (ys zs : List ℤ) → shown (ys ++ zs) ≡ shown ys ++ shown zs
shown-append ys zs = ap spaced (map-append signed_decimal ys zs) ∙ spaced-append (map signed_decimal ys) (map signed_decimal zs)

pub ruleset steps = (append_assoc, append-nil, shown-append, text-append)

pub numbers_none : (place : ℕ) (i : Insn) (cs : List Case) (e : CodeEnd) → layout_of i.op ≡ Err e → shown (numbers_of place i cs) ≡ []
numbers_none place i cs e is = ap (λ (r : Result Layout CodeEnd). shown (numbers_by r place i cs)) is

pub append_none : (out ns : List ℕ) → ns ≡ [] → out ≡ out ++ ns
append_none out ns e = sym (ap (λ (t : List ℕ). out ++ t) e ∙ append-nil out)

-- what is appended in four steps
pub numbers_pushed : (place : ℕ) (i : Insn) (cs : List Case) (l : Layout) → layout_of i.op ≡ Ok l → (a b c d e : List ℕ) (x y z : ℤ)
    → x ≡ shown_first (jumps i.op) place i.x → y ≡ i.y → z ≡ i.z
    → b ≡ a ++ shown (shown_operand l.x x) → c ≡ b ++ shown (shown_operand l.y y) → d ≡ c ++ shown (shown_operand l.z z)
    → e ≡ d ++ shown (shown_cases l.cases place cs) → e ≡ a ++ shown (numbers_of place i cs)
numbers_pushed place i cs l is a b c d e x y z first second third one two three four = grind (arith, append_assoc, shown-append)
