-- What is appended for an item.
use Rattle.std.proofs.Common.{◌≡◌, ◌≤◌, ℕ, true, false, cond, Ok, List, [], ◌∷◌, ◌++◌, length, sym, ap, ◌∙◌, subst, arith}
use Rattle.std.specs.Prelude.{pos, ◌-ℤ◌}
use Rattle.std.proofs.lemmas.List.{append-nil}
use Rattle.jc_decode.specs.declared.insn.Insn.{Insn}
use Rattle.jc_decode.specs.declared.symbols.Item.TheVariants.{Plain, Branch, Switch}
use Rattle.jc_decode.specs.Decoding.{decoded}
use Rattle.jc_decode.specs.Cases.{cases, is_switch}
use Rattle.jc_decode.specs.Encoding.{ReadsBack}
use Rattle.jc_decode.specs.Listing.{is_branch, jumps}
use Rattle.jc_decode.specs.Forms.{essence, length_of}
use Rattle.jc_decode.specs.Symbols.{jump}
use Rattle.xf_layout.specs.declared.form.Form.{Form}
use Rattle.xf_layout.specs.declared.form.Form.TheVariants.{Fixed, Jump, Mark}
use Rattle.xf_layout.specs.Form.{IsForm, form_bytes}
use Rattle.xf_layout.specs.Widening.{is_wide}
use Rattle.xf_layout.specs.Laid.{Adds, AddsSwitch, led}
use Rattle.xf_layout.proofs.Pieces.{plain-piece, jump-piece, switch-piece}

-- ---- an instruction that names no place

pub plain-adds : (source : List ℕ) (place : ℕ → ℕ) (i short : Insn) (f : Form) (old new piece xs : List ℕ) (at : ℕ)
    → IsForm (Plain i) (Fixed (length_of short))
    → IsForm (Plain i) f → new ≡ old ++ piece → ReadsBack xs at short piece → length piece ≡ length_of short → essence short ≡ essence i
    → jumps short.op ≡ false
    → Adds source place (Plain i) f old new
plain-adds source place i short (Fixed n) old new piece xs at shortest form appended reads long alike still = record {
  piece = piece;
  appended = appended;
  long = long ∙ shortest ∙ sym form;
  stands = plain-piece source place (length old) i short xs at piece reads alike still;
}
plain-adds source place i short (Jump l w) old new piece xs at shortest form appended reads long alike still = absurd form
plain-adds source place i short (Mark l) old new piece xs at shortest form appended reads long alike still = absurd form

-- ---- a jump

pub jump-adds : (source : List ℕ) (place : ℕ → ℕ) (op l : ℕ) (j : Insn) (f : Form) (old new piece xs : List ℕ) (at : ℕ) → IsForm (Branch op l) f
    → new ≡ old ++ piece → ReadsBack xs at j piece → length piece ≡ length_of j → length_of j ≡ cond (is_wide f) 3 2
    → essence j ≡ essence (jump op) → is_branch j.op ≡ true → is_switch j.op ≡ false → j.x ≡ pos (place l) -ℤ pos (length old)
    → Adds source place (Branch op l) f old new
jump-adds source place op l j x old new piece xs at form appended reads long wide alike branch only x2 = grind (arith, jump-piece, length)

-- ---- a switch

-- bytes that are read back as an instruction of their length are it where they stand alone
pub decoded-alone : (xs : List ℕ) (at : ℕ) (s : Insn) (bytes : List ℕ) → ReadsBack xs at s bytes → length bytes ≡ s.len → decoded bytes 0 ≡ Ok s
decoded-alone xs at s bytes reads long =
    ap (λ (ys : List ℕ). decoded ys 0) (sym (append-nil bytes)) ∙ reads.insn [] [] ∙ ap (λ (n : ℕ). Ok (record s { len = n })) long

pub cases-alone : (xs : List ℕ) (at : ℕ) (s : Insn) (bytes : List ℕ) → ReadsBack xs at s bytes → length bytes ≡ s.len
    → cases bytes 0 s ≡ cases xs at s
cases-alone xs at s bytes reads long =
    ap (λ (ys : List ℕ). cases ys 0 s) (sym (append-nil bytes))
    ∙ ap (λ (n : ℕ). cases (bytes ++ []) 0 (record s { len = n })) (sym long) ∙ reads.cases [] []

pub switch-adds : (source : List ℕ) (place : ℕ → ℕ) (i : Insn) (from : ℕ) (labels : List ℕ) (s : Insn) (old new bytes : List ℕ) (l : ℕ)
    (ls : List ℕ) → labels ≡ l ∷ ls
    → new ≡ old ++ bytes → length bytes ≡ i.len → ReadsBack bytes 0 s bytes → essence s ≡ essence i → is_switch s.op ≡ true
    → s.x ≡ pos (place l) -ℤ pos (length old) → cases bytes 0 s ≡ led place (length old) ls (cases source from i)
    → length ls ≡ length (cases source from i)
    → AddsSwitch source place i from labels old new
switch-adds source place i from labels s old new bytes l ls split appended long reads alike switch x led_so count =
    subst (λ (ks : List ℕ). AddsSwitch source place i from ks old new) (sym split) (record {
      piece = bytes;
      appended = appended;
      long = long;
      stands = switch-piece source place (length old) i from l ls s bytes reads alike switch x led_so count;
    })

pub switch-form : (source : List ℕ) (place : ℕ → ℕ) (i : Insn) (from : ℕ) (labels : List ℕ) (f : Form) (old new : List ℕ)
    → IsForm (Switch i from labels) f
    → is_switch i.op ≡ true → AddsSwitch source place i from labels old new → Adds source place (Switch i from labels) f old new
switch-form source place i from labels x old new form switch adds = grind (arith)

-- a switch is as long as its form
pub switch-few : (i : Insn) (from : ℕ) (labels : List ℕ) (f : Form) → IsForm (Switch i from labels) f → is_switch i.op ≡ true
    → form_bytes f ≤ 32767 → i.len ≤ 32767
switch-few i from labels x form switch few = grind (arith)

-- ---- a label
