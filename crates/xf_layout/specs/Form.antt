-- The forms of items, and where items stand in the code that has them so (JCVM 2.2, section 7.5). A load or store of one of
-- the first four registers has its form without an operand; a jump is short, with an offset of one byte, or wide, with one
-- of two.
use Rattle.std.specs.Prelude.{◌≡◌, ◌+◌, ℕ, zero, suc, false, List, [], ◌∷◌, ◌==◌, if◌then◌else◌}
use Rattle.std.proofs.Common.{refl}
use Rattle.std.specs.List.{AllZip}
use Rattle.jc_decode.specs.declared.symbols.Item.{Item}
use Rattle.jc_decode.specs.declared.symbols.Item.TheVariants.{Plain, Branch, Switch, Label}
use Rattle.jc_decode.specs.Forms.{length_of, short_form}
use Rattle.xf_layout.specs.declared.form.Form.{Form}
use Rattle.xf_layout.specs.declared.form.Form.TheVariants.{Fixed, Jump, Mark}

-- the bytes of an item in this form
abbrev pub form_bytes : Form → ℕ
form_bytes (Fixed n) = n
form_bytes (Jump l wide) = if wide then 3 else 2
form_bytes (Mark l) = 0

-- a form of an item
abbrev pub IsForm : Item → Form → Type 0
IsForm (Plain i) (Fixed n) = n ≡ length_of (short_form i)
IsForm (Branch op l) (Jump m wide) = m ≡ l
IsForm (Switch i at labels) (Fixed n) = n ≡ length_of i
IsForm (Label l) (Mark m) = m ≡ l
IsForm _ _ = ⊥

-- a form of each item: of each jump, whether it is wide
abbrev pub AreForms : List Item → List Form → Type 0
AreForms items forms = AllZip IsForm items forms

-- the place where the k-th item begins: after the bytes of those before it
abbrev pub begins : List Form → ℕ → ℕ
begins [] k = 0
begins (f ∷ fs) zero = 0
begins (f ∷ fs) (suc k) = form_bytes f + begins fs k

-- the place where the code ends
abbrev pub length_of_forms : List Form → ℕ
length_of_forms [] = 0
length_of_forms (f ∷ fs) = form_bytes f + length_of_forms fs

-- the place where a label stands
abbrev pub label_place : List Form → ℕ → ℕ
label_place [] l = 0
label_place (Mark m ∷ fs) l = if m == l then 0 else label_place fs l
label_place (Fixed n ∷ fs) l = n + label_place fs l
label_place (Jump m wide ∷ fs) l = form_bytes (Jump m wide) + label_place fs l

-- the place where the n-th instruction begins, or the code ends
abbrev pub instruction_place : List Form → ℕ → ℕ
instruction_place [] n = 0
instruction_place (Mark m ∷ fs) n = instruction_place fs n
instruction_place (Fixed b ∷ fs) zero = 0
instruction_place (Fixed b ∷ fs) (suc n) = b + instruction_place fs n
instruction_place (Jump m wide ∷ fs) zero = 0
instruction_place (Jump m wide ∷ fs) (suc n) = form_bytes (Jump m wide) + instruction_place fs n

-- a short goto over a nop, to the end
abbrev over_nop : List Form
over_nop = Jump 1 false ∷ Fixed 1 ∷ Mark 1 ∷ []

over_label : label_place over_nop 1 ≡ 3
over_label = refl

over_second : begins over_nop 1 ≡ 2
over_second = refl

over_end : instruction_place over_nop 2 ≡ length_of_forms over_nop
over_end = refl
