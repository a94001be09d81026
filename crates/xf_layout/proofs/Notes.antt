-- What is noted of labels: where each stands that is there once.
use Rattle.std.proofs.Common.{◌≡◌, ◌≤◌, ◌<◌, ◌+◌, ℕ, Bool, true, false, Some, List, [], ◌∷◌, zero, suc, length, refl, sym, ap}
use Rattle.std.proofs.Common.{◌∙◌, subst, arith, cond, All}
use Rattle.std.specs.Prelude.{◌==◌, slice_get, count_by}
use Rattle.std.proofs.Math.ListN.{get_or}
use Rattle.std.proofs.lemmas.Bool.{eqb-true, eqb-false, eq-eqb}
use Rattle.std.proofs.lemmas.List.{get_or-set_same, get_or-set_other, length-set}
use Rattle.std.proofs.lemmas.List.Elements.{All-head, All-tail, All-cons, All-weaker}
use Rattle.std.proofs.lemmas.List.Sums.{sum_by-cons}
use Rattle.jc_decode.specs.declared.symbols.Item.{Item}
use Rattle.jc_decode.specs.Symbols.{is_label, IsOnce, IsItem}
use Rattle.xf_layout.specs.declared.form.Form.{Form}
use Rattle.xf_layout.specs.declared.form.Form.TheVariants.{Fixed, Jump, Mark}
use Rattle.xf_layout.specs.Form.{IsForm, AreForms, form_bytes, label_place}
use Rattle.xf_layout.specs.Places.{noted, noted_one, IsInRoom, FormsFit}
use Rattle.xf_layout.specs.Widening.{widened_form, widened}

abbrev pub is_mark : ℕ → Form → Bool
is_mark l (Fixed n) = false
is_mark l (Jump m wide) = false
is_mark l (Mark m) = m == l

marks : ℕ → List Form → ℕ
marks l fs = count_by (is_mark l) fs

same-mark : (l : ℕ) (i : Item) (f : Form) → IsForm i f → is_mark l f ≡ is_label l i
same-mark l x x2 h = grind (arith)

pub count-marks : (l : ℕ) (items : List Item) (fs : List Form) → AreForms items fs → count_by (is_mark l) fs ≡ count_by (is_label l) items
count-marks l [] [] h = refl
count-marks l (i ∷ is) (f ∷ fs) h =
    let same = ap {B = ℕ} (λ (b : Bool). cond b 1 0) (same-mark l i f h.0) in
    omega (
      arith,
      same,
      sum_by-cons (λ (f : Form). cond (is_mark l f) 1 0) f fs,
      sum_by-cons (λ (i : Item). cond (is_label l i) 1 0) i is,
      count-marks l is fs h.1,
    )
count-marks l _ _ h = absurd h

pub one-more : (l : ℕ) (f : Form) (fs : List Form) → count_by (is_mark l) (f ∷ fs) ≡ cond (is_mark l f) 1 0 + count_by (is_mark l) fs
one-more l f fs = sum_by-cons (λ (f : Form). cond (is_mark l f) 1 0) f fs

-- a label that is not there keeps its place
other-noted : (f : Form) (at : ℕ) (ps : List ℕ) (l : ℕ) → is_mark l f ≡ false → get_or (noted_one f at ps) l 0 ≡ get_or ps l 0
other-noted x at ps l h = grind (arith, get_or-set_other, eqb-false)

length-noted : (f : Form) (at : ℕ) (ps : List ℕ) → length (noted_one f at ps) ≡ length ps
length-noted x at ps = grind (arith, length-set)

rest-count : (l : ℕ) (f : Form) (fs : List Form) (b : Bool) → is_mark l f ≡ b → cond b 1 0 + count_by (is_mark l) fs ≡ count_by (is_mark l) (f ∷ fs)
rest-count l f fs b e = ap (λ (x : Bool). cond x 1 0 + count_by (is_mark l) fs) (sym e) ∙ sym (one-more l f fs)

noted-none : (fs : List Form) (at : ℕ) (ps : List ℕ) (l : ℕ) → count_by (is_mark l) fs ≡ 0 → get_or (noted fs at ps) l 0 ≡ get_or ps l 0
noted-none [] at ps l h = refl
noted-none (f ∷ fs) at ps l h = by_test (is_mark l f) refl (noted-none fs (at + form_bytes f) (noted_one f at ps) l)
  where
    by_test : (b : Bool) → is_mark l f ≡ b
        → (count_by (is_mark l) fs ≡ 0 → get_or (noted fs (at + form_bytes f) (noted_one f at ps)) l 0 ≡ get_or (noted_one f at ps) l 0)
        → get_or (noted fs (at + form_bytes f) (noted_one f at ps)) l 0 ≡ get_or ps l 0
    by_test true e rest = absurd (omega (arith, h, rest-count l f fs true e))
    by_test false e rest = rest (omega (arith, h, rest-count l f fs false e)) ∙ other-noted f at ps l e

-- the form is this label
marked-here : (f : Form) (l : ℕ) → is_mark l f ≡ true → f ≡ Mark l
marked-here x l h = grind (arith, eqb-true)

-- another form moves the place of the label on
pub place-after : (f : Form) (fs : List Form) (l : ℕ) → is_mark l f ≡ false → label_place (f ∷ fs) l ≡ form_bytes f + label_place fs l
place-after x fs l h = grind (arith)

pub place-here : (fs : List Form) (l : ℕ) → label_place (Mark l ∷ fs) l ≡ 0
place-here fs l = rw (eq-eqb l l refl) refl

pub noted-once : (fs : List Form) (at : ℕ) (ps : List ℕ) (l : ℕ) → FormsFit (length ps) fs → count_by (is_mark l) fs ≡ 1
    → get_or (noted fs at ps) l 0 ≡ at + label_place fs l
noted-once [] at ps l room h = absurd (omega (arith, h))
noted-once (f ∷ fs) at ps l room h = by_test (is_mark l f) refl (noted-once fs (at + form_bytes f) (noted_one f at ps) l)
  where
    by_test : (b : Bool) → is_mark l f ≡ b
        → (FormsFit (length (noted_one f at ps)) fs → count_by (is_mark l) fs ≡ 1
        → get_or (noted fs (at + form_bytes f) (noted_one f at ps)) l 0 ≡ at + form_bytes f + label_place fs l)
        → get_or (noted fs (at + form_bytes f) (noted_one f at ps)) l 0 ≡ at + label_place (f ∷ fs) l
    by_test true e later =
        let same = marked-here f l e in
        let none = noted-none fs (at + form_bytes f) (noted_one f at ps) l (omega (arith, h, rest-count l f fs true e)) in
        let here : l < length ps = subst (IsInRoom (length ps)) same (All-head (IsInRoom (length ps)) f fs room) in
        let noted_here : get_or (noted_one f at ps) l 0 ≡ at = rw same (get_or-set_same ps l at 0 here) in
        let place : label_place (f ∷ fs) l ≡ 0 = rw same (place-here fs l) in
        omega (arith, none, noted_here, place)
    by_test false e later =
        let rest : FormsFit (length (noted_one f at ps)) fs = rw (length-noted f at ps) (All-tail (IsInRoom (length ps)) f fs room) in
        let once = later rest (omega (arith, h, rest-count l f fs false e)) in
        omega (arith, once, place-after f fs l e)

-- ---- room

room-widened : (room : ℕ) (place : ℕ → ℕ) (at : ℕ) (f : Form) → IsInRoom room f → IsInRoom room (widened_form place at f)
room-widened room place at x h = grind (arith)

pub rooms-widened : (room : ℕ) (place : ℕ → ℕ) (at : ℕ) (fs : List Form) → FormsFit room fs → FormsFit room (widened place at fs)
rooms-widened room place at [] h = h
rooms-widened room place at (f ∷ fs) h =
    All-cons (IsInRoom room) (widened_form place at f) (widened place (at + form_bytes f) fs)
    (room-widened room place at f (All-head (IsInRoom room) f fs h))
    (rooms-widened room place (at + form_bytes f) fs (All-tail (IsInRoom room) f fs h))

more-room : (n m : ℕ) → n ≤ m → (f : Form) → IsInRoom n f → IsInRoom m f
more-room n m le x h = grind (arith)

pub rooms-more : (n m : ℕ) → n ≤ m → (fs : List Form) → FormsFit n fs → FormsFit m fs
rooms-more n m le fs h = All-weaker (IsInRoom n) (IsInRoom m) (more-room n m le) fs h

-- ---- the labels of jumps are there once

jump-in : (source : List ℕ) (all : List Item) (i : Item) (l : ℕ) (w : Bool) → IsItem source all i → IsForm i (Jump l w) → IsOnce all l
jump-in source all x l w item form = grind (arith)

pub jump-once : (source : List ℕ) (all items : List Item) (fs : List Form) → All (IsItem source all) items → AreForms items fs
    → (k l : ℕ) (w : Bool) → slice_get fs k ≡ Some (Jump l w) → IsOnce all l
jump-once source all [] [] ok forms k l w e = absurd (cc)
jump-once source all (i ∷ is) (f ∷ fs) ok forms zero l w e =
    let same : f ≡ Jump l w = cc in
    jump-in source all i l w (All-head (IsItem source all) i is ok) (rw same at forms.0)
jump-once source all (i ∷ is) (f ∷ fs) ok forms (suc k) l w e = jump-once source all is fs (All-tail (IsItem source all) i is ok) forms.1 k l w e
jump-once source all [] (f ∷ fs) ok forms k l w e = absurd forms
jump-once source all (i ∷ is) [] ok forms k l w e = absurd forms
