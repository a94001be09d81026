-- Jumps that become wide one by one: a jump that leads too far is wide wherever all jumps fit.
use Rattle.std.proofs.Common.{◌≡◌, ◌≤◌, ◌<◌, ◌+◌, ℕ, zero, suc, Bool, true, false, Some, None, List, [], ◌∷◌, refl, sym, ap, ◌∙◌, arith, cond}
use Rattle.std.proofs.Common.{All, ◌⊎◌, inl, inr}
use Rattle.std.specs.Prelude.{pos, ◌-ℤ◌, slice_get, slice_set, count_by}
use Rattle.std.proofs.lemmas.Bool.{eq-eqb}
use Rattle.std.proofs.lemmas.Int.{ints}
use Rattle.std.proofs.lemmas.List.Elements.{All-set}
use Rattle.jc_decode.specs.declared.symbols.Item.{Item}
use Rattle.jc_decode.specs.Forms.{is_near}
use Rattle.jc_decode.specs.Symbols.{IsItem}
use Rattle.xf_layout.specs.declared.form.Form.{Form}
use Rattle.xf_layout.specs.declared.form.Form.TheVariants.{Fixed, Jump, Mark}
use Rattle.xf_layout.specs.Form.{IsForm, AreForms, form_bytes, begins, label_place}
use Rattle.xf_layout.specs.Shortest.{Fit, distance}
use Rattle.xf_layout.specs.Places.{IsInRoom}
use Rattle.xf_layout.specs.Settling.{LeadsFar, Settles}
use Rattle.xf_layout.proofs.Below.{IsBelow, AreBelow, below-from, near-below, no-wider}
use Rattle.xf_layout.proofs.Notes.{is_mark, count-marks, jump-once, place-after, place-here, one-more}
use Rattle.xf_layout.proofs.Turns.{above-at}
use Rattle.xf_layout.proofs.Reached.{begins-more}

-- ---- where a label stands that is there once

some-mark : (fs : List Form) (m l : ℕ) → slice_get fs m ≡ Some (Mark l) → 1 ≤ count_by (is_mark l) fs
some-mark [] m l e = absurd (cc)
some-mark (f ∷ fs) zero l e =
    let here : f ≡ Mark l = cc in
    let one : is_mark l f ≡ true = ap (is_mark l) here ∙ eq-eqb l l refl in
    let more : cond (is_mark l f) 1 0 ≡ 1 = ap {B = ℕ} (λ (b : Bool). cond b 1 0) one in
    omega (arith, one-more l f fs, more)
some-mark (f ∷ fs) (suc m) l e = omega (arith, one-more l f fs, some-mark fs m l e)

pub mark-place : (fs : List Form) (m l : ℕ) → slice_get fs m ≡ Some (Mark l) → count_by (is_mark l) fs ≡ 1 → label_place fs l ≡ begins fs m
mark-place [] m l e once = absurd (cc)
mark-place (f ∷ fs) zero l e once = let here : f ≡ Mark l = cc in rw here (place-here fs l)
mark-place (f ∷ fs) (suc m) l e once = by_test (is_mark l f) refl (mark-place fs m l e)
  where
    rest : 1 ≤ count_by (is_mark l) fs
    rest = some-mark fs m l e

    by_test : (b : Bool) → is_mark l f ≡ b → (count_by (is_mark l) fs ≡ 1 → label_place fs l ≡ begins fs m)
        → label_place (f ∷ fs) l ≡ form_bytes f + begins fs m
    by_test true h later =
        let more : cond (is_mark l f) 1 0 ≡ 1 = ap {B = ℕ} (λ (b : Bool). cond b 1 0) h in
        absurd (omega (arith, rest, once, one-more l f fs, more))
    by_test false h later = grind (arith, cond, one-more, place-after)

pub bytes_here : (fs : List Form) (n : ℕ) (f : Form) → slice_get fs n ≡ Some f → begins fs n + form_bytes f ≡ begins fs (n + 1)
bytes_here fs n f e = sym (begins-more fs n f e)

begins-past : (fs : List Form) (n : ℕ) → slice_get fs n ≡ None → begins fs n ≡ begins fs (suc n)
begins-past [] n e = refl
begins-past (f ∷ fs) zero e = absurd (cc)
begins-past (f ∷ fs) (suc n) e = ap (λ (k : ℕ). form_bytes f + k) (begins-past fs n e)

pub bytes_past : (fs : List Form) (n : ℕ) → slice_get fs n ≡ None → begins fs n + 0 ≡ begins fs (n + 1)
bytes_past fs n e = grind (arith, suc, begins-past)

pub begins-rise : (fs : List Form) (k m : ℕ) → k ≤ m → begins fs k ≤ begins fs m
begins-rise [] k m le = omega arith
begins-rise (f ∷ fs) zero m le = omega arith
begins-rise (f ∷ fs) (suc k) zero le = absurd (omega (arith, le))
begins-rise (f ∷ fs) (suc k) (suc m) le = omega (arith, begins-rise fs k m (omega (arith, le)))

-- ---- a jump that leads too far

far-ahead : (x y : ℕ) → y + 127 < x → is_near (pos x -ℤ pos y) ≡ true → ⊥
far-ahead x y far near = grind (arith, ints)

far-back : (x y : ℕ) → x + 128 < y → is_near (pos x -ℤ pos y) ≡ true → ⊥
far-back x y far near = grind (arith, ints)

far-from : (fs : List Form) (k l : ℕ) (far : LeadsFar fs k l) → label_place fs l ≡ begins fs far.mark → (k ≤ far.mark) ⊎ (far.mark < k)
    → is_near (distance fs k l) ≡ true → ⊥
far-from fs k l far at x near = grind (arith, far-ahead, far-back)

side : (k m : ℕ) → (k ≤ m) ⊎ (m < k)
side zero m = inl (omega arith)
side (suc k) zero = inr (omega arith)
side (suc k) (suc m) = by (side k m)
  where
    by : (k ≤ m) ⊎ (m < k) → (suc k ≤ suc m) ⊎ (suc m < suc k)
    by (inl h) = inl (omega (arith, h))
    by (inr h) = inr (omega (arith, h))

-- it is wide among the others
wide-there : (fs others : List Form) → AreBelow fs others → Fit others → (k l : ℕ) → slice_get fs k ≡ Some (Jump l false)
    → (is_near (distance fs k l) ≡ true → ⊥) → slice_get others k ≡ Some (Jump l true)
wide-there fs others below fit k l here far = let r = above-at fs others below k (Jump l false) here in by r.form r.there r.below
  where
    by : (g : Form) → slice_get others k ≡ Some g → IsBelow (Jump l false) g → slice_get others k ≡ Some (Jump l true)
    by (Fixed n) there h = absurd h
    by (Mark n) there h = absurd h
    by (Jump n true) there h = there ∙ ap (λ (x : ℕ). Some (Jump x true)) h.0
    by (Jump n false) there h =
        let same : slice_get others k ≡ Some (Jump l false) = there ∙ ap (λ (x : ℕ). Some (Jump x false)) h.0 in
        absurd (far (near-below fs others below k l (fit k l same)))

below-set : (fs gs : List Form) (k l : ℕ) → AreBelow fs gs → slice_get fs k ≡ Some (Jump l false) → slice_get gs k ≡ Some (Jump l true)
    → AreBelow (slice_set fs k (Jump l true)) gs
below-set [] gs k l h e d = absurd (cc)
below-set (f ∷ fs) [] k l h e d = absurd h
below-set (f ∷ fs) (g ∷ gs) zero l h e d = let same : g ≡ Jump l true = cc in (rw same (refl, λ w. refl), h.1)
below-set (f ∷ fs) (g ∷ gs) (suc k) l h e d = (h.0, below-set fs gs k l h.1 e d)

form-wide : (i : Item) (l : ℕ) → IsForm i (Jump l false) → IsForm i (Jump l true)
form-wide x l h = grind (arith)

forms-set : (items : List Item) (fs : List Form) (k l : ℕ) → slice_get fs k ≡ Some (Jump l false) → AreForms items fs
    → AreForms items (slice_set fs k (Jump l true))
forms-set items [] k l e h = absurd (cc)
forms-set [] (f ∷ fs) k l e h = absurd h
forms-set (i ∷ is) (f ∷ fs) zero l e h = let same : f ≡ Jump l false = cc in (form-wide i l (rw (← same) h.0), h.1)
forms-set (i ∷ is) (f ∷ fs) (suc k) l e h = (h.0, forms-set is fs k l e h.1)

pub settles-set : (source : List ℕ) (items : List Item) (fs : List Form) (k l : ℕ) → All (IsItem source items) items
    → slice_get fs k ≡ Some (Jump l false) → LeadsFar fs k l → Settles items fs (slice_set fs k (Jump l true))
settles-set source items fs k l ok here far = record {
  forms = forms-set items fs k l here;
  least = λ p others q fit wide.
      let below = below-from items fs others p q wide in
      let once = count-marks l items fs p ∙ jump-once source items items fs ok p k l false here in
      let at = mark-place fs far.mark l far.there once in
      let there = wide-there fs others below fit k l here (far-from fs k l far at (side k far.mark)) in
      no-wider (slice_set fs k (Jump l true)) others (below-set fs others k l below here there);
  room = λ n fits. All-set (IsInRoom n) fs k (Jump l true) tt fits;
}

pub settles-then : (items : List Item) (a b c : List Form) → Settles items a b → Settles items b c → Settles items a c
settles-then items a b c s t = record {
  forms = λ p. t.forms (s.forms p);
  least = λ p others q fit wide. t.least (s.forms p) others q fit (s.least p others q fit wide);
  room = λ n fits. t.room n (s.room n fits);
}
