-- A turn of widening: it keeps the forms those of their items, makes no jump wide that is short where all fit, and where it makes
-- none wide all fit.
use Rattle.std.proofs.Common.{◌≡◌, ◌≤◌, ◌+◌, ℕ, zero, suc, Bool, true, false, Option, Some, None, List, [], ◌∷◌, refl, sym, ap}
use Rattle.std.proofs.Common.{◌∙◌, arith, cond}
use Rattle.std.specs.Prelude.{pos, ◌-ℤ◌, not, slice_get, count_by}
use Rattle.std.specs.Option.{option_map}
use Rattle.std.proofs.lemmas.Bool.{false≢true, not-false}
use Rattle.std.proofs.lemmas.List.Sums.{sum_by-cons}
use Rattle.jc_decode.specs.declared.symbols.Item.{Item}
use Rattle.jc_decode.specs.Forms.{is_near}
use Rattle.xf_layout.specs.declared.form.Form.{Form}
use Rattle.xf_layout.specs.declared.form.Form.TheVariants.{Fixed, Jump, Mark}
use Rattle.xf_layout.specs.Form.{IsForm, AreForms, form_bytes, begins, label_place}
use Rattle.xf_layout.specs.Shortest.{Fit, NoWider, distance}
use Rattle.xf_layout.specs.Widening.{is_short_jump, widened_form, widened}
use Rattle.xf_layout.proofs.Below.{IsBelow, AreBelow, below-from, near-below}

-- the k-th form after a turn
pub get-widened : (place : ℕ → ℕ) (at : ℕ) (fs : List Form) (k : ℕ)
    → slice_get (widened place at fs) k ≡ option_map (widened_form place (at + begins fs k)) (slice_get fs k)
get-widened place at [] zero = refl
get-widened place at [] (suc k) = refl
get-widened place at (f ∷ fs) zero = let e : at ≡ at + 0 = omega arith in ap (λ (n : ℕ). Some (widened_form place n f)) e
get-widened place at (f ∷ fs) (suc k) = grind (arith, get-widened place (at + form_bytes f) fs k)

form-widened : (place : ℕ → ℕ) (at : ℕ) (i : Item) (f : Form) → IsForm i f → IsForm i (widened_form place at f)
form-widened place at x x2 h = grind (arith)

pub forms-widened : (place : ℕ → ℕ) (at : ℕ) (items : List Item) (fs : List Form) → AreForms items fs → AreForms items (widened place at fs)
forms-widened place at [] [] h = h
forms-widened place at (i ∷ is) (f ∷ fs) h = (form-widened place at i f h.0, forms-widened place (at + form_bytes f) is fs h.1)
forms-widened place at _ _ h = absurd h

-- the form above a form
pub record Above (f : Form) (gs : List Form) (k : ℕ) : Type 0 where
  pub form : Form
  pub there : slice_get gs k ≡ Some form
  pub below : IsBelow f form

pub above-at : (fs gs : List Form) → AreBelow fs gs → (k : ℕ) (f : Form) → slice_get fs k ≡ Some f → Above f gs k
above-at [] gs h k f e = absurd (cc)
above-at (x ∷ fs) [] h k f e = absurd h
above-at (x ∷ fs) (y ∷ gs) h zero f e = let same : x ≡ f = cc in record { form = y; there = refl; below = rw (← same) h.0 }
above-at (x ∷ fs) (y ∷ gs) h (suc k) f e = let r = above-at fs gs h.1 k f e in record { form = r.form; there = r.there; below = r.below }

-- places of labels as they are among these forms
pub record ArePlaced (place : ℕ → ℕ) (fs : List Form) : Type 0 where
  pub at : (k l : ℕ) (w : Bool) → slice_get fs k ≡ Some (Jump l w) → place l ≡ label_place fs l

-- a jump that becomes wide is wide wherever all fit
pub widened-least : (place : ℕ → ℕ) (items : List Item) (fs others : List Form) → ArePlaced place fs
    → AreForms items fs → AreForms items others → Fit others → NoWider fs others → NoWider (widened place 0 fs) others
widened-least place items fs others placed p q fit wide k l e = by_form (slice_get fs k) refl (sym (get-widened place 0 fs k) ∙ e)
  where
    below : AreBelow fs others
    below = below-from items fs others p q wide

    too-far : (m : ℕ) (g : Form) → slice_get fs k ≡ Some (Jump m false) → slice_get others k ≡ Some g → IsBelow (Jump m false) g
        → m ≡ l → not (is_near (pos (place m) -ℤ pos (0 + begins fs k))) ≡ true → slice_get others k ≡ Some (Jump l true)
    too-far m (Fixed n) here there h same far = absurd h
    too-far m (Mark n) here there h same far = absurd h
    too-far m (Jump n true) here there h same far = there ∙ ap (λ (x : ℕ). Some (Jump x true)) (h.0 ∙ same)
    too-far m (Jump n false) here there h same far = grind (arith, near-below fs others below k n (fit k n there), false≢true)

    by_form : (o : Option Form) → slice_get fs k ≡ o → option_map (widened_form place (0 + begins fs k)) o ≡ Some (Jump l true)
        → slice_get others k ≡ Some (Jump l true)
    by_form None here h = absurd (cc)
    by_form (Some (Fixed n)) here h = absurd (cc)
    by_form (Some (Mark m)) here h = absurd (cc)
    by_form (Some (Jump m true)) here h = let same : m ≡ l = cc in wide k l (here ∙ ap (λ (x : ℕ). Some (Jump x true)) same)
    by_form (Some (Jump m false)) here h = grind (arith, above-at fs others below k (Jump m false) here, too-far)

-- ---- a turn that makes no jump wide

abbrev pub short-of : Form → ℕ
short-of f = cond (is_short_jump f) 1 0

pub short-falls : (place : ℕ → ℕ) (at : ℕ) (f : Form) → short-of (widened_form place at f) ≤ short-of f
short-falls place at (Fixed n) = omega arith
short-falls place at (Mark l) = omega arith
short-falls place at (Jump l true) = omega arith
short-falls place at (Jump l false) = by_test (is_near (pos (place l) -ℤ pos at))
  where
    by_test : (b : Bool) → short-of (Jump l (not b)) ≤ 1
    by_test true = omega arith
    by_test false = omega arith

short-same : (place : ℕ → ℕ) (at : ℕ) (f : Form) → short-of (widened_form place at f) ≡ short-of f → widened_form place at f ≡ f
short-same place at (Fixed n) e = refl
short-same place at (Mark l) e = refl
short-same place at (Jump l true) e = refl
short-same place at (Jump l false) e = by_test (is_near (pos (place l) -ℤ pos at)) e
  where
    by_test : (b : Bool) → short-of (Jump l (not b)) ≡ 1 → ◌≡◌ {A = Form} (Jump l (not b)) (Jump l false)
    by_test true e = refl
    by_test false e = absurd (omega (arith, e))

pub shorts-fall : (place : ℕ → ℕ) (at : ℕ) (fs : List Form) → count_by is_short_jump (widened place at fs) ≤ count_by is_short_jump fs
shorts-fall place at [] = omega arith
shorts-fall place at (f ∷ fs) =
    omega (
      arith,
      sum_by-cons short-of (widened_form place at f) (widened place (at + form_bytes f) fs),
      sum_by-cons short-of f fs,
      short-falls place at f,
      shorts-fall place (at + form_bytes f) fs,
    )

pub same-widened : (place : ℕ → ℕ) (at : ℕ) (fs : List Form) → count_by is_short_jump (widened place at fs) ≡ count_by is_short_jump fs
    → widened place at fs ≡ fs
same-widened place at [] e = refl
same-widened place at (f ∷ fs) e =
    let one = sum_by-cons short-of (widened_form place at f) (widened place (at + form_bytes f) fs) in
    let other = sum_by-cons short-of f fs in
    let head = short-falls place at f in
    let tail = shorts-fall place (at + form_bytes f) fs in
    let h : widened_form place at f ≡ f = short-same place at f (omega (arith, one, other, head, tail, e)) in
    let t : widened place (at + form_bytes f) fs ≡ fs = same-widened place (at + form_bytes f) fs (omega (arith, one, other, head, tail, e)) in
    ap (λ (x : Form). x ∷ widened place (at + form_bytes f) fs) h ∙ ap (λ (xs : List Form). f ∷ xs) t

pub fit-same : (place : ℕ → ℕ) (fs : List Form) → ArePlaced place fs → widened place 0 fs ≡ fs → Fit fs
fit-same place fs placed same k l here =
    let now : Some (Jump l (not (is_near (pos (place l) -ℤ pos (0 + begins fs k))))) ≡ Some (Jump l false) =
    ap (option_map (widened_form place (0 + begins fs k))) (sym here) ∙ sym (get-widened place 0 fs k) ∙ ap (λ (xs : List Form). slice_get xs k) same
    ∙ here in
    let at : place l ≡ label_place fs l = placed.at k l false here in
    let start : begins fs k ≡ 0 + begins fs k = omega arith in
    let far : not (is_near (distance fs k l)) ≡ false =
    ap (λ (x : ℕ). not (is_near (pos x -ℤ pos (begins fs k)))) (sym at) ∙ ap (λ (x : ℕ). not (is_near (pos (place l) -ℤ pos x))) start
    ∙ not-of (is_near (pos (place l) -ℤ pos (0 + begins fs k))) now in
    not-false (is_near (distance fs k l)) far
  where
    not-of : (b : Bool) → Some (Jump l (not b)) ≡ Some (Jump l false) → not b ≡ false
    not-of b e = cc
