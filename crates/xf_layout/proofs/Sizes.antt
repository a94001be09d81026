-- Laid in any forms code is no longer than its plain size; items have one shortest choice of forms.
use Rattle.std.proofs.Common.{◌≡◌, ◌≤◌, ℕ, Bool, true, List, [], ◌∷◌, refl, ap, ◌∙◌, arith}
use Rattle.std.proofs.lemmas.List.Sums.{sum_by-cons}
use Rattle.jc_decode.specs.declared.symbols.Item.{Item}
use Rattle.jc_decode.specs.Laws.{ShortIsNoLonger}
use Rattle.jc_decode.specs.Symbols.{plain_bytes, plain_size}
use Rattle.xf_layout.specs.declared.form.Form.{Form}
use Rattle.xf_layout.specs.declared.form.Form.TheVariants.{Jump}
use Rattle.xf_layout.specs.Form.{IsForm, AreForms, form_bytes, length_of_forms}
use Rattle.xf_layout.specs.Shortest.{IsShortest}
use Rattle.xf_layout.proofs.Below.{IsBelow, AreBelow, below-from}

jump-bytes : (l : ℕ) (wide : Bool) → form_bytes (Jump l wide) ≤ 3
jump-bytes l x = grind (arith)

form-no-longer : ShortIsNoLonger → (i : Item) (f : Form) → IsForm i f → form_bytes f ≤ plain_bytes i
form-no-longer shorter x x2 h = grind (arith, jump-bytes)

pub forms-no-longer : ShortIsNoLonger → (items : List Item) (fs : List Form) → AreForms items fs → length_of_forms fs ≤ plain_size items
forms-no-longer shorter [] [] h = omega arith
forms-no-longer shorter (i ∷ is) (f ∷ fs) h =
    omega (arith, form-no-longer shorter i f h.0, forms-no-longer shorter is fs h.1, sum_by-cons plain_bytes i is)
forms-no-longer shorter _ _ h = absurd h

same-jump : (l m : ℕ) (w v : Bool) → m ≡ l → (w ≡ true → v ≡ true) → (v ≡ true → w ≡ true) → ◌≡◌ {A = Form} (Jump l w) (Jump m v)
same-jump l m x x2 e p q = grind (arith)

same-form : (f g : Form) → IsBelow f g → IsBelow g f → f ≡ g
same-form x x2 p q = grind (arith, same-jump)

same-forms : (a b : List Form) → AreBelow a b → AreBelow b a → a ≡ b
same-forms [] [] p q = refl
same-forms (f ∷ fs) (g ∷ gs) p q = ap (λ (x : Form). x ∷ fs) (same-form f g p.0 q.0) ∙ ap (λ (xs : List Form). g ∷ xs) (same-forms fs gs p.1 q.1)
same-forms _ _ p q = absurd p

pub one-shortest : (items : List Item) (a b : List Form) → IsShortest items a → IsShortest items b → a ≡ b
one-shortest items a b p q =
    same-forms a b (below-from items a b p.chosen q.chosen (p.least b q.chosen q.fit)) (below-from items b a q.chosen p.chosen (q.least a p.chosen p.fit))
