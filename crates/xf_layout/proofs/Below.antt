-- Forms of the same items of which no jump is wider than in others: their code is no longer, and no jump leads further.
use Rattle.std.proofs.Common.{◌≡◌, ◌≤◌, ◌+◌, ◌⊎◌, inl, inr, ℕ, zero, suc, Bool, true, false, Some, List, [], ◌∷◌, refl, ap}
use Rattle.std.proofs.Common.{◌∙◌, arith, cond}
use Rattle.std.specs.Prelude.{pos, ◌-ℤ◌, ◌==◌}
use Rattle.std.specs.List.{AllZip}
use Rattle.std.proofs.lemmas.Int.{ints}
use Rattle.std.proofs.lemmas.Option.{same_Some}
use Rattle.jc_decode.specs.declared.symbols.Item.{Item}
use Rattle.jc_decode.specs.Forms.{is_near}
use Rattle.xf_layout.specs.declared.form.Form.{Form}
use Rattle.xf_layout.specs.declared.form.Form.TheVariants.{Fixed, Jump, Mark}
use Rattle.xf_layout.specs.Form.{IsForm, AreForms, form_bytes, begins, length_of_forms, label_place}
use Rattle.xf_layout.specs.Shortest.{NoWider, distance}

-- the same form, or a jump that is short where the other is wide
abbrev pub IsBelow : Form → Form → Type 0
IsBelow (Fixed n) (Fixed m) = m ≡ n
IsBelow (Jump l w) (Jump m v) = (m ≡ l) × (w ≡ true → v ≡ true)
IsBelow (Mark l) (Mark m) = m ≡ l
IsBelow _ _ = ⊥

abbrev pub AreBelow : List Form → List Form → Type 0
AreBelow a b = AllZip IsBelow a b

jump-below : (m n : ℕ) (w v : Bool) → n ≡ m → (w ≡ true → ◌≡◌ {A = Form} (Jump n v) (Jump m true)) → IsBelow (Jump m w) (Jump n v)
jump-below m n x v same wide = grind (arith)

form-below : (i : Item) (f g : Form) → IsForm i f → IsForm i g → ((l : ℕ) → f ≡ Jump l true → g ≡ Jump l true) → IsBelow f g
form-below x x2 x22 p q wide = grind (arith, jump-below)

-- forms that are no wider than others of the same items are below them
pub below-from : (items : List Item) (a b : List Form) → AreForms items a → AreForms items b → NoWider a b → AreBelow a b
below-from [] [] [] p q wide = tt
below-from (i ∷ is) (f ∷ fs) (g ∷ gs) p q wide = (
  form-below i f g p.0 q.0 (λ l e. same_Some g (Jump l true) (wide 0 l (ap Some e))),
  below-from is fs gs p.1 q.1 (λ k. wide (suc k)),
)
below-from [] [] (g ∷ gs) p q wide = absurd q
below-from (i ∷ is) (f ∷ fs) [] p q wide = absurd q
below-from _ _ _ p q wide = absurd p

-- and the other way round
pub no-wider : (a b : List Form) → AreBelow a b → NoWider a b
no-wider [] b below k l e = absurd (cc)
no-wider (f ∷ fs) [] below k l e = absurd below
no-wider (f ∷ fs) (g ∷ gs) below zero l e = first f g below.0 (same_Some f (Jump l true) e)
  where
    first : (f g : Form) → IsBelow f g → f ≡ Jump l true → Some g ≡ Some (Jump l true)
    first (Fixed n) g h e = absurd (cc)
    first (Mark m) g h e = absurd (cc)
    first (Jump m w) (Jump n v) h e = let at : m ≡ l = cc in let wide : w ≡ true = cc in rw (h.0 ∙ at, h.1 wide) refl
    first (Jump m w) (Fixed n) h e = absurd h
    first (Jump m w) (Mark n) h e = absurd h
no-wider (f ∷ fs) (g ∷ gs) below (suc k) l e = no-wider fs gs below.1 k l e

bytes-below : (f g : Form) → IsBelow f g → form_bytes f ≤ form_bytes g
bytes-below x x2 h = grind (arith)

begins-below : (a b : List Form) → AreBelow a b → (k : ℕ) → begins a k ≤ begins b k
begins-below [] b h k = omega arith
begins-below (f ∷ fs) [] h k = absurd h
begins-below (f ∷ fs) (g ∷ gs) h zero = omega arith
begins-below (f ∷ fs) (g ∷ gs) h (suc k) = omega (arith, bytes-below f g h.0, begins-below fs gs h.1 k)

pub end-below : (a b : List Form) → AreBelow a b → length_of_forms a ≤ length_of_forms b
end-below [] b h = omega arith
end-below (f ∷ fs) [] h = absurd h
end-below (f ∷ fs) (g ∷ gs) h = omega (arith, bytes-below f g h.0, end-below fs gs h.1)

-- two items: how far a label is ahead of the k-th, or back from it
record IsAhead (a b : List Form) (k l : ℕ) : Type 0 where
  pub one : begins a k ≤ label_place a l
  pub other : begins b k ≤ label_place b l
  pub far : label_place a l + begins b k ≤ label_place b l + begins a k

record IsBack (a b : List Form) (k l : ℕ) : Type 0 where
  pub one : label_place a l ≤ begins a k
  pub other : label_place b l ≤ begins b k
  pub far : begins a k + label_place b l ≤ begins b k + label_place a l

abbrev Direction : (a b : List Form) (k l : ℕ) → Type 0
Direction a b k l = IsAhead a b k l ⊎ IsBack a b k l

-- one more item before both
shifted : (fs gs : List Form) (k l m n : ℕ) → m ≤ n → Direction fs gs k l → (a b : List Form)
    → begins a (suc k) ≡ m + begins fs k → begins b (suc k) ≡ n + begins gs k
    → label_place a l ≡ m + label_place fs l → label_place b l ≡ n + label_place gs l → Direction a b (suc k) l
shifted fs gs k l m n le x a b p q r s = grind (arith)

mark-below : (m n l x y : ℕ) → n ≡ m → x ≤ y → cond (m == l) 0 x ≤ cond (n == l) 0 y
mark-below m n l x y e h = rw e (by_test (m == l))
  where
    by_test : (b : Bool) → cond b 0 x ≤ cond b 0 y
    by_test true = omega arith
    by_test false = h

label-below : (a b : List Form) → AreBelow a b → (l : ℕ) → label_place a l ≤ label_place b l
label-below [] b h l = omega arith
label-below (Fixed n ∷ fs) (Fixed m ∷ gs) h l = omega (arith, h.0, label-below fs gs h.1 l)
label-below (Jump m w ∷ fs) (Jump n v ∷ gs) h l = omega (arith, bytes-below (Jump m w) (Jump n v) h.0, label-below fs gs h.1 l)
label-below (Mark m ∷ fs) (Mark n ∷ gs) h l = mark-below m n l (label_place fs l) (label_place gs l) h.0 (label-below fs gs h.1 l)
label-below (Fixed n ∷ fs) [] h l = absurd h
label-below (Jump m w ∷ fs) [] h l = absurd h
label-below (Mark m ∷ fs) [] h l = absurd h
label-below (Fixed n ∷ fs) (Jump m v ∷ gs) h l = absurd h.0
label-below (Fixed n ∷ fs) (Mark m ∷ gs) h l = absurd h.0
label-below (Jump m w ∷ fs) (Fixed n ∷ gs) h l = absurd h.0
label-below (Jump m w ∷ fs) (Mark n ∷ gs) h l = absurd h.0
label-below (Mark m ∷ fs) (Fixed n ∷ gs) h l = absurd h.0
label-below (Mark m ∷ fs) (Jump n v ∷ gs) h l = absurd h.0

-- a label between the items before the k-th, or after
direction-at : (a b : List Form) → AreBelow a b → (k l : ℕ) → Direction a b k l
direction-at [] [] h zero l = inl (record { one = omega arith; other = omega arith; far = omega arith })
direction-at [] [] h (suc k) l = inl (record { one = omega arith; other = omega arith; far = omega arith })
direction-at [] (g ∷ gs) h k l = absurd h
direction-at (f ∷ fs) [] h k l = absurd h
direction-at (f ∷ fs) (g ∷ gs) h zero l = grind (arith, label-below)
direction-at (f ∷ fs) (g ∷ gs) h (suc k) l = by_form f g h.0 (direction-at fs gs h.1 k l)
  where
    by_form : (f g : Form) → IsBelow f g → Direction fs gs k l → Direction (f ∷ fs) (g ∷ gs) (suc k) l
    by_form (Fixed n) (Fixed m) below rest =
        shifted fs gs k l n m (omega (arith, below)) rest (Fixed n ∷ fs) (Fixed m ∷ gs) refl refl refl refl
    by_form (Jump m w) (Jump n v) below rest =
        shifted fs gs k l _ _ (bytes-below (Jump m w) (Jump n v) below) rest (Jump m w ∷ fs) (Jump n v ∷ gs) refl refl refl refl
    by_form (Mark m) (Mark n) below rest = by_test (m == l) refl
      where
        by_test : (b : Bool) → (m == l) ≡ b → Direction (Mark m ∷ fs) (Mark n ∷ gs) (suc k) l
        by_test true e =
            let p : label_place (Mark m ∷ fs) l ≡ 0 = rw e refl in
            let q : label_place (Mark n ∷ gs) l ≡ 0 = rw (below, e) refl in
            inr (record { one = omega (arith, p); other = omega (arith, q); far = omega (arith, p, q, begins-below fs gs h.1 k) })
        by_test false e =
            let p : label_place (Mark m ∷ fs) l ≡ label_place fs l = rw e refl in
            let q : label_place (Mark n ∷ gs) l ≡ label_place gs l = rw (below, e) refl in
            shifted fs gs k l 0 0 (omega arith) rest (Mark m ∷ fs) (Mark n ∷ gs)
            (omega arith) (omega arith) (omega (arith, p)) (omega (arith, q))
    by_form (Fixed n) (Jump m v) below rest = absurd below
    by_form (Fixed n) (Mark m) below rest = absurd below
    by_form (Jump m w) (Fixed n) below rest = absurd below
    by_form (Jump m w) (Mark n) below rest = absurd below
    by_form (Mark m) (Fixed n) below rest = absurd below
    by_form (Mark m) (Jump n v) below rest = absurd below

near-back : (x y : ℕ) → is_near (pos x -ℤ pos y) ≡ true → y ≤ x + 128
near-back x y h = grind (arith, ints)

near-ahead : (x y : ℕ) → is_near (pos x -ℤ pos y) ≡ true → x ≤ y + 127
near-ahead x y h = grind (arith, ints)

near-made : (x y : ℕ) → y ≤ x + 128 → x ≤ y + 127 → is_near (pos x -ℤ pos y) ≡ true
near-made x y h k = grind (arith, ints)

-- what fits among wider forms fits
pub near-below : (a b : List Form) → AreBelow a b → (k l : ℕ) → is_near (distance b k l) ≡ true → is_near (distance a k l) ≡ true
near-below a b h k l near = by_direction (direction-at a b h k l)
  where
    by_direction : Direction a b k l → is_near (distance a k l) ≡ true
    by_direction (inl d) =
        near-made (label_place a l) (begins a k) (omega (arith, d.one))
        (omega (arith, d.far, near-ahead (label_place b l) (begins b k) near))
    by_direction (inr d) =
        near-made (label_place a l) (begins a k) (omega (arith, d.far, near-back (label_place b l) (begins b k) near))
        (omega (arith, d.one))
