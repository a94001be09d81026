-- Lists of homes in which none stands twice: how long they are at most.
use Rattle.std.proofs.Common.{◌≡◌, suc, ◌≤◌, ◌⊎◌, inl, inr, List, [], ◌∷◌, ◌++◌, length, refl, sym, ◌∙◌, ap, subst, arith}
use Rattle.std.specs.Prelude.{⊤}
use Rattle.jc_base.specs.Each.{IsAmong}
use Rattle.jc_base.proofs.Eaching.{IsAmong-append_cases}

-- none stands twice
abbrev pub Distinct : {X : Type 0} → List X → Type 0
Distinct [] = ⊤
Distinct (x ∷ xs) = ¬ (IsAmong x xs) × Distinct xs

-- ---- among the elements of another list

module _ {X : Type 0} where
  without : (ys : List X) (x : X) → IsAmong x ys → List X
  without [] x a = []
  without (y ∷ ys) x (inl e) = ys
  without (y ∷ ys) x (inr a) = y ∷ without ys x a

  without-length : (ys : List X) (x : X) (a : IsAmong x ys) → length ys ≡ suc (length (without ys x a))
  unfolding without
  without-length [] x a = absurd a
  without-length (y ∷ ys) x (inl e) = refl
  without-length (y ∷ ys) x (inr a) = ap suc (without-length ys x a)

  still-among : (ys : List X) (x z : X) (a : IsAmong x ys) → IsAmong z ys → ¬ (x ≡ z) → IsAmong z (without ys x a)
  unfolding without
  still-among [] x z a b other = absurd a
  still-among (y ∷ ys) x z (inl e) (inl f) other = absurd (other (sym e ∙ f))
  still-among (y ∷ ys) x z (inl e) (inr b) other = b
  still-among (y ∷ ys) x z (inr a) (inl f) other = inl f
  still-among (y ∷ ys) x z (inr a) (inr b) other = inr (still-among ys x z a b other)

  pub no-longer : (xs ys : List X) → Distinct xs → ((x : X) → IsAmong x xs → IsAmong x ys) → length xs ≤ length ys
  no-longer [] ys d inside = omega arith
  no-longer (x ∷ xs) ys d inside =
      let a = inside x (inl refl) in
      let rest = no-longer xs (without ys x a) d.1 (λ z b. still-among ys x z a (inside z (inr b)) (λ e. d.0 (subst (λ y. IsAmong y xs) (sym e) b))) in
      omega (arith, rest, without-length ys x a)

  pub either-among : (P : X → Type 0) (xs ys : List X) → ((x : X) → IsAmong x xs → P x) → ((x : X) → IsAmong x ys → P x) → (x : X)
      → IsAmong x (xs ++ ys) → P x
  either-among P xs ys left right x a = by (IsAmong-append_cases x xs ys a)
    where
      by : IsAmong x xs ⊎ IsAmong x ys → P x
      by (inl b) = left x b
      by (inr b) = right x b

  pub distinct-append : (xs ys : List X) → Distinct xs → Distinct ys → ((z : X) → IsAmong z xs → IsAmong z ys → ⊥) → Distinct (xs ++ ys)
  distinct-append [] ys d e apart = e
  distinct-append (x ∷ xs) ys d e apart = (
    λ a. by (IsAmong-append_cases x xs ys a),
    distinct-append xs ys d.1 e (λ z b c. apart z (inr b) c),
  )
    where
      by : IsAmong x xs ⊎ IsAmong x ys → ⊥
      by (inl b) = d.0 b
      by (inr b) = apart x (inl refl) b
