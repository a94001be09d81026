-- Cases that are led to labels one after the other.
use Rattle.std.proofs.Common.{◌≡◌, ◌≢◌, ◌⊎◌, inl, inr, ℕ, zero, suc, Option, Some, None, List, [], ◌∷◌, ◌++◌, length, refl, sym}
use Rattle.std.proofs.Common.{ap, ◌∙◌}
use Rattle.std.specs.Prelude.{ℤ, pos, ◌-ℤ◌, slice_get}
use Rattle.std.specs.Option.{option_map}
use Rattle.std.proofs.lemmas.Bool.{cases_eq}
use Rattle.jc_decode.specs.declared.insn.Case.{Case}
use Rattle.jc_decode.specs.Cases.{leading}
use Rattle.xf_layout.specs.Laid.{led}

same-lists : {A : Type 0} (xs ys : List A) → ((k : ℕ) → slice_get xs k ≡ slice_get ys k) → xs ≡ ys
same-lists [] [] h = refl
same-lists {A} [] (y ∷ ys) h = let e : ◌≡◌ {A = Option A} None (Some y) = h 0 in absurd (cc)
same-lists {A} (x ∷ xs) [] h = let e : ◌≡◌ {A = Option A} (Some x) None = h 0 in absurd (cc)
same-lists {A} (x ∷ xs) (y ∷ ys) h =
    let first : ◌≡◌ {A = Option A} (Some x) (Some y) = h 0 in
    let e : x ≡ y = cc in
    ap (λ (z : _). z ∷ xs) e ∙ ap (λ (zs : List _). y ∷ zs) (same-lists xs ys (λ k. h (suc k)))

here-led : (place : ℕ → ℕ) (here : ℕ) (ls : List ℕ) (l : ℕ) (cs : List Case)
    → slice_get (led place here (ls ++ l ∷ []) cs) (length ls) ≡ option_map (leading (pos (place l) -ℤ pos here))
    (slice_get (led place here ls cs) (length ls))
here-led place here [] l [] = refl
here-led place here [] l (c ∷ cs) = refl
here-led place here (x ∷ ls) l [] = refl
here-led place here (x ∷ ls) l (c ∷ cs) = here-led place here ls l cs

other-led : (place : ℕ → ℕ) (here : ℕ) (ls : List ℕ) (l : ℕ) (cs : List Case) (k : ℕ) → k ≢ length ls
    → slice_get (led place here (ls ++ l ∷ []) cs) k ≡ slice_get (led place here ls cs) k
other-led place here [] l [] k h = refl
other-led place here [] l (c ∷ cs) zero h = absurd (h refl)
other-led place here [] l (c ∷ cs) (suc k) h = refl
other-led place here (x ∷ ls) l [] k h = refl
other-led place here (x ∷ ls) l (c ∷ cs) zero h = refl
other-led place here (x ∷ ls) l (c ∷ cs) (suc k) h = other-led place here ls l cs k (λ e. h (ap suc e))

-- one more case is led to its label
pub next-led : (place : ℕ → ℕ) (here : ℕ) (ls : List ℕ) (l : ℕ) (cs old new : List Case) (offset : ℤ) (n : ℕ) → n ≡ length ls
    → old ≡ led place here ls cs
    → offset ≡ pos (place l) -ℤ pos here → slice_get new n ≡ option_map (leading offset) (slice_get old n)
    → ((k : ℕ) → k ≢ n → slice_get new k ≡ slice_get old k) → new ≡ led place here (ls ++ l ∷ []) cs
next-led place here ls l cs old new offset n end so_far to changed others = same-lists new (led place here (ls ++ l ∷ []) cs) at
  where
    at : (k : ℕ) → slice_get new k ≡ slice_get (led place here (ls ++ l ∷ []) cs) k
    at k = by_place (cases_eq k n)
      where
        by_place : (k ≡ n) ⊎ (k ≢ n) → slice_get new k ≡ slice_get (led place here (ls ++ l ∷ []) cs) k
        by_place (inl e) =
            ap (slice_get new) e ∙ changed ∙ ap (λ (d : ℤ). option_map (leading d) (slice_get old n)) to
            ∙ ap (λ (xs : List Case). option_map (leading (pos (place l) -ℤ pos here)) (slice_get xs n)) so_far
            ∙ ap (λ (m : ℕ). option_map (leading (pos (place l) -ℤ pos here)) (slice_get (led place here ls cs) m)) end
            ∙ sym (here-led place here ls l cs) ∙ ap (slice_get (led place here (ls ++ l ∷ []) cs)) (sym end ∙ sym e)
        by_place (inr other) =
            others k other ∙ ap (λ (xs : List Case). slice_get xs k) so_far ∙ sym (other-led place here ls l cs k (λ same. other (same ∙ sym end)))

pub length-led : (place : ℕ → ℕ) (here : ℕ) (ls : List ℕ) (cs : List Case) → length (led place here ls cs) ≡ length cs
length-led place here [] cs = refl
length-led place here (l ∷ ls) [] = refl
length-led place here (l ∷ ls) (c ∷ cs) = ap suc (length-led place here ls cs)
