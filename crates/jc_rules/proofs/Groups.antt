-- Numbers of places, of which equal ones tell of equal registers.
use Rattle.std.proofs.Common.{◌≡◌, ℕ, zero, suc, ◌<◌, ◌≤◌, ◌⊎◌, inl, inr, List, [], ◌∷◌, ◌++◌, length, Option, Some, None, slice_get}
use Rattle.std.proofs.Common.{refl, ◌∙◌, ap, arith}
use Rattle.std.specs.Prelude.{slice_index_or}
use Rattle.std.proofs.lemmas.Option.{slice_get-get_or, slice_get_within}
use Rattle.jc_base.specs.declared.ty.Ty.{Ty}
use Rattle.jc_rules.specs.declared.typing.Span.{Span}
use Rattle.jc_rules.specs.Typing.{flat}
use Rattle.jc_rules.specs.Held.{frame_of_span, span_at, TellRegisters, IsGroupAt, AreLow}

pub span-read : (spans : List (Option Span)) (p : ℕ) (s : Span) → p < length spans → slice_index_or spans p None ≡ Some s → span_at spans p ≡ Some s
span-read spans p s inside e = ap flat (slice_get-get_or spans p None inside) ∙ e

pub number-read : (groups : List ℕ) (p : ℕ) → p < length groups → slice_get groups p ≡ Some (slice_index_or groups p 0)
number-read groups p inside = slice_get-get_or groups p 0 inside

-- without numbers nothing is told
pub none-told : (cells : List Ty) (spans : List (Option Span)) → TellRegisters cells spans []
none-told cells spans p q n s u es eu ep eq = absurd cc

before-or-last : (xs : List ℕ) (x p m : ℕ) → slice_get (xs ++ x ∷ []) p ≡ Some m
    → ((slice_get xs p ≡ Some m) × (p < length xs)) ⊎ ((p ≡ length xs) × (m ≡ x))
before-or-last [] x zero m e = inr (refl, cc)
before-or-last [] x (suc p) m e = absurd cc
before-or-last (y ∷ xs) x zero m e = inl (e, omega arith)
before-or-last (y ∷ xs) x (suc p) m e = by (before-or-last xs x p m e)
  where
    by : ((slice_get xs p ≡ Some m) × (p < length xs)) ⊎ ((p ≡ length xs) × (m ≡ x))
        → ((slice_get xs p ≡ Some m) × (suc p < suc (length xs))) ⊎ ((suc p ≡ suc (length xs)) × (m ≡ x))
    by (inl before) = inl (before.0, omega (arith, before.1))
    by (inr last) = inr (ap suc last.0, last.1)

module _ (cells : List Ty) (spans : List (Option Span)) (groups : List ℕ) (n : ℕ) (told : TellRegisters cells spans groups) (low : AreLow groups)
    (is : IsGroupAt cells spans groups (length groups) n) where
  -- the new place and one before it
  beside : (q m : ℕ) (s u : Span) → span_at spans (length groups) ≡ Some s → span_at spans q ≡ Some u → m ≡ n → slice_get groups q ≡ Some m
      → q < length groups → (frame_of_span cells s).regs ≡ (frame_of_span cells u).regs
  beside q m s u es eu em eq inside = by is
    where
      same-span : (a b : Span) → Some a ≡ Some b → a ≡ b
      same-span a b e = cc

      by : IsGroupAt cells spans groups (length groups) n → (frame_of_span cells s).regs ≡ (frame_of_span cells u).regs
      by x = grind (arith)

  pub told-more : TellRegisters cells spans (groups ++ n ∷ [])
  told-more p q m s u es eu ep eq = by (before-or-last groups n p m ep) (before-or-last groups n q m eq)
    where
      same-span : (a b : Span) → Some a ≡ Some b → a ≡ b
      same-span a b e = cc

      by : ((slice_get groups p ≡ Some m) × (p < length groups)) ⊎ ((p ≡ length groups) × (m ≡ n))
          → ((slice_get groups q ≡ Some m) × (q < length groups)) ⊎ ((q ≡ length groups) × (m ≡ n))
          → (frame_of_span cells s).regs ≡ (frame_of_span cells u).regs
      by x y = grind (arith, beside)

  pub low-more : AreLow (groups ++ n ∷ [])
  low-more p m e = by (before-or-last groups n p m e)
    where
      reaches : IsGroupAt cells spans groups (length groups) n → n ≤ length groups
      reaches (inl own) = omega (arith, own)
      reaches (inr (k, a, b, ea, eb, ek, same)) =
          let below = low k n ek in
          let inside = slice_get_within groups k n ek in
          omega (arith, below, inside)

      by : ((slice_get groups p ≡ Some m) × (p < length groups)) ⊎ ((p ≡ length groups) × (m ≡ n)) → m ≤ p
      by x = grind (arith, reaches)
