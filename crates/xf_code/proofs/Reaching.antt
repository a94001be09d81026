-- Where control comes next, place by place from the end of the code.
use Rattle.std.proofs.Common.{◌≡◌, ℕ, zero, suc, ◌+◌, ◌<◌, ◌≤◌, ◌⊎◌, inl, inr, true, false, List, length, set, Some, slice_get}
use Rattle.std.proofs.Common.{refl, sym, ◌∙◌, ap, subst, arith}
use Rattle.std.specs.Prelude.{is_some}
use Rattle.std.proofs.lemmas.List.{length-set}
use Rattle.jc_base.proofs.Lists.{slice_get-set_here, slice_get-set_other}
use Rattle.xf_homes.specs.Source.{Source}
use Rattle.xf_homes.specs.Plan.{first_reached}
use Rattle.xf_homes.proofs.PlanSteps.{first-here, first-later}
use Rattle.xf_code.specs.NextReached.{AreNextFrom}

-- from the end of the code on there is none
pub end-reached : (s : Source) (p : ℕ) → length s.method.code ≤ p → first_reached s p ≡ p
unfolding first_reached
end-reached s p past = grind (arith, length)

pub here-reached : (s : Source) (p : ℕ) → p < length s.method.code → is_some (s.frames p) ≡ true → first_reached s p ≡ p
unfolding first_reached
here-reached s p inside is = first-here s.frames p (length s.method.code) inside is

pub later-reached : (s : Source) (p : ℕ) → p < length s.method.code → is_some (s.frames p) ≡ false → first_reached s p ≡ first_reached s (p + 1)
unfolding first_reached
later-reached s p inside is = first-later s.frames p (length s.method.code) inside is

split : (place p : ℕ) → place ≤ p → (p ≡ place) ⊎ (place + 1 ≤ p)
split zero zero low = inl refl
split zero (suc p) low = inr (omega arith)
split (suc place) zero low = absurd (omega arith)
split (suc place) (suc p) low = by (split place p (omega arith))
  where
    by : (p ≡ place) ⊎ (place + 1 ≤ p) → (suc p ≡ suc place) ⊎ (suc place + 1 ≤ suc p)
    by (inl e) = inl (ap suc e)
    by (inr l) = inr (omega (arith, l))

-- one place before those that are known
pub from-before : (s : Source) (next : List ℕ) (place after : ℕ) → place < length s.method.code → AreNextFrom s next (place + 1)
    → after ≡ first_reached s place → AreNextFrom s (set next place after) place
from-before s next place after inside from is = record {
  size = length-set next place after ∙ from.size;
  each = λ p low high. by p high (split place p low);
}
  where
    by : (p : ℕ) → p < length s.method.code → (p ≡ place) ⊎ (place + 1 ≤ p) → slice_get (set next place after) p ≡ Some (first_reached s p)
    by p high (inl e) =
        subst (λ k. slice_get (set next place after) k ≡ Some (first_reached s k)) (sym e)
        (slice_get-set_here next place after (omega (arith, inside, from.size)) ∙ ap Some is)
    by p high (inr later) =
        slice_get-set_other next place p after (λ e. absurd (omega (arith, e, later))) ∙ from.each p later high
