-- The ways of a branch: its targets, each once.
use Rattle.std.proofs.Common.{◌≡◌, ℕ, zero, suc, ◌+◌, ◌≤◌, ◌⊎◌, ◌||◌, Bool, true, false, if◌then◌else◌, cond, not, inl, inr}
use Rattle.std.proofs.Common.{List, [], ◌∷◌, ◌++◌, length, fold, Some, slice_get, refl, sym, ◌∙◌, ap, subst, arith, length-append}
use Rattle.std.specs.Prelude.{ℤ}
use Rattle.std.specs.List.{list_any, position_or_len}
use Rattle.std.specs.Ordering.{int_eq}
use Rattle.std.proofs.lemmas.Bool.{false≢true}
use Rattle.std.proofs.lemmas.Bool.Decides.{Decides-int_eq}
use Rattle.jc_base.specs.Each.{IsAmong}
use Rattle.jc_base.proofs.Eaching.{IsAmong-append_cases}
use Rattle.xf_homes.proofs.Events.{among-left, among-right}
use Rattle.xf_emission.specs.Jump.{with_target, each_once, way_of}
use Rattle.xf_emission.specs.Laws.{AreApart, WaysAreTargets}

-- ---- whether a target is there

any-among : (t : ℤ) (ts : List ℤ) → list_any (int_eq t) ts ≡ true → IsAmong t ts
any-among t [] e = absurd (cc)
any-among t (u ∷ us) e = by (int_eq t u) refl e (any-among t us)
  where
    by : (b : Bool) → int_eq t u ≡ b → (b || list_any (int_eq t) us) ≡ true → (list_any (int_eq t) us ≡ true → IsAmong t us)
        → IsAmong t (u ∷ us)
    by true same e rest = inl (sym ((Decides-int_eq t u).0 same))
    by false other e rest = inr (rest e)

among-any : (t : ℤ) (ts : List ℤ) → IsAmong t ts → list_any (int_eq t) ts ≡ true
among-any t [] a = absurd a
among-any t (u ∷ us) (inl e) = ap (λ b. b || list_any (int_eq t) us) ((Decides-int_eq t u).1 (sym e))
among-any t (u ∷ us) (inr a) = by (int_eq t u) (among-any t us a)
  where
    by : (b : Bool) → list_any (int_eq t) us ≡ true → (b || list_any (int_eq t) us) ≡ true
    by true e = refl
    by false e = e

-- ---- one more

record AreMore (before after : List ℤ) (t : ℤ) : Type 0 where
  here : IsAmong t after
  kept : (u : ℤ) → IsAmong u before → IsAmong u after
  only : (u : ℤ) → IsAmong u after → IsAmong u before ⊎ (t ≡ u)
  apart : AreApart before → AreApart after
  few : length after ≤ suc (length before)

apart-last : (ts : List ℤ) (t : ℤ) → AreApart ts → ¬ (IsAmong t ts) → AreApart (ts ++ t ∷ [])
apart-last [] t a none = (λ x. x, tt)
apart-last (u ∷ us) t a none = (
  λ x. by (IsAmong-append_cases u us (t ∷ []) x),
  apart-last us t a.1 (λ y. none (inr y)),
)
  where
    by : IsAmong u us ⊎ IsAmong u (t ∷ []) → ⊥
    by (inl y) = a.0 y
    by (inr (inl e)) = none (inl (sym e))
    by (inr (inr y)) = y

are-more : (ts : List ℤ) (t : ℤ) → AreMore ts (with_target ts t) t
are-more ts t = by (list_any (int_eq t) ts) refl
  where
    last-only : (u : ℤ) → IsAmong u ts ⊎ IsAmong u (t ∷ []) → IsAmong u ts ⊎ (t ≡ u)
    last-only u (inl a) = inl a
    last-only u (inr (inl e)) = inr e
    last-only u (inr (inr a)) = absurd a

    by : (b : Bool) → list_any (int_eq t) ts ≡ b → AreMore ts (if b then ts else ts ++ t ∷ []) t
    by true e = record { here = any-among t ts e; kept = λ u a. a; only = λ u a. inl a; apart = λ a. a; few = omega arith }
    by false e = record {
      here = among-right t ts (t ∷ []) (inl refl);
      kept = λ u a. among-left u ts (t ∷ []) a;
      only = λ u a. last-only u (IsAmong-append_cases u ts (t ∷ []) a);
      apart = λ a. apart-last ts t a (λ x. false≢true (sym e ∙ among-any t ts x));
      few = omega (arith, length-append ts (t ∷ []));
    }

-- ---- all

record AreAll (before ts after : List ℤ) : Type 0 where
  kept : (u : ℤ) → IsAmong u before → IsAmong u after
  here : (u : ℤ) → IsAmong u ts → IsAmong u after
  only : (u : ℤ) → IsAmong u after → IsAmong u before ⊎ IsAmong u ts
  apart : AreApart before → AreApart after
  few : length after ≤ length before + length ts

are-all : (before ts : List ℤ) → AreAll before ts (fold with_target before ts)
are-all before [] = record { kept = λ u a. a; here = λ u a. absurd a; only = λ u a. inl a; apart = λ a. a; few = omega arith }
are-all before (t ∷ ts) =
    let one = are-more before t in
    let rest = are-all (with_target before t) ts in
    record {
      kept = λ u a. rest.kept u (one.kept u a);
      here = λ u a. found one rest u a;
      only = λ u a. from one u (rest.only u a);
      apart = λ a. rest.apart (one.apart a);
      few = omega (arith, one.few, rest.few);
    }
  where
    found : AreMore before (with_target before t) t → AreAll (with_target before t) ts (fold with_target (with_target before t) ts) → (u : ℤ)
        → (t ≡ u) ⊎ IsAmong u ts
        → IsAmong u (fold with_target (with_target before t) ts)
    found one rest u (inl e) = rest.kept u (subst (λ x. IsAmong x (with_target before t)) e one.here)
    found one rest u (inr a) = rest.here u a

    earlier : (u : ℤ) → IsAmong u before ⊎ (t ≡ u) → IsAmong u before ⊎ ((t ≡ u) ⊎ IsAmong u ts)
    earlier u (inl a) = inl a
    earlier u (inr e) = inr (inl e)

    from : AreMore before (with_target before t) t → (u : ℤ) → IsAmong u (with_target before t) ⊎ IsAmong u ts → IsAmong u before
        ⊎ ((t ≡ u) ⊎ IsAmong u ts)
    from one u (inl a) = earlier u (one.only u a)
    from one u (inr a) = inr (inr a)

pub ways-are-targets : WaysAreTargets
unfolding each_once
ways-are-targets ts =
    let all = are-all [] ts in
    record {
      same = λ t. (λ a. by t (all.only t a), λ a. all.here t a);
      once = all.apart tt;
    }
  where
    by : (t : ℤ) → IsAmong t [] ⊎ IsAmong t ts → IsAmong t ts
    by t (inl a) = absurd a
    by t (inr a) = a

pub ways-few : (ts : List ℤ) → length (each_once ts) ≤ length ts
unfolding each_once
ways-few ts = omega (arith, (are-all [] ts).few)

-- ---- numbers

among-at : (ts : List ℤ) (t : ℤ) → IsAmong t ts → (k : ℕ) × (slice_get ts k ≡ Some t)
among-at [] t a = absurd a
among-at (u ∷ us) t (inl e) = (0, ap Some e)
among-at (u ∷ us) t (inr a) = let r = among-at us t a in (suc r.0, r.1)

at-among : (ts : List ℤ) (k : ℕ) (t : ℤ) → slice_get ts k ≡ Some t → IsAmong t ts
at-among [] k t e = absurd (cc)
at-among (u ∷ us) zero t e = inl (cc)
at-among (u ∷ us) (suc k) t e = inr (at-among us k t e)

found-at : (ts : List ℤ) (t : ℤ) → IsAmong t ts → slice_get ts (position_or_len (int_eq t) ts) ≡ Some t
found-at [] t a = absurd a
found-at (u ∷ us) t a = by (int_eq t u) refl (found-at us t)
  where
    later : int_eq t u ≡ false → (u ≡ t) ⊎ IsAmong t us → IsAmong t us
    later other (inl e) = absurd (false≢true (sym other ∙ (Decides-int_eq t u).1 (sym e)))
    later other (inr b) = b

    by : (b : Bool) → int_eq t u ≡ b → (IsAmong t us → slice_get us (position_or_len (int_eq t) us) ≡ Some t)
        → slice_get (u ∷ us) (cond (not b) (1 + position_or_len (int_eq t) us) 0) ≡ Some t
    by x same rest = grind (arith, suc, slice_get)

-- each target goes one of the ways
pub way-found : (ts : List ℤ) (k : ℕ) (t : ℤ) → slice_get ts k ≡ Some t → slice_get (each_once ts) (way_of ts t) ≡ Some t
way-found ts k t at = found-at (each_once ts) t (((ways-are-targets ts).same t).1 (at-among ts k t at))

-- and each way is that of a target
pub way-from : (ts : List ℤ) (k : ℕ) (t : ℤ) → slice_get (each_once ts) k ≡ Some t → (j : ℕ) × (slice_get ts j ≡ Some t)
way-from ts k t at = among-at ts t (((ways-are-targets ts).same t).0 (at-among (each_once ts) k t at))
