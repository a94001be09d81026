-- Steps along the targets of a branch.
use Rattle.std.proofs.Common.{◌≡◌, ℕ, zero, suc, Bool, true, false, cond, None, Some, position, slice_get, Contains, refl, sym, ◌+◌}
use Rattle.std.proofs.Common.{List, [], ◌∷◌, ◌++◌, length, ap, arith, All}
use Rattle.std.specs.List.{position_or_len}
use Rattle.std.specs.Ordering.{int_eq}
use Rattle.std.proofs.lemmas.Bool.Decides.{nat_tests}
use Rattle.std.specs.Prelude.{ℤ, nat_lt, pos, ◌≤ℤ◌, ◌<ℤ◌, get_or}
use Rattle.std.proofs.lemmas.Int.{ints}
use Rattle.std.proofs.lemmas.List.Elements.{All-contains}
use Rattle.std.proofs.lemmas.Option.{slice_get-get_or, slice_get_past}
use Rattle.jc_decode.proofs.Elements.{Contains-slice_get}
use Rattle.jc_ops.specs.declared.operation.Operation.{Operation}
use Rattle.xf_homes.specs.Source.{Source}
use Rattle.xf_emission.specs.Jump.{IsNearBy, each_once, way_of, lead, leads}
use Rattle.xf_code.specs.Ways.{way_labels}
use Rattle.law_laid.proofs.Steps.{at-contains}
use Rattle.xf_emission.proofs.Ways.{way-found, way-from}

pub near-low : (t : ℤ) → IsNearBy t → pos 0 ≤ℤ t
near-low x h = grind (arith, ints)

pub near-high : (t : ℤ) → IsNearBy t → t <ℤ pos 65536
near-high x h = grind (arith, ints)

-- what holds of each target holds of each way
pub ways-all : (P : ℤ → Type 0) (ts : List ℤ) → All P ts → All P (each_once ts)
ways-all P ts all k d lt =
    let j = way-from ts k (get_or (each_once ts) k d) (slice_get-get_or (each_once ts) k d lt) in
    All-contains P ts (get_or (each_once ts) k d) all (Contains-slice_get ts j.0 (get_or (each_once ts) k d) j.1)

-- the label of a target, by the number of its way
pub found-label : (ways : List ℤ) (labels : List ℕ) (t : ℤ) (n : ℕ) → Some n ≡ position (int_eq t) ways
    → slice_get labels n ≡ slice_get labels (position_or_len (int_eq t) ways)
found-label ways labels t n at = by (nat_lt (position_or_len (int_eq t) ways) (length ways)) at
  where
    by : (b : Bool) → Some n ≡ cond b (Some (position_or_len (int_eq t) ways)) None
        → slice_get labels n ≡ slice_get labels (position_or_len (int_eq t) ways)
    by true e = let same : n ≡ position_or_len (int_eq t) ways = cc in ap (slice_get labels) same
    by false e = absurd (cc)

pub no-label : (ways : List ℤ) (labels : List ℕ) (t : ℤ) → length labels ≡ length ways → None ≡ position (int_eq t) ways
    → None ≡ slice_get labels (position_or_len (int_eq t) ways)
no-label ways labels t few at = by (nat_lt (position_or_len (int_eq t) ways) (length ways)) refl at
  where
    by : (b : Bool) → nat_lt (position_or_len (int_eq t) ways) (length ways) ≡ b → None ≡ cond b (Some (position_or_len (int_eq t) ways)) None
        → None ≡ slice_get labels (position_or_len (int_eq t) ways)
    by true past e = absurd (cc)
    by false past e = sym (slice_get_past labels (position_or_len (int_eq t) ways) (grind (arith, nat_tests, past, few)))

module _ (s : Source) (p : ℕ) (op : Operation) (n : ℕ) where
  pub leads-next : (whole rest after : List ℤ) (t : ℤ) → rest ≡ t ∷ after
      → leads s p op n whole rest ≡ (lead s p op n (way_of whole t) t ∷ []) ++ leads s p op n whole after
  leads-next whole rest after t e = ap (leads s p op n whole) e

  pub leads-none : (whole rest : List ℤ) → rest ≡ [] → leads s p op n whole rest ≡ []
  leads-none whole rest e = ap (leads s p op n whole) e

  pub labels-length : (k : ℕ) (ways : List ℤ) → length (way_labels s p op n k ways) ≡ length ways
  labels-length k [] = refl
  labels-length k (t ∷ ts) = ap suc (labels-length (suc k) ts)

  -- the label of a way
  label-from : (from k : ℕ) (ways : List ℤ) (t : ℤ) → slice_get ways k ≡ Some t → slice_get (way_labels s p op n from ways) k
      ≡ Some (lead s p op n (from + k) t)
  label-from from k [] t e = absurd (cc)
  label-from from zero (u ∷ us) t e = grind (arith)
  label-from from (suc k) (u ∷ us) t e = grind (arith, suc, label-from (suc from) k us t e)

  -- the label of the way that a target goes
  pub target-label : (all : List ℤ) (t : ℤ) → Contains all t → slice_get (way_labels s p op n 0 (each_once all)) (way_of all t)
      ≡ Some (lead s p op n (way_of all t) t)
  target-label all t c = grind (arith, label-from 0 (way_of all t) (each_once all) t (way-found all c.0 t (at-contains all t c)))
