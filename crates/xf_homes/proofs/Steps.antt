-- Steps along the events of a walk.
use Rattle.std.proofs.Common.{◌∙◌, ◌≡◌, ℕ, zero, suc, ◌+◌, ◌-◌, ◌<◌, ◌≤◌, Bool, true, false, List, [], ◌∷◌, length, drop, flat_map}
use Rattle.std.proofs.Common.{Option, MatchBool, refl, sym, ap, arith, drop-cons}
use Rattle.std.specs.Prelude.{fold, get_or}
use Rattle.std.proofs.lemmas.List.Sums.{fold-append}
use Rattle.std.proofs.lemmas.List.Concat.{flat_map-cons}
use Rattle.jc_base.specs.declared.ty.Ty.{Ty}
use Rattle.jc_base.specs.declared.record.Handler.{Handler}
use Rattle.jc_decode.specs.declared.insn.Placed.{Placed}
use Rattle.jc_control.specs.Control.{Covers}
use Rattle.jc_rules.specs.Demand.{Frame}
use Rattle.xf_homes.specs.declared.home.Home.{Home}
use Rattle.xf_homes.specs.Value.{value_in_cells}
use Rattle.xf_homes.specs.Walk.{Event, is_covered, local_of, caught_of, caught_events, local_events, locals_events, cells_events, with_home_of_value, with_event}
use Rattle.xf_homes.specs.Walk.{with_events}
use Rattle.xf_homes.proofs.Meeting.{covered, covers}

pub cells-step : (homes : List Home) (p slot : ℕ) (cells : List Ty) (n len : ℕ) → n < len
    → with_events homes (cells_events p slot cells n (len - n)) ≡ with_events (with_home_of_value homes (slot + n) (value_in_cells cells n))
    (cells_events p slot cells (n + 1) (len - (n + 1)))
unfolding with_events
cells-step homes p slot cells n len lt = grind (arith, suc)

pub locals-step : (homes : List Home) (frames : ℕ → Option Frame) (handlers : List Handler) (p x len : ℕ) → x < len
    → with_events homes (locals_events frames handlers p x (len - x)) ≡ with_events (with_events homes (local_events frames handlers p x))
    (locals_events frames handlers p (x + 1) (len - (x + 1)))
unfolding with_events
locals-step homes frames handlers p x len lt = grind (arith, suc, fold-append)

pub handlers-step : (homes : List Home) (frames : ℕ → Option Frame) (p x n : ℕ) (handlers : List Handler) (d : Handler) (value : Option Ty)
    → n < length handlers → value ≡ caught_of frames p x (get_or handlers n d)
    → with_events homes (caught_events frames p x n (drop n handlers)) ≡ with_events (with_home_of_value homes x value)
    (caught_events frames p x (n + 1) (drop (n + 1) handlers))
unfolding with_events
handlers-step homes frames p x n handlers d value lt is = grind (arith, suc, drop-cons, drop)

pub handlers-end : (homes : List Home) (frames : ℕ → Option Frame) (p x n : ℕ) (handlers : List Handler) → length handlers ≤ n
    → with_events homes (caught_events frames p x n (drop n handlers)) ≡ homes
unfolding with_events
handlers-end homes frames p x n handlers le = ap (λ hs. fold with_event homes (caught_events frames p x n hs)) (drop-past handlers n le)
  where
    drop-past : (hs : List Handler) (n : ℕ) → length hs ≤ n → drop n hs ≡ []
    drop-past [] zero le = refl
    drop-past [] (suc n) le = refl
    drop-past (h ∷ hs) zero le = absurd (omega arith)
    drop-past (h ∷ hs) (suc n) le = drop-past hs n (omega arith)

-- whether a handler covers a place
pub covers-is : (h : Handler) (p : ℕ) (b : Bool) → MatchBool b (Covers h p) (¬ (Covers h p)) → b ≡ is_covered h p
covers-is h p true c = sym (covers h p c)
covers-is h p false n = by (is_covered h p) refl
  where
    by : (b : Bool) → is_covered h p ≡ b → false ≡ b
    by true e = absurd (n (covered h p e))
    by false e = refl

pub places-step : (homes : List Home) (f : Placed → List Event) (rest : List Placed) (i : Placed) (after : List Placed) → rest ≡ i ∷ after
    → with_events homes (flat_map f rest) ≡ with_events (with_events homes (f i)) (flat_map f after)
unfolding with_events
places-step homes f rest i after e = grind (arith, flat_map, flat_map-cons, fold-append)

pub places-end : (homes : List Home) (f : Placed → List Event) (rest : List Placed) → rest ≡ [] → homes ≡ with_events homes (flat_map f rest)
unfolding with_events
places-end homes f rest e = ap (λ is. fold with_event homes (flat_map f is)) (sym e)

pub locals-end : (homes : List Home) (frames : ℕ → Option Frame) (handlers : List Handler) (p x len : ℕ) → len ≤ x
    → homes ≡ with_events homes (locals_events frames handlers p x (len - x))
unfolding with_events
locals-end homes frames handlers p x len le = grind (arith)

pub local-step : (homes own after : List Home) (frames : ℕ → Option Frame) (handlers : List Handler) (p x : ℕ)
    → own ≡ with_home_of_value homes x (local_of (frames p) x) → after ≡ with_events own (caught_events frames p x 0 handlers)
    → after ≡ with_events homes (local_events frames handlers p x)
unfolding with_events local_events
local-step homes own after frames handlers p x is next = next ∙ ap (λ acc. fold with_event acc (caught_events frames p x 0 handlers)) is
