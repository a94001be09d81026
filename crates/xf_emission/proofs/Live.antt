-- A rewritten method has a range for each live handler.
use Rattle.std.proofs.Common.{◌≡◌, ℕ, zero, suc, ◌+◌, ◌-◌, ◌<◌, ◌≤◌, Bool, true, false, if◌then◌else◌, inl, inr, List, []}
use Rattle.std.proofs.Common.{◌∷◌, ◌++◌, length, All, Contains, Option, refl, sym, ◌∙◌, ap, subst, arith, append_assoc}
use Rattle.std.specs.Prelude.{is_some, nat_lt}
use Rattle.std.proofs.lemmas.Bool.Decides.{nat_tests}
use Rattle.std.proofs.lemmas.List.Elements.{All-contains, Contains-append_right}
use Rattle.std.proofs.lemmas.Bool.{both_ways}
use Rattle.jc_base.specs.declared.record.Handler.{Handler}
use Rattle.jc_control.specs.WellFormed.{IsBoundary, IsHandlerOf}
use Rattle.jc_control.specs.Control.{IsReached, IsLive}
use Rattle.jc_decode.specs.Laws.{AreListed, InstructionsAreListed}
use Rattle.jc_rules.specs.Demand.{Frame}
use Rattle.xf_homes.specs.Source.{Source}
use Rattle.xf_homes.specs.Plan.{first_of, first_reached}
use Rattle.xf_emission.specs.Emission.{is_live, range, ranges_from, ranges}
use Rattle.xf_emission.specs.Laws.{HasFrames, LiveAreKept}
use Rattle.xf_emission.specs.Live.{KeepsLive, none_left, live_kept, dead_left}

-- an element that comes next stands in the whole
pub stands-next : {X : Type 0} (before rest after whole : List X) (x : X) → rest ≡ x ∷ after → before ++ rest ≡ whole → Contains whole x
stands-next before rest after whole x e inv =
    subst (λ xs. Contains xs x) (ap (λ xs. before ++ xs) (sym e) ∙ inv) (Contains-append_right before (x ∷ after) x (0, omega arith, refl))

pub moves-on : {X : Type 0} (before rest after whole : List X) (x : X) → rest ≡ x ∷ after → before ++ rest ≡ whole
    → (before ++ x ∷ []) ++ after ≡ whole
moves-on before rest after whole x e inv = append_assoc before (x ∷ []) after ∙ ap (λ xs. before ++ xs) (sym e) ∙ inv

-- what is found is the first place of those, or the one after them
pub record IsFirst (frames : ℕ → Option Frame) (p n q : ℕ) : Type 0 where
  pub from : p ≤ q
  pub to : q ≤ p + n
  pub there : q < p + n → is_some (frames q) ≡ true
  pub none : (r : ℕ) → p ≤ r → r < q → is_some (frames r) ≡ false

pub is-first : (frames : ℕ → Option Frame) (p n : ℕ) → IsFirst frames p n (first_of frames p n)
is-first frames p zero = record { from = omega arith; to = omega arith; there = λ lt. absurd (omega arith); none = λ r le lt. absurd (omega arith) }
is-first frames p (suc n) = by (is_some (frames p)) refl (is-first frames (suc p) n)
  where
    later : is_some (frames p) ≡ false → (q : ℕ) → IsFirst frames (suc p) n q → IsFirst frames p (suc n) q
    later e q f = record {
      from = omega (arith, f.from);
      to = omega (arith, f.to);
      there = λ lt. f.there (omega arith);
      none = λ r le lt. dead r le lt (nat_lt p r) refl f;
    }
      where
        dead : (r : ℕ) → p ≤ r → r < q → (b : Bool) → nat_lt p r ≡ b → IsFirst frames (suc p) n q → is_some (frames r) ≡ false
        dead r le lt true t f = f.none r (grind (arith, nat_tests, t)) lt
        dead r le lt false t f = let same : p ≡ r = grind (arith, nat_tests, t) in subst (λ (k : ℕ). is_some (frames k) ≡ false) same e

    by : (b : Bool) → is_some (frames p) ≡ b → IsFirst frames (suc p) n (first_of frames (suc p) n)
        → IsFirst frames p (suc n) (if b then p else first_of frames (suc p) n)
    by x e f = grind (arith, suc)

module _ (s : Source) (listed : AreListed s.method.code) (has : HasFrames s) where
  found : (p : ℕ) → is_some (s.frames p) ≡ true → IsReached s.method p
  found p e = (has.reached p).0 e

  there : (p : ℕ) → IsReached s.method p → is_some (s.frames p) ≡ true
  there p r = (has.reached p).1 r

  end-inside : (h : Handler) → IsHandlerOf s.method.code h → h.end ≤ length s.method.code
  end-inside h is = by is.end
    where
      by : IsBoundary s.method.code h.end → h.end ≤ length s.method.code
      by (inl e) = omega (arith, e)
      by (inr (i, st, e)) = omega (arith, listed.inside i st, e)

  first-is : (p : ℕ) → IsFirst s.frames p (length s.method.code - p) (first_reached s p)
  unfolding first_reached
  first-is p = is-first s.frames p (length s.method.code - p)

  pub live-is : (h : Handler) → IsHandlerOf s.method.code h → Contains s.method.rec.handlers h → is_live s h ≡ true → IsLive s.method h
  live-is h is c e = grind (arith, first-is h.start, nat_tests, end-inside h is)

  is-live : (h : Handler) → IsHandlerOf s.method.code h → IsLive s.method h → is_live s h ≡ true
  is-live h is l =
      let f = first-is h.start in
      by (nat_lt (first_reached s h.start) h.end) refl f
    where
      by : (b : Bool) → nat_lt (first_reached s h.start) h.end ≡ b → IsFirst s.frames h.start (length s.method.code - h.start)
          (first_reached s h.start) → b ≡ true
      by true e f = refl
      by false e f =
          let past : h.end ≤ first_reached s h.start = grind (arith, nat_tests, e) in
          let dead = f.none l.place l.covers.from (omega (arith, past, l.covers.before)) in
          absurd (both_ways (is_some (s.frames l.place)) dead (there l.place l.reached))

  pub keeps-live : All (IsHandlerOf s.method.code) s.method.rec.handlers → (n : ℕ) (before hs : List Handler) → before ++ hs ≡ s.method.rec.handlers
      → KeepsLive s.method hs (ranges_from s n hs)
  keeps-live formed n before [] e = none_left
  keeps-live formed n before (h ∷ hs) e =
      let c = stands-next before (h ∷ hs) hs s.method.rec.handlers h refl e in
      by (is_live s h) refl (All-contains (IsHandlerOf s.method.code) s.method.rec.handlers h formed c) c
      (keeps-live formed (suc n) (before ++ h ∷ []) hs (moves-on before (h ∷ hs) hs s.method.rec.handlers h refl e))
    where
      by : (b : Bool) → is_live s h ≡ b → IsHandlerOf s.method.code h → Contains s.method.rec.handlers h
          → KeepsLive s.method hs (ranges_from s (suc n) hs)
          → KeepsLive s.method (h ∷ hs) ((if b then range s n h ∷ [] else []) ++ ranges_from s (suc n) hs)
      by true e is c rest = live_kept (live-is h is c e) refl rest
      by false e is c rest = dead_left (λ l. both_ways (is_live s h) e (is-live h is l)) rest

pub live-are-kept : InstructionsAreListed → LiveAreKept
unfolding ranges
live-are-kept listed s has = keeps-live s (listed s.method.code) has has.formed.handlers 0 [] s.method.rec.handlers refl
