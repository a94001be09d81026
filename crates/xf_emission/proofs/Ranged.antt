-- The ranges of a rewritten method are such as are laid.
use Rattle.std.proofs.Common.{◌≡◌, ◌⊎◌, ℕ, suc, ◌-◌, ◌<◌, ◌≤◌, Bool, true, false, if◌then◌else◌, inl, inr, List, []}
use Rattle.std.proofs.Common.{◌∷◌, ◌++◌, length, All, refl, sym, ◌∙◌, ap, subst, arith, length-append, ne_of_lt}
use Rattle.std.specs.Prelude.{is_some, nat_lt, ◌==◌, slice_get, Some}
use Rattle.std.proofs.lemmas.Bool.Decides.{nat_tests}
use Rattle.std.proofs.lemmas.List.Elements.{All-contains}
use Rattle.std.proofs.lemmas.Bool.{ne_eqb, both_ways}
use Rattle.jc_base.specs.Each.{Each, IsAmong}
use Rattle.jc_base.specs.declared.record.Handler.{Handler}
use Rattle.jc_base.proofs.Eaching.{All-from_Each}
use Rattle.jc_decode.specs.declared.insn.Placed.{Placed}
use Rattle.jc_decode.specs.declared.symbols.Item.{Item}
use Rattle.jc_decode.specs.declared.symbols.Item.TheVariants.{Plain, Branch, Switch, Label}
use Rattle.jc_decode.specs.Symbols.{place_of, IsOnce, IsRange}
use Rattle.jc_control.specs.WellFormed.{IsPlace, IsBoundary, IsHandlerOf, HasInstruction}
use Rattle.jc_decode.specs.Laws.{InstructionsAreListed}
use Rattle.jc_control.proofs.Elements.{here-in, contained-in, go-on}
use Rattle.xf_homes.specs.Source.{Source}
use Rattle.xf_homes.specs.Plan.{first_reached}
use Rattle.xf_emission.specs.Jump.{handler_label}
use Rattle.xf_emission.specs.Emission.{is_live, range, ranges_from, ranges, items}
use Rattle.xf_emission.specs.Laws.{IsCode, IsLabelOf, of_place, of_end, of_handler, RangesStand}
use Rattle.xf_emission.proofs.Labels.{labels}
use Rattle.xf_emission.proofs.Rises.{Rises}
use Rattle.xf_emission.proofs.Stubs.{all-rise}
use Rattle.xf_emission.proofs.Once.{labels-stand-once, named-among}
use Rattle.xf_emission.proofs.Live.{IsFirst, is-first}

-- a lesser label stands for no later a place
place-rises : (low high a b : ℕ) (xs : List Item) → Rises low high (labels xs) → IsAmong a (labels xs) → a ≤ b → place_of a xs ≤ place_of b xs
place-rises low high a b [] r at le = absurd at
place-rises low high a b (Plain i ∷ xs) r at le = omega (arith, place-rises low high a b xs r at le)
place-rises low high a b (Branch op l ∷ xs) r at le = omega (arith, place-rises low high a b xs r at le)
place-rises low high a b (Switch i from ls ∷ xs) r at le = omega (arith, place-rises low high a b xs r at le)
place-rises low high a b (Label m ∷ xs) r at le = by (m == a) refl at (λ later. place-rises (suc m) high a b xs r.2 later le)
  where
    above : (low high l : ℕ) (ms : List ℕ) → Rises low high ms → IsAmong l ms → low ≤ l
    above low high l [] r at = absurd at
    above low high l (k ∷ ks) r (inl e) = omega (arith, r.0, e)
    above low high l (k ∷ ks) r (inr at) = omega (arith, r.0, above (suc k) high l ks r.2 at)

    by : (c : Bool) → (m == a) ≡ c → (m ≡ a) ⊎ IsAmong a (labels xs) → (IsAmong a (labels xs) → place_of a xs ≤ place_of b xs)
        → (if c then 0 else place_of a xs) ≤ (if m == b then 0 else place_of b xs)
    by true e at rest = omega arith
    by false e (inl same) rest = absurd (both_ways (m == a) e (ap (λ k. m == k) (sym same) ∙ itself m))
      where
        itself : (k : ℕ) → (k == k) ≡ true
        itself k = grind (arith, nat_tests)
    by false e (inr later) rest =
        let far : m < b = omega (arith, above (suc m) high a (labels xs) r.2 later, le) in
        subst (λ c. place_of a xs ≤ (if c then 0 else place_of b xs)) (sym (ne_eqb m b (ne_of_lt far))) (rest later)

module _ (s : Source) (code : IsCode s) (placed : (p : ℕ) → is_some (s.frames p) ≡ true → IsPlace s.method.code p) where
  place-label : (p : ℕ) → is_some (s.frames p) ≡ true → IsLabelOf s p
  place-label p e = by (placed p e)
    where
      by : IsPlace s.method.code p → IsLabelOf s p
      by (i, st, at) = subst (IsLabelOf s) at (of_place {i = i} st (ap (λ (q : ℕ). is_some (s.frames q)) at ∙ e))

  first-is : (p : ℕ) → IsFirst s.frames p (length s.method.code - p) (first_reached s p)
  unfolding first_reached
  first-is p = is-first s.frames p (length s.method.code - p)

  first-label : (p : ℕ) → p ≤ length s.method.code → IsLabelOf s (first_reached s p)
  first-label p le = by (nat_lt (first_reached s p) (length s.method.code)) refl (first-is p)
    where
      by : (b : Bool) → nat_lt (first_reached s p) (length s.method.code) ≡ b → IsFirst s.frames p (length s.method.code - p) (first_reached s p)
          → IsLabelOf s (first_reached s p)
      by true e f =
          let lt : first_reached s p < length s.method.code = grind (arith, nat_tests, e) in place-label (first_reached s p) (f.there (omega (arith, lt)))
      by false e f =
          let past : length s.method.code ≤ first_reached s p = grind (arith, nat_tests, e) in
          let same : length s.method.code ≡ first_reached s p = omega (arith, past, f.to, le) in
          subst (IsLabelOf s) same of_end

  first-rises : (p q : ℕ) → p ≤ q → q ≤ length s.method.code → first_reached s p ≤ first_reached s q
  first-rises p q le within = by (nat_lt (first_reached s q) (first_reached s p)) refl (first-is p) (first-is q)
    where
      by : (b : Bool) → nat_lt (first_reached s q) (first_reached s p) ≡ b → IsFirst s.frames p (length s.method.code - p) (first_reached s p)
          → IsFirst s.frames q (length s.method.code - q) (first_reached s q)
          → first_reached s p ≤ first_reached s q
      by false e f g = grind (arith, nat_tests, e)
      by true e f g =
          let lt : first_reached s q < first_reached s p = grind (arith, nat_tests, e) in
          absurd
          (both_ways (is_some (s.frames (first_reached s q))) (f.none (first_reached s q) (omega (arith, g.from)) lt)
          (g.there (omega (arith, lt, f.to))))

  once : (l : ℕ) → IsLabelOf s l → IsOnce (items s) l
  once l named = labels-stand-once s code l named

  within : (h : Handler) → IsHandlerOf s.method.code h → ((i : Placed) → HasInstruction s.method.code i → i.place < length s.method.code)
      → (h.start ≤ length s.method.code) × (h.end ≤ length s.method.code)
  within h is inside = (by-place is.start, by-end is.end)
    where
      by-place : IsPlace s.method.code h.start → h.start ≤ length s.method.code
      by-place (i, st, e) = omega (arith, inside i st, e)

      by-end : IsBoundary s.method.code h.end → h.end ≤ length s.method.code
      by-end (inl e) = omega (arith, e)
      by-end (inr (i, st, e)) = omega (arith, inside i st, e)

  module _ (inside : (i : Placed) → HasInstruction s.method.code i → i.place < length s.method.code)
      (formed : All (IsHandlerOf s.method.code) s.method.rec.handlers) where
    range-suits : (n : ℕ) (h : Handler) → slice_get s.method.rec.handlers n ≡ Some h → IsHandlerOf s.method.code h → is_live s h ≡ true
        → IsRange (items s) (range s n h)
    range-suits n h at is live =
        let w = within h is inside in
        let start = first-label h.start w.0 in
        record {
          «from» = once (first_reached s h.start) start;
          to = once (first_reached s h.end) (first-label h.end w.1);
          entry = once (handler_label n) (of_handler {h = h} n at live);
          order =
              place-rises 0 (handler_label 256) (first_reached s h.start) (first_reached s h.end) (items s)
              (all-rise s code.bytes code.lists code.short code.few) (named-among s (first_reached s h.start) start)
              (first-rises h.start h.end (omega (arith, is.order)) w.1);
        }

    ranges-suit-from : (before hs : List Handler) (n : ℕ) → n ≡ length before → before ++ hs ≡ s.method.rec.handlers
        → Each (IsRange (items s)) (ranges_from s n hs)
    ranges-suit-from before [] n at e = tt
    ranges-suit-from before (h ∷ hs) n at e =
        let here : slice_get s.method.rec.handlers n ≡ Some h = subst (λ (k : ℕ). slice_get s.method.rec.handlers k ≡ Some h) (sym at)
        (here-in before h hs s.method.rec.handlers e) in
        let is = All-contains (IsHandlerOf s.method.code) s.method.rec.handlers h formed (contained-in before h hs s.method.rec.handlers e) in
        let longer : suc n ≡ length (before ++ h ∷ []) = omega (arith, at, length-append before (h ∷ [])) in
        by (is_live s h) refl here is (ranges-suit-from (before ++ h ∷ []) hs (suc n) longer (go-on before h hs s.method.rec.handlers e))
      where
        by : (b : Bool) → is_live s h ≡ b → slice_get s.method.rec.handlers n ≡ Some h → IsHandlerOf s.method.code h
            → Each (IsRange (items s)) (ranges_from s (suc n) hs)
            → Each (IsRange (items s)) ((if b then range s n h ∷ [] else []) ++ ranges_from s (suc n) hs)
        by true live here is rest = (range-suits n h here is live, rest)
        by false live here is rest = rest

    pub ranges-suit : All (IsRange (items s)) (ranges s)
    unfolding ranges
    ranges-suit = All-from_Each (IsRange (items s)) (ranges_from s 0 s.method.rec.handlers) (ranges-suit-from [] s.method.rec.handlers 0 refl refl)

pub ranges-stand : InstructionsAreListed → RangesStand
ranges-stand listed s code has =
    ranges-suit s code (λ p some. has.placed p ((has.reached p).0 some)) (listed s.method.code).inside has.formed.handlers
