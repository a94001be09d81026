-- Where laid code that is renumbered stands: its handlers lie inside it, and it has an instruction.
use Rattle.std.proofs.Common.{◌≡◌, ◌⊎◌, ℕ, zero, suc, ◌+◌, ◌<◌, ◌≤◌, inl, inr, List, [], ◌∷◌, length, map, All, Some}
use Rattle.std.proofs.Common.{refl, sym, ap, ◌∙◌, arith}
use Rattle.std.specs.Prelude.{slice_get}
use Rattle.std.proofs.lemmas.List.Elements.{All-head, All-tail}
use Rattle.std.proofs.Math.Nat.{eq-or-lt_of_le}
use Rattle.cap_laying.specs.HandlerTable.{AreInside, IsInside}
use Rattle.jc_base.specs.declared.record.Handler.{Handler}
use Rattle.jc_control.specs.WellFormed.{IsHandlerOf, IsPlace}
use Rattle.jc_decode.specs.declared.insn.Placed.{Placed}
use Rattle.jc_decode.specs.declared.symbols.Laid.{Laid}
use Rattle.jc_decode.specs.declared.symbols.Symbols.{Symbols}
use Rattle.jc_decode.specs.Laws.{AreListed}
use Rattle.jc_decode.specs.Listing.{listing}
use Rattle.jc_decode.specs.Standing.{AreSteps, StandsAt}
use Rattle.jc_decode.specs.Symbols.{Step, handler, place_of, steps}
use Rattle.jc_decode.proofs.Elements.{Contains-slice_get}
use Rattle.law_renumbered.specs.Symbols.{items_from, range_of}
use Rattle.xf_share.proofs.Labels.{place-inside, place-starts, place-within, step-count}

-- the k-th of several steps from n on stands at its place
step-at : (code : List ℕ) (place : ℕ → ℕ) (n : ℕ) (ss : List Step) (ps : List Placed) (k : ℕ) → AreSteps code place n ss ps → k < length ss
    → (p : Placed) × (slice_get ps k ≡ Some p) × (p.place ≡ place (n + k))
step-at code place n [] ps k are lt = absurd (omega (arith, lt))
step-at code place n (s ∷ ss) [] k are lt = absurd are
step-at code place n (s ∷ ss) (p ∷ ps) zero are lt =
    let same : n ≡ n + 0 = omega arith in
    (p, refl, are.0 ∙ ap place same)
step-at code place n (s ∷ ss) (p ∷ ps) (suc k) are lt = grind (arith, suc, step-at code place (suc n) ss ps k are.3 (omega (arith, lt)))

module _ (code : List ℕ) (reg : ℕ → ℕ) (symbols : Symbols) (laid : Laid) (place : ℕ → ℕ)
    (same : symbols.items ≡ items_from code reg (listing code)) (stands : StandsAt place code symbols laid) (listed : AreListed laid.code) where
  count : length (steps code symbols.items) ≡ length (listing code)
  count = ap (λ its. length (steps code its)) same ∙ step-count code reg (items_from code reg (listing code)) (listing code)

  inner : (k : ℕ) → k < length (listing code) → place k < length laid.code
  inner k lt =
      let p = step-at laid.code place 0 (steps code symbols.items) (listing laid.code) k stands.instructions (omega (arith, lt, count)) in
      let inside = listed.inside p.0 (Contains-slice_get (listing laid.code) k p.0 p.1) in
      let here : 0 + k ≡ k = omega arith in
      let at : p.0.place ≡ place k = p.2 ∙ ap place here in
      omega (arith, inside, at)

  outer : (k : ℕ) → k ≤ length (listing code) → place k ≤ length laid.code
  outer k le = by (eq-or-lt_of_le le)
    where
      by : (k ≡ length (listing code)) ⊎ (k < length (listing code)) → place k ≤ length laid.code
      by (inl e) = let end : place k ≡ length laid.code = ap place (e ∙ sym count) ∙ stands.ends in omega (arith, end)
      by (inr lt) = let inside = inner k lt in omega (arith, inside)

  pub filled : 0 < length (listing code) → 1 ≤ length laid.code
  filled some = let first = inner 0 some in omega (arith, first)

  abbrev at_label : ℕ → ℕ
  at_label l = place (place_of l symbols.items)

  start-in : (l : ℕ) → IsPlace code l → at_label l < length laid.code
  start-in l p = grind (arith, place-inside, place-starts, inner)

  label-in : (l : ℕ) → at_label l ≤ length laid.code
  label-in l = grind (arith, place-within, outer)

  handler-inside : (h : Handler) → length laid.code ≤ 32767 → IsHandlerOf code h
      → IsInside (length laid.code) (handler at_label (range_of h))
  handler-inside h short is = grind (arith, start-in, label-in)

  handlers-inside : (hs : List Handler) → length laid.code ≤ 32767 → All (IsHandlerOf code) hs
      → AreInside (length laid.code) (map (handler at_label) (map range_of hs))
  handlers-inside [] short all = tt {0}
  handlers-inside (h ∷ hs) short all =
      (handler-inside h short (All-head (IsHandlerOf code) h hs all), handlers-inside hs short (All-tail (IsHandlerOf code) h hs all))

  pub inside : (hs : List Handler) → symbols.ranges ≡ map range_of hs → length laid.code ≤ 32767 → All (IsHandlerOf code) hs
      → AreInside (length laid.code) laid.handlers
  inside hs ranges short all = grind (arith, length, map, handlers-inside)
