-- A method is well formed exactly where it has no flaw, and has at most one first flaw.
use Rattle.std.proofs.Common.{◌≡◌, ◌<◌, ◌≤◌, ◌⊎◌, inl, inr, ⊎_elim, ℕ, Some, Err, List, [], ◌∷◌, length, get_or, ap}
use Rattle.std.proofs.Common.{◌∙◌, arith, All}
use Rattle.std.specs.Prelude.{ℤ, pos, negsuc, slice_get}
use Rattle.std.proofs.lemmas.Bool.{cases_lt, cases_eq}
use Rattle.std.proofs.lemmas.Option.{slice_get-get_or}
use Rattle.jc_base.specs.declared.record.Handler.{Handler}
use Rattle.jc_base.proofs.Lists.{All-slice_get}
use Rattle.jc_decode.specs.declared.insn.Placed.{Placed}
use Rattle.jc_decode.specs.declared.insn.CodeEnd.{CodeEnd}
use Rattle.jc_decode.specs.Decoding.{decoded}
use Rattle.jc_decode.specs.Listing.{listing, listing_end, targets}
use Rattle.jc_control.specs.Method.{Method}
use Rattle.jc_control.specs.WellFormed.{HasInstruction, IsPlace, IsTargetPlace, IsBoundary, IsHandlerOf, IsWellFormed}
use Rattle.jc_control.specs.declared.control.Flaw.{Flaw}
use Rattle.jc_control.specs.declared.control.Flaw.TheVariants.{Code, BadTarget, BadHandler}
use Rattle.jc_control.specs.Flaw.{Spot, in_code, in_table, IsFlaw, flaw_target, flaw_end, flaw_handler, IsFirstFlaw}
use Rattle.jc_decode.specs.Places.{BeginsIn}
use Rattle.jc_control.specs.Laws.{FlawsDecide, FirstFlawIsOne}
use Rattle.jc_decode.specs.Laws.{AreListed, InstructionsAreListed}
use Rattle.jc_decode.proofs.Elements.{Contains-either, Contains-first, Contains-later, nothing-in}
use Rattle.jc_decode.proofs.InstructionLists.{err-of}

-- ---- each condition holds or does not

abbrev Decided : Type 0 → Type 0
Decided P = P ⊎ (P → ⊥)

begins-decided : (is : List Placed) (p : ℕ) → Decided (BeginsIn is p)
begins-decided [] p = inr (λ b. nothing-in b.0 b.1)
begins-decided (i ∷ is) p = ⊎_elim (λ here. inl (i, Contains-first i is, here)) (λ other. later other (begins-decided is p)) (cases_eq i.place p)
  where
    later : ¬ (i.place ≡ p) → Decided (BeginsIn is p) → Decided (BeginsIn (i ∷ is) p)
    later other (inl b) = inl (b.0, Contains-later i is b.0 b.1, b.2)
    later other (inr none) = inr (λ b.
        ⊎_elim (λ here. other (ap (λ (j : Placed). j.place) here ∙ b.2)) (λ more. none (b.0, more, b.2)) (Contains-either i is b.0 b.1))

module _ (code : List ℕ) where
  place-decided : (p : ℕ) → Decided (IsPlace code p)
  place-decided p = begins-decided (listing code) p

  target-decided : (t : ℤ) → Decided (IsTargetPlace code t)
  target-decided (pos p) = place-decided p
  target-decided (negsuc n) = inr (λ h. h)

  boundary-decided : (p : ℕ) → Decided (IsBoundary code p)
  boundary-decided p = grind (arith, place-decided p, cases_eq p (length code), ⊎_elim)

  handler-decided : (h : Handler) → Decided (IsHandlerOf code h)
  handler-decided h = by_start (place-decided h.start) (boundary-decided h.end) (cases_lt h.start h.end) (place-decided h.entry)
    where
      by_start : Decided (IsPlace code h.start) → Decided (IsBoundary code h.end) → (h.start < h.end) ⊎ (h.end ≤ h.start)
          → Decided (IsPlace code h.entry) → Decided (IsHandlerOf code h)
      by_start (inr never) end order entry = inr (λ w. never w.start)
      by_start (inl start) (inr never) order entry = inr (λ w. never w.end)
      by_start (inl start) (inl end) (inr low) entry = inr (λ w. let o = w.order in absurd (omega arith))
      by_start (inl start) (inl end) (inl order) (inr never) = inr (λ w. never w.entry)
      by_start (inl start) (inl end) (inl order) (inl entry) = inl (record { start = start; end = end; order = order; entry = entry })

-- a fact that can't fail anywhere holds everywhere
all-decided : {A : Type 0} (P : A → Type 0) (xs : List A) → ((x : A) → Decided (P x))
    → ((n : ℕ) (x : A) → slice_get xs n ≡ Some x → ¬ P x → ⊥) → All P xs
all-decided P xs decided never k d inside = by_case (decided _)
  where
    by_case : Decided (P (get_or xs k d)) → P (get_or xs k d)
    by_case (inl holds) = holds
    by_case (inr fails) = absurd (never k _ (slice_get-get_or xs k d inside) fails)

-- ---- well formed, or flawed

flawless : (m : Method) → IsWellFormed m → (spot : Spot) (f : Flaw) → ¬ IsFlaw m spot f
flawless m w _ _ (flaw_target i n t there get astray) = astray (All-slice_get (IsTargetPlace m.code) (targets m.code i) n t (w.targets i there) get)
flawless m w _ _ (flaw_end end goes_on why) = goes_on w.ends
flawless m w _ _ (flaw_handler n h get bad) = bad (All-slice_get (IsHandlerOf m.code) m.rec.handlers n h w.handlers get)

well-formed : (m : Method) → AreListed m.code → ((spot : Spot) (f : Flaw) → ¬ IsFlaw m spot f) → IsWellFormed m
well-formed m law none = record {
  ends =
      ⊎_elim (λ same. same) (λ other. let why = err-of (decoded m.code (listing_end m.code)) law.stops in
      absurd (none _ _ (flaw_end why.0 other why.1))) (cases_eq (listing_end m.code) (length m.code));
  targets =
      λ i there. all-decided (IsTargetPlace m.code) (targets m.code i) (target-decided m.code)
      (λ n t get astray. none _ _ (flaw_target i n t there get astray));
  handlers = all-decided (IsHandlerOf m.code) m.rec.handlers (handler-decided m.code) (λ n h get bad. none _ _ (flaw_handler n h get bad));
}

pub flaws-decide : InstructionsAreListed → FlawsDecide
flaws-decide listed m = (flawless m, well-formed m (listed m.code))

-- ---- one first flaw

module _ (m : Method) where
  record AtTarget (p n : ℕ) (f : Flaw) : Type 0 where
    from : Placed
    target : ℤ
    stands : HasInstruction m.code from
    here : from.place ≡ p
    get : slice_get (targets m.code from) n ≡ Some target
    is : f ≡ BadTarget p target

  record AtEnd (p n : ℕ) (f : Flaw) : Type 0 where
    end : CodeEnd
    here : listing_end m.code ≡ p
    why : decoded m.code (listing_end m.code) ≡ Err end
    is : f ≡ Code p end

  record AtHandler (n : ℕ) (f : Flaw) : Type 0 where
    handler : Handler
    get : slice_get m.rec.handlers n ≡ Some handler
    is : f ≡ BadHandler handler.entry n

  -- the flaw that a spot can have
  abbrev Tells : Spot → Flaw → Type 0
  Tells (in_code p n) f = AtTarget p n f ⊎ AtEnd p n f
  Tells (in_table n) f = AtHandler n f

  told : (spot : Spot) (f : Flaw) → IsFlaw m spot f → Tells spot f
  told x x2 x22 = grind (arith)

  one-told : AreListed m.code → (spot : Spot) (f g : Flaw) → Tells spot f → Tells spot g → f ≡ g
  one-told law x f g a b = grind (arith)

pub first-flaw-is-one : InstructionsAreListed → FirstFlawIsOne
first-flaw-is-one listed m f g a b = grind (arith, one-told, told, ⊎_elim, cases_lt)

-- a method with a first flaw is not well formed
pub first-flaw-refuses : (m : Method) (f : Flaw) → IsFirstFlaw m f → ¬ IsWellFormed m
first-flaw-refuses m f first w = flawless m w first.spot f first.flaw
