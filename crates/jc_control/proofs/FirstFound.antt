-- What the scan finds first is the first flaw.
use Rattle.std.proofs.Common.{◌≡◌, ◌<◌, ◌≤◌, inl, inr, ⊎_elim, ℕ, Some, Result, length, sym, ap, subst, arith, All}
use Rattle.std.specs.Prelude.{ℤ, slice_get, IfErr}
use Rattle.std.proofs.lemmas.Bool.{cases_lt, cases_eq}
use Rattle.std.proofs.lemmas.List.Elements.{All-contains}
use Rattle.jc_decode.specs.declared.insn.Placed.{Placed}
use Rattle.jc_decode.specs.Listing.{listing, listing_end, targets}
use Rattle.jc_control.specs.Method.{Method}
use Rattle.jc_control.specs.WellFormed.{HasInstruction, IsTargetPlace, IsHandlerOf, IsWellFormed}
use Rattle.jc_control.specs.declared.control.Flaw.{Flaw}
use Rattle.jc_control.specs.Flaw.{Spot, in_code, in_table, ComesBefore, IsFlaw, flaw_target, flaw_end, flaw_handler, IsFirstFlaw}
use Rattle.jc_control.specs.FirstFailing.{IsFirstFailing}
use Rattle.jc_control.specs.Scan.{LeadsToPlaces, IsFirstStray, IsEndFlaw, IsFirstBadHandler}
use Rattle.jc_decode.specs.Laws.{AreListed}
use Rattle.jc_decode.proofs.Elements.{slice_get-Contains, Contains-slice_get}
use Rattle.jc_control.proofs.Elements.{taken-in}
use Rattle.jc_base.proofs.Lists.{All-slice_get}

module _ (m : Method) (law : AreListed m.code) where
  -- an instruction before the first that leads astray leads to places
  earlier-leads : (n : ℕ) (from : Placed) → IsFirstFailing (LeadsToPlaces m.code) (listing m.code) n from → (i : Placed) → HasInstruction m.code i
      → i.place < from.place → LeadsToPlaces m.code i
  earlier-leads n from first i s before =
      let at = slice_get-Contains (listing m.code) i s in
      ⊎_elim (λ lower. taken-in (LeadsToPlaces m.code) (listing m.code) at.0 n i first.before lower at.1)
      (λ past. absurd (not-past at.0 at.1 past))
      (cases_lt at.0 n)
    where
      not-past : (k : ℕ) → slice_get (listing m.code) k ≡ Some i → n ≤ k → ⊥
      not-past k e past = ⊎_elim (λ same. let here : i ≡ from = same-element k e same in absurd (omega (arith, ap (λ (p : Placed). p.place) here)))
          (λ other. let rises = law.rising n k from i first.here e (omega arith) in absurd (omega arith)) (cases_eq n k)
        where
          same-element : (k : ℕ) → slice_get (listing m.code) k ≡ Some i → n ≡ k → i ≡ from
          same-element k e same =
              let other : slice_get (listing m.code) k ≡ Some from = subst (λ (q : ℕ). slice_get (listing m.code) q ≡ Some from) same first.here in
              cc

  pub stray-first : (f : Flaw) → IsFirstStray m.code f → IsFirstFlaw m f
  stray-first f s = subst (IsFirstFlaw m) (sym s.is) (record {
    spot = in_code s.from.place s.target_number;
    flaw = flaw_target s.from s.target_number s.target stands s.target_is.here s.target_is.fails;
    least = none-before;
  })
    where
      stands : HasInstruction m.code s.from
      stands = Contains-slice_get (listing m.code) s.number s.from s.instruction.here

      none-before : (other : Spot) (g : Flaw) → IsFlaw m other g → ¬ ComesBefore other (in_code s.from.place s.target_number)
      none-before _ _ (flaw_target i k t there get astray) (inl lower) =
          astray (All-slice_get (IsTargetPlace m.code) (targets m.code i) k t (earlier-leads s.number s.from s.instruction i there lower) get)
      none-before _ _ (flaw_target i k t there get astray) (inr (same, fewer)) =
          let here : i ≡ s.from = law.one i s.from there stands same in
          astray (taken-in (IsTargetPlace m.code) (targets m.code s.from) k s.target_number t s.target_is.before fewer
          (subst (λ (j : Placed). slice_get (targets m.code j) k ≡ Some t) here get))
      none-before _ _ (flaw_end end goes_on why) (inl lower) = let inside = law.before_end s.from stands in absurd (omega arith)
      none-before _ _ (flaw_end end goes_on why) (inr (same, fewer)) = let inside = law.before_end s.from stands in absurd (omega arith)
      none-before _ _ (flaw_handler n h get bad) before = before

module _ (m : Method) where
  -- where all instructions lead to places no target is a flaw
  no-stray : All (LeadsToPlaces m.code) (listing m.code) → (i : Placed) (k : ℕ) (t : ℤ) → HasInstruction m.code i
      → slice_get (targets m.code i) k ≡ Some t → IsTargetPlace m.code t
  no-stray all i k t there get =
      All-slice_get (IsTargetPlace m.code) (targets m.code i) k t (All-contains (LeadsToPlaces m.code) (listing m.code) i all there) get

  pub stop-first : (f : Flaw) → All (LeadsToPlaces m.code) (listing m.code) → IsEndFlaw m.code f → IsFirstFlaw m f
  stop-first f all s = subst (IsFirstFlaw m) (sym s.is) (record {
    spot = in_code (listing_end m.code) 0;
    flaw = flaw_end s.end s.goes_on s.why;
    least = none-before;
  })
    where
      none-before : (other : Spot) (g : Flaw) → IsFlaw m other g → ¬ ComesBefore other (in_code (listing_end m.code) 0)
      none-before _ _ (flaw_target i k t there get astray) before = astray (no-stray all i k t there get)
      none-before _ _ (flaw_end end goes_on why) (inl lower) = absurd (omega arith)
      none-before _ _ (flaw_end end goes_on why) (inr (same, fewer)) = absurd (omega arith)
      none-before _ _ (flaw_handler n h get bad) before = before

  pub handler-first : (f : Flaw) → All (LeadsToPlaces m.code) (listing m.code) → listing_end m.code ≡ length m.code
      → IsFirstBadHandler m.code m.rec.handlers f → IsFirstFlaw m f
  handler-first f all ends s = subst (IsFirstFlaw m) (sym s.is) (record {
    spot = in_table s.number;
    flaw = flaw_handler s.number s.handler s.handler_is.here s.handler_is.fails;
    least = none-before;
  })
    where
      none-before : (other : Spot) (g : Flaw) → IsFlaw m other g → ¬ ComesBefore other (in_table s.number)
      none-before _ _ (flaw_target i k t there get astray) before = astray (no-stray all i k t there get)
      none-before _ _ (flaw_end end goes_on why) before = goes_on ends
      none-before _ _ (flaw_handler n h get bad) before = bad (taken-in (IsHandlerOf m.code) m.rec.handlers n s.number h s.handler_is.before before get)

  -- where nothing is found the method is well formed
  pub formed : All (LeadsToPlaces m.code) (listing m.code) → listing_end m.code ≡ length m.code → All (IsHandlerOf m.code) m.rec.handlers
      → IsWellFormed m
  formed all ends handlers = record { ends = ends; targets = λ i there. All-contains (LeadsToPlaces m.code) (listing m.code) i all there; handlers = handlers }

pub handler-told : (m : Method) (r : Result (Unit {0}) Flaw) → All (LeadsToPlaces m.code) (listing m.code) → listing_end m.code ≡ length m.code
    → IfErr r (λ f. IsFirstBadHandler m.code m.rec.handlers f) → IfErr r (λ f. IsFirstFlaw m f)
handler-told m x all ends h = grind (arith, handler-first)
