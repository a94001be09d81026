-- Which frames run alike: kept instructions, and loads, increments and stores of homes.
use Rattle.std.proofs.Common.{◌≡◌, ℕ, ◌+◌, ◌<◌, ◌≤◌, List, [], ◌∷◌, length, map, refl, ap, arith}
use Rattle.std.specs.Prelude.{max, slice_get}
use Rattle.jc_base.specs.World.{Linked}
use Rattle.jc_decode.specs.declared.insn.Placed.{Placed}
use Rattle.jc_ops.specs.declared.operation.Operation.{Operation}
use Rattle.jc_ops.specs.declared.operation.Sort.TheVariants as sorts
use Rattle.jc_ops.specs.declared.operation.Width.TheVariants as widths
use Rattle.jc_ops.specs.Alike.{IsAlike, loads, stores, increments}
use Rattle.jc_rules.specs.declared.demand.Demand.{Demand}
use Rattle.jc_rules.specs.declared.demand.Demand.TheVariants.{Registers, Depth, Cell as ACell, Cut, Held as Reads}
use Rattle.jc_rules.specs.Footprint.{registers_asked, registers_read}
use Rattle.jc_rules.specs.Rule.{demands}
use Rattle.vm_store.specs.State.{State, top}
use Rattle.law_alike.specs.Alike.{AreAlike, renamed_new}
use Rattle.law_alike.specs.Running.{RunAlike}
use Rattle.xf_homes.specs.declared.home.Home.{Home}
use Rattle.xf_homes.specs.Value.{type_width}
use Rattle.xf_homes.specs.Source.{Source}
use Rattle.xf_homes.specs.Plan.{register}
use Rattle.law_homes.specs.Held.{HoldsValue}
use Rattle.law_homes.specs.Laws.{CodesAgree, KeptRunAlike, LoadsRunAlike, IncrementsRunAlike, StoresRunAlike}

-- ---- what names no register reads none

none-above : (a b : ℕ) → max a b ≡ 0 → (a ≡ 0) × (b ≡ 0)
none-above a b e = (omega (arith, e), omega (arith, e))

none-read : (ds : List Demand) → registers_asked ds ≡ 0 → registers_read ds ≡ []
none-read [] e = refl
none-read (Registers x n ∷ ds) e = none-read ds (none-above (x + n) (registers_asked ds) e).1
none-read (Reads x ty ∷ ds) e = let some = (none-above (x + 1) (registers_asked ds) e).0 in absurd (omega (arith, some))
none-read (Depth n ∷ ds) e = none-read ds e
none-read (ACell n want ∷ ds) e = none-read ds e
none-read (Cut n ∷ ds) e = none-read ds e

module _ {A : Type 0} where
  -- the first cell of a home, and the second of an int
  first-cell :
      (s t : State A) (source : Source) (h : Home) (n : ℕ) → HoldsValue source (top s).registers (top t) h → type_width h.ty ≡ n → 0 < n
      → slice_get (top t).registers (register source h) ≡ slice_get (top s).registers h.slot
  first-cell s t source h n held wide some = grind (arith)

  second-cell :
      (s t : State A) (source : Source) (h : Home) → HoldsValue source (top s).registers (top t) h → type_width h.ty ≡ 2
      → slice_get (top t).registers (register source h + 1) ≡ slice_get (top s).registers (h.slot + 1)
  second-cell s t source h held wide = held.equal 1 (omega (arith, wide))

  -- frames run alike where their codes agree, and what is read is equal
  alike-by :
      {e : A → A} {place : ℕ → ℕ} {v w : Linked} {s t : State A} {i j : Placed} {a b : Operation}
      → IsAlike (renamed_new place a) b
      → CodesAgree v w s t i j a b
      → AreAlike e s t
      → registers_asked (demands w b) ≤ length (top t).registers
      → map (slice_get (top t).registers) (registers_read (demands w b)) ≡ map (slice_get (top s).registers) (registers_read (demands v a))
      → RunAlike e place v w s t i j a b
  alike-by alike codes states named read = grind (arith)

  pub kept-run-alike : KeptRunAlike A
  kept-run-alike e place v w s t i j a b states codes alike none also = grind (arith, none-read, alike-by)

  pub loads-run-alike : LoadsRunAlike A
  loads-run-alike e place v w s t i j source h sorts.Reference states codes held wide =
      let inside = held.there in
      alike-by loads codes states (omega (arith, inside, wide)) (ap (λ c. c ∷ []) (first-cell s t source h 1 held wide (omega arith)))
  loads-run-alike e place v w s t i j source h sorts.Short states codes held wide =
      let inside = held.there in
      alike-by loads codes states (omega (arith, inside, wide)) (ap (λ c. c ∷ []) (first-cell s t source h 1 held wide (omega arith)))
  loads-run-alike e place v w s t i j source h sorts.Int states codes held wide =
      let inside = held.there in
      let one = first-cell s t source h 2 held wide (omega arith) in
      let two = second-cell s t source h held wide in
      alike-by loads codes states (omega (arith, inside, wide)) (cc (one, two))

  pub increments-run-alike : IncrementsRunAlike A
  increments-run-alike e place v w s t i j source h widths.Short amount states codes held wide =
      let inside = held.there in
      alike-by increments codes states (omega (arith, inside, wide)) (ap (λ c. c ∷ []) (first-cell s t source h 1 held wide (omega arith)))
  increments-run-alike e place v w s t i j source h widths.Int amount states codes held wide =
      let inside = held.there in
      let one = first-cell s t source h 2 held wide (omega arith) in
      let two = second-cell s t source h held wide in
      alike-by increments codes states (omega (arith, inside, wide)) (cc (one, two))

  pub stores-run-alike : StoresRunAlike A
  stores-run-alike e place v w s t i j source h sorts.Reference states codes inside wide =
      alike-by stores codes states (omega (arith, inside, wide)) refl
  stores-run-alike e place v w s t i j source h sorts.Short states codes inside wide =
      alike-by stores codes states (omega (arith, inside, wide)) refl
  stores-run-alike e place v w s t i j source h sorts.Int states codes inside wide =
      alike-by stores codes states (omega (arith, inside, wide)) refl
