-- Where a handler catches an object: its stub puts it into its home, and leads to the group of the handler's entry.
use Rattle.std.proofs.Common.{◌≡◌, ℕ, suc, ◌-◌, ◌<◌, ◌≤◌, Bool, true, false, [], ◌∷◌, ◌++◌, length, refl, sym}
use Rattle.std.proofs.Common.{ap, ◌∙◌, subst, arith}
use Rattle.std.specs.Prelude.{Option, Some, None, IfSome, IsSomeAnd, is_some, nat_lt, slice_get}
use Rattle.std.proofs.lemmas.Bool.{false≢true}
use Rattle.std.proofs.lemmas.Bool.Decides.{nat_tests}
use Rattle.jc_base.specs.declared.record.Handler.{Handler}
use Rattle.jc_base.specs.declared.ty.Ty.{Ty}
use Rattle.jc_base.specs.Each.{IsAmong}
use Rattle.jc_base.specs.World.{Linked}
use Rattle.jc_base.proofs.SameTypes.{same_type-decides}
use Rattle.jc_decode.specs.Symbols.{place_of}
use Rattle.jc_decode.proofs.Elements.{Contains-slice_get}
use Rattle.jc_control.specs.Control.{Covers, IsLeader, entered}
use Rattle.jc_rules.specs.Demand.{Frame as Types}
use Rattle.vm_store.specs.declared.cell.Cell.{Cell}
use Rattle.vm_store.specs.State.{State, Frame, top}
use Rattle.xf_homes.specs.declared.home.Home.{Home}
use Rattle.xf_homes.specs.Home.{asked_caught}
use Rattle.xf_homes.specs.Value.{value_in_cells}
use Rattle.xf_homes.specs.Walk.{local_of}
use Rattle.xf_homes.specs.Source.{Source}
use Rattle.xf_homes.specs.Plan.{stack_homes, first_reached, home_of, is_leader, needed}
use Rattle.xf_homes.proofs.Needed.{needed-are-kept}
use Rattle.xf_emission.specs.declared.origin.Origin.TheVariants.{Entry}
use Rattle.xf_emission.specs.Edge.{copies}
use Rattle.xf_emission.specs.Emission.{is_live, items}
use Rattle.xf_emission.specs.Jump.{goto, handler_label}
use Rattle.xf_emission.specs.Move.{spill}
use Rattle.xf_emission.proofs.Live.{IsFirst, is-first}
use Rattle.law_rewritten_typing.specs.Edges.{leads_entry}
use Rattle.law_homes.specs.Held.{HoldsValue}
use Rattle.law_homes.proofs.Beside.{among-each}
use Rattle.law_groups.specs.Laid.{IsLaidIn}
use Rattle.law_groups.specs.Beside.{AreEqualBut, IsTypedAt}
use Rattle.law_groups.specs.Comes.{ComesToGroup, ComesWithin}
use Rattle.law_groups.specs.Laws.{IsCaughtInGroup}
use Rattle.law_groups.specs.Steps.{ItemsStandFrom}
use Rattle.law_groups.specs.Moves.{MovesRun}
use Rattle.law_groups.proofs.Arriving.{IsLocal, needed-local}
use Rattle.law_groups.proofs.Context.{reached-some}
use Rattle.law_groups.proofs.Going.{spilled-goes}
use Rattle.law_groups.proofs.Standing.{stand-labelled}
use Rattle.law_groups.proofs.Placing.{handlers-stand-at-steps}

-- more steps are allowed
pub comes-wider :
    (w : Linked) (s : Source) (place : ℕ → ℕ) (y t : State Cell) (least most total : ℕ)
    → most ≤ total
    → ComesWithin w least most t (ComesToGroup s place y t)
    → ComesWithin w least total t (ComesToGroup s place y t)
comes-wider w s place y t least most total le c = grind (arith)

-- the first reached place from a place on
pub first-is : (s : Source) (p : ℕ) → IsFirst s.frames p (length s.method.code - p) (first_reached s p)
unfolding first_reached
first-is s p = is-first s.frames p (length s.method.code - p)

-- it comes no later than a reached one
pub first-before : (s : Source) (q p : ℕ) → is_some (s.frames p) ≡ true → q ≤ p → first_reached s q ≤ p
first-before s q p reached le = by (nat_lt p (first_reached s q)) refl
  where
    by : (b : Bool) → nat_lt p (first_reached s q) ≡ b → first_reached s q ≤ p
    by true e =
        let lt : p < first_reached s q = grind (arith, nat_tests, e) in
        absurd (false≢true (sym ((first-is s q).none p le lt) ∙ reached))
    by false e = grind (arith, nat_tests, e)

-- a handler that covers a reached place is live
pub covers-live : (s : Source) (h : Handler) (p : ℕ) → is_some (s.frames p) ≡ true → Covers h p → is_live s h ≡ true
covers-live s h p reached c = grind (arith, first-before, nat_tests)

module _ {v w : Linked} {s : Source} {place : ℕ → ℕ} (laid : IsLaidIn v w s place) (moving : MovesRun v) where
  -- a local's home at the entry is needed where the handler covers
  entry-needed :
      (n p x : ℕ) (h : Handler) (ty : Ty)
      → slice_get s.method.rec.handlers n ≡ Some h
      → Covers h p
      → local_of (s.frames h.entry) x ≡ Some ty
      → IsAmong (record { slot = x; ty = ty }) (needed s p x)
  unfolding needed
  entry-needed n p x h ty listed covers e =
      ((needed-are-kept same_type-decides s.method s.frames p x).all (record { slot = x; ty = ty })).1
      (refl, (suc n, asked_caught listed covers (by (s.frames h.entry) e)))
    where
      by : (o : Option Types) → local_of o x ≡ Some ty → IsSomeAnd o (λ f. value_in_cells f.regs x ≡ Some ty)
      by None e = absurd (cc)
      by (Some f) e = e

  pub handler-enters :
      (z t : State Cell) (n p : ℕ) (h : Handler)
      → IsTypedAt v s z
      → AreEqualBut z t
      → IsCaughtInGroup s place n h p (top z) (top t)
      → ComesWithin w 1 1000 t (ComesToGroup s place z t)
  handler-enters z t n p h typed equal c =
      let q : ℕ = (top z).place in
      let reached : is_some (s.frames p) ≡ true = reached-some laid p c.reached in
      let live = covers-live s h p reached c.covers in
      let st : ItemsStandFrom s (place_of (handler_label n) (items s))
      (spill s (stack_homes s h.entry) ++ (copies s (Entry h.entry) h.entry ++ goto h.entry ∷ [])) =
      stand-labelled s _ (handler_label n) _ (handlers-stand-at-steps s n h laid.planned.code c.listed live) in
      let own : ItemsStandFrom s (place_of (handler_label n) (items s)) (spill s (stack_homes s q) ++ (copies s (Entry q) q ++ goto q ∷ [])) =
      subst (λ k. ItemsStandFrom s (place_of (handler_label n) (items s)) (spill s (stack_homes s k) ++ (copies s (Entry k) k ++ goto k ∷ [])))
      (sym c.entry) st in
      let leads_here : IsLeader s.method h.entry = entered c.reached (Contains-slice_get s.method.rec.handlers n h c.listed) c.covers in
      let leader : is_leader s q ≡ true =
      subst (λ k. is_leader s k ≡ true) (sym c.entry) ((laid.planned.leaders h.entry).1 leads_here) in
      comes-wider w s place z t 1 766 1000 (omega arith)
      (spilled-goes laid moving z t (Entry q) typed equal c.of
      leader (leads_entry typed.reached) (place_of (handler_label n) (items s)) own c.at (c.target ∙ sym c.source)
      (λ k keeps x. held-at x k keeps (local_of (s.frames q) x) refl))
    where
      held-at :
          (x : ℕ) (k : Frame Cell)
          → ((m : Home) → IsLocal laid moving.needs m → HoldsValue s (top z).registers (top t) m → HoldsValue s (top z).registers k m)
          → (o : Option Ty)
          → local_of (s.frames (top z).place) x ≡ o
          → IfSome (home_of x o) (HoldsValue s (top z).registers k)
      held-at x k keeps None e = tt
      held-at x k keeps (Some ty) e =
          let at : local_of (s.frames h.entry) x ≡ Some ty = ap (λ r. local_of (s.frames r) x) (sym c.entry) ∙ e in
          let among = entry-needed n p x h ty c.listed c.covers at in
          keeps (record { slot = x; ty = ty }) (needed-local laid moving.needs p x (record { slot = x; ty = ty }) c.reached among)
          (among-each (HoldsValue s (top z).registers (top t)) (needed s p x) (record { slot = x; ty = ty }) (c.locals x) among)
