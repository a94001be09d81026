-- Fields of `this`: the home of local 0, and instructions that stay where its register is 0.
use Rattle.std.proofs.Common.{◌≡◌, ℕ, ◌+◌, true, false, [], ◌∷◌, map, refl, sym, ap, ◌∙◌, subst}
use Rattle.std.proofs.Common.{arith}
use Rattle.std.specs.Prelude.{Option, Some, None, Ok, IfSome, IsSomeAnd, is_some, slice_get}
use Rattle.jc_base.specs.declared.ty.Ty.{Ty}
use Rattle.jc_base.specs.declared.ty.Ty.TheVariants.{Class, Top}
use Rattle.jc_base.specs.Each.{IsAmong}
use Rattle.jc_base.specs.Laws.{IsOrderOfTypes}
use Rattle.jc_base.specs.Order.{Below}
use Rattle.jc_base.specs.World.{Linked}
use Rattle.jc_base.proofs.Lists.{All-slice_get}
use Rattle.jc_base.proofs.SameTypes.{same_type-decides}
use Rattle.jc_decode.specs.declared.insn.Placed.{Placed}
use Rattle.jc_decode.specs.declared.symbols.Item.TheVariants.{Plain}
use Rattle.jc_control.specs.WellFormed.{HasInstruction}
use Rattle.jc_ops.specs.declared.operation.Operation.{Operation}
use Rattle.jc_ops.specs.declared.operation.Sort.TheVariants as sorts
use Rattle.jc_ops.specs.Alike.{IsAlike, equal}
use Rattle.jc_ops.specs.Next.{jumps_from}
use Rattle.jc_ops.specs.Resolve.{Resolves}
use Rattle.jc_rules.specs.Demand.{SatisfiesAll, Frame as Types}
use Rattle.jc_rules.specs.Flow.{IsDerived, IsFollowed}
use Rattle.jc_rules.specs.Footprint.{footprint, registers_asked, registers_read}
use Rattle.jc_rules.specs.Laws.{IsNotBottom}
use Rattle.jc_rules.specs.Rule.{demands}
use Rattle.jc_rules.proofs.Decides.{ok-same}
use Rattle.vm_store.specs.declared.cell.Cell.{Cell}
use Rattle.vm_store.specs.Cells.{tagged}
use Rattle.vm_store.specs.State.{State, top}
use Rattle.vm_step.specs.Raising.{Outcome}
use Rattle.vm_step.specs.Step.{Steps}
use Rattle.law_erasure.specs.Erasure.{IsNoFault}
use Rattle.law_alike.specs.Alike.{renamed_cell, renamed_new}
use Rattle.law_alike.specs.Likeness.{StepsAreAlike}
use Rattle.law_alike.specs.Running.{RunAlike}
use Rattle.xf_homes.specs.declared.home.Home.{Home}
use Rattle.xf_homes.specs.Home.{asked_here}
use Rattle.xf_homes.specs.Value.{value_in_cells}
use Rattle.law_laid.specs.Apart.{apart_from_code}
use Rattle.law_laid.proofs.SameBut.{demands-are-kept, operations-are-kept}
use Rattle.xf_homes.specs.Source.{Source}
use Rattle.xf_homes.specs.Plan.{needed, operation, register}
use Rattle.xf_homes.proofs.Needed.{needed-are-kept}
use Rattle.xf_emission.specs.Edge.{is_stored}
use Rattle.xf_emission.specs.Group.{body}
use Rattle.law_rewritten_typing.specs.Whole.{DerivedAreWhole}
use Rattle.law_rewritten_typing.proofs.Below.{loads-same}
use Rattle.law_rewritten_typing.proofs.Running.{found-below, is-reference, local-at, value-one}
use Rattle.law_homes.specs.Held.{HoldsValue}
use Rattle.law_homes.proofs.Beside.{among-each, some-width}
use Rattle.law_homes.proofs.Homes.{locals-stay}
use Rattle.law_groups.specs.Laid.{IsLaidIn, body_at, rename}
use Rattle.law_groups.specs.Body.{AreAtBody, BodyRuns}
use Rattle.law_groups.proofs.Context.{method-of, some-reached, typing-of}
use Rattle.law_groups.proofs.Plain.{alike, codes, ex, method-is, runs}
use Rattle.law_groups.proofs.Reading.{IsHomeOf, reference-letter}

-- what is asked of local 0
abbrev pub AsksThis : Linked → Operation → ℕ → Type 0
AsksThis v op c = (f : Types) → SatisfiesAll v.classes f (demands v op) → IsSomeAnd (slice_get f.regs 0) (λ u. Below v.classes u (Class c))

pub this-home :
    (v w : Linked) (s : Source) (place : ℕ → ℕ) → IsLaidIn v w s place → IsOrderOfTypes v.classes → DerivedAreWhole v
    → (i : Placed) (op : Operation) (c : ℕ) → AsksThis v op c → HasInstruction s.method.code i → is_some (s.frames i.place) ≡ true
    → operation s i ≡ Ok op
    → IsHomeOf s i.place 0 sorts.Reference
unfolding needed
this-home v w s place laid types whole i op c held stands reached does =
    by (s.frames i.place) refl ((typing-of laid).rules i stands (some-reached laid i.place reached))
    (laid.planned.derived i.place)
  where
    by :
        (o : Option Types)
        → s.frames i.place ≡ o
        → IsSomeAnd o (IsFollowed v s.method s.frames i)
        → IfSome o (IsDerived s.world s.method Top i.place)
        → IsHomeOf s i.place 0 sorts.Reference
    by None e h d = absurd h
    by (Some f) e h d =
        let here : Resolves v s.method.rec i.place i.insn (Ok op) =
        subst (λ u. Resolves u s.method.rec i.place i.insn (Ok op)) laid.world (sym does) in
        let same : h.steps.1.operation ≡ op = ok-same (h.steps.1.resolves ∙ sym here) in
        let asked : SatisfiesAll v.classes f (demands v op) = subst (λ k. SatisfiesAll v.classes f (demands v k)) same h.steps.1.does.asked in
        let full = (whole s.method i.place f (method-of laid)
        (subst (λ u. IsDerived u s.method Top i.place f) laid.world d)).regs in
        let k = found-below v.classes f.regs 0 (Class c) (held f asked) in
        let bottom = All-slice_get IsNotBottom f.regs 0 k.ty full k.at in
        let r = is-reference v.classes types k.ty c k.below bottom in
        let value : value_in_cells f.regs 0 ≡ Some k.ty = value-one f.regs 0 k.ty k.at r.no_half r.no_top in
        record {
          ty = k.ty;
          at = local-at s i.place 0 f k.ty e value;
          letter_is = reference-letter k.ty (loads-same v.classes types k.ty (Class c) k.below bottom tt);
          frame = f;
          frame_is = e;
          value = value;
          full = full;
          among =
              ((needed-are-kept same_type-decides s.method s.frames i.place 0).all (record { slot = 0; ty = k.ty })).1
              (refl, (0, asked_here (subst (λ o. IsSomeAnd o (λ (g : Types). value_in_cells g.regs 0 ≡ Some k.ty)) (sym e) value)));
        }

-- an operation that reads register 0 alone, and is the same in other code
pub record ReadsThis (v : Linked) (op : Operation) : Type 0 where
  pub asked : registers_asked (demands v op) ≡ 1
  pub read : registers_read (demands v op) ≡ 0 ∷ []
  pub written : (footprint v op).written ≡ 0
  pub still : jumps_from op ≡ false
  pub same : (f : ℕ → ℕ) → renamed_new f op ≡ op
  pub unstored : (x : ℕ) → is_stored op x ≡ false

module _ (v : Linked) (alike_steps : StepsAreAlike v) where
  -- where register 0 is the home of local 0 the instruction stays
  pub stays-run :
      (w : Linked) (s : Source) (place : ℕ → ℕ) (i : Placed) (op : Operation) (z t : State Cell) (o : Outcome Cell) (ty : Ty)
      → IsLaidIn v w s place
      → AreAtBody v w s place i op z t
      → ReadsThis v op
      → IsAmong (record { slot = 0; ty = ty }) (needed s i.place 0)
      → register s (record { slot = 0; ty = ty }) ≡ 0
      → body s i op ≡ Plain i.insn ∷ []
      → Steps tagged v z o
      → IsNoFault o
      → BodyRuns v w s place i op z t o
  stays-run w s place i op z t o ty laid b reads among at_zero kept step fine =
      let h : Home = record { slot = 0; ty = ty } in
      let own : ℕ = body_at s i.place in
      let f : ℕ → ℕ = λ q. place own in
      let same_method = method-is laid b in
      let resolves : Resolves w laid.code.target.rec i.place i.insn (Ok op) =
      operations-are-kept v w b.executes.method laid.code.target.rec i.place i.insn (Ok op) laid.code.same
      (ap apart_from_code same_method ∙ sym laid.code.has.same) b.executes.resolved in
      let there = ex laid b i.insn op kept resolves refl in
      let agree = codes laid b i.insn op kept resolves refl reads.still in
      let again : demands w (renamed_new f op) ≡ demands v op = ap (demands w) (reads.same f) ∙ sym (demands-are-kept v w op laid.code.same) in
      let held : HoldsValue s (top z).registers (top t) h =
      among-each (HoldsValue s (top z).registers (top t)) (needed s i.place 0) h (b.held.locals 0) among in
      let wide_enough = some-width ty in
      let inside = held.there in
      let first : slice_get (top t).registers 0 ≡ slice_get (top z).registers 0 =
      let one : register s h + 0 ≡ 0 = omega (arith, at_zero) in
      ap (slice_get (top t).registers) (sym one) ∙ held.equal 0 wide_enough in
      let run : RunAlike (renamed_cell (rename s place)) (rename s place) v w z t i there.instruction op (renamed_new f op) = record {
        operations = subst (λ k. IsAlike (renamed_new (rename s place) op) k) (reads.same (rename s place) ∙ sym (reads.same f)) equal;
        keys = agree.keys;
        targets = agree.targets;
        next = agree.next;
        states = alike laid b;
        named = let e = ap registers_asked again ∙ reads.asked in omega (arith, e, inside, wide_enough);
        read =
            ap (λ ds. map (slice_get (top t).registers) (registers_read ds)) again
            ∙ (ap (map (slice_get (top t).registers)) reads.read
            ∙ (ap (λ c. c ∷ []) first ∙ sym (ap (map (slice_get (top z).registers)) reads.read)));
        room = agree.room;
      } in
      runs laid b i.insn op kept resolves refl
      (λ y u stays. locals-stay (footprint v op) (footprint v (renamed_new f op)) z y t u s i.place stays.first stays.second
      reads.written (ap (λ k. (footprint v k).written) (reads.same f) ∙ reads.written) b.held.locals)
      reads.unstored alike_steps o step fine run
