-- A load of a local, from its home at the place.
use Rattle.std.proofs.Common.{◌≡◌, ℕ, ◌+◌, ◌<◌, true, [], ◌∷◌, refl, sym, ap, ◌∙◌, subst}
use Rattle.std.proofs.Common.{arith}
use Rattle.std.specs.Prelude.{Option, Some, None, Result, Ok, All, IfSome, IsSomeAnd, is_some}
use Rattle.jc_base.specs.declared.ty.Ty.{Ty}
use Rattle.jc_base.specs.declared.ty.Ty.TheVariants.{Short, IntHigh, IntLow, Class, Top}
use Rattle.jc_base.specs.Class.{object}
use Rattle.jc_base.specs.Each.{IsAmong}
use Rattle.jc_base.specs.Laws.{IsOrderOfTypes}
use Rattle.jc_base.specs.World.{Linked}
use Rattle.jc_base.proofs.Lists.{All-slice_get}
use Rattle.jc_base.proofs.SameTypes.{same_type-decides}
use Rattle.jc_decode.specs.declared.insn.Placed.{Placed}
use Rattle.jc_decode.specs.declared.symbols.Item.TheVariants.{Plain}
use Rattle.jc_control.specs.WellFormed.{HasInstruction}
use Rattle.jc_ops.specs.declared.operation.Operation.{Operation}
use Rattle.jc_ops.specs.declared.operation.Operation.TheVariants as ops
use Rattle.jc_ops.specs.declared.operation.Sort.{Sort}
use Rattle.jc_ops.specs.declared.operation.Sort.TheVariants as sorts
use Rattle.jc_ops.specs.Resolve.{Resolves}
use Rattle.jc_rules.specs.Demand.{SatisfiesAll, Frame as Types}
use Rattle.jc_ops.specs.declared.fault.RuleFault.{RuleFault}
use Rattle.jc_rules.specs.Flow.{IsDerived, IsFollowed}
use Rattle.jc_rules.specs.Footprint.{footprint}
use Rattle.jc_rules.specs.Laws.{IsNotBottom}
use Rattle.jc_rules.specs.Rule.{demands}
use Rattle.vm_store.specs.declared.cell.Cell.{Cell}
use Rattle.vm_store.specs.Cells.{tagged}
use Rattle.vm_store.specs.State.{State, top}
use Rattle.vm_step.specs.Raising.{Outcome}
use Rattle.vm_step.specs.Step.{Steps}
use Rattle.law_erasure.specs.Erasure.{IsNoFault}
use Rattle.law_alike.specs.Alike.{renamed_cell}
use Rattle.law_alike.specs.Likeness.{StepsAreAlike}
use Rattle.xf_homes.specs.declared.home.Home.{Home}
use Rattle.xf_homes.specs.Home.{asked_here}
use Rattle.xf_homes.specs.Value.{value_in_cells, type_width}
use Rattle.xf_homes.specs.Source.{Source}
use Rattle.xf_homes.specs.Plan.{local, needed, operation, register}
use Rattle.xf_emission.specs.Move.{load_op, with_byte}
use Rattle.xf_emission.specs.Group.{body, loaded}
use Rattle.xf_emission.specs.Mnemonics.{aload}
use Rattle.xf_homes.specs.Laws.{HasRegister}
use Rattle.xf_homes.proofs.Needed.{needed-are-kept}
use Rattle.xf_homes.proofs.Serving.{homes-serve}
use Rattle.law_rewritten_typing.specs.Planned.{IsPlanned}
use Rattle.law_rewritten_typing.specs.Edges.{NeededHaveHomes}
use Rattle.law_rewritten_typing.specs.Whole.{DerivedAreWhole}
use Rattle.law_rewritten_typing.proofs.Below.{loads-same}
use Rattle.law_rewritten_typing.proofs.Carried.{is-high, is-low, is-short}
use Rattle.law_rewritten_typing.proofs.Running.{found-below, is-reference, local-at, value-int, value-one}
use Rattle.law_homes.specs.Held.{HoldsValue}
use Rattle.law_homes.specs.Moves.{letter_of, size}
use Rattle.law_homes.proofs.Beside.{among-each, some-width}
use Rattle.law_homes.proofs.Copies.{wide}
use Rattle.law_homes.proofs.Loading.{load-resolves}
use Rattle.law_homes.proofs.Running.{loads-run-alike}
use Rattle.law_homes.proofs.Homes.{locals-stay}
use Rattle.law_homes.proofs.Unwritten.{loads-write-none}
use Rattle.law_groups.specs.Laid.{IsLaidIn, body_at, rename}
use Rattle.law_groups.specs.Body.{AreAtBody, BodyRuns}
use Rattle.law_groups.proofs.Arriving.{needed-local}
use Rattle.law_groups.proofs.Context.{method-of, some-reached, typing-of}
use Rattle.law_groups.proofs.Plain.{alike, codes, ex, runs}

-- the home of a local that is read with a letter
pub record IsHomeOf (s : Source) (p x : ℕ) (letter : Sort) : Type 0 where
  pub ty : Ty
  pub at : local s p x ≡ Some (record { slot = x; ty = ty })
  pub letter_is : letter_of ty ≡ letter
  pub among : IsAmong (record { slot = x; ty = ty }) (needed s p x)
  pub frame : Types
  pub frame_is : s.frames p ≡ Some frame
  pub value : value_in_cells frame.regs x ≡ Some ty
  pub full : All IsNotBottom frame.regs

-- what is loaded as a reference
pub reference-letter : (a : Ty) → load_op a ≡ aload → letter_of a ≡ sorts.Reference
reference-letter x e = grind (arith)

module _
    {v w : Linked} {s : Source} {place : ℕ → ℕ} (laid : IsLaidIn v w s place)
    (types : IsOrderOfTypes v.classes) (whole : DerivedAreWhole v) where
  -- the value in registers that are asked for
  record IsValue (f : Types) (x : ℕ) (letter : Sort) : Type 0 where
    ty : Ty
    value : value_in_cells f.regs x ≡ Some ty
    letter_is : letter_of ty ≡ letter

  value-is :
      (letter : Sort) (x : ℕ) (f : Types)
      → All IsNotBottom f.regs
      → SatisfiesAll v.classes f (demands v (ops.Load letter x))
      → IsValue f x letter
  value-is sorts.Reference x f full asked =
      let k = found-below v.classes f.regs x (Class (object v.classes)) asked.1.0 in
      let c = is-reference v.classes types k.ty (object v.classes) k.below (All-slice_get IsNotBottom f.regs x k.ty full k.at) in
      record {
        ty = k.ty;
        value = value-one f.regs x k.ty k.at c.no_half c.no_top;
        letter_is =
            reference-letter k.ty
            (loads-same v.classes types k.ty (Class (object v.classes)) k.below (All-slice_get IsNotBottom f.regs x k.ty full k.at) tt);
      }
  value-is sorts.Short x f full asked =
      let k = found-below v.classes f.regs x Short asked.1.0 in
      let own = is-short v.classes types k.ty k.below (All-slice_get IsNotBottom f.regs x k.ty full k.at) in
      record { ty = Short; value = value-one f.regs x Short (k.at ∙ ap Some own) tt tt; letter_is = refl }
  value-is sorts.Int x f full asked =
      let k = found-below v.classes f.regs x IntHigh asked.1.0 in
      let own = is-high v.classes types k.ty k.below (All-slice_get IsNotBottom f.regs x k.ty full k.at) in
      let j = found-below v.classes f.regs (x + 1) IntLow asked.1.1.0 in
      let low = is-low v.classes types j.ty j.below (All-slice_get IsNotBottom f.regs (x + 1) j.ty full j.at) in
      record { ty = IntHigh; value = value-int f.regs x (k.at ∙ ap Some own) (j.at ∙ ap Some low); letter_is = refl }

  pub home-is :
      (i : Placed) (op : Operation) (letter : Sort) (x : ℕ)
      → demands v op ≡ demands v (ops.Load letter x)
      → HasInstruction s.method.code i
      → is_some (s.frames i.place) ≡ true
      → operation s i ≡ Ok op
      → IsHomeOf s i.place x letter
  unfolding needed
  home-is i op letter x is stands reached does =
      by (s.frames i.place) refl ((typing-of laid).rules i stands (some-reached laid i.place reached))
      (laid.planned.derived i.place)
    where
      by :
          (o : Option Types)
          → s.frames i.place ≡ o
          → IsSomeAnd o (IsFollowed v s.method s.frames i)
          → IfSome o (IsDerived s.world s.method Top i.place)
          → IsHomeOf s i.place x letter
      by None e h d = absurd h
      by (Some f) e h d =
          let here : Resolves v s.method.rec i.place i.insn (Ok op) =
          subst (λ u. Resolves u s.method.rec i.place i.insn (Ok op)) laid.world (sym does) in
          let same : h.steps.1.operation ≡ op = ok-is h.steps.1.operation op (h.steps.1.resolves ∙ sym here) in
          let asked : SatisfiesAll v.classes f (demands v (ops.Load letter x)) =
          subst (λ ds. SatisfiesAll v.classes f ds) (ap (demands v) same ∙ is) h.steps.1.does.asked in
          let full = (whole s.method i.place f (method-of laid)
          (subst (λ u. IsDerived u s.method Top i.place f) laid.world d)).regs in
          let k = value-is letter x f full asked in
          record {
            ty = k.ty;
            at = local-at s i.place x f k.ty e k.value;
            letter_is = k.letter_is;
            frame = f;
            frame_is = e;
            value = k.value;
            full = full;
            among =
                ((needed-are-kept same_type-decides s.method s.frames i.place x).all (record { slot = x; ty = k.ty })).1
                (refl, (0, asked_here (subst (λ o. IsSomeAnd o (λ (g : Types). value_in_cells g.regs x ≡ Some k.ty)) (sym e) k.value)));
          }
        where
          ok-is : (a b : Operation) → ◌≡◌ {A = Result Operation RuleFault} (Ok a) (Ok b) → a ≡ b
          ok-is a b e = cc

-- the registers of homes have numbers of one byte
pub small-register :
    (v : Linked) (s : Source) (h : Home) → s.world ≡ v → IsPlanned s → HasRegister s.homes h → register s h < 256
small-register v s h is plan has =
    grind (arith, homes-serve same_type-decides s.world s.method s.frames s.homes plan.homes, some-width h.ty)

module _
    (v : Linked) (alike_steps : StepsAreAlike v) (types : IsOrderOfTypes v.classes) (whole : DerivedAreWhole v)
    (needs : NeededHaveHomes v) where
  -- a load takes one step, the load of the home
  pub load-runs :
      (w : Linked) (s : Source) (place : ℕ → ℕ) (i : Placed) (letter : Sort) (x : ℕ) (z t : State Cell) (o : Outcome Cell)
      → IsLaidIn v w s place
      → AreAtBody v w s place i (ops.Load letter x) z t
      → Steps tagged v z o
      → IsNoFault o
      → BodyRuns v w s place i (ops.Load letter x) z t o
  unfolding body
  load-runs w s place i letter x z t o laid b step fine =
      let op = ops.Load letter x in
      let home = home-is laid types whole i op letter x refl b.stands b.reached b.does in
      let h : Home = record { slot = x; ty = home.ty } in
      let r : ℕ = register s h in
      let insn = with_byte (load_op home.ty) r in
      let other = ops.Load letter r in
      let own : ℕ = body_at s i.place in
      let are : body s i op ≡ Plain insn ∷ [] = ap (loaded s i) home.at in
      let reached_here = some-reached laid i.place b.reached in
      let local_home = needed-local laid needs i.place x h reached_here home.among in
      let low : r < 256 = small-register v s h laid.world laid.planned local_home.has in
      let resolves : Resolves w laid.code.target.rec i.place insn (Ok other) =
      subst (λ k. Resolves w laid.code.target.rec i.place insn (Ok (ops.Load k r))) home.letter_is
      (load-resolves w laid.code.target.rec i.place r home.ty low) in
      let there = ex laid b insn other are resolves refl in
      let agree = codes laid b insn other are resolves refl refl in
      let held : HoldsValue s (top z).registers (top t) h =
      among-each (HoldsValue s (top z).registers (top t)) (needed s i.place x) h (b.held.locals x) home.among in
      let wide_enough : type_width h.ty ≡ (footprint v op).given =
      wide home.ty ∙ (ap size home.letter_is ∙ sym (grind (arith))) in
      let run = loads-run-alike (renamed_cell (rename s place)) (rename s place) v w z t i there.instruction s h letter
      (alike laid b) agree held wide_enough in
      runs laid b insn other are resolves refl
      (λ y u stays. locals-stay (footprint v op) (footprint v other) z y t u s i.place stays.first stays.second
      (loads-write-none v letter x) (loads-write-none v letter r) b.held.locals)
      (λ k. refl) alike_steps o step fine run
