-- The rule of an instruction applies or refuses, and what it leaves is in order or not.
use Rattle.std.proofs.Common.{◌≡◌, ℕ, ◌+◌, ◌<◌, ◌≤◌, List, [], length, MatchBool, IsSomeAnd, IfOk, IfErr, Result}
use Rattle.std.proofs.Common.{slice_get, sum_by, refl, sym, ◌∙◌, ap, subst, arith}
use Rattle.jc_base.specs.declared.ty.Ty.{Ty}
use Rattle.jc_base.specs.Order.{rises_left}
use Rattle.jc_decode.specs.declared.insn.Placed.{Placed}
use Rattle.jc_ops.specs.declared.fault.RuleFault.{RuleFault}
use Rattle.jc_control.specs.WellFormed.{HasInstruction}
use Rattle.jc_rules.specs.declared.effect.Mode.TheVariants.{Card}
use Rattle.jc_rules.specs.declared.rule.Outcome.{Outcome}
use Rattle.jc_rules.specs.Stack.{cells}
use Rattle.jc_rules.specs.Apply.{frame_of, HasDeclaredLengths, Applies, Refuses}
use Rattle.card_typing.specs.declared.fault.CardFault.{CardFault}
use Rattle.card_typing.specs.declared.fault.CardKind.{CardKind}
use Rattle.card_typing.specs.declared.fault.CardKind.TheVariants.{Code, Rule, StackAtTarget, StackAtBranch, HandlerEntered, BadTarget, FallsOff, BadHandler}
use Rattle.card_typing.specs.declared.fault.CardKind.TheVariants.{BadIndex, NotIndexed}
use Rattle.card_typing.specs.Met.{Arrives, IsOpenTo}
use Rattle.card_typing.specs.Refusal.{IsWrong, wrong_rule, wrong_branch, wrong_end}
use Rattle.card_verify.specs.declared.verify.Verifier.{Verifier}
use Rattle.card_verify.specs.declared.pass.Arrival.{Arrival}
use Rattle.card_verify.specs.Verifier.{method, world_of}
use Rattle.card_verify.specs.Walk.{IsVerifier, HasSlices, IsLanded, IsMislanded, IsLeftWell, IsLeftWrong, IsFailing, IsStepped, IsVisited, IsStopped}
use Rattle.card_verify.proofs.Landing.{no-cells}

module _ (v : Verifier) (marked : ℕ → Type 0) (is : IsVerifier v marked) where
  pub has-room : (regs stack : List Ty) (depth : ℕ) → HasSlices v regs stack → depth ≤ v.subject.rec.now.max_stack
      → IsSomeAnd (slice_get (world_of v).methods v.subject.number) (λ m. HasDeclaredLengths m regs stack depth)
  has-room regs stack depth slices le = grind (arith)

  module _ (i : Placed) (there : HasInstruction (method v).code i) (regs stack regs_after stack_after : List Ty) (depth : ℕ)
      (long : length stack_after ≡ v.subject.rec.now.max_stack)
      (suits : IsOpenTo (method v) marked i.place (cells stack depth)) where
    pub fail-rule : (fault : RuleFault) → depth ≤ v.subject.rec.now.max_stack → (regs_after ≡ regs) × (stack_after ≡ stack)
        → Refuses (world_of v) (record { method = v.subject.number; place = i.place }) i.insn (frame_of regs stack depth) fault
        → IsFailing v marked i regs (cells stack depth) regs_after stack_after (record { place = i.place; depth = depth; kind = Rule fault })
    fail-rule fault le same refuses = record {
      place = refl;
      wrong =
          subst (λ (xs : List Ty). IsWrong (world_of v) (method v) marked i (frame_of regs stack depth) (Rule fault) (frame_of xs stack_after depth))
          (sym same.0)
          (subst (λ (ys : List Ty). IsWrong (world_of v) (method v) marked i (frame_of regs stack depth) (Rule fault) (frame_of regs ys depth))
          (sym same.1) (wrong_rule fault suits (is.records.refuses (method v) i.place i.insn (frame_of regs stack depth) fault is.known refuses)));
      within = omega (arith, le, long);
    }

    module _ (o : Outcome) (applies : Applies (world_of v) (record { method = v.subject.number; place = i.place }) i.insn Card (frame_of regs stack depth)
        (frame_of regs_after stack_after o.depth) o) where
      shallow : o.depth ≤ v.subject.rec.now.max_stack
      shallow = grind (arith)

      left-none : o.depth ≡ 0 → cells stack_after o.depth ≡ []
      left-none e = ap (cells stack_after) e ∙ no-cells stack_after

      pub stepped : IsLeftWell v i o.depth → length regs_after ≡ v.subject.rec.now.nargs + v.subject.rec.now.max_locals
          → MatchBool o.rose (sum_by (rises_left (world_of v).classes) regs_after < sum_by (rises_left (world_of v).classes) regs) (regs_after ≡ regs)
          → IsStepped v marked i regs (cells stack depth) regs_after stack_after o
      stepped well count rises = grind (arith, left-none, shallow)

      failing : (kind : CardKind) → IsWrong (world_of v) (method v) marked i (frame_of regs stack depth) kind (frame_of regs_after stack_after o.depth)
          → IsFailing v marked i regs (cells stack depth) regs_after stack_after (record { place = i.place; depth = o.depth; kind = kind })
      failing kind wrong = record { place = refl; wrong = wrong; within = let le = shallow in omega (arith, le, long) }

      pub fail-left : (kind : CardKind) → IsLeftWrong v i o.depth kind → IsFailing v marked i regs (cells stack depth) regs_after stack_after
          (record { place = i.place; depth = o.depth; kind = kind })
      fail-left StackAtBranch h =
          failing StackAtBranch
          (wrong_branch (frame_of regs_after stack_after o.depth) o suits
          (is.records.applies (method v) i.place i.insn Card (frame_of regs stack depth) (frame_of regs_after stack_after o.depth) o is.known applies)
          h.0 (λ e. h.1 (applies.rule.does.depth ∙ ap length e)))
      fail-left FallsOff h =
          let reach = (is.order (method v).code).within i there in
          failing FallsOff
          (wrong_end (frame_of regs_after stack_after o.depth) o suits
          (is.records.applies (method v) i.place i.insn Card (frame_of regs stack depth) (frame_of regs_after stack_after o.depth) o is.known applies)
          (λ j. left-none (h.0 j)) h.1 (omega (arith, reach, h.2)))
      fail-left (Code end) h = absurd h
      fail-left (Rule fault) h = absurd h
      fail-left StackAtTarget h = absurd h
      fail-left HandlerEntered h = absurd h
      fail-left (BadTarget target) h = absurd h
      fail-left (BadHandler number) h = absurd h
      fail-left (BadIndex entry) h = absurd h
      fail-left (NotIndexed target) h = absurd h

  -- ---- what a visit comes to

  module _ (i : Placed) (arrival : Arrival) (place : ℕ) (here : place ≡ i.place) (regs stack : List Ty) where
    pub landed-suits : (given : List Ty) → IsLanded v marked place arrival stack given → IsOpenTo (method v) marked i.place given
    landed-suits given landed = subst (λ n. IsOpenTo (method v) marked n given) here landed.suits

    pub landed-arrives : (given : List Ty) → IsLanded v marked place arrival stack given
        → Arrives (world_of v) (method v) arrival.may_fall (cells stack arrival.depth) i.place given
    landed-arrives given landed = subst (λ n. Arrives (world_of v) (method v) arrival.may_fall (cells stack arrival.depth) n given) here landed.arrives

    pub stopped-landing : (stack_after : List Ty) (fault : CardFault) → fault.place ≡ place → IsMislanded v marked arrival stack stack_after fault
        → IsStopped v marked i arrival regs stack regs stack_after fault
    stopped-landing stack_after fault at mis = grind (arith)

    module _ (given regs_after stack_after : List Ty) (landed : IsLanded v marked place arrival stack given) where
      pub visited : (r : Result Outcome CardFault) → IfOk r (λ o. IsStepped v marked i regs given regs_after stack_after o)
          → IfOk r (λ o. IsVisited v marked i arrival regs stack regs_after stack_after o)
      visited x s = grind (arith, landed-arrives, stepped)

      pub stopped : (r : Result Outcome CardFault) → IfErr r (λ f. IsFailing v marked i regs given regs_after stack_after f)
          → IfErr r (λ f. IsStopped v marked i arrival regs stack regs_after stack_after f)
      stopped x s = grind (arith, landed-arrives)
