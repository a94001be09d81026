-- A method at which something fails has no dataflow typing.
use Rattle.std.proofs.Common.{◌≡◌, ℕ, List, ◌∷◌, All, Contains, IsTrue, Option, Some, refl, sym, ◌∙◌, subst, arith}
use Rattle.std.specs.Prelude.{ℤ, pos, negsuc, map}
use Rattle.std.proofs.lemmas.List.Elements.{All-head}
use Rattle.jc_base.specs.declared.ty.Ty.{Ty}
use Rattle.jc_base.specs.declared.ty.Ty.TheVariants.{Top}
use Rattle.jc_base.specs.Class.{ClassTable}
use Rattle.jc_base.specs.Laws.{IsOrderOfTypes}
use Rattle.jc_base.specs.World.{Linked}
use Rattle.jc_rules.specs.FlowLaws.{AreRules, IsOrderOfCells}
use Rattle.jc_decode.specs.declared.insn.Placed.{Placed}
use Rattle.jc_decode.specs.Cases.{cases}
use Rattle.jc_decode.specs.Listing.{jumps, target, targets}
use Rattle.jc_ops.specs.declared.fault.RuleFault.{RuleFault}
use Rattle.jc_rules.specs.declared.effect.Mode.TheVariants.{Flow}
use Rattle.jc_rules.specs.Demand.{Frame}
use Rattle.jc_rules.specs.Apply.{RuleRefuses}
use Rattle.jc_control.specs.Method.{Method, IsMethodOf}
use Rattle.jc_control.specs.WellFormed.{HasInstruction, IsTargetPlace}
use Rattle.jc_control.specs.Control.{IsReached, follows, jumped}
use Rattle.jc_rules.specs.Flow.{IsNotFresh, IsNotTop, FrameBelow, IsFit, caught_frame, IsDerived, derived_next, derived_caught, FlowTyping, HasFlowTyping}
use Rattle.jc_rules.specs.Typing.{Clashes, depths, cells}
use Rattle.jc_flow.proofs.Frames.{IsReady, cells-fall, join-least, topless-falls, ready-falls}
use Rattle.jc_rules.proofs.Sites.{site_of, refuses-at-site}
use Rattle.jc_flow.proofs.Derived.{derived-fine, derived-under, followed-below, step-below, some_to, some_at, Follows}
use Rattle.jc_flow.specs.Fails.{Fails, fails_rule, fails_jump, fails_leader, fails_merge, fails_caught, fails_handler, FailsAt, FallsPast}

-- frames below one without Top do not clash
clash-never : (t : ClassTable) → IsOrderOfTypes t → IsOrderOfCells t → (a b u : Frame) → All IsNotTop u.stack → FrameBelow t a u
    → FrameBelow t b u → Clashes t a b → ⊥
clash-never t are order a b u none p q (depths n) = n (order.lengths p.stack ∙ sym (order.lengths q.stack))
clash-never t are order a b u none p q (cells {joined} j n) = n (cells-fall t IsNotTop IsNotTop (topless-falls t are) (join-least t j p.stack q.stack) none)

-- a branch or switch of a well-formed method has a target in the code
jump-leads : (code : List ℕ) (i : Placed) → All (IsTargetPlace code) (targets code i) → IsTrue (jumps i.insn.op) → (q : ℕ)
    × Contains (targets code i) (pos q)
unfolding targets
jump-leads code i places j =
    by (target i.place i.insn.x) (All-head (IsTargetPlace code) (target i.place i.insn.x) (map (λ c. target i.place c.offset) (cases code i.place i.insn))
    (subst (All (IsTargetPlace code)) listed places)) refl
  where
    listed : targets code i ≡ target i.place i.insn.x ∷ map (λ c. target i.place c.offset) (cases code i.place i.insn)
    listed = rw j refl

    by : (t : ℤ) → IsTargetPlace code t → target i.place i.insn.x ≡ t → (q : ℕ) × Contains (targets code i) (pos q)
    by (pos q) place e = (q, subst (λ (xs : List ℤ). Contains xs (pos q)) (sym listed) (0, omega arith, e))
    by (negsuc n) place e = absurd place

both : (P Q : Ty → Type 0) (xs : List Ty) → All P xs → All Q xs → All (λ ty. P ty × Q ty) xs
both P Q xs p q k d lt = (p k d lt, q k d lt)

module _ (w : Linked) (is : AreRules w) (m : Method) (mo : IsMethodOf w m) (frames : ℕ → Option Frame) (ty : FlowTyping w m Top frames) where
  -- the frame of the typing at a place of a derived one
  record Above (q : ℕ) (f : Frame) : Type 0 where
    frame : Frame
    there : frames q ≡ Some frame
    below : FrameBelow w.classes f frame
    fit : IsFit m frame
    reached : IsReached m q

  above : (q : ℕ) (f : Frame) → IsDerived w m Top q f → Above q f
  above q f d = grind (arith, derived-under w is m mo frames ty d, some_to, some_at)

  follow : (i : Placed) (f : Frame) → IsDerived w m Top i.place f → HasInstruction m.code i → Follows w is m mo frames ty i f
  follow i f d st = grind (arith, derived-under w is m mo frames ty d, derived-fine w is m mo d, followed-below)

  at-instruction : (i : Placed) (p : ℕ) (f : Frame) → i.place ≡ p → IsDerived w m Top p f → IsDerived w m Top i.place f
  at-instruction i p f e d = subst (λ q. IsDerived w m Top q f) (sym e) d

  -- what the rule gives is below what stands at each target, so it has no Top under the operands of a branch
  after-topless : (i : Placed) → (f : Frame) → (d : IsDerived w m Top i.place f) → HasInstruction m.code i → (s : Follows w is m mo frames ty i f)
      → IsTrue (jumps i.insn.op) → All IsNotTop s.followed.after.stack
  after-topless i f d st s j =
      let to = jump-leads m.code i (ty.formed.targets i st) j in
      let u = derived-under w is m mo frames ty d in
      let fit = ty.fit to.0 (follows st u.reached (jumped to.1)) in
      some_to (FrameBelow w.classes s.followed.after) (All IsNotTop s.followed.after.stack) (frames to.0)
      (λ g there le. cells-fall w.classes IsNotTop IsNotTop (topless-falls w.classes is.types) le.stack (some_at (IsFit m) there fit).no_top)
      (s.followed.below to.0 (jumped to.1))

  no-fresh : (g u : Frame) → FrameBelow w.classes g u → All IsNotFresh u.stack → All IsNotTop u.stack → All IsNotFresh g.stack
  no-fresh g u le ready topless =
      cells-fall w.classes IsNotFresh IsReady (ready-falls w.classes is.types) le.stack (both IsNotFresh IsNotTop u.stack ready topless)

  pub fails-never : (p : ℕ) (f : Frame) (fault : RuleFault) → IsDerived w m Top p f → Fails w m p f fault → ⊥
  fails-never p f fault d (fails_rule i st e r) =
      let s = follow i f (at-instruction i p f e d) st in
      (is.decides (site_of m i.place) i.insn Flow f).never_both s.fallen.applies
      (refuses-at-site w m mo (subst (λ q. RuleRefuses w m.rec q i.insn f fault) (sym e) r))
  fails-never p f fault d (fails_jump i g st e steps j n) =
      let here = at-instruction i p f e d in
      let s = follow i f here st in
      n (no-fresh g s.followed.after (step-below w is m mo frames ty i f g s steps) (s.followed.ready j) (after-topless i f here st s j))
  fails-never p f fault d (fails_leader i g q st e steps to l n) =
      let u = above q g (derived_next (at-instruction i p f e d) st steps to) in
      n (no-fresh g u.frame u.below (some_at (λ f. All IsNotFresh f.stack) u.there (ty.leaders q l)) u.fit.no_top)
  fails-never p f fault d (fails_merge i g other q st e steps to od clash) =
      let u = above q g (derived_next (at-instruction i p f e d) st steps to) in
      let v = derived-under w is m mo frames ty od in
      clash-never w.classes is.types is.order other g u.frame u.fit.no_top (some_at (FrameBelow w.classes other) u.there v.below) u.below clash
  fails-never p f fault d (fails_caught h other c cov od clash) =
      let u = above h.entry (caught_frame h f) (derived_caught d c cov) in
      let v = derived-under w is m mo frames ty od in
      clash-never w.classes is.types is.order other (caught_frame h f) u.frame u.fit.no_top (some_at (FrameBelow w.classes other) u.there v.below) u.below clash
  fails-never p f fault d (fails_handler h c cov e) = grind (arith, above h.entry (caught_frame h f) (derived_caught d c cov))

  pub falls-never : (p : ℕ) → FallsPast w m p → ⊥
  falls-never p h = grind (arith, derived-under w is m mo frames ty (at-instruction h.instruction p h.frame h.at h.derived))

module _ (w : Linked) (is : AreRules w) (m : Method) (mo : IsMethodOf w m) where
  pub none-where-fails : (p : ℕ) (fault : RuleFault) → FailsAt w m p fault → ¬ (HasFlowTyping w m Top)
  none-where-fails p fault h has = fails-never w is m mo has.frames has.typing p h.frame fault h.derived h.fails

  pub none-where-falls : (p : ℕ) → FallsPast w m p → ¬ (HasFlowTyping w m Top)
  none-where-falls p h has = falls-never w is m mo has.frames has.typing p h
