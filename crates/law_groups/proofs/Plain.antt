-- One step of the target for one of the source, where the steps of both are plain instructions that are equal but for registers.
use Rattle.std.proofs.Common.{◌≡◌, ℕ, ◌+◌, ◌<◌, ◌≤◌, true, false, List, [], ◌∷◌}
use Rattle.std.proofs.Common.{length, drop, refl, sym, ap, ◌∙◌, subst, arith}
use Rattle.std.specs.Prelude.{All, Some, Ok, slice_get}
use Rattle.std.proofs.lemmas.List.{drop-map}
use Rattle.std.proofs.lemmas.Option.{slice_get_within, same_Some}
use Rattle.std.proofs.lemmas.Bool.{false≢true}
use Rattle.jc_base.specs.Each.{Each}
use Rattle.jc_base.specs.World.{Linked}
use Rattle.jc_base.proofs.Eaching.{Each-weaker}
use Rattle.jc_decode.specs.declared.insn.Insn.{Insn}
use Rattle.jc_decode.specs.declared.insn.Placed.{Placed}
use Rattle.jc_decode.specs.Listing.{listing, targets}
use Rattle.jc_decode.specs.Standing.{AreSteps}
use Rattle.jc_decode.specs.Symbols.{Step}
use Rattle.jc_decode.specs.declared.symbols.Item.TheVariants.{Plain}
use Rattle.jc_control.specs.WellFormed.{IsPlace, IsTargetPlace}
use Rattle.jc_ops.specs.declared.operation.Callee.{Callee}
use Rattle.jc_ops.specs.declared.operation.Operation.{Operation}
use Rattle.jc_ops.specs.declared.operation.Operation.TheVariants as ops
use Rattle.jc_ops.specs.Next.{falls_from, jumps_from}
use Rattle.jc_ops.specs.Resolve.{Resolves}
use Rattle.jc_rules.specs.Footprint.{footprint}
use Rattle.vm_store.specs.declared.cell.Cell.{Cell}
use Rattle.vm_store.specs.Cells.{tagged}
use Rattle.vm_store.specs.State.{State, Frame, IsRunning, first_frame, other_frames, top}
use Rattle.vm_step.specs.Act.{calls}
use Rattle.vm_step.specs.Methods.{code_at, max_stack_of}
use Rattle.vm_step.specs.Raising.{Outcome}
use Rattle.vm_step.specs.Run.{stands}
use Rattle.vm_step.specs.Step.{Steps}
use Rattle.law_erasure.specs.Erasure.{IsNoFault}
use Rattle.law_alike.specs.Alike.{AreAlike, StayAlike, renamed_cell, renamed_new}
use Rattle.law_alike.specs.Running.{ComeAlike, call_alike, end_alike, exception_alike}
use Rattle.law_alike.specs.Running.{next_alike, return_alike, RunAlike}
use Rattle.law_alike.specs.Running.{target_alike}
use Rattle.law_alike.specs.Running.{throw_alike, top_code}
use Rattle.law_alike.specs.Likeness.{StepsAreAlike}
use Rattle.law_alike.proofs.Cells.{renamed-keeps}
use Rattle.law_alike.proofs.Views.{falls-new}
use Rattle.law_alike.proofs.Simulation.{one-step}
use Rattle.xf_homes.specs.declared.home.Home.{Home}
use Rattle.xf_homes.specs.Order.{register_sum}
use Rattle.xf_homes.specs.Source.{Source}
use Rattle.xf_homes.specs.Plan.{needed}
use Rattle.xf_emission.specs.Edge.{is_stored}
use Rattle.xf_emission.specs.Group.{body}
use Rattle.law_homes.specs.Held.{HoldsValue, HoldsLocals}
use Rattle.law_homes.specs.Laws.{CodesAgree, ExecutesStep}
use Rattle.law_homes.proofs.Standing.{steps-execute}
use Rattle.law_groups.specs.Laid.{IsLaidIn, body_at, count_of, rename, steps_of}
use Rattle.law_groups.specs.Beside.{IsUnderCall, StandsInGroup, MovesTop}
use Rattle.law_groups.specs.Comes.{group_calls, group_ends, group_gives, group_raises, group_throws}
use Rattle.law_groups.specs.Body.{AreAfter, AreAtBody, BodyComes, body_done, body_falls, BodyRuns}
use Rattle.law_groups.proofs.Context.{method-of, source-room, steps-are, target-at, target-room}
use Rattle.law_groups.proofs.Standing.{GroupSteps, step-at, stand-as}
use Rattle.law_groups.proofs.Following.{steps-here, next-place}
use Rattle.law_groups.proofs.Called.{called}
use Rattle.law_groups.proofs.Renaming.{renames-one-to-one}
use Rattle.law_homes.proofs.Beside.{held-as}

-- ---- frames

each-over :
    (s : Source) (values : List Cell) (g k : Frame Cell) → k.registers ≡ g.registers → (hs : List Home)
    → Each (HoldsValue s values g) hs
    → Each (HoldsValue s values k) hs
each-over s values g k e [] held = tt
each-over s values g k e (h ∷ hs) held = (held-as s values g k h e held.0, each-over s values g k e hs held.1)

-- the frames of a state in which a method runs
pub frames-are : (t : State Cell) → IsRunning t → t.frames ≡ top t ∷ other_frames t.frames
frames-are t runs = by t.frames runs
  where
    by : (fs : List (Frame Cell)) → 0 < length fs → fs ≡ first_frame fs ∷ other_frames fs
    by [] lt = absurd (omega (arith, lt))
    by (f ∷ fs) lt = refl

no-targets : (code : List ℕ) (j : Placed) → targets code j ≡ [] → All (IsTargetPlace code) (targets code j)
no-targets code j e = subst (λ ts. All (IsTargetPlace code) ts) (sym e) (λ k d lt. absurd (omega (arith, lt)))

module _
    {v w : Linked} {s : Source} {place : ℕ → ℕ} (laid : IsLaidIn v w s place)
    {i : Placed} {op : Operation} {z t : State Cell} (b : AreAtBody v w s place i op z t) where
  abbrev e : Cell → Cell
  e = renamed_cell (rename s place)

  abbrev n : ℕ
  n = body_at s i.place

  g : GroupSteps s i op
  g = steps-here laid i op b.stands b.reached b.does

  pub runs-too : IsRunning t
  runs-too = let same = b.equal.frames in let some = b.typed.runs in omega (arith, same, some)

  pub alike : AreAlike e z t
  alike = record {
    frames = b.equal.frames;
    stack = b.held.stack;
    heap = b.equal.heap;
    statics = b.equal.statics;
    objects_stay = b.typed.objects_stay (rename s place);
    statics_stay = b.typed.statics_stay (rename s place);
  }

  pub room : max_stack_of v (top z).method ≤ max_stack_of w (top t).method
  room =
      let one = ap (max_stack_of v) b.of.source in
      let two = ap (max_stack_of w) b.of.target in
      let three = source-room laid in
      let four = target-room laid in
      omega (arith, one, two, three, four)

  -- the method of the source in its state
  pub method-is : b.executes.method ≡ s.method.rec
  method-is = grind (arith, same_Some, method-of)

  -- before the first step of the body, the target is within the group
  pub within : (f k : Frame Cell) → f.method ≡ s.method.number → k.method ≡ s.method.number → length k.registers ≡ register_sum s.homes
      → f.place ≡ i.place → k.place ≡ place n → 0 < count_of (body s i op) → HoldsLocals s i.place f k → StandsInGroup s place f k
  within f k source target count here at some locals =
      let size = g.size in
      record {
        of = record { source = source; target = target; count = count };
        instruction = i;
        stands = b.stands;
        there = sym here;
        step = n;
        inside = record { «from» = omega arith; before = omega (arith, size, some) };
        at = at;
        locals = subst (λ p. HoldsLocals s p f k) (sym here) locals;
      }

  -- ---- a plain step

  module _
      (insn : Insn) (other : Operation) (are : body s i op ≡ Plain insn ∷ [])
      (resolves : Resolves w laid.code.target.rec i.place insn (Ok other)) (same_falls : falls_from other ≡ falls_from op) where
    abbrev plain : Step
    plain = record { insn = insn; targets = []; keys = [] }

    abbrev own : Operation
    own = renamed_new (λ q. place n) other

    one : count_of (body s i op) ≡ 1
    one = ap count_of are

    found : slice_get (steps_of s) n ≡ Some plain
    found = step-at s n (Plain insn) [] plain [] (stand-as s n (body s i op) (Plain insn ∷ []) are g.body_steps) refl

    pub ex : ExecutesStep w t place n plain other
    ex =
        steps-execute w laid.new t laid.code.target.rec place (steps_of s) n i.place plain other runs-too
        (ap (slice_get w.methods) b.of.target ∙ target-at laid)
        (subst (λ m. AreSteps (code_at w m) place 0 (steps_of s) (listing (code_at w m))) (sym b.of.target)
        (steps-are laid))
        found b.at resolves

    falls-as : falls_from own ≡ true → falls_from op ≡ true
    falls-as falls = sym same_falls ∙ (sym (falls-new (λ q. place n) other) ∙ falls)

    pub codes : jumps_from op ≡ false → CodesAgree v w z t i ex.instruction op own
    codes still = record {
      keys = (grind (arith));
      targets = no-targets (top_code w t) ex.instruction ex.is.leads;
      next = λ falls.
          subst (IsPlace (top_code w t)) (sym ex.ends)
          (subst (λ m. IsPlace (code_at w m) (place (n + 1))) (sym b.of.target)
          (next-place laid i op b.stands b.reached b.does one (falls-as falls)));
      room = room;
    }

    -- what both come to
    module _
        (kept :
        (y u : State Cell)
        → StayAlike e (footprint v op) (footprint v own) z y t u
        → HoldsLocals s i.place (top y) (top u))
        (unstored : (x : ℕ) → is_stored op x ≡ false) where
      after : (y u : State Cell) → StayAlike e (footprint v op) (footprint v own) z y t u → AreAfter s place i.place op z t y u
      after y u stay = record {
        first = record { frames = stay.first.frames };
        second = record { frames = stay.second.frames };
        equal = record { frames = stay.alike.frames; heap = stay.alike.heap; statics = stay.alike.statics };
        of = record {
          source = stay.first.method ∙ b.of.source;
          target = stay.second.method ∙ b.of.target;
          count = stay.second.count ∙ b.of.count;
        };
        stack = stay.alike.stack;
        holds = record {
          stored = λ x h. absurd (false≢true (sym (unstored x) ∙ h));
          others = λ x. Each-weaker (HoldsValue s (top y).registers (top u)) _ (λ h held free. held) (needed s i.place x) (kept y u stay x);
        };
      }

      under-call :
          (count : ℕ) (y u : State Cell) (c : Callee)
          → StayAlike e (footprint v op) (footprint v own) z y t u
          → op ≡ ops.Call c
          → (top y).place ≡ (top z).place
          → (top u).place ≡ (top t).place
          → IsUnderCall s place
          (record (top y) { stack = drop count (top y).stack })
          (record (top u) { stack = drop count (top u).stack })
      unfolding within
      under-call count y u c stay is here there = record {
        within = grind (arith, within, each-over);
        callee = c;
        calls = b.does ∙ ap Ok is;
        first = ap (body_at s) (sym (here ∙ b.here));
        stack = ap (drop count) stay.alike.stack ∙ drop-map e count (top y).stack;
      }

      thrown-from : MovesTop t t × StandsInGroup s place (top z) (top t)
      thrown-from = grind (arith, frames-are, runs-too, within)

      comes :
          (o p : Outcome Cell)
          → ComeAlike tagged e v w z t i ex.instruction op own o p
          → BodyComes v w s place i op z t o p
      comes _ _ (next_alike {z = y} {y = u} stay falls here there) =
          body_falls (after y u stay) (falls-as falls) here
          (there ∙ (ex.ends ∙ ap (λ k. place (n + k)) (sym one)))
      comes _ _ (target_alike k stay here there) = grind (arith, ex, slice_get_within)
      comes o p (call_alike method count {z = y} {y = u} stay here there handed acts enters too) =
          let c = called v i.insn op z method count y acts in
          body_done (group_calls (record {
            instruction = i;
            op = op;
            executes = b.executes;
            method = method;
            count = count;
            source = y;
            target = u;
            first = record { frames = stay.first.frames };
            second = record { frames = stay.second.frames };
            equal = record { frames = stay.alike.frames; heap = stay.alike.heap; statics = stay.alike.statics };
            handed = handed;
            waits = under-call count y u c.0 stay c.1 here there;
            acts = acts;
            enters = enters;
            too = too;
          }))
      comes o p (return_alike value cells plain-cells acts gives too) =
          body_done (group_gives value cells (λ f. plain-cells (renamed_cell f) (renamed-keeps f)) gives too)
      comes o p (exception_alike exception acts raises too) =
          body_done (group_raises exception t (record { moves = thrown-from.0; within = thrown-from.1 }) raises too)
      comes o p (throw_alike handle acts throws too) =
          body_done (group_throws handle t (record { moves = thrown-from.0; within = thrown-from.1 }) throws too)
      comes _ _ (end_alike ending y) = body_done (group_ends ending y)

      -- so the step of the target comes to what that of the source comes to
      pub runs :
          StepsAreAlike v
          → (o : Outcome Cell)
          → Steps tagged v z o
          → IsNoFault o
          → RunAlike e (rename s place) v w z t i ex.instruction op own
          → BodyRuns v w s place i op z t o
      runs alike_steps o step fine run =
          let p = alike_steps w (rename s place) z t i ex.instruction op own o laid.code.same (renames-one-to-one v w s place laid)
          b.executes ex.executes run step fine in
          record {
            count = 1;
            more = omega arith;
            fewer = omega arith;
            outcome = p.0;
            runs = one-step w t p.0 p.1;
            comes = comes o p.0 p.2;
          }
