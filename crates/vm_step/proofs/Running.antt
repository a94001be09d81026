-- Steps and runs have one outcome, and follow one another.
use Rattle.std.proofs.Common.{◌≡◌, ℕ, suc, ◌+◌, true, [], refl, sym, ap, ◌∙◌, subst, arith}
use Rattle.std.specs.Prelude.{Option, Some, None, Result, Ok, Err, slice_get}
use Rattle.std.proofs.lemmas.Option.{same_Some}
use Rattle.jc_base.specs.declared.record.MethodRec.{MethodRec}
use Rattle.jc_base.specs.World.{Linked, code_of}
use Rattle.jc_decode.specs.declared.insn.Placed.{Placed}
use Rattle.jc_decode.specs.Listing.{listing, listing_from, at_most}
use Rattle.jc_ops.specs.declared.fault.RuleFault.{RuleFault}
use Rattle.jc_ops.specs.declared.operation.Operation.{Operation}
use Rattle.jc_ops.specs.Row.{row_at}
use Rattle.jc_ops.specs.Resolve.{Resolves, resolved}
use Rattle.jc_ops.specs.Sound.{OperationsAreDecided}
use Rattle.vm_store.specs.Cells.{Cells, tagged}
use Rattle.vm_store.specs.State.{State, IsRunning, top}
use Rattle.vm_step.specs.declared.ending.Fault.TheVariants.{TypeFault, JumpFault}
use Rattle.vm_step.specs.declared.ending.Ending.TheVariants.{Faulted}
use Rattle.vm_step.specs.Methods.{of_method, code_at, instruction_at}
use Rattle.vm_step.specs.Raising.{Outcome, running, ended, ends}
use Rattle.vm_step.specs.Step.{Steps, misplaced, unresolved, performs, performed, Fetches}
use Rattle.vm_step.specs.Run.{Runs, stands, stops, steps, Continues}
use Rattle.vm_step.specs.Laws.{StepsAreOne, StepsExist, RunsAreOne, RunsGoOn}

none-in-nothing : (place : ℕ) → instruction_at [] place ≡ None
unfolding instruction_at listing listing_from at_most
none-in-nothing place = refl

module _ {A : Type 0} (k : Cells A) (w : Linked) where
  nothing-there : (s : State A) (m : MethodRec) (i : Placed) → instruction_at (code_at w (top s).method) (top s).place ≡ None → Fetches w s m i → ⊥
  nothing-there s m i e fetched = let there = fetched.instruction in cc

  -- what is fetched is one
  same-answer :
      OperationsAreDecided w → (s : State A) (m n : MethodRec) (i j : Placed) (r q : Result Operation RuleFault)
      → Fetches w s m i → Fetches w s n j → Resolves w m i.place i.insn r → Resolves w n j.place j.insn q → (i ≡ j) × (r ≡ q)
  same-answer decided s m n i j r q f g a b = grind (arith, same_Some)

  one-answer : (s : State A) (m n : MethodRec) (i j : Placed) (op : Operation) (fault : RuleFault) → OperationsAreDecided w → Fetches w s m i
      → Fetches w s n j
      → Resolves w m i.place i.insn (Ok op) → Resolves w n j.place j.insn (Err fault) → ⊥
  one-answer s m n i j op fault decided f g a b = let same = (same-answer decided s m n i j (Ok op) (Err fault) f g a b).1 in cc

  same-act : (s : State A) (m n : MethodRec) (i j : Placed) (op other : Operation) (o p : Outcome A) → OperationsAreDecided w → Fetches w s m i
      → Fetches w s n j
      → Resolves w m i.place i.insn (Ok op) → Resolves w n j.place j.insn (Ok other) → o ≡ performed k w i op s → p ≡ performed k w j other s
      → o ≡ p
  same-act s m n i j op other o p decided f g a b is was = grind (arith, same-answer)

  one-step : OperationsAreDecided w → (s : State A) {o p : Outcome A} → Steps k w s o → Steps k w s p → o ≡ p
  one-step decided s (misplaced c run e) (misplaced d going f) = refl
  one-step decided s (misplaced c run e) (unresolved {m = m} {i = i} d f fault r) = absurd (nothing-there s m i e f)
  one-step decided s (misplaced c run e) (performs {m = m} {i = i} f op r is) = absurd (nothing-there s m i e f)
  one-step decided s (unresolved {m = m} {i = i} c f fault r) (misplaced d run e) = absurd (nothing-there s m i e f)
  one-step decided s (unresolved c f fault r) (unresolved d g other q) = refl
  one-step decided s (unresolved {m = m} {i = i} c f fault r) (performs {m = n} {i = j} g op q is) = absurd (one-answer s n m j i op fault decided g f q r)
  one-step decided s (performs {m = m} {i = i} f op r is) (misplaced d run e) = absurd (nothing-there s m i e f)
  one-step decided s (performs {m = n} {i = j} g op q is) (unresolved {m = m} {i = i} c f fault r) = absurd (one-answer s n m j i op fault decided g f q r)
  one-step decided s (performs {m = m} {i = i} {o = o} f op r is) (performs {m = n} {i = j} {o = p} g other q was) = grind (arith, same-act)

  pub steps-one : OperationsAreDecided w → StepsAreOne k w
  steps-one decided s o p a b = one-step decided s a b

  same-running : (z y : State A) → running z ≡ running y → z ≡ y
  same-running z y e = cc

  one-run : StepsAreOne k w → {n : ℕ} {s : State A} {o p : Outcome A} → Runs k w n s o → Runs k w n s p → o ≡ p
  one-run one stands stands = refl
  one-run one (stops {s = s} {z = z} {ending = e} a) (stops {z = y} {ending = f} b) = one s (ended e z) (ended f y) a b
  one-run one (stops {s = s} {z = y} {ending = e} b) (steps {z = z} a more) = grind (arith)
  one-run one (steps {s = s} {z = z} a more) (stops {z = y} {ending = e} b) = grind (arith)
  one-run one (steps {n = n} {s = s} {z = z} {o = o} a more) (steps {z = y} b rest) =
      let same : z ≡ y = same-running z y (one s (running z) (running y) a b) in
      one-run one (subst (λ x. Runs k w n x o) same more) rest

  pub continues-one : StepsAreOne k w → RunsAreOne k w
  continues-one one n x o p a b = grind (arith, one-run)

  runs-on : {m : ℕ} {s : State A} {y : Outcome A} (n : ℕ) (z : Outcome A) → Runs k w m s y → Continues k w n y z → Runs k w (m + n) s z
  runs-on {s = s} n z stands more = let e : n ≡ 0 + n = omega arith in subst (λ x. Runs k w x s z) e more
  runs-on {s = s} n z (stops {n = m} {z = x} {ending = f} a) more =
      let e : suc (m + n) ≡ suc m + n = omega arith in
      let here : Runs k w (suc (m + n)) s (ended f x) = stops a in
      subst (λ c. Runs k w c s z) e (subst (Runs k w (suc (m + n)) s) (sym more) here)
  runs-on {s = s} n z (steps {n = m} {z = x} a rest) more =
      let e : suc (m + n) ≡ suc m + n = omega arith in
      let here : Runs k w (suc (m + n)) s z = steps a (runs-on n z rest more) in
      subst (λ c. Runs k w c s z) e here

  pub continues-on : RunsGoOn k w
  continues-on m n x y z a b = grind (arith, runs-on)

-- ---- each state in which a method runs has a step

module _ {A : Type 0} (k : Cells A) (w : Linked) (checks : k.checks ≡ true) (s : State A) (runs : IsRunning s) where
  HasStep : Type 0
  HasStep = (o : Outcome A) × Steps k w s o

  by-answer : (m : MethodRec) (i : Placed) → Fetches w s m i → (r : Result Operation RuleFault) → Resolves w m i.place i.insn r → HasStep
  unfolding HasStep
  by-answer m i fetched (Ok op) resolves = (performed k w i op s, performs fetched op resolves refl)
  by-answer m i fetched (Err fault) resolves = (ends (Faulted TypeFault) s, unresolved checks fetched fault resolves)

  by-place : (m : MethodRec) → slice_get w.methods (top s).method ≡ Some m → (p : Option Placed)
      → instruction_at (code_at w (top s).method) (top s).place ≡ p → HasStep
  unfolding HasStep
  by-place m is None e = (ends (Faulted JumpFault) s, misplaced checks runs e)
  by-place m is (Some i) e = by-answer m i (record { runs = runs; method = is; instruction = e }) (resolved w m i.place i.insn (row_at i.insn.op)) refl

  by-method : (o : Option MethodRec) → slice_get w.methods (top s).method ≡ o → HasStep
  unfolding HasStep
  by-method None e =
      let empty : code_at w (top s).method ≡ [] = ap (of_method [] (code_of w.infos)) e in
      (ends (Faulted JumpFault) s, misplaced checks runs (ap (λ code. instruction_at code (top s).place) empty ∙ none-in-nothing (top s).place))
  by-method (Some m) e = by-place m e (instruction_at (code_at w (top s).method) (top s).place) refl

  pub step-exists : (o : Outcome A) × Steps k w s o
  unfolding HasStep
  step-exists = by-method (slice_get w.methods (top s).method) refl

pub steps-exist : (w : Linked) → StepsExist w
steps-exist w s runs = step-exists tagged w refl s runs
