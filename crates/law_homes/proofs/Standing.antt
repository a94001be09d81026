-- The instruction at the place of a step, in code that stands for steps whose places rise.
use Rattle.std.proofs.Common.{◌≡◌, ℕ, zero, suc, ◌+◌, ◌-◌, ◌<◌, ◌≤◌, ◌==◌, false, cond, List, [], ◌∷◌, length, sym, ap}
use Rattle.std.proofs.Common.{◌∙◌, subst, arith}
use Rattle.std.specs.Prelude.{Some, Ok, IfSome, find, slice_get}
use Rattle.std.proofs.lemmas.Bool.{eq-eqb, ne_eqb}
use Rattle.std.proofs.lemmas.Option.{slice_get_within}
use Rattle.jc_base.specs.declared.record.MethodRec.{MethodRec}
use Rattle.jc_base.specs.Cell.{IsDeclared}
use Rattle.jc_base.specs.World.{Linked, IsWorld}
use Rattle.jc_base.proofs.Lists.{All-slice_get, slice_get-some}
use Rattle.jc_decode.specs.declared.insn.Placed.{Placed}
use Rattle.jc_decode.proofs.InstructionLists.{all-are-listed}
use Rattle.jc_ops.specs.Resolve.{Resolves}
use Rattle.jc_ops.specs.Sound.{OperationsAreSound}
use Rattle.vm_store.specs.State.{top}
use Rattle.law_laid.proofs.Forms.{resolves-renamed}
use Rattle.law_laid.proofs.Operations.{operation_renamed}
use Rattle.law_laid.proofs.Steps.{step-at}
use Rattle.law_alike.specs.Alike.{renamed_new}
use Rattle.law_alike.proofs.Views.{same-new}
use Rattle.jc_decode.specs.Listing.{listing}
use Rattle.jc_decode.specs.Standing.{StandsForStep, AreSteps}
use Rattle.jc_decode.specs.Symbols.{Step}
use Rattle.jc_decode.proofs.Elements.{Contains-slice_get}
use Rattle.vm_step.specs.Methods.{code_at, instruction_at}
use Rattle.law_homes.specs.Moves.{IsExecutable}
use Rattle.law_homes.specs.Laws.{StepsStandAtPlaces, StepsExecute}

module _ (code : List ℕ) (place : ℕ → ℕ) where
  -- among the instructions of the steps from a number on
  record FoundAt (ps : List Placed) (n : ℕ) (step : Step) : Type 0 where
    instruction : Placed
    found : find (λ (i : Placed). i.place == place n) ps ≡ Some instruction
    begins : instruction.place ≡ place n
    ends : instruction.place + instruction.insn.len ≡ place (n + 1)
    is : StandsForStep code place step instruction

  found-from :
      (m : ℕ) (steps : List Step) (ps : List Placed) → AreSteps code place m steps ps
      → ((a b : ℕ) → a < b → b ≤ m + length steps → place a < place b)
      → (k : ℕ) (step : Step) → slice_get steps k ≡ Some step → FoundAt ps (m + k) step
  found-from m [] ps h rise k step e = absurd (omega (arith, slice_get_within [] k step e))
  found-from m (s ∷ steps) [] h rise k step e = absurd h
  found-from m (s ∷ steps) (p ∷ ps) h rise zero step e = grind (arith, suc, cond, eq-eqb)
  found-from m (s ∷ steps) (p ∷ ps) h rise (suc k) step e =
      let inside : k < length steps = slice_get_within steps k step e in
      let rest = found-from (suc m) steps ps h.3 (λ a b lt le. rise a b lt (omega (arith, le))) k step e in
      let number : suc m + k ≡ m + suc k = omega arith in
      let earlier : place m < place (m + suc k) = rise m (m + suc k) (omega arith) (omega (arith, inside)) in
      let other : p.place ≡ place m = h.0 in
      let apart : (p.place == place (m + suc k)) ≡ false = ne_eqb p.place (place (m + suc k)) (λ same. omega (arith, same, earlier, other)) in
      record {
        instruction = rest.instruction;
        found = grind (arith, cond, suc);
        begins = rest.begins ∙ ap place number;
        ends = rest.ends ∙ ap (λ n. place (n + 1)) number;
        is = rest.is;
      }

-- ---- places rise

module _ (code : List ℕ) (place : ℕ → ℕ) (steps : List Step) (are : AreSteps code place 0 steps (listing code)) where
  rises-once : (k : ℕ) → k < length steps → place k < place (suc k)
  rises-once k lt =
      let s = slice_get-some steps k lt in
      let x = step-at code place 0 steps (listing code) are k s.0 s.1 in
      let a = all-are-listed code in
      let long : 0 < x.placed.insn.len = a.long x.placed.place x.placed.insn
      (a.decodes x.placed (Contains-slice_get (listing code) k x.placed x.listed)) in
      let here : 0 + k ≡ k = omega arith in
      let next : 0 + suc k ≡ suc k = omega arith in
      let at : x.placed.place ≡ place k = x.begins ∙ ap place here in
      let after : x.placed.place + x.placed.insn.len ≡ place (suc k) = x.ends ∙ ap place next in
      omega (arith, long, at, after)

  rises-far : (a d : ℕ) → a + suc d ≤ length steps → place a < place (a + suc d)
  rises-far a zero le = grind (arith, suc, rises-once)
  rises-far a (suc d) le = grind (arith, rises-once, suc, rises-far a d (omega (arith, le)))

  pub rises : (a b : ℕ) → a < b → b ≤ length steps → place a < place b
  rises a b lt le = grind (arith, suc (b - suc a), rises-far a (b - suc a) (omega (arith, lt, le)))

pub steps-stand-at-places : StepsStandAtPlaces
unfolding instruction_at
steps-stand-at-places code place steps n step are e =
    let found = found-from code place 0 steps (listing code) are
    (λ a b lt le. rises code place steps are a b lt (omega (arith, le))) n step e in
    let number : 0 + n ≡ n = omega arith in
    record {
      instruction = found.instruction;
      found = ap (λ k. find (λ (i : Placed). i.place == place k) (listing code)) (sym number) ∙ found.found;
      begins = found.begins ∙ ap place number;
      ends = found.ends ∙ ap (λ k. place (k + 1)) number;
      is = found.is;
    }

-- ---- what the step at a place does

-- a world whose operations are sound can run code
pub can-run : (w : Linked) → IsWorld w → OperationsAreSound w → IsExecutable w
can-run w world sound = grind (arith)

pub steps-execute : (w : Linked) → IsExecutable w → StepsExecute w
steps-execute w world t m place steps n q step op runs method are e at resolves =
    let code : List ℕ = code_at w (top t).method in
    let here = steps-stand-at-places code place steps n step are e in
    let declared : IfSome m.sig.result (IsDeclared w.classes) =
    All-slice_get (λ (r : MethodRec). IfSome r.sig.result (IsDeclared w.classes)) w.methods (top t).method m world.results method in
    let named : Resolves w m (place n) here.instruction.insn (Ok (operation_renamed (λ k. place n) op)) =
    resolves-renamed w m world.sound declared (λ k. place n) q here.instruction.insn step.insn op here.is.same resolves in
    let own : Resolves w m here.instruction.place here.instruction.insn (Ok (renamed_new (λ k. place n) op)) =
    subst (λ o. Resolves w m here.instruction.place here.instruction.insn (Ok o)) (same-new (λ k. place n) op)
    (subst (λ p. Resolves w m p here.instruction.insn (Ok (operation_renamed (λ k. place n) op))) (sym here.begins) named) in
    record {
      instruction = here.instruction;
      executes = grind (arith);
      ends = here.ends;
      is = here.is;
    }
