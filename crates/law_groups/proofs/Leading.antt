-- A goto to a label leads to the step for which the label stands.
use Rattle.std.proofs.Common.{◌≡◌, ℕ, ◌+◌, ◌<◌, ◌≤◌, true, List, [], ◌∷◌, length, map, refl, sym}
use Rattle.std.proofs.Common.{ap, ◌∙◌, subst, arith}
use Rattle.std.specs.Prelude.{ℤ, pos, Some, None, Ok, nat_lt, slice_get}
use Rattle.std.proofs.lemmas.Bool.{le-ltb}
use Rattle.jc_base.specs.declared.record.MethodRec.{MethodRec}
use Rattle.jc_base.specs.World.{Linked}
use Rattle.jc_base.proofs.Lists.{slice_get-some}
use Rattle.jc_decode.specs.declared.insn.Case.{Case}
use Rattle.jc_decode.specs.declared.insn.Placed.{Placed}
use Rattle.jc_decode.specs.Listing.{jumps, listing, target, targets}
use Rattle.jc_decode.specs.Standing.{AreSteps}
use Rattle.jc_decode.specs.Symbols.{Step, jump}
use Rattle.jc_ops.specs.declared.operation.Branch.TheVariants.{Always}
use Rattle.jc_ops.specs.declared.operation.Operation.TheVariants as ops
use Rattle.jc_ops.specs.Row.{table, row_at, unused, by_sort, by_width, by_kind}
use Rattle.jc_ops.specs.Row.{first_four, by_register, literals, binaries, orders_all, branching}
use Rattle.jc_ops.specs.Resolve.{resolved, Resolves}
use Rattle.vm_store.specs.declared.cell.Cell.{Cell}
use Rattle.vm_store.specs.Cells.{tagged}
use Rattle.vm_store.specs.State.{State, Frame, Object, top, with_place}
use Rattle.vm_step.specs.declared.ending.Fault.TheVariants.{JumpFault, StackFault}
use Rattle.vm_step.specs.Act.{Act, jumps as jumping}
use Rattle.vm_step.specs.Methods.{code_at, max_stack_of}
use Rattle.vm_step.specs.Performed.{act}
use Rattle.vm_step.specs.Raising.{running}
use Rattle.vm_step.specs.Settled.{fault_target, is_target_place, is_there, settled, unless_fault}
use Rattle.vm_step.specs.Step.{Steps, performs}
use Rattle.vm_step.specs.Tests.{fault_before}
use Rattle.law_sound.proofs.Going.{jumps-on}
use Rattle.law_sound.proofs.Places.{instruction-there}
use Rattle.law_homes.specs.Moves.{IsExecutable}
use Rattle.law_sound.proofs.Passing.{passes-before}
use Rattle.law_sound.proofs.Finish.{pick-yes}
use Rattle.law_homes.specs.Laws.{ExecutesStep}
use Rattle.law_homes.proofs.Standing.{steps-execute, steps-stand-at-places}
use Rattle.xf_emission.specs.Mnemonics.{goto_w}

-- a jump's only target by its operand
module _ (code : List ℕ) (j : Placed) (to : ℤ) where
  only-target : (cs : List Case) → target j.place j.insn.x ∷ map (λ (c : Case). target j.place c.offset) cs ≡ to ∷ []
      → target j.place j.insn.x ≡ to
  only-target cs e = cc

  pub target-is : jumps j.insn.op ≡ true → targets code j ≡ to ∷ [] → target j.place j.insn.x ≡ to
  unfolding targets
  target-is is e = grind (arith, only-target)

goto-resolves : (w : Linked) (m : MethodRec) (q : ℕ) → Resolves w m q (jump goto_w) (Ok (ops.Branch Always))
unfolding row_at table by_sort by_width by_kind first_four by_register literals binaries orders_all branching unused
goto-resolves w m q = refl

module _
    (w : Linked) (world : IsExecutable w) (place : ℕ → ℕ) (all : List Step)
    (f : Frame Cell) (below : List (Frame Cell)) (heap : List (Object Cell)) (statics : List Cell) (m : MethodRec) (n k : ℕ) where
  abbrev t : State Cell
  t = record { frames = f ∷ below; heap = heap; statics = statics }

  abbrev gone : Step
  gone = record { insn = jump goto_w; targets = k ∷ []; keys = [] }

  goto-there :
      slice_get w.methods f.method ≡ Some m
      → AreSteps (code_at w f.method) place 0 all (listing (code_at w f.method))
      → slice_get all n ≡ Some gone
      → f.place ≡ place n
      → k < length all
      → length f.stack ≤ max_stack_of w f.method
      → Steps tagged w t (running (with_place t (place k)))
  goto-there method are found at inside room =
      let code : List ℕ = code_at w f.method in
      let ex : ExecutesStep w t place n gone (ops.Branch Always) =
      steps-execute w world t m place all n 0 gone (ops.Branch Always) (omega arith) method are found at (goto-resolves w m 0) in
      let j = ex.instruction in
      let op = ops.Branch Always in
      let jumping_on = jumps-on w ex.executes.method j.place j.insn op ex.executes.resolved refl in
      let to : target j.place j.insn.x ≡ pos (place k) = target-is code j (pos (place k)) jumping_on ex.is.leads in
      let here : j.place ≡ f.place = (instruction-there code f.place j ex.executes.fetched.instruction).at in
      let own : target f.place j.insn.x ≡ pos (place k) = subst (λ p. target p j.insn.x ≡ pos (place k)) here to in
      let s = slice_get-some all k inside in
      let stands = steps-stand-at-places code place all k s.0 are s.1 in
      let before : fault_before tagged w op t ≡ None = passes-before w world.chains f below heap statics op tt in
      let there : is_target_place code (pos (place k)) ≡ true = ap is_there stands.found in
      let after : fault_target tagged w t (pos (place k)) ≡ None =
      pick-yes (Some StackFault) (Some JumpFault) (nat_lt (max_stack_of w f.method) (length f.stack)) (is_target_place code (pos (place k)))
      (le-ltb (max_stack_of w f.method) (length f.stack) room) there in
      let does : act tagged w j.insn op t ≡ jumping (pos (place k)) t = ap (λ z. jumping z t) own in
      performs ex.executes.fetched op ex.executes.resolved
      (sym (ap (λ o. unless_fault t o (settled tagged w (j.place + j.insn.len) t (act tagged w j.insn op t))) before
      ∙ (ap (λ (a : Act Cell). settled tagged w (j.place + j.insn.len) t a) does
      ∙ ap (λ o. unless_fault t o (running (with_place t (place k)))) after)))

-- of any state
pub goto-steps :
    (w : Linked) → IsExecutable w → (place : ℕ → ℕ) (all : List Step) (t : State Cell) (m : MethodRec) (n k : ℕ)
    → 0 < length t.frames
    → slice_get w.methods (top t).method ≡ Some m
    → AreSteps (code_at w (top t).method) place 0 all (listing (code_at w (top t).method))
    → slice_get all n ≡ Some (record { insn = jump goto_w; targets = k ∷ []; keys = [] })
    → (top t).place ≡ place n
    → k < length all
    → length (top t).stack ≤ max_stack_of w (top t).method
    → Steps tagged w t (running (with_place t (place k)))
goto-steps w world place all t m n k runs method are found at inside room =
    by t.frames t.heap t.statics runs method are at room
  where
    by :
        (fs : List (Frame Cell)) (heap : List (Object Cell)) (statics : List Cell)
        → 0 < length fs
        → slice_get w.methods (top (record { frames = fs; heap = heap; statics = statics })).method ≡ Some m
        → AreSteps (code_at w (top (record { frames = fs; heap = heap; statics = statics })).method) place 0 all
        (listing (code_at w (top (record { frames = fs; heap = heap; statics = statics })).method))
        → (top (record { frames = fs; heap = heap; statics = statics })).place ≡ place n
        → length (top (record { frames = fs; heap = heap; statics = statics })).stack
        ≤ max_stack_of w (top (record { frames = fs; heap = heap; statics = statics })).method
        → Steps tagged w (record { frames = fs; heap = heap; statics = statics })
        (running (with_place (record { frames = fs; heap = heap; statics = statics }) (place k)))
    by [] heap statics runs method are at room = absurd (omega (arith, runs))
    by (f ∷ below) heap statics runs method are at room =
        goto-there w world place all f below heap statics m n k method are found at inside room
