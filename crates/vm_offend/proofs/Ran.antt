-- A run of words that took steps leaves the words of what the run of tagged cells comes to.
use Rattle.std.proofs.Common.{◌≡◌, ℕ, List, None, sym, ap, ◌∙◌, subst, arith}
use Rattle.std.specs.Prelude.{Option, IfSome, option_map, unwrap_or}
use Rattle.std.proofs.lemmas.List.{length-map}
use Rattle.jc_base.specs.declared.ty.Ty.TheVariants.{Bottom}
use Rattle.jc_base.specs.World.{Linked}
use Rattle.vm_store.specs.declared.cell.Cell.{Cell}
use Rattle.vm_store.specs.Cells.{tagged, words}
use Rattle.vm_store.specs.State.{State, IsRunning, map_frame, erased}
use Rattle.vm_store.specs.Cells.{word_of}
use Rattle.vm_step.specs.declared.ending.Ending.{Ending}
use Rattle.vm_step.specs.declared.ending.Ending.TheVariants as endings
use Rattle.vm_step.specs.declared.ending.Plain.{Plain}
use Rattle.vm_step.specs.declared.ending.Plain.TheVariants.{Spent}
use Rattle.vm_step.specs.Laws.{StepsAreOne, RunsExist, RunsGoOn}
use Rattle.vm_step.specs.Raising.{Outcome, running}
use Rattle.vm_step.specs.Run.{Runs}
use Rattle.vm_run.specs.Turn.{with_ending}
use Rattle.law_sound.specs.Soundness.{HasTypings, IsTypedOutcome, RunsAreSafe, StartsAreTyped}
use Rattle.vm_check.specs.Shaped.{IsShaped}
use Rattle.vm_check.specs.Machine.{StepsStay}
use Rattle.law_erasure.specs.Erasure.{erased_outcome, TypedRunsFollow}
use Rattle.vm_defend.specs.Begun.{StartsAreShaped}
use Rattle.vm_defend.specs.Held.{answer}
use Rattle.vm_defend.specs.Safe.{IsPlainEnding}
use Rattle.vm_offend.specs.Words.{AreLaid, words_state}
use Rattle.vm_offend.specs.Typed.{AreTypedWords}
use Rattle.vm_offend.specs.declared.machine.Machine.{Machine}
use Rattle.vm_offend.specs.Held.{IsOutcomeOfRun, AreWordsOf, IsRunOf, Follows}
use Rattle.vm_offend.proofs.Reached.{reached-on, reached-safe, reached-runs, reached-keeps}
use Rattle.vm_offend.proofs.Following.{going-on, plain-ending, ending-is, answers}

-- what the steps left in the memory: a machine of before, and one of after
pub record Ran (w : Linked) (m : Machine) (ram heap statics : List ℕ) (budget : ℕ) (n : Machine) (frames objects fields : List ℕ) (plain : Plain)
    : Type 0 where
  pub going : m.ending ≡ None
  pub ending : Option Ending
  pub runs : Runs words w budget (words_state w.methods ram heap statics m.counts) (with_ending ending (words_state w.methods frames objects fields n.counts))
  pub shaped : IsShaped w (words_state w.methods frames objects fields n.counts)
  pub laid : AreLaid w frames objects n.counts
  pub kept : option_map endings.Plain n.ending ≡ ending
  pub answer_is : plain ≡ unwrap_or n.ending Spent

module _ (w : Linked) (has : HasTypings w Bottom) (starts : StartsAreTyped w) (safe : RunsAreSafe w) where
  -- ---- before the steps

  -- the state of tagged cells of a run that has not ended
  pub held-state : (m : Machine) (ram heap statics : List ℕ) → m.ending ≡ None → (o : Outcome Cell) → AreWordsOf w m ram heap statics o
      → (t : State Cell) × (o ≡ running t) × (words_state w.methods ram heap statics m.counts ≡ erased t)
  held-state m ram heap statics going o held =
      going-on (option_map endings.Plain m.ending) (words_state w.methods ram heap statics m.counts) o (ap (option_map endings.Plain) going) held.words

  pub can-run : StepsAreOne tagged w → RunsExist w → (m : Machine) (ram heap statics : List ℕ) → m.ending ≡ None
      → (r : IsRunOf w m ram heap statics)
      → (s : State ℕ) → s ≡ words_state w.methods ram heap statics m.counts → IsRunning s
  can-run one exist m ram heap statics going r s is =
      let t = held-state m ram heap statics going r.outcome r.words in
      let runs : IsRunning t.0 = reached-runs w one exist t.0 (subst (IsOutcomeOfRun w) t.1 r.reached) in
      subst (λ (x : State ℕ). IsRunning x) (sym (is ∙ t.2)) (omega (arith, runs, length-map t.0.frames (map_frame word_of)))

  pub run-keeps : StartsAreShaped w → StepsStay tagged (IsShaped w) w → (m : Machine) (ram heap statics : List ℕ) → m.ending ≡ None
      → (r : IsRunOf w m ram heap statics)
      → (s : State ℕ) → s ≡ words_state w.methods ram heap statics m.counts → AreTypedWords w s
  run-keeps shapes stay m ram heap statics going r s is =
      let t = held-state m ram heap statics going r.outcome r.words in
      reached-keeps w has starts safe shapes stay t.0 s (is ∙ t.2) (subst (IsOutcomeOfRun w) t.1 r.reached)

  -- ---- after them

  gone : TypedRunsFollow w → (budget : ℕ) (s z : State ℕ) (e : Option Ending) (t : State Cell) → s ≡ erased t → IsOutcomeOfRun w (running t)
      → Runs words w budget s (with_ending e z)
      → (o : Outcome Cell) × Runs tagged w budget t o × (with_ending e z ≡ erased_outcome o) × IsTypedOutcome w has.typings o
  gone follow budget s z e t is r runs =
      let typed = reached-safe w has starts safe (running t) r in
      let there = follow has.typings budget t (with_ending e z) has.are typed (subst (λ (x : State ℕ). Runs words w budget x (with_ending e z)) is runs) in
      (there.0, there.1, there.2, safe has.typings budget t there.0 has.are typed there.1)

  pub run-plain : TypedRunsFollow w → (m : Machine) (ram heap statics : List ℕ) → m.ending ≡ None → (r : IsRunOf w m ram heap statics)
      → (budget : ℕ) (s z : State ℕ) (e : Option Ending) → s ≡ words_state w.methods ram heap statics m.counts
      → Runs words w budget s (with_ending e z) → IfSome e IsPlainEnding
  run-plain follow m ram heap statics going r budget s z e is runs =
      let t = held-state m ram heap statics going r.outcome r.words in
      let g = gone follow budget s z e t.0 (is ∙ t.2) (subst (IsOutcomeOfRun w) t.1 r.reached) runs in
      plain-ending w has.typings e z g.0 g.2 g.3

  module _ (follow : TypedRunsFollow w) (m : Machine) (ram heap statics : List ℕ) (budget : ℕ) (n : Machine) (frames objects fields : List ℕ)
      (plain : Plain)
      (ran : Ran w m ram heap statics budget n frames objects fields plain)
    where
      pub follows-each : (o : Outcome Cell) → IsOutcomeOfRun w o → AreWordsOf w m ram heap statics o → Follows w budget o n frames objects fields plain
      follows-each o r held =
          let t = held-state m ram heap statics ran.going o held in
          let s : State ℕ = words_state w.methods ram heap statics m.counts in
          let z : State ℕ = words_state w.methods frames objects fields n.counts in
          let g = gone follow budget s z ran.ending t.0 t.2 (subst (IsOutcomeOfRun w) t.1 r) ran.runs in
          subst (λ (x : Outcome Cell). Follows w budget x n frames objects fields plain) (sym t.1)
          (record {
            after = g.0;
            runs = g.1;
            words = record {
              sized = record { ram_length = ran.laid.ram_length; heap_length = ran.laid.heap_length; statics_length = ran.shaped.statics };
              laid = ran.laid;
              words = ap (λ (e : Option Ending). with_ending e z) ran.kept ∙ g.2;
            };
            answers = ap answer (ending-is ran.ending z g.0 g.2 ∙ sym ran.kept) ∙ (answers n.ending ∙ ap endings.Plain (sym ran.answer_is));
          })

      pub run-after : RunsGoOn tagged w → IsRunOf w m ram heap statics → IsRunOf w n frames objects fields
      run-after on r =
          let f = follows-each r.outcome r.reached r.words in
          record { outcome = f.after; reached = reached-on w on r.outcome f.after budget r.reached f.runs; words = f.words }
