use Rattle.std.proofs.Common.{◌≡◌, ℕ, sym, ap, ◌∙◌, subst, rules}
use Rattle.jc_base.specs.World.{Linked}
use Rattle.std.specs.Prelude.{List}
use Rattle.vm_store.specs.declared.cell.Cell.{Cell}
use Rattle.vm_store.specs.Cells.{words}
use Rattle.vm_store.specs.State.{State}
use Rattle.vm_step.specs.Raising.{Outcome}
use Rattle.vm_step.specs.Run.{Runs}
use Rattle.vm_run.specs.Turn.{with_ending}
use Rattle.vm_check.specs.Shaped.{IsShaped}
use Rattle.vm_offend.specs.declared.words.Counts.{Counts}
use Rattle.vm_offend.specs.WordStore.{state_in_words}
use Rattle.vm_offend.specs.Words.{AreLaid, words_state}
use Rattle.vm_offend.specs.declared.machine.Machine.{Machine}
use Rattle.vm_offend.proofs.Accepting.{accepted-has}
use Rattle.vm_offend.specs.Held.{IsOutcomeOfRun, AreWordsOf, IsRunOf, Follows}
use Rattle.vm_offend.proofs.Moved.{moved}
use Rattle.vm_offend.proofs.Ran.{Ran, can-run, run-keeps, run-plain, follows-each, run-after}
use Rattle.vm_offend.proofs.machine.Machine.go_on.Goals as goal
use Rattle.vm_offend.proofs.machine.Machine.go_on.Goals.{After-unwrap_or}

pub run-ending-requires-clause-running : goal.run-ending-requires-clause-running
run-ending-requires-clause-running c =
    let w = c.args.world.now in
    can-run w (accepted-has w c.typed_code_never_fails.ensures.typings c.requires.accepted) c.typed_code_never_fails.ensures.starts
    c.typed_code_never_fails.ensures.runs c.runs_are_runs_of_steps.ensures.tagged_steps c.runs_exist.ensures
    c.args.self.now c.args.ram.now c.args.heap.now c.args.statics.now c.requires.going c.requires.run _ c.over-store.ensures.state

pub run-ending-requires-clause-keeps : goal.run-ending-requires-clause-keeps
run-ending-requires-clause-keeps c =
    let w = c.args.world.now in
    run-keeps w (accepted-has w c.typed_code_never_fails.ensures.typings c.requires.accepted) c.typed_code_never_fails.ensures.starts
    c.typed_code_never_fails.ensures.runs c.starts_are_shaped.ensures c.tests_suffice.ensures.stays
    c.args.self.now c.args.ram.now c.args.heap.now c.args.statics.now c.requires.going c.requires.run _ c.over-store.ensures.state

pub plain-self-requires : goal.plain-self-requires
plain-self-requires c =
    let w = c.args.world.now in
    run-plain w (accepted-has w c.typed_code_never_fails.ensures.typings c.requires.accepted) c.typed_code_never_fails.ensures.starts
    c.typed_code_never_fails.ensures.runs c.words_run_alike.ensures.runs_follow
    c.args.self.now c.args.ram.now c.args.heap.now c.args.statics.now c.requires.going c.requires.run c.args.budget _ _ c.run-ending.result
    c.over-store.ensures.state c.run-ending.ensures.runs

ran : (c : After-unwrap_or) → Ran c.args.world.now c.args.self.now c.args.ram.now c.args.heap.now c.args.statics.now c.args.budget
    (record { counts = c.counts-self.result; ending = c.plain-self.result }) c.run-ending.new.store.ram.now c.run-ending.new.store.heap.now
    c.run-ending.new.store.statics.now c.unwrap_or.result
ran c =
    let w = c.args.world.now in
    let z = c.run-ending.new.store in
    let now : State ℕ = words_state z.world.now.methods z.ram.now z.heap.now z.statics.now z.counts in
    let after : State ℕ = words_state w.methods z.ram.now z.heap.now z.statics.now c.counts-self.result in
    let same : now ≡ after =
    ap (λ (v : Linked). words_state v.methods z.ram.now z.heap.now z.statics.now z.counts) c.run-ending.ensures.world
    ∙ ap (λ (n : Counts). words_state w.methods z.ram.now z.heap.now z.statics.now n) (sym c.counts-self.ensures) in
    record {
      going = c.requires.going;
      ending = c.run-ending.result;
      runs = subst (λ (x : State ℕ). Runs words w c.args.budget x (with_ending c.run-ending.result after)) c.over-store.ensures.state
          (subst (λ (x : State ℕ). Runs words w c.args.budget (state_in_words c.over-store.result) (with_ending c.run-ending.result x)) same
          c.run-ending.ensures.runs);
      shaped = subst (IsShaped w) same c.run-ending.ensures.shaped;
      laid = subst (λ (n : Counts). AreLaid w z.ram.now z.heap.now n) (sym c.counts-self.ensures)
          (subst (λ (v : Linked). AreLaid v z.ram.now z.heap.now z.counts) c.run-ending.ensures.world c.run-ending.ensures.well);
      kept = c.plain-self.ensures;
      answer_is = c.unwrap_or.ensures;
    }

pub returns-clause-follows : goal.returns-clause-follows
returns-clause-follows c =
    let w = c.args.world.now in
    let z = c.run-ending.new.store in
    let m : Machine = record { counts = c.counts-self.result; ending = c.plain-self.result } in
    moved (λ (x y u : List ℕ). (o : Outcome Cell) → IsOutcomeOfRun w o → AreWordsOf w c.args.self.now c.args.ram.now c.args.heap.now c.args.statics.now o
    → Follows w c.args.budget o m x y u c.unwrap_or.result) _ _ _ z.ram.now z.heap.now z.statics.now (search rules) (search rules) (search rules)
    (follows-each w (accepted-has w c.typed_code_never_fails.ensures.typings c.requires.accepted) c.typed_code_never_fails.ensures.starts
    c.typed_code_never_fails.ensures.runs c.words_run_alike.ensures.runs_follow
    c.args.self.now c.args.ram.now c.args.heap.now c.args.statics.now c.args.budget m z.ram.now z.heap.now z.statics.now c.unwrap_or.result
    (ran (goal.at.returns-clause-follows c).After-unwrap_or))

pub returns-clause-run : goal.returns-clause-run
returns-clause-run c =
    let w = c.args.world.now in
    let z = c.run-ending.new.store in
    let m : Machine = record { counts = c.counts-self.result; ending = c.plain-self.result } in
    moved (IsRunOf w m) _ _ _ z.ram.now z.heap.now z.statics.now (search rules) (search rules) (search rules)
    (run-after w (accepted-has w c.typed_code_never_fails.ensures.typings c.requires.accepted) c.typed_code_never_fails.ensures.starts
    c.typed_code_never_fails.ensures.runs c.words_run_alike.ensures.runs_follow
    c.args.self.now c.args.ram.now c.args.heap.now c.args.statics.now c.args.budget m z.ram.now z.heap.now z.statics.now c.unwrap_or.result
    (ran (goal.at.returns-clause-run c).After-unwrap_or)
    c.runs_are_runs_of_steps.ensures.tagged_on c.requires.run)
