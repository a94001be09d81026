use Rattle.std.proofs.Common.{◌≡◌, ◌<◌, ℕ, length, sym, ap, ◌∙◌, subst, Some, None}
use Rattle.std.specs.Prelude.{slice_get, IsSomeAnd, Ok, Err}
use Rattle.jc_ops.specs.Resolve.{Resolves}
use Rattle.jc_ops.specs.Sound.{IsSound}
use Rattle.vm_store.specs.State.{State, top}
use Rattle.vm_step.specs.Methods.{code_at, instruction_at}
use Rattle.vm_step.specs.Step.{Steps, misplaced, unresolved, performs}
use Rattle.vm_run.specs.Known.{KnowsAt}
use Rattle.jc_base.proofs.Lists.{IsSomeAnd-some}
use Rattle.vm_run.proofs.Performing.{top-frame, fetched, knows-here, none-tests, fault-tests}
use Rattle.vm_run.proofs.running.step.Goals as goal

pub fetch-requires-clause-method : goal.fetch-requires-clause-method
fetch-requires-clause-method g c =
    let w = c.args.world.now in
    let s : State g.row.M-Cell.Denot = g.M.Store.state c.args.store.now in
    subst (λ (n : ℕ). n < length w.methods) (sym c.method-method.ensures)
    (top-frame w s (c.tests_suffice.ensures.shape s c.requires.keeps) c.requires.running).known

pub fetch-requires-clause-places : goal.fetch-requires-clause-places
fetch-requires-clause-places g c =
    let w = c.args.world.now in
    let s : State g.row.M-Cell.Denot = g.M.Store.state c.args.store.now in
    let here = knows-here w g.M.Cell.CellForm.cells g.M.Store.stack_room (g.M.Machine.keeps w) s c.args.known c.requires.keeps c.requires.running
    c.steps_stand.ensures.verified c.requires.places in
    subst (λ (p : ℕ). KnowsAt w c.args.known c.method-method.result p) (sym c.place.ensures)
    (subst (λ (n : ℕ). KnowsAt w c.args.known n (top s).place) (sym c.method-method.ensures) here)

pub returns-in-None-clause-steps : goal.returns-in-None-clause-steps
returns-in-None-clause-steps g c =
    let w = c.args.world.now in
    let k = g.M.Cell.CellForm.cells in
    let s : State g.row.M-Cell.Denot = g.M.Store.state c.args.store.now in
    let here = knows-here w k g.M.Store.stack_room (g.M.Machine.keeps w) s c.args.known c.requires.keeps c.requires.running c.steps_stand.ensures.verified
    c.requires.places in
    let none : instruction_at (code_at w (top s).method) (top s).place ≡ None =
    sym (c.in-None.ensures.is
    ∙ (ap (λ (n : ℕ). instruction_at (code_at w n) c.place.result) c.method-method.ensures
    ∙ ap (λ (p : ℕ). instruction_at (code_at w (top s).method) p) c.place.ensures)) in
    subst (Steps k w s) (sym c.finish.ensures.outcome)
    (misplaced (none-tests w k c.args.known (top s).method (top s).place c.requires.places here none) c.requires.running none)

pub returns-in-Err-clause-steps : goal.returns-in-Err-clause-steps
returns-in-Err-clause-steps g c =
    let w = c.args.world.now in
    let k = g.M.Cell.CellForm.cells in
    let s : State g.row.M-Cell.Denot = g.M.Store.state c.args.store.now in
    let i = c.in-Some.placed in
    let there : instruction_at (code_at w (top s).method) (top s).place ≡ Some i =
    sym (c.in-Some.ensures.is
    ∙ (ap (λ (n : ℕ). instruction_at (code_at w n) c.place.result) c.method-method.ensures
    ∙ ap (λ (p : ℕ). instruction_at (code_at w (top s).method) p) c.place.ensures)) in
    let names = subst (λ (n : ℕ). IsSomeAnd (slice_get w.methods n) (λ m. Resolves w m i.place i.insn (Err c.in-Err.field-0))) c.method-method.ensures
    c.in-Err.ensures.resolves in
    let m = IsSomeAnd-some (λ m. Resolves w m i.place i.insn (Err c.in-Err.field-0)) (slice_get w.methods (top s).method) names in
    let fetches = fetched w s m.0 i c.requires.running m.1 there in
    subst (Steps k w s) (sym c.finish-in-Err.ensures.outcome)
    (unresolved (fault-tests w k g.M.Store.stack_room (g.M.Machine.keeps w) s c.args.known m.0 i c.in-Err.field-0 c.requires.keeps c.requires.running
    c.steps_stand.ensures.verified
    c.requires.places fetches m.2) fetches c.in-Err.field-0 m.2)

pub perform-requires-clause-instruction : goal.perform-requires-clause-instruction
perform-requires-clause-instruction g c =
    let w = c.args.world.now in
    let s : State g.row.M-Cell.Denot = g.M.Store.state c.args.store.now in
    sym (c.in-Some.ensures.is
    ∙ (ap (λ (n : ℕ). instruction_at (code_at w n) c.place.result) c.method-method.ensures
    ∙ ap (λ (p : ℕ). instruction_at (code_at w (top s).method) p) c.place.ensures))

pub perform-requires-clause-resolves : goal.perform-requires-clause-resolves
perform-requires-clause-resolves g c =
    let w = c.args.world.now in
    let i = c.in-Some.placed in
    subst (λ (n : ℕ). IsSomeAnd (slice_get w.methods n) (λ m. Resolves w m i.place i.insn (Ok c.in-Ok.operation))) c.method-method.ensures
    c.in-Ok.ensures.resolves

pub perform-requires-clause-sound : goal.perform-requires-clause-sound
perform-requires-clause-sound g c =
    let w = c.args.world.now in
    let i = c.in-Some.placed in
    subst (λ (n : ℕ). IsSomeAnd (slice_get w.methods n) (λ m. IsSound w m i.place c.in-Ok.operation)) c.method-method.ensures c.in-Ok.ensures.sound

pub returns-in-Ok-clause-steps : goal.returns-in-Ok-clause-steps
returns-in-Ok-clause-steps g c =
    let w = c.args.world.now in
    let k = g.M.Cell.CellForm.cells in
    let s : State g.row.M-Cell.Denot = g.M.Store.state c.args.store.now in
    let i = c.in-Some.placed in
    let there : instruction_at (code_at w (top s).method) (top s).place ≡ Some i =
    sym (c.in-Some.ensures.is
    ∙ (ap (λ (n : ℕ). instruction_at (code_at w n) c.place.result) c.method-method.ensures
    ∙ ap (λ (p : ℕ). instruction_at (code_at w (top s).method) p) c.place.ensures)) in
    let names = subst (λ (n : ℕ). IsSomeAnd (slice_get w.methods n) (λ m. Resolves w m i.place i.insn (Ok c.in-Ok.operation))) c.method-method.ensures
    c.in-Ok.ensures.resolves in
    let m = IsSomeAnd-some (λ m. Resolves w m i.place i.insn (Ok c.in-Ok.operation)) (slice_get w.methods (top s).method) names in
    performs (fetched w s m.0 i c.requires.running m.1 there) c.in-Ok.operation m.2 c.perform.ensures.outcome
