use Rattle.std.proofs.Common.{◌+◌, ◌<◌, ◌≤◌, ℕ, length, rules, sym, ap, ◌∙◌, subst}
use Rattle.std.specs.Prelude.{Option, slice_get, Ok}
use Rattle.jc_rules.proofs.Plans.{site-known}
use Rattle.jc_ops.specs.Resolve.{Resolves}
use Rattle.vm_store.specs.State.{State, top}
use Rattle.vm_step.specs.declared.ending.Fault.{Fault}
use Rattle.vm_step.specs.Methods.{max_stack_of}
use Rattle.vm_step.specs.Settled.{unless_fault, settled}
use Rattle.vm_act.specs.Lead.{told}
use Rattle.vm_step.specs.Performed.{act}
use Rattle.jc_base.proofs.Lists.{IsSomeAnd-some}
use Rattle.vm_run.proofs.Performing.{top-frame, can-test, methods-after, fetched, reaches-by, leads-on, same-outcome}
use Rattle.vm_run.proofs.running.perform.Goals as goal

pub method-requires-2 : goal.method-requires-2
method-requires-2 g c =
    let w = c.args.world.now in
    let s : State g.row.M-Cell.Denot = g.M.Store.state c.args.store.now in
    subst (λ (n : ℕ). n < length w.methods) (sym c.method.ensures)
    (top-frame w s (c.tests_suffice.ensures.shape s c.requires.keeps) c.requires.running).known

pub fault_before-requires-clause-tested : goal.fault_before-requires-clause-tested
fault_before-requires-clause-tested g c =
    let s : State g.row.M-Cell.Denot = g.M.Store.state c.args.store.now in
    can-test c.args.world.now g.M.Cell.CellForm.cells s (c.tests_suffice.ensures.shape s c.requires.keeps)
    (c.tests_suffice.ensures.known s c.requires.keeps) c.requires.running

pub fault_before-requires-clause-known : goal.fault_before-requires-clause-known
fault_before-requires-clause-known g c =
    let s : State g.row.M-Cell.Denot = g.M.Store.state c.args.store.now in
    site-known c.args.world.now c.args.placed.place (top s).method c.args.operation c.requires.sound

pub act-lead-requires-clause-reaches : goal.act-lead-requires-clause-reaches
act-lead-requires-clause-reaches g c =
    let s : State g.row.M-Cell.Denot = g.M.Store.state c.args.store.now in
    let most : max_stack_of c.args.world.now (top s).method ≤ 255 = search rules in
    reaches-by c.args.world.now g.M.Cell.CellForm.cells g.M.Store.stack_room (g.M.Machine.keeps c.args.world.now) c.tests_suffice.ensures.reaches s
    c.args.placed c.args.operation
    c.requires.keeps c.requires.running c.requires.instruction most c.requires.resolves (sym c.in-None.ensures)

pub settle-requires-clause-methods : goal.settle-requires-clause-methods
settle-requires-clause-methods g c =
    let s : State g.row.M-Cell.Denot = g.M.Store.state c.args.store.now in
    methods-after c.args.world.now s (g.M.Store.state c.act-lead.new.store) (c.tests_suffice.ensures.shape s c.requires.keeps) c.requires.running
    c.act-lead.ensures.frames

pub settle-requires-clause-leads : goal.settle-requires-clause-leads
settle-requires-clause-leads g c =
    let w = c.args.world.now in
    let k = g.M.Cell.CellForm.cells in
    let s : State g.row.M-Cell.Denot = g.M.Store.state c.args.store.now in
    let z : State g.row.M-Cell.Denot = g.M.Store.state c.act-lead.new.store in
    let m = IsSomeAnd-some (λ m. Resolves w m c.args.placed.place c.args.placed.insn (Ok c.args.operation)) (slice_get w.methods (top s).method)
    c.requires.resolves in
    leads-on w k g.M.Store.stack_room (g.M.Machine.keeps w) s z m.0 c.args.placed c.args.operation c.requires.keeps
    (c.tests_suffice.ensures.shape s c.requires.keeps) c.requires.running
    (fetched w s m.0 c.args.placed c.requires.running m.1 c.requires.instruction) m.2 c.steps_stand.ensures.room c.steps_stand.ensures.verified
    c.act-lead.ensures.frames
    c.args.known c.act-lead.result c.requires.places c.act-lead.ensures.act c.act-lead.ensures.stays

pub returns-in-None-clause-outcome : goal.returns-in-None-clause-outcome
returns-in-None-clause-outcome g c =
    let w = c.args.world.now in
    let k = g.M.Cell.CellForm.cells in
    let s : State g.row.M-Cell.Denot = g.M.Store.state c.args.store.now in
    let z : State g.row.M-Cell.Denot = g.M.Store.state c.act-lead.new.store in
    let next : ℕ = c.args.placed.place + c.args.placed.insn.len in
    let a = act k w c.args.placed.insn c.args.operation s in
    c.settle.ensures.outcome
    ∙ (ap (λ (n : ℕ). settled k w (n + c.args.placed.insn.len) z (told k w z c.act-lead.result)) c.from.ensures
    ∙ (same-outcome w k next s z c.act-lead.result a c.act-lead.ensures.act c.act-lead.ensures.stays
    ∙ ap (λ (o : Option Fault). unless_fault s o (settled k w next s a)) c.in-None.ensures))
