use Rattle.std.proofs.Common.{ℕ, ap, rules}
use Rattle.std.specs.Prelude.{Err, Ok}
use Rattle.std.proofs.Math.ListN.{set}
use Rattle.std.specs.Vec.{with_item}
use Rattle.jc_control.specs.Subject.{method, world_of}
use Rattle.jc_control.specs.WellFormed.{HasInstruction}
use Rattle.jc_decode.specs.declared.insn.Placed.{Placed}
use Rattle.xf_allot.specs.declared.building.Building.{Building}
use Rattle.xf_allot.specs.Building.{HasPlace}
use Rattle.xf_allot.specs.Graph.{Adds, IsOut}
use Rattle.xf_allot.proofs.Placing.{place-none, place-one, resolves-there, unresolved}
use Rattle.xf_live.proofs.Oks.{on-ok}
use Rattle.xf_allot.proofs.building.Building.add_instruction.Goals as goal

pub returns-in-Ok-resolve : goal.returns-in-Ok-resolve
returns-in-Ok-resolve c =
    let w = world_of c.args.subject.now in
    let m = method c.args.subject.now in
    let i : Placed = record { place = c.args.place; insn = c.in-Ok.insn } in
    let op = c.in-Ok-resolve.operation in
    let old = c.args.self.now in
    let u = c.uses_of.result in
    let new : Building = record { uses = with_item old.uses c.from-in-Ok-resolve.result u; edges = c.leave.new.edges } in
    let stands : HasInstruction m.code i = search rules in
    on-ok (Adds (IsOut m i) old.edges.items new.edges.items) (HasPlace w m i.place old new) c.leave.result
    (λ adds. place-one w m i op u old new c.args.subject.now.listed c.requires.awaited
    (record { stands = stands; resolves = resolves-there w m i.place i.insn (Ok op) c.args.subject.now.there c.in-Ok-resolve.ensures.resolves })
    c.uses_of.ensures (ap (λ (n : ℕ). set old.uses.items n u) c.from-in-Ok-resolve.ensures) adds) c.leave.ensures

pub returns-in-Err : goal.returns-in-Err
returns-in-Err c =
    let w = world_of c.args.subject.now in
    let m = method c.args.subject.now in
    let i : Placed = record { place = c.args.place; insn = c.in-Ok.insn } in
    let stands : HasInstruction m.code i = search rules in
    place-none w m i.place c.args.self.now c.requires.awaited
    (unresolved w m i c.in-Err.field-0 c.args.subject.now.listed stands
    (resolves-there w m i.place i.insn (Err c.in-Err.field-0) c.args.subject.now.there c.in-Err.ensures.resolves))
