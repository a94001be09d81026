use Rattle.std.proofs.Common.{inl, inr, ⊎_elim, sym, ◌∙◌}
use Rattle.std.proofs.lemmas.Bool.{false≢true}
use Rattle.card_verify.specs.Walk.{IsShared}
use Rattle.card_verify.proofs.Landing.{put-depth, landed-caught, mislanded-entry, mislanded-room}
use Rattle.card_verify.proofs.verify.Verifier.enter.Goals as goal
use Rattle.card_verify.proofs.verify.Verifier.enter.Goals.{then-arrival-via-then-arrival, then-arrival-via-else-arrival+then-is_marked}

pub returns-then-arrival-clause-wrong : goal.returns-then-arrival-clause-wrong
returns-then-arrival-clause-wrong g c =
    let shared : IsShared (g.M.Marks.marks c.args.marks.now) c.args.place c.args.arrival = elim c.then-arrival.branch [
      | then-arrival-via-then-arrival w ↦ inl w.if-arrival.true
      | then-arrival-via-else-arrival+then-is_marked w ↦ inr w.if-is_marked.ensures.told
    ] in
    mislanded-entry c.args.self.now (g.M.Marks.marks c.args.marks.now) c.args.place c.args.arrival c.args.stack.now c.put_alone-depth.new.stack
    c.put_alone-depth.result c.caught.result c.requires.entry c.caught.ensures c.requires.cells c.put_alone-depth.auto.stack c.put_alone-depth.ensures
    c.requires.fallen shared

pub returns-then-depth-eq0-clause-wrong : goal.returns-then-depth-eq0-clause-wrong
returns-then-depth-eq0-clause-wrong g c =
    mislanded-room c.args.self.now (g.M.Marks.marks c.args.marks.now) c.args.place c.args.arrival c.args.stack.now c.put_alone-depth.new.stack
    c.put_alone-depth.result c.caught.result c.requires.entry c.caught.ensures c.requires.cells c.put_alone-depth.auto.stack c.put_alone-depth.ensures
    c.requires.fallen c.if-depth-eq0.true (⊎_elim (λ falls. absurd (false≢true (sym c.if-arrival.false ∙ falls))) c.if-is_marked.ensures.told)

pub returns-clause-landed : goal.returns-clause-landed
returns-clause-landed g c =
    landed-caught c.args.self.now (g.M.Marks.marks c.args.marks.now) c.args.place c.args.arrival c.args.stack.now c.put_alone-depth.new.stack
    c.put_alone-depth.result c.caught.result c.requires.entry c.caught.ensures c.requires.cells c.put_alone-depth.auto.stack c.put_alone-depth.ensures
    c.requires.fallen c.if-depth-eq0.false (⊎_elim (λ falls. absurd (false≢true (sym c.if-arrival.false ∙ falls))) c.if-is_marked.ensures.told)

pub returns-clause-depth : goal.returns-clause-depth
returns-clause-depth g c =
    put-depth c.args.self.now (g.M.Marks.marks c.args.marks.now) c.args.place c.args.arrival c.args.stack.now c.put_alone-depth.new.stack
    c.put_alone-depth.result c.caught.result c.requires.entry c.caught.ensures c.requires.cells c.put_alone-depth.auto.stack c.put_alone-depth.ensures
    c.requires.fallen
