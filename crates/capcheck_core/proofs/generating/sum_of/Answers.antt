-- no method is refused, and the runs in the first words of those for static fields are runs in the memory of the card
use Rattle.std.proofs.Common.{sym, subst, ◌∙◌}
use Rattle.std.specs.Prelude.{IfOk, OnErr}
use Rattle.card_verify.specs.Answers.{AreAccepted}
use Rattle.capcheck_core.specs.Generate.{AreRun, IsKeptOrBegun}
use Rattle.capcheck_core.specs.Outside.{card_words}
use Rattle.capcheck_core.proofs.Cardings.{none_refused}
use Rattle.capcheck_core.proofs.Generates.{run_in_card, begun_in_card}
use Rattle.capcheck_core.proofs.generating.sum_of.Goals as goal

pub unreachable-requires : goal.unreachable-requires
unreachable-requires c =
    none_refused c.args.world.now c.in-Err.method c.in-Err.field-0-1 c.code-code.result.now c.requires.carded c.in-Err.ensures.refused c.code-code.ensures.is
    c.code-code.ensures.len

pub returns-clause-runs : goal.returns-clause-runs
returns-clause-runs c =
    let w = c.args.world.now in
    let long = c.run_all.ensures.length ∙ c.split_at_mut-fields.ensures.front_len ∙ c.field_words-count.ensures.fields in
    run_in_card w c.run_all.new.ram c.run_all.new.heap c.run_all.new.statics c.split_at_mut-fields.result.1.now c.run_all.result long
    c.requires.carded (subst AreAccepted c.in-Ok.ensures.world c.in-Ok.ensures.accepted) c.typed_code_never_fails.ensures.fault_free
    (subst (λ v. IfOk c.run_all.result (AreRun v (card_words c.run_all.new.ram c.run_all.new.heap c.run_all.new.statics))) c.in-Ok.ensures.world
    c.run_all.ensures.runs)

pub returns-clause-begun : goal.returns-clause-begun
returns-clause-begun c =
    let w = c.args.world.now in
    let fields = c.split_at_mut-fields.result.0.now in
    let long = c.run_all.ensures.length ∙ c.split_at_mut-fields.ensures.front_len ∙ c.field_words-count.ensures.fields in
    begun_in_card w c.run_all.new.ram c.run_all.new.heap c.run_all.new.statics c.split_at_mut-fields.result.1.now c.args.statics.now
    (card_words c.args.ram.now c.args.heap.now fields) c.run_all.result long (sym c.split_at_mut-fields.ensures.value)
    (subst
    (λ v. OnErr c.run_all.result
    (IsKeptOrBegun v (card_words c.args.ram.now c.args.heap.now fields) (card_words c.run_all.new.ram c.run_all.new.heap c.run_all.new.statics)))
    c.in-Ok.ensures.world c.run_all.ensures.begun)
