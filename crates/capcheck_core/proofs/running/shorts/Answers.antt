-- the first argument that is no short
use Rattle.std.proofs.Common.{◌≡◌, ◌<◌, length, ◌∙◌, rules, tests}
use Rattle.std.specs.List.{take-map}
use Rattle.std.proofs.lemmas.List.{length-map}
use Rattle.cap_text.specs.Word.{argument_read}
use Rattle.capcheck_core.proofs.Misfits.{misfit_at, element_at}
use Rattle.capcheck_core.proofs.running.shorts.Goals as goal

pub returns-in-None-clause-fault : goal.returns-in-None-clause-fault
returns-in-None-clause-fault c =
    let count : length c.args.args.now ≡ c.args.wanted = search (rules, tests) in
    let below : c.loop-n.n < length c.args.args.now = search (rules, tests) in
    let at = element_at c.args.args.now c.loop-n.n c.index-args-n.result below c.index-args-n.is in (
      length-map c.args.args.now argument_read ∙ count,
      record {
        values = c.loop-n.shorts.items;
        first = take-map argument_read c.loop-n.n c.args.args.now ∙ c.loop-n.invariant.first;
        fit = c.loop-n.invariant.fit;
        misfit = misfit_at c.args.args.now c.loop-n.n c.index-args-n.result at c.in-None.ensures.none;
      },
    )
