use Rattle.capcheck_core.specs.LentCard.{words_of}
use Rattle.capcheck_core.specs.Run.{bounded_request}
use Rattle.capcheck_core.proofs.Ran.{with_memory}
use Rattle.capcheck_core.proofs.running.run_in_card.Goals as goal

pub returns-clause-runs : goal.returns-clause-runs
returns-clause-runs c =
    with_memory c.args.world.now (bounded_request c.args.run) (words_of c.run_verified.new.card) c.not_run.result
    (c.not_run.ensures (words_of c.run_verified.new.card))
