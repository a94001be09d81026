use Rattle.jc_base.specs.declared.ty.Ty.TheVariants.{Bottom}
use Rattle.card_verify.proofs.Accepting.{accepted-typed}
use Rattle.vm_bound.proofs.bounding.most_of.Goals as goal

pub returns-clause-runs : goal.returns-clause-runs
returns-clause-runs c =
    let both = c.chains_bound_runs.ensures Bottom c.args.entry c.in_ok-words.words c.in_ok-frames.frames (accepted-typed c.args.world.now c.requires.accepted)
    c.in_ok-words.ensures.is c.in_ok-frames.ensures.is in
    record { within = both.0; no_deeper = both.1 }
