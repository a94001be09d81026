use Rattle.std.proofs.Common.{subst, sym, ◌∙◌}
use Rattle.jc_base.specs.World.{IsWorld}
use Rattle.jc_tests.specs.TwoPackages.{HasSampleSizes}
use Rattle.jc_tests.proofs.TwoPackages.{is_world, has_sizes, is_sample}
use Rattle.jc_tests.proofs.two_packages.world.Goals as goal

pub of-requires-clause-world : goal.of-requires-clause-world
of-requires-clause-world c =
    subst IsWorld
    (sym
    (is_sample c.in_ok-infos.ensures c.in_ok-pools.ensures c.in_ok-table.ensures c.in_ok-methods.ensures c.in_ok-statics.ensures
    c.in_ok-arrays.ensures c.in_ok-indexes.ensures))
    is_world

pub returns : goal.returns
returns c =
    subst HasSampleSizes
    (sym
    (c.of.ensures
    ∙ is_sample c.in_ok-infos.ensures c.in_ok-pools.ensures c.in_ok-table.ensures c.in_ok-methods.ensures c.in_ok-statics.ensures
    c.in_ok-arrays.ensures c.in_ok-indexes.ensures))
    has_sizes
