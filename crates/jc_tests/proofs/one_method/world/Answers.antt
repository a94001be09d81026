use Rattle.std.proofs.Common.{◌≤◌, length, subst, sym, arith}
use Rattle.jc_base.specs.World.{IsWorld}
use Rattle.jc_tests.proofs.OneMethod.{is_world, is_sample, one_only, class_known}
use Rattle.jc_tests.proofs.one_method.world.Goals as goal

pub of-requires-clause-world : goal.of-requires-clause-world
of-requires-clause-world c =
    let handlers = c.in_ok-handlers.handlers in
    let few : length handlers ≤ 255 = omega (arith, c.in_ok-handlers.ensures.count, c.requires.few) in
    subst IsWorld
    (sym
    (is_sample c.args.shape c.args.code.now handlers c.in_ok-infos.ensures c.in_ok-pools.ensures c.in_ok-table.ensures c.in_ok-methods.ensures
    c.empty.ensures c.empty-2.ensures c.in_ok-indexes.ensures))
    (is_world c.args.shape c.args.code.now handlers c.requires.filled c.requires.short few c.in_ok-handlers.ensures.fit)

pub class_index-requires-clause-one : goal.class_index-requires-clause-one
class_index-requires-clause-one c =
    rw c.in_ok-methods.ensures (one_only c.args.shape (length c.args.code.now) c.in_ok-handlers.handlers)

pub class_index-requires-clause-known : goal.class_index-requires-clause-known
class_index-requires-clause-known c =
    rw c.in_ok-methods.ensures (class_known c.args.shape (length c.args.code.now) c.in_ok-handlers.handlers)
