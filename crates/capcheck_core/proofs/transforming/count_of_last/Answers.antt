-- the methods of the last package with code so far
use Rattle.std.proofs.Common.{length, count_by, ◌∙◌, ap, arith, rules}
use Rattle.std.proofs.lemmas.List.{take_all}
use Rattle.capcheck_core.specs.Typed.{is_of_last}
use Rattle.capcheck_core.proofs.Typings.{one_counted}
use Rattle.capcheck_core.proofs.transforming.count_of_last.Goals as goal

pub methods-preserved : goal.methods-preserved
methods-preserved c =
    let most = c.methods.invariant.most in
    record {
      counts = one_counted c.args.world.now c.methods.number c.methods.count c.from-count.result c.is_of_last.result c.is_of_last.ensures
          c.from-count.ensures c.methods.invariant.counts;
      most = search rules;
    }

pub returns : goal.returns
returns c =
    c.methods.invariant.counts
    ∙ ap (count_by (is_of_last (length c.args.world.now.infos)))
    (take_all c.methods.number c.args.world.now.methods (omega (arith, c.method_count-number-end.ensures.is)))
