use Rattle.std.proofs.Common.{◌≤◌, length, subst, arith}
use Rattle.jc_resolve.specs.Numbering.{numbered_classes, numbered_methods}
use Rattle.jc_resolve.proofs.Totals.{classes_total, methods_total}
use Rattle.jc_resolve.proofs.class_index.Index.packages.Goals as goal

pub returns-clause-few_classes : goal.returns-clause-few_classes
returns-clause-few_classes c =
    subst (λ ps. length (numbered_classes ps) ≤ 4096) c.self.view_is (omega (arith, classes_total c.self.inside.packages.now, c.self.invariant.few))

pub returns-clause-few_methods : goal.returns-clause-few_methods
returns-clause-few_methods c =
    subst (λ ps. length (numbered_methods ps) ≤ 32768) c.self.view_is (omega (arith, methods_total c.self.inside.packages.now, c.self.invariant.few_methods))
