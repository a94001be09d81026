use Rattle.std.proofs.Common.{◌≡◌, ◌<◌, get_or, ap, ◌∙◌, length, arith}
use Rattle.jc_classes.proofs.Grouping.{groups_next}
use Rattle.jc_classes.proofs.groups.groups.Goals as goal

pub methods-preserved : goal.methods-preserved
methods-preserved c =
    let same = c.as_slice-method-items.ensures in
    let m = c.method-item.result in
    let i = c.methods.method-index in
    let at : m ≡ get_or c.args.methods.now i m = c.method-item.is ∙ ap (λ ms. get_or ms i m) same in
    let low : i < length c.args.methods.now = omega (arith, c.methods-test.true, ap length same) in
    groups_next c.args.count c.args.methods.now i m c.methods.groups.items c.add.new.groups.items at low c.methods.invariant c.in_ok-add.ensures
