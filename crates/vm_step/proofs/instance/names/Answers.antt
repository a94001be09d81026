use Rattle.std.proofs.Common.{◌≡◌, ◌<◌, length, get_or, sym, ap, ◌∙◌, subst, arith}
use Rattle.jc_base.specs.declared.record.Iface.{Iface}
use Rattle.jc_base.specs.Interface.{is_or_extends}
use Rattle.vm_step.proofs.Search.{NoneExtends, none-all, named-is, any-found}
use Rattle.vm_step.proofs.instance.names.Goals as goal

pub returns-then-extends-clause-is : goal.returns-then-extends-clause-is
returns-then-extends-clause-is c =
    let t = c.args.world.now.classes in let r = c.class.result.now in let e = c.named-item.result in let k = c.named.named-index in
    let xs = c.as_slice-named-items.ensures in
    let lt : k < length r.implements = omega (arith, c.named-test.true, ap length xs) in
    let is : e ≡ get_or r.implements k e = c.named-item.is ∙ ap (λ (ys : _). get_or ys k e) xs in
    sym (named-is t c.args.class c.args.sought r c.requires.class c.class.ensures.is
    ∙ any-found (λ (x : Iface). is_or_extends t x.class c.args.sought) r.implements k e lt is (sym c.extends.ensures.is ∙ c.if-extends.true))

pub returns-clause-is : goal.returns-clause-is
returns-clause-is c =
    let t = c.args.world.now.classes in let r = c.class.result.now in
    let xs = c.as_slice-named-items.ensures in
    let all = none-all t c.args.sought c.as_slice-named-items.result.now c.named.named-index c.named.invariant.none c.named-test.false in
    let none : NoneExtends t c.args.sought r.implements = subst (NoneExtends t c.args.sought) xs all in
    sym (named-is t c.args.class c.args.sought r c.requires.class c.class.ensures.is ∙ none.none)
