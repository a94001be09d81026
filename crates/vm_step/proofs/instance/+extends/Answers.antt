use Rattle.std.proofs.Common.{◌≡◌, ◌<◌, length, get_or, sym, ap, ◌∙◌, subst, arith}
use Rattle.vm_step.proofs.Search.{NoneExtends, IsNext, left-more, none-all, not-extends, class-extends, yes-extends, next-extended}
use Rattle.vm_step.proofs.instance.+extends.Goals as goal

pub extends-requires : goal.extends-requires
extends-requires t c =
    let w = c.args.world.now in let r = c.class-record.result.now in let e = c.extended-item.result in let k = c.extended.extended-index in
    let xs = c.as_slice-extended-items.ensures in
    let lt : k < length r.implements = omega (arith, c.extended-test.true, ap length xs) in
    let is : e ≡ get_or r.implements k e = c.extended-item.is ∙ ap (λ (ys : _). get_or ys k e) xs in
    let next : IsNext w.classes c.args.interface e =
    next-extended w.classes (length w.infos) w.methods c.interfaces_decide.ensures.ends c.args.interface r c.class-record.ensures.is c.if-not-record.false
    c.class-record.ensures.links k e lt is in
    (omega (arith, next.fewer, c.decreases), (next.known, (omega (arith, c.requires.room, c.extended.auto.searched), c.extended.invariant.left)))

pub returns-then-extends-clause-is : goal.returns-then-extends-clause-is
returns-then-extends-clause-is t c =
    let w = c.args.world.now in let r = c.class-record.result.now in let e = c.extended-item.result in let k = c.extended.extended-index in
    let xs = c.as_slice-extended-items.ensures in
    let lt : k < length r.implements = omega (arith, c.extended-test.true, ap length xs) in
    let is : e ≡ get_or r.implements k e = c.extended-item.is ∙ ap (λ (ys : _). get_or ys k e) xs in
    sym (yes-extends w.classes c.interfaces_decide.ensures.extends c.args.interface c.args.sought r c.class-record.ensures.is c.if-not-record.false k e lt is
    (sym c.extends.ensures.is ∙ c.if-extends.true))

pub returns-then-not-record-clause-is : goal.returns-then-not-record-clause-is
returns-then-not-record-clause-is t c =
    let w = c.args.world.now in let r = c.class-record.result.now in
    sym (class-extends w.classes c.interfaces_decide.ensures.extends c.args.interface c.args.sought r c.class-record.ensures.is c.if-not-record.true
    c.if-interface-sought.false)

pub returns-clause-is : goal.returns-clause-is
returns-clause-is t c =
    let w = c.args.world.now in let r = c.class-record.result.now in
    let xs = c.as_slice-extended-items.ensures in
    let all = none-all w.classes c.args.sought c.as_slice-extended-items.result.now c.extended.extended-index c.extended.invariant.none c.extended-test.false in
    sym (not-extends w.classes c.interfaces_decide.ensures.extends c.args.interface c.args.sought r c.class-record.ensures.is c.if-not-record.false
    c.if-interface-sought.false
    (subst (NoneExtends w.classes c.args.sought) xs all))

pub returns-clause-left : goal.returns-clause-left
returns-clause-left t c =
    let w = c.args.world.now in let r = c.class-record.result.now in
    let xs = c.as_slice-extended-items.ensures in
    let all = none-all w.classes c.args.sought c.as_slice-extended-items.result.now c.extended.extended-index c.extended.invariant.none c.extended-test.false in
    λ _. left-more w.classes c.args.sought c.args.interface c.extended.searched c.extended.invariant.left
    (not-extends w.classes c.interfaces_decide.ensures.extends c.args.interface c.args.sought r c.class-record.ensures.is c.if-not-record.false
    c.if-interface-sought.false
    (subst (NoneExtends w.classes c.args.sought) xs all))
