use Rattle.std.proofs.Common.{◌<◌, length, ap, take, get_or, arith, subst, List, All}
use Rattle.std.proofs.lemmas.List.{take_all}
use Rattle.std.proofs.lemmas.List.Elements.{All-get_or, All-more}
use Rattle.jc_base.specs.declared.record.Handler.{Handler}
use Rattle.jc_control.specs.WellFormed.{IsHandlerOf}
use Rattle.jc_control.specs.Traversal.{IsCaught}
use Rattle.jc_control.proofs.Growing.{grows-on, all-caught-stay}
use Rattle.jc_control.proofs.traversal.Traversal.catch.Goals as goal

pub enter-requires-clause-formed : goal.enter-requires-clause-formed
enter-requires-clause-formed c =
    let same = c.as_slice-handler-items.ensures in
    let hs = c.args.subject.rec.now.handlers in
    let inside : c.handlers.handler-index < length hs = omega (arith, ap length same, c.handlers-test.true) in
    rw same (All-get_or (IsHandlerOf c.args.subject.code.bytes.now) hs c.handlers.handler-index _ inside c.requires.formed.handlers)

pub handlers-preserved : goal.handlers-preserved
handlers-preserved c =
    let same = c.as_slice-handler-items.ensures in
    let hs = c.args.subject.rec.now.handlers in
    let n = c.handlers.handler-index in
    let new = c.enter.new.self in
    let inside : n < length hs = omega (arith, ap length same, c.handlers-test.true) in
    let here = subst (λ (xs : List Handler). IsCaught new c.args.place (get_or xs n _)) same c.in_ok-enter.ensures.caught in
    record {
      sound = c.in_ok-enter.ensures.sound;
      grows = grows-on c.args.self.now c.handlers.self new c.handlers.invariant.grows c.in_ok-enter.ensures.grows;
      caught =
          All-more (IsCaught new c.args.place) hs n _ inside
          (all-caught-stay c.handlers.self new c.args.place (take n hs) c.in_ok-enter.ensures.grows c.handlers.invariant.caught) here;
    }

pub returns-clause-caught : goal.returns-clause-caught
returns-clause-caught c =
    let hs = c.args.subject.rec.now.handlers in
    subst (All (IsCaught c.handlers.self c.args.place))
    (take_all c.handlers.handler-index hs (omega (arith, ap length c.as_slice-handler-items.ensures, c.handlers-test.false)))
    c.handlers.invariant.caught
