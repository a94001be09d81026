-- The climb ends where nothing waits, and has then marked what stands above.
use Rattle.std.proofs.Common.{◌≡◌, length, ◌∙◌, sym, ap, get_or, false}
use Rattle.jc_classes.specs.Ancestor.{above}
use Rattle.jc_classes.proofs.Above.{above-inside, is_above-is}
use Rattle.jc_classes.proofs.Marking.{climb-begun, climb-gone, climb-ends}
use Rattle.jc_classes.proofs.climb.is_above.Goals as goal

pub pending-init : goal.pending-init
pending-init c =
    climb-begun (above c.args.classes.now c.args.interfaces) (length c.args.classes.now) c.len.result c.args.c c.mark_above.new.self c.in_ok-climb.climb
    (above-inside c.args.classes.now c.args.interfaces c.requires) c.len.ensures c.in_ok-climb.ensures c.in_ok-mark_above.ensures

pub pending-smaller : goal.pending-smaller
pending-smaller c =
    (climb-gone (above c.args.classes.now c.args.interfaces) (length c.args.classes.now) c.args.c c.in-Some.next c.pending.climb c.next.new.self
    c.mark_above-in-Some.new.self
    (above-inside c.args.classes.now c.args.interfaces c.requires) c.pending.invariant c.in-Some.ensures.marked c.in-Some.ensures.pending
    c.in_ok-mark_above-2.ensures).falls

pub pending-preserved : goal.pending-preserved
pending-preserved c =
    (climb-gone (above c.args.classes.now c.args.interfaces) (length c.args.classes.now) c.args.c c.in-Some.next c.pending.climb c.next.new.self
    c.mark_above-in-Some.new.self
    (above-inside c.args.classes.now c.args.interfaces c.requires) c.pending.invariant c.in-Some.ensures.marked c.in-Some.ensures.pending
    c.in_ok-mark_above-2.ensures).climbs

pub returns : goal.returns
returns c =
    let read : c.has.result ≡ get_or c.pending.climb.marked c.args.a false = c.has.ensures
    ∙ ap (λ ms. get_or ms c.args.a false) c.in_default.ensures.marked in
    is_above-is c.args.classes.now c.args.interfaces c.args.a c.args.c c.has.result
    (λ e. c.pending.invariant.sound c.args.a (sym read ∙ e))
    (λ leads. read ∙ climb-ends (above c.args.classes.now c.args.interfaces) (length c.args.classes.now) c.args.c c.args.a c.pending.climb
    c.pending.invariant c.in_default.ensures.pending leads)
