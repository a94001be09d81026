-- Each method is asked with the nearest of the starts that were counted.
use Rattle.std.proofs.Common.{List, ap, sym, map, ◌∙◌}
use Rattle.offset_set.specs.Tallies.{tallied}
use Rattle.cap_desc.specs.DescriptorFormat.{MethodDescriptor}
use Rattle.cap_desc.specs.MemberRecords.{method_seen}
use Rattle.cap_desc.specs.MembersLeft.{methods_but_left}
use Rattle.cap_components.specs.Order.{lesser, least_from}
use Rattle.cap_package.specs.Reaches.{method_start, method_reach}
use Rattle.cap_package.proofs.Overlaps.{method_reaches}
use Rattle.cap_package.proofs.methods.methods_apart.Goals as goal

pub methods-preserved : goal.methods-preserved
methods-preserved c =
    let starts = map method_start (methods_but_left c.args.described) in
    let asked = method_reach c.args.info.bytes.now starts in
    ap (λ least. least_from least asked (methods_but_left c.next.new.self))
    (c.keep_lesser.ensures ∙ ap (lesser c.methods.least) (c.reaches.ensures
    ∙ method_reaches (tallied c.args.starts.now) starts c.args.info.bytes.now (method_seen c.in-Some.method)
    c.nearest-next.result c.requires.starts c.nearest-next.ensures))
    ∙ ap (λ (ms : List MethodDescriptor). least_from c.methods.least asked ms) (sym c.in-Some.ensures.steps)
    ∙ c.methods.invariant
