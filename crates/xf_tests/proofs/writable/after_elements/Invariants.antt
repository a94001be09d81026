use Rattle.cap_desc.specs.MemberLists.{methods_left}
use Rattle.xf_tests.specs.Elements.{listed}
use Rattle.xf_tests.proofs.SoFar.{IsSoFar}
use Rattle.xf_tests.proofs.writable.after_elements.Given as goal

abbrev pub invariant-methods : goal.invariant-methods
invariant-methods l =
    IsSoFar l.methods.info.bytes.now (listed l.interface (methods_left l.fn.records)) (listed l.interface (methods_left l.method-iterator)) l.laid l.rest
