use Rattle.std.proofs.Common.{◌≡◌, ◌+◌, ◌++◌, length}
use Rattle.cap_desc.specs.ClassRecords.{described_class_seen}
use Rattle.cap_desc.specs.MemberLists.{methods_left}
use Rattle.cap_components.specs.MethodsSeen.{methods_seen}
use Rattle.std.specs.Prelude.{All}
use Rattle.cap_listing.specs.Methods.{IsCounted, listed_from}
use Rattle.cap_listing.proofs.package_methods.push_class.Given as goal

abbrev pub invariant-methods : goal.invariant-methods
invariant-methods l =
    (l.listed.items ++ listed_from (methods_seen l.methods) l.class_no l.method_no (methods_left l.method-iterator)
    ≡ l.initial.listed.items ++ listed_from (methods_seen l.methods) l.class_no 0 (described_class_seen l.class).methods)
    × (l.method_no + length (methods_left l.method-iterator) ≡ length (described_class_seen l.class).methods)
    × All IsCounted l.listed.items
