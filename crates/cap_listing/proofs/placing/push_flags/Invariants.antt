use Rattle.std.proofs.Common.{◌≡◌, ◌++◌, map}
use Rattle.cap_desc.specs.ClassRecords.{described_class_seen}
use Rattle.cap_desc.specs.MemberLists.{methods_left}
use Rattle.cap_listing.specs.Placing.{is_coded}
use Rattle.cap_listing.proofs.placing.push_flags.Given as goal

-- with the methods that are left it is what it will be
abbrev pub invariant-methods : goal.invariant-methods
invariant-methods l =
    l.flags.items ++ map (is_coded l.methods.info.bytes.now l.interface) (methods_left l.method-iterator)
    ≡ l.initial.flags.items ++ map (is_coded l.methods.info.bytes.now l.interface) (described_class_seen l.class).methods
