use Rattle.std.proofs.Common.{◌≡◌, ◌++◌, map}
use Rattle.cap_desc.specs.MemberLists.{methods_left}
use Rattle.cap_write.specs.Described.{member_seen, seen_methods}
use Rattle.cap_write.specs.SmallStacks.{HaveSmallStacks}
use Rattle.cap_write.proofs.plain.put_methods.Given as goal

abbrev pub invariant-methods : goal.invariant-methods
invariant-methods l = record {
  seen :
      map member_seen l.out.items ++ seen_methods l.info.bytes.now (methods_left l.method-iterator) l.rest
      ≡ map member_seen l.initial.out.items ++ seen_methods l.info.bytes.now (methods_left l.fn.methods) l.laid;
  stacks : HaveSmallStacks l.out.items;
}
