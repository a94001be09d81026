use Rattle.std.proofs.Common.{◌≡◌, ◌+◌, ◌≤◌, ◌++◌, All, filter_map, length}
use Rattle.cap_pool.specs.Pool.{entries, entries_left}
use Rattle.jc_base.specs.Linked.{IsMember}
use Rattle.jc_resolve.specs.Fault.{link_place}
use Rattle.first_fault.specs.Least.{least_from}
use Rattle.jc_link.specs.Members.{member_of}
use Rattle.jc_link.specs.Pools.{places_from, member_fault}
use Rattle.jc_link.proofs.pools.pool_members.Given as goal

abbrev pub invariant-entries : goal.invariant-entries
invariant-entries l = record {
  fault : least_from link_place l.least (member_fault l.names.packages l.classes l.statics) (places_from l.«package» l.number (entries_left l.entry-iterator))
      ≡ least_from link_place l.initial.least (member_fault l.names.packages l.classes l.statics) (places_from l.«package» 0 (entries l.pool));
  members : l.members.items ++ filter_map (member_of l.names.packages l.classes l.statics l.«package») (entries_left l.entry-iterator)
      ≡ filter_map (member_of l.names.packages l.classes l.statics l.«package») (entries l.pool);
  linked : All (IsMember l.classes l.names.methods l.statics) l.members.items;
  few : length l.members.items ≤ l.number;
  count : l.number + length (entries_left l.entry-iterator) ≡ length (entries l.pool);
}
