use Rattle.std.proofs.Common.{◌≡◌, ◌≤◌, ◌+◌, ◌++◌, All, length}
use Rattle.jc_base.specs.Linked.{IsMember}
use Rattle.jc_resolve.specs.Fault.{link_place}
use Rattle.first_fault.specs.Least.{least_from, least_of}
use Rattle.cap_package.specs.PackagesLeft.{packages_left}
use Rattle.jc_link.specs.Members.{member_of}
use Rattle.jc_link.specs.Pools.{places_after, pool_places, member_fault, pools_after, pools}
use Rattle.jc_link.proofs.pools.named.Given as goal

abbrev pub invariant-packages : goal.invariant-packages
invariant-packages l = record {
  fault : least_from link_place l.least (member_fault l.names.packages l.classes l.statics) (places_after l.k (packages_left l.package-iterator))
      ≡ least_of link_place (member_fault l.names.packages l.classes l.statics) (pool_places l.names.packages);
  pools : l.pools.items ++ pools_after (member_of l.names.packages l.classes l.statics) l.k (packages_left l.package-iterator) ≡ pools l.names.packages
      l.classes l.statics;
  linked : All (All (IsMember l.classes l.names.methods l.statics)) l.pools.items;
  few : All (λ pool. length pool ≤ 65535) l.pools.items;
  count : l.k + length (packages_left l.package-iterator) ≡ length l.names.packages;
}
