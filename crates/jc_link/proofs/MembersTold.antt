-- The answer tells the members, or the least entry without its one member.
use Rattle.std.proofs.Common.{◌≡◌, ℕ, suc, ◌+◌, List, [], ◌∷◌, length, Option, Result, Ok, refl, ap, arith}
use Rattle.std.specs.Prelude.{IfOk}
use Rattle.cap_pool.specs.PoolFormat.{Entry}
use Rattle.cap_package.specs.PackageRecord.{PackageRecord}
use Rattle.jc_base.specs.declared.record.Member.{Member}
use Rattle.jc_base.specs.declared.record.StaticRec.{StaticRec}
use Rattle.jc_base.specs.Class.{ClassTable}
use Rattle.jc_resolve.specs.declared.fault.LinkFault.{LinkFault}
use Rattle.jc_resolve.specs.declared.fault.LinkEnd.{LinkEnd}
use Rattle.jc_resolve.specs.Fault.{link_place}
use Rattle.jc_resolve.specs.Due.{IsDue}
use Rattle.first_fault.specs.Least.{◌>>=◌, least_of, refused}
use Rattle.first_fault.proofs.LeastFaults.{least-at_fault, least-found, least-none}
use Rattle.jc_link.specs.Pools.{pool_places, member_fault, pools_after, pools, pools_of, TellsPools}

-- there are as many pools as packages
pools-each : (named : ℕ → Entry → Option Member) (k : ℕ) (ps : List PackageRecord) → length (pools_after named k ps) ≡ length ps
pools-each named k [] = refl
pools-each named k (p ∷ ps) = ap suc (pools-each named (k + 1) ps)

module _ (ps : List PackageRecord) (t : ClassTable) (statics : List StaticRec) where
  told-by : (o : Option LinkFault) (r : Result (List (List Member)) LinkEnd) → least_of link_place (member_fault ps t statics) (pool_places ps) ≡ o
      → IsDue (refused o >>= λ _. Ok (pools ps t statics)) r → TellsPools ps t statics r
  told-by x y e due = grind (arith, least-none, least-at_fault, least-found)

  pub due-tells : (r : Result (List (List Member)) LinkEnd) → IsDue (pools_of ps t statics) r → TellsPools ps t statics r
  unfolding pools_of
  due-tells r due = told-by (least_of link_place (member_fault ps t statics) (pool_places ps)) r refl due

  pub due-each : (r : Result (List (List Member)) LinkEnd) → IsDue (pools_of ps t statics) r → IfOk r (λ found. length found ≡ length ps)
  due-each x due = grind (arith, due-tells, pools-each)
