-- The members of the constant pools of packages, and the condition that each entry has exactly one.
use Rattle.std.specs.Prelude.{◌≡◌, ℕ, ◌+◌, List, [], ◌∷◌, ◌++◌, filter_map, Option, Some, None, is_none, Result, Ok}
use Rattle.std.specs.Prelude.{Err, if◌then◌else◌}
use Rattle.cap_pool.specs.PoolFormat.{Entry}
use Rattle.cap_package.specs.PackageRecord.{PackageRecord}
use Rattle.jc_base.specs.declared.record.Member.{Member}
use Rattle.jc_base.specs.declared.record.StaticRec.{StaticRec}
use Rattle.jc_base.specs.Class.{ClassTable}
use Rattle.jc_resolve.specs.declared.fault.LinkFault.{LinkFault}
use Rattle.jc_resolve.specs.declared.fault.LinkFault.TheVariants.{NoMember}
use Rattle.jc_resolve.specs.declared.fault.LinkEnd.{LinkEnd}
use Rattle.jc_resolve.specs.declared.fault.LinkEnd.TheVariants.{Fault, Memory}
use Rattle.jc_resolve.specs.Fault.{link_place}
use Rattle.first_fault.specs.Least.{◌>>=◌, least_of, refused}
use Rattle.first_fault.specs.First.{at_fault, IsLeast}
use Rattle.jc_link.specs.Members.{member_of}

-- an entry with the numbers of its package and of itself
pub record PoolPlace : Type 0 where
  pub home : ℕ
  pub number : ℕ
  pub entry : Entry

abbrev pub places_from : ℕ → ℕ → List Entry → List PoolPlace
places_from k n [] = []
places_from k n (e ∷ es) = record { home = k; number = n; entry = e } ∷ places_from k (n + 1) es

-- the entries of the pools of packages, from a package's number on
abbrev pub places_after : ℕ → List PackageRecord → List PoolPlace
places_after k [] = []
places_after k (p ∷ ps) = places_from k 0 p.pool ++ places_after (k + 1) ps

abbrev pub pool_places : List PackageRecord → List PoolPlace
pool_places = places_after 0

-- an entry does not have exactly one member
unfoldable pub member_fault : List PackageRecord → ClassTable → List StaticRec → PoolPlace → Option LinkFault
member_fault ps t statics at = if is_none (member_of ps t statics at.home at.entry) then Some (NoMember at.home at.number) else None

abbrev pub missing_members : List PackageRecord → ClassTable → List StaticRec → List LinkFault
missing_members ps t statics = at_fault (member_fault ps t statics) (pool_places ps)

-- what the entries of the pools name, by package and pool number
abbrev pub pools_after : (ℕ → Entry → Option Member) → ℕ → List PackageRecord → List (List Member)
pools_after named k [] = []
pools_after named k (p ∷ ps) = filter_map (named k) p.pool ∷ pools_after named (k + 1) ps

abbrev pub pools : List PackageRecord → ClassTable → List StaticRec → List (List Member)
pools ps t statics = pools_after (member_of ps t statics) 0 ps

-- the members where each entry has exactly one, and else the first entry that has not
unfoldable pub pools_of : List PackageRecord → ClassTable → List StaticRec → Result (List (List Member)) LinkFault
pools_of ps t statics = do
  named ← refused (least_of link_place (member_fault ps t statics) (pool_places ps))
  Ok (pools ps t statics)

-- the members exactly where no entry lacks its one member; else the least entry that lacks it
abbrev pub TellsPools : List PackageRecord → ClassTable → List StaticRec → Result (List (List Member)) LinkEnd → Type 0
TellsPools ps t statics (Ok found) = (found ≡ pools ps t statics) × (missing_members ps t statics ≡ [])
TellsPools ps t statics (Err (Fault fault)) = IsLeast link_place (missing_members ps t statics) fault
TellsPools ps t statics (Err Memory) = Unit {0}
