-- A Classref of packages names one of their classes.
use Rattle.std.proofs.Common.{arith}
use Rattle.std.proofs.Common.{◌≡◌, ◌<◌, ◌+◌, ℕ, zero, suc, List, [], ◌∷◌, ◌++◌, length, map, slice_get, Bool, true, false}
use Rattle.std.proofs.Common.{Option, Some, None, IfSome, option_map, option_and_then, subst}
use Rattle.std.specs.Prelude.{if◌then◌else◌, is_some, filter_map}
use Rattle.std.specs.List.{cons_option}
use Rattle.cap_package.specs.PackageRecord.{PackageRecord}
use Rattle.cap_class.specs.ClassFormat.{Class}
use Rattle.cap_pool.specs.PoolFormat.{Entry}
use Rattle.cap_pool.specs.PoolReference.{referred}
use Rattle.cap_pool.specs.declared.pool_record.PoolReference.{PoolReference}
use Rattle.cap_pool.specs.declared.pool_record.PoolReference.TheVariants as refs
use Rattle.jc_base.specs.declared.record.Member.{Member}
use Rattle.jc_base.specs.declared.record.Member.TheVariants.{ClassOf, Virtual, Super}
use Rattle.jc_base.specs.declared.record.StaticRec.{StaticRec}
use Rattle.jc_base.specs.Class.{ClassTable, parent_of}
use Rattle.jc_base.specs.Dispatch.{entry_at}
use Rattle.jc_base.specs.Linked.{list_at}
use Rattle.jc_resolve.specs.declared.field_records.OwnField.{OwnField}
use Rattle.jc_resolve.specs.Numbering.{numbered_classes}
use Rattle.jc_resolve.specs.References.{class_referred}
use Rattle.jc_link.specs.Fields.{field_site, sites_of_classes, sites_after, field_sites}
use Rattle.jc_link.specs.Sites.{MemberSite, members_standing, same_spot, only}
use Rattle.jc_link.specs.Members.{class_member, proper_referred, virtual_by, virtual_member, may_name, super_by, super_of, super_member}
use Rattle.jc_link.specs.Members.{static_sites, static_at, static_member, call_member, token_of_class, as_of, field_of}
use Rattle.jc_link.specs.Members.{field_member}
use Rattle.jc_link.specs.Members.{member_referred, member_of}
use Rattle.jc_link.specs.Pools.{pools_after, pools}
use Rattle.jc_link.proofs.KnownMembers.{class-below}

-- a member is no Classref, or names a number below n
abbrev NamesBelow : ℕ → Member → Type 0
NamesBelow n (ClassOf c) = c < n
NamesBelow n _ = Unit {0}

-- all of a list
abbrev AllBelow : ℕ → List Member → Type 0
AllBelow n [] = Unit {0}
AllBelow n (m ∷ ms) = NamesBelow n m × AllBelow n ms

abbrev AreBelow : ℕ → List MemberSite → Type 0
AreBelow n [] = Unit {0}
AreBelow n (s ∷ ss) = NamesBelow n s.member × AreBelow n ss

both_below : (n : ℕ) (xs ys : List MemberSite) → AreBelow n xs → AreBelow n ys → AreBelow n (xs ++ ys)
both_below n [] ys a c = c
both_below n (x ∷ xs) ys a c = (a.0, both_below n xs ys a.1 c)

standing_below : (n : ℕ) (ss : List MemberSite) (c k : ℕ) → AreBelow n ss → AllBelow n (members_standing ss (token_of_class c k))
standing_below n [] c k h = tt
standing_below n (s ∷ ss) c k h = by (same_spot (token_of_class c k) s.spot) (standing_below n ss c k h.1)
  where
    by : (b : Bool) → AllBelow n (members_standing ss (token_of_class c k))
        → AllBelow n (if b then s.member ∷ members_standing ss (token_of_class c k) else members_standing ss (token_of_class c k))
    by true rest = (h.0, rest)
    by false rest = rest

only_below : (n : ℕ) (ms : List Member) → AllBelow n ms → IfSome (only ms) (NamesBelow n)
only_below n x h = grind (arith)

any_then : {X : Type 0} (P : Member → Type 0) (f : X → Option Member) (o : Option X) → ((x : X) → IfSome (f x) P) → IfSome (option_and_then f o) P
any_then x f x2 h = grind (arith)

any_mapped : {X : Type 0} (P : Member → Type 0) (f : X → Member) (o : Option X) → ((x : X) → P (f x)) → IfSome (option_map f o) P
any_mapped x f x2 h = grind (arith)

one_more : (n : ℕ) (o : Option Member) (ms : List Member) → IfSome o (NamesBelow n) → ((j : ℕ) → IfSome (slice_get ms j) (NamesBelow n)) → (j : ℕ)
    → IfSome (slice_get (cons_option o ms) j) (NamesBelow n)
one_more n x ms h rest j = grind (arith)

module _ (ps : List PackageRecord) (t : ClassTable) (statics : List StaticRec) where
  abbrev n : ℕ
  n = length (numbered_classes ps)

  -- ---- instance fields

  own_sites : (above c : ℕ) (all fs : List OwnField) → AreBelow n (map (field_site above c all) fs)
  own_sites above c all [] = tt
  own_sites above c all (f ∷ fs) = (tt, own_sites above c all fs)

  class_below : (k : ℕ) (p : PackageRecord) (c : ℕ) (rs : List Class) → AreBelow n (sites_of_classes ps t k p c rs)
  class_below k p c [] = tt
  class_below k p c (r ∷ rs) = grind (arith, both_below, own_sites, class_below k p (c + 1) rs)

  sites_below : (c k : ℕ) (rest : List PackageRecord) → AreBelow n (sites_after ps t c k rest)
  sites_below c k [] = tt
  sites_below c k (p ∷ rest) = grind (arith, both_below, length, class_below, sites_below (c + length p.classes) (k + 1) rest)

  as_below : (c : ℕ) (m : Member) → NamesBelow n m → NamesBelow n (as_of c m)
  as_below c x h = grind (arith)

  renamed_below : (c : ℕ) (o : Option Member) → IfSome o (NamesBelow n) → IfSome (option_map (as_of c) o) (NamesBelow n)
  renamed_below c x h = grind (arith, as_below)

  field_below : (token c : ℕ) → IfSome (field_of (field_sites ps t) t token c) (NamesBelow n)
  unfolding field_of
  field_below token c = grind (arith, renamed_below, option_and_then, any_then, only_below, standing_below, sites_below)

  -- ---- static fields

  statics_below : (fs : List StaticRec) → AreBelow n (static_sites fs)
  statics_below [] = tt
  statics_below (f ∷ fs) = (tt, statics_below fs)

  -- ---- all

  referred_known : (k : ℕ) (x : PoolReference) → IfSome (member_referred ps t statics k x) (NamesBelow n)
  unfolding class_member field_member virtual_member super_member static_member call_member virtual_by super_of super_by static_at
  referred_known k (refs.Class r) = by (class_referred ps k r) (class-below ps k r)
    where
      by : (o : Option ℕ) → IfSome o (λ c. c < n) → IfSome (option_map ClassOf o) (NamesBelow n)
      by None h = tt
      by (Some c) h = h
  referred_known k (refs.InstanceField r token) = grind (arith, any_then, field_below)
  referred_known k (refs.VirtualMethod r token) =
      any_then (NamesBelow n) (virtual_by t token) (proper_referred ps t k r) (λ c. by c (is_some (entry_at t c token)))
    where
      by : (c : ℕ) (b : Bool) → IfSome (if b then Some (Virtual c token) else None) (NamesBelow n)
      by c true = tt
      by c false = tt
  referred_known k (refs.SuperMethod r token) =
      any_then (NamesBelow n) (super_of t token) (proper_referred ps t k r)
      (λ c. any_then (NamesBelow n) (super_by t token c) (parent_of t c) (λ p. by c p (may_name t c token p)))
    where
      by : (c p : ℕ) (b : Bool) → IfSome (if b then option_map (Super c) (entry_at t p token) else None) (NamesBelow n)
      by c p true = any_mapped (NamesBelow n) (Super c) (entry_at t p token) (λ m. tt)
      by c p false = tt
  referred_known k (refs.StaticField r) = grind (arith, any_then, only_below, standing_below, statics_below)
  referred_known k (refs.StaticMethod r) = grind (arith, any_mapped, option_and_then)

  entry_known : (k : ℕ) (e : Entry) → IfSome (member_of ps t statics k e) (NamesBelow n)
  unfolding member_of
  entry_known k e = referred_known k (referred e)

  pool_known : (k : ℕ) (es : List Entry) (j : ℕ) → IfSome (slice_get (filter_map (member_of ps t statics k) es) j) (NamesBelow n)
  pool_known k [] j = tt
  pool_known k (e ∷ es) j = one_more n (member_of ps t statics k e) (filter_map (member_of ps t statics k) es) (entry_known k e) (pool_known k es) j

  all_known : (k : ℕ) (rest : List PackageRecord) (home j : ℕ)
      → IfSome (slice_get (list_at (pools_after (member_of ps t statics) k rest) home) j) (NamesBelow n)
  all_known k [] home j = tt
  all_known k (p ∷ rest) zero j = pool_known k p.pool j
  all_known k (p ∷ rest) (suc home) j = all_known (k + 1) rest home j

  pub pools_know : (home j c : ℕ) → slice_get (list_at (pools ps t statics) home) j ≡ Some (ClassOf c) → c < n
  pools_know home j c e = subst (λ o. IfSome o (NamesBelow n)) e (all_known 0 ps home j)
