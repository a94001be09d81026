-- Each entry of the pools names one member, which the pools have; or an entry that names none is told.
use Rattle.std.proofs.Common.{◌≡◌, ℕ, suc, ◌+◌, ◌⊎◌, Bool, true, false, cond, List, [], ◌∷◌, Option, Some, None, Result, Ok, Err, refl}
use Rattle.std.proofs.Common.{sym, subst, ◌∙◌, arith, inl, inr}
use Rattle.std.specs.Prelude.{All, slice_get, is_none}
use Rattle.std.proofs.lemmas.List.Elements.{All-nil, All-cons, All-append}
use Rattle.cap_pool.specs.PoolFormat.{Entry}
use Rattle.cap_package.specs.PackageRecord.{PackageRecord}
use Rattle.jc_base.specs.declared.record.Member.{Member}
use Rattle.jc_base.specs.declared.record.StaticRec.{StaticRec}
use Rattle.jc_base.specs.Class.{ClassTable}
use Rattle.jc_base.proofs.Lists.{All-slice_get}
use Rattle.jc_resolve.specs.declared.fault.LinkFault.{LinkFault}
use Rattle.jc_resolve.specs.declared.fault.LinkFault.TheVariants.{NoMember}
use Rattle.jc_resolve.specs.declared.fault.LinkEnd.{LinkEnd}
use Rattle.jc_resolve.specs.declared.fault.LinkEnd.TheVariants.{Fault, Memory}
use Rattle.jc_resolve.specs.Due.{IsDue}
use Rattle.jc_resolve.specs.Fault.{link_place}
use Rattle.first_fault.specs.Least.{◌>>=◌, lesser, least_from, least_of, refused}
use Rattle.jc_link.specs.Members.{member_of}
use Rattle.jc_link.specs.Naming.{NamesMember, NamesOnly, IsPoolEntry, HaveNamedMembers, LacksMember, NamesEach}
use Rattle.jc_link.specs.Pools.{PoolPlace, places_from, places_after, pool_places, member_fault, missing_members, pools, pools_of}
use Rattle.jc_link.proofs.Faultless.{pools-some}
use Rattle.jc_link.proofs.NamingLaws.{member-names, names-member, names-only}
use Rattle.jc_link.proofs.MembersTold.{due-tells}

-- ---- the fault that is named is that of a thing

chosen : (a g f : LinkFault) (b : Bool) → cond b (Some g) (Some a) ≡ Some f → (Some a ≡ Some f) ⊎ (Some g ≡ Some f)
chosen a g f u h = grind (arith)

lesser_one : (a b : Option LinkFault) (f : LinkFault) → lesser link_place a b ≡ Some f → (a ≡ Some f) ⊎ (b ≡ Some f)
unfolding lesser
lesser_one a y f h = grind (arith)

from_one : {X : Type 0} (fault : X → Option LinkFault) (xs : List X) (before : Option LinkFault) (f : LinkFault) → least_from link_place before fault xs
    ≡ Some f
    → (before ≡ Some f) ⊎ ((i : ℕ) × (x : X) × (slice_get xs i ≡ Some x) × (fault x ≡ Some f))
from_one fault [] before f h = inl h
from_one fault (x ∷ xs) before f h = elim (from_one fault xs (lesser link_place before (fault x)) f h) [
  | inl e ↦ elim (lesser_one before (fault x) f e) [
    | inl a ↦ inl a
    | inr b ↦ inr (0, x, refl, b)
  ]
  | inr r ↦ inr (suc r.0, r.1, r.2, r.3)
]

of_one : {X : Type 0} (fault : X → Option LinkFault) (xs : List X) (f : LinkFault) → least_of link_place fault xs ≡ Some f → (i : ℕ) × (x : X)
    × (slice_get xs i ≡ Some x) × (fault x ≡ Some f)
of_one fault xs f h = elim (from_one fault xs None f h) [
  | inl e ↦ absurd (none_some f e)
  | inr r ↦ r
]
  where
    none_some : (f : LinkFault) → None ≡ Some f → ⊥
    none_some f e = cc

module _ (ps : List PackageRecord) where
  -- ---- the places of entries

  abbrev IsPlace : PoolPlace → Type 0
  IsPlace x = IsPoolEntry ps x.home x.number x.entry

  in_pool : (k : ℕ) (p : PackageRecord) → slice_get ps k ≡ Some p → (n : ℕ) (es : List Entry)
      → ((i : ℕ) (e : Entry) → slice_get es i ≡ Some e → slice_get p.pool (n + i) ≡ Some e) → All IsPlace (places_from k n es)
  in_pool k p at n [] all = All-nil IsPlace
  in_pool k p at n (e ∷ es) all =
      let here : n + 0 ≡ n = omega arith in
      let first : slice_get p.pool n ≡ Some e = rw here at (all 0 e refl) in
      All-cons IsPlace (record { home = k; number = n; entry = e }) (places_from k (n + 1) es)
      (record { home = p; there = at; entry = first })
      (in_pool k p at (n + 1) es (λ i x h. let next : (n + 1) + i ≡ n + suc i = omega arith in rw next (all (suc i) x h)))

  in_pools : (k : ℕ) (qs : List PackageRecord) → ((j : ℕ) (q : PackageRecord) → slice_get qs j ≡ Some q → slice_get ps (k + j) ≡ Some q)
      → All IsPlace (places_after k qs)
  in_pools k [] all = All-nil IsPlace
  in_pools k (q ∷ qs) all =
      let here : k + 0 ≡ k = omega arith in
      let first : slice_get ps k ≡ Some q = rw here at (all 0 q refl) in
      All-append IsPlace (places_from k 0 q.pool) (places_after (k + 1) qs)
      (in_pool k q first 0 q.pool (λ i e h. let same : 0 + i ≡ i = omega arith in rw same h))
      (in_pools (k + 1) qs (λ j r e. let next : (k + 1) + j ≡ k + suc j = omega arith in rw next (all (suc j) r e)))

  all_places : All IsPlace (pool_places ps)
  all_places = in_pools 0 ps (λ j q e. let same : 0 + j ≡ j = omega arith in rw same e)

module _ (ps : List PackageRecord) (t : ClassTable) (statics : List StaticRec) where
  -- ---- the members

  names_one : (k : ℕ) (e : Entry) (m : Member) → member_of ps t statics k e ≡ Some m → NamesOnly ps t statics k e m
  names_one k e m is =
      let names = member-names ps t statics k e m is in
      record { names = names; only = λ other h. names-only ps t statics k e m other names h }

  pub all_named : missing_members ps t statics ≡ [] → HaveNamedMembers ps t statics (pools ps t statics)
  all_named none = λ k n e at.
      let x = pools-some ps t statics 0 ps k at.home none at.there n e at.entry in
      let same : 0 + k ≡ k = omega arith in
      let is : member_of ps t statics k e ≡ Some x.0 = subst (λ j. member_of ps t statics j e ≡ Some x.0) same x.2 in
      (x.0, x.1, names_one k e x.0 is)

  -- ---- the fault

  nothing_named : (k : ℕ) (e : Entry) (o : Option Member) → member_of ps t statics k e ≡ o → is_none o ≡ true → (m : Member)
      → ¬ (NamesMember ps t statics k e m)
  nothing_named k e None is none m h = let there = sym is ∙ names-member ps t statics k e m h in absurd cc
  nothing_named k e (Some x) is none m h = absurd cc

  fault_by : (x : PoolPlace) (f : LinkFault) (b : Bool) → is_none (member_of ps t statics x.home x.entry) ≡ b
      → cond b (Some (NoMember x.home x.number)) None ≡ Some f → IsPoolEntry ps x.home x.number x.entry → LacksMember ps t statics f
  fault_by x f true none h at = grind (arith, nothing_named x.home x.entry (member_of ps t statics x.home x.entry) refl none)
  fault_by x f false none h at = absurd cc

  missing_of : (x : PoolPlace) (f : LinkFault) → member_fault ps t statics x ≡ Some f → IsPoolEntry ps x.home x.number x.entry
      → LacksMember ps t statics f
  unfolding member_fault
  missing_of x f h at = fault_by x f (is_none (member_of ps t statics x.home x.entry)) refl h at

  fault_missing : (f : LinkFault) → least_of link_place (member_fault ps t statics) (pool_places ps) ≡ Some f → LacksMember ps t statics f
  fault_missing f h =
      let x = of_one (member_fault ps t statics) (pool_places ps) f h in
      missing_of x.1 f x.3 (All-slice_get (IsPlace ps) (pool_places ps) x.0 x.1 (all_places ps) x.2)

  -- ---- the answer

  fault_of : (o : Option LinkFault) (xs : List (List Member)) (f : LinkFault) → (refused o >>= λ _. Ok xs) ≡ Err f → o ≡ Some f
  fault_of x xs f h = grind (arith)

  pub due-names : (r : Result (List (List Member)) LinkEnd) → IsDue (pools_of ps t statics) r → NamesEach ps t statics r
  unfolding pools_of
  due-names (Ok found) due =
      let told = due-tells ps t statics (Ok found) due in
      subst (HaveNamedMembers ps t statics) (sym told.0) (all_named told.1)
  due-names (Err (Fault f)) due = fault_missing f (fault_of (least_of link_place (member_fault ps t statics) (pool_places ps)) (pools ps t statics) f due)
  due-names (Err Memory) due = tt {0}
