-- The pools of a world have the same members, and no entry lacks one.
use Rattle.std.proofs.Common.{◌≡◌, ◌≤◌, ◌<◌, ◌+◌, ℕ, List, [], ◌∷◌, ◌++◌, length, map, filter_map, Option, Some, None}
use Rattle.std.proofs.Common.{refl, sym, ap, subst, ◌∙◌, arith}
use Rattle.std.specs.Prelude.{if◌then◌else◌, is_none}
use Rattle.cap_pool.specs.PoolFormat.{Entry}
use Rattle.cap_package.specs.PackageRecord.{PackageRecord}
use Rattle.cap_package.specs.Parts.{Lent}
use Rattle.cap_package.specs.StandsFor.{StandsFor}
use Rattle.cap_package.proofs.StaticsKnown.{both_empty}
use Rattle.cap_renewal.specs.PoolEdits.{renewed_entry}
use Rattle.jc_base.specs.declared.record.Member.{Member}
use Rattle.jc_base.specs.declared.record.StaticRec.{StaticRec}
use Rattle.jc_base.specs.Class.{ClassTable}
use Rattle.jc_decode.specs.declared.symbols.Laid.{Laid}
use Rattle.jc_link.specs.Members.{member_of}
use Rattle.jc_link.specs.Pools.{PoolPlace, places_from, places_after, member_fault, missing_members, pools_after, pools}
use Rattle.jc_resolve.specs.declared.fault.LinkFault.TheVariants.{NoMember}
use Rattle.law_package.specs.Changes.{changes, now_at}
use Rattle.law_package.specs.Rewritten.{IsRewritten}
use Rattle.law_package.proofs.Lists.{Each, none_each, append_none}
use Rattle.law_relink.specs.Last.{and_last}
use Rattle.law_relink.proofs.Members.{earlier_member}
use Rattle.law_relink.proofs.Calls.{renewed_member}
use Rattle.std.proofs.lemmas.List.Elements.{filter_map-append}

named_some : (o : Option Member) (k n : ℕ) → (if is_none o then Some (NoMember k n) else None) ≡ None → (m : Member) × (o ≡ Some m)
named_some x k n e = grind (arith)

is_there : (o : Option Member) (k n : ℕ) (m : Member) → o ≡ Some m → (if is_none o then Some (NoMember k n) else None) ≡ None
is_there o k n m e = ap (λ x. if is_none x then Some (NoMember k n) else None) e

module _ (parts : List Lent) (ps : List PackageRecord) (p q : PackageRecord) (laid : List (Option Laid)) (s : StandsFor parts p)
    (r : IsRewritten p laid q) (short : length q.methods.info ≤ 65535) (t : ClassTable) (statics : List StaticRec) where
  abbrev now : List PackageRecord
  now = and_last ps q

  abbrev old : List PackageRecord
  old = and_last ps p

  abbrev to : ℕ → ℕ
  to = now_at (changes p laid q)

  -- ---- entries of one package

  earlier_faults : (k n : ℕ) (es : List Entry) → k < length ps → filter_map (member_fault now t statics) (places_from k n es)
      ≡ filter_map (member_fault old t statics) (places_from k n es)
  unfolding member_fault
  earlier_faults k n [] lt = refl
  earlier_faults k n (e ∷ es) lt = grind (arith, filter_map, earlier_member, earlier_faults k (n + 1) es lt)

  earlier_pool : (k : ℕ) (es : List Entry) → k < length ps → filter_map (member_of now t statics k) es
      ≡ filter_map (member_of old t statics k) es
  earlier_pool k [] lt = refl
  earlier_pool k (e ∷ es) lt = grind (arith, filter_map, earlier_member, earlier_pool k es lt)

  record AreSamePool (n : ℕ) (es : List Entry) : Type 0 where
    pub none : filter_map (member_fault now t statics) (places_from (length ps) n (map (renewed_entry to) es)) ≡ []
    pub members : filter_map (member_of now t statics (length ps)) (map (renewed_entry to) es)
        ≡ filter_map (member_of old t statics (length ps)) es

  last_pool : (n : ℕ) (es : List Entry) → Each (λ (x : PoolPlace). member_fault old t statics x ≡ None)
      (places_from (length ps) n es) → AreSamePool n es
  unfolding member_fault
  last_pool n [] none = record { none = refl; members = refl }
  last_pool n (e ∷ es) none =
      let k = length ps in
      let m = named_some (member_of old t statics k e) k n none.0 in
      let same = renewed_member parts ps p q laid s r short t statics e m.0 m.1 in
      grind (arith, k, m, same, filter_map, map, is_there, last_pool (n + 1) es none.1)

  -- ---- all packages

  record AreSamePools (k : ℕ) (xs : List PackageRecord) : Type 0 where
    pub none : filter_map (member_fault now t statics) (places_after k (and_last xs q)) ≡ []
    pub members : pools_after (member_of now t statics) k (and_last xs q) ≡ pools_after (member_of old t statics) k (and_last xs p)

  all_pools : (k : ℕ) (xs : List PackageRecord) → k + length xs ≡ length ps
      → filter_map (member_fault old t statics) (places_after k (and_last xs p)) ≡ [] → AreSamePools k xs
  all_pools k [] e none =
      let z : length ps ≡ k = omega (arith, e) in
      subst (λ j. AreSamePools j []) z
      (let fault = member_fault old t statics in
      let before = subst (λ j. filter_map fault (places_after j (p ∷ [])) ≡ []) (sym z) none in
      let both = both_empty (filter_map fault (places_from (length ps) 0 p.pool)) []
      (sym (filter_map-append fault (places_from (length ps) 0 p.pool) []) ∙ before) in
      let last = last_pool 0 p.pool (none_each fault (places_from (length ps) 0 p.pool) both.0) in
      record {
        none = ap (λ es. filter_map (member_fault now t statics) (places_from (length ps) 0 es ++ [])) r.pool
            ∙ filter_map-append (member_fault now t statics) (places_from (length ps) 0 (map (renewed_entry to) p.pool)) []
            ∙ append_none (filter_map (member_fault now t statics) (places_from (length ps) 0 (map (renewed_entry to) p.pool))) []
            last.none refl;
        members = ap (λ es. filter_map (member_of now t statics (length ps)) es ∷ []) r.pool ∙ ap (λ ms. ms ∷ []) last.members;
      })
  all_pools k (x ∷ xs) e none =
      let lt : k < length ps = omega (arith, e) in
      let fault = member_fault old t statics in
      let own = places_from k 0 x.pool in
      let both = both_empty (filter_map fault own) (filter_map fault (places_after (k + 1) (and_last xs p)))
      (sym (filter_map-append fault own (places_after (k + 1) (and_last xs p))) ∙ none) in
      let rest = all_pools (k + 1) xs (omega (arith, e)) both.1 in
      grind (arith, lt, both, rest, filter_map-append, append_none, filter_map, earlier_faults, earlier_pool)

  -- no entry lacks its member where none did
  pub none_missing : missing_members old t statics ≡ [] → missing_members now t statics ≡ []
  none_missing none = (all_pools 0 ps (omega arith) none).none

  pub pools_same : missing_members old t statics ≡ [] → pools now t statics ≡ pools old t statics
  pools_same none = (all_pools 0 ps (omega arith) none).members
