-- Where nothing is at fault, each pool entry has its member and each handler catches a class that is thrown.
use Rattle.std.proofs.Common.{◌≡◌, ℕ, zero, suc, ◌+◌, Bool, true, false, List, [], ◌∷◌, Option, Some, None, refl, sym, ap, subst, ◌∙◌}
use Rattle.std.proofs.Common.{arith}
use Rattle.std.specs.Prelude.{All, filter_map, slice_get, option_and_then, is_none}
use Rattle.std.specs.List.{cons_option}
use Rattle.std.proofs.lemmas.Bool.{false≢true}
use Rattle.std.proofs.lemmas.List.Elements.{All-nil, All-cons}
use Rattle.first_fault.proofs.LeastFaults.{faultless_first}
use Rattle.cap_pool.specs.PoolFormat.{Entry}
use Rattle.cap_method.specs.declared.read_methods.HandlerInfo.{HandlerInfo}
use Rattle.cap_package.specs.PackageRecord.{PackageRecord}
use Rattle.jc_base.specs.declared.record.Member.{Member}
use Rattle.jc_base.specs.declared.record.StaticRec.{StaticRec}
use Rattle.jc_base.specs.Class.{ClassTable}
use Rattle.jc_base.specs.Linked.{list_at}
use Rattle.jc_resolve.proofs.Faultless.{both_faultless}
use Rattle.jc_link.specs.Members.{member_of}
use Rattle.jc_link.specs.Pools.{PoolPlace, places_from, places_after, member_fault, pools_after}
use Rattle.jc_link.specs.Catches.{HandlerPlace, handlers_from, handlers_after, catches_throwable, catch_fault}

-- ---- pool entries

-- each entry of a pool has a member
pub record HaveMembers (f : Entry → Option Member) (es : List Entry) : Type 0 where
  pub at : (i : ℕ) → slice_get (filter_map f es) i ≡ option_and_then f (slice_get es i)
  pub there : (i : ℕ) (e : Entry) → slice_get es i ≡ Some e → (m : Member) × (f e ≡ Some m)

have_none : (f : Entry → Option Member) → HaveMembers f []
have_none f = record { at = λ i. refl; there = λ i e h. absurd (past_end e h) }
  where
    past_end : (e : Entry) → None ≡ Some e → ⊥
    past_end e h = cc

have_more : (f : Entry → Option Member) (e : Entry) (es : List Entry) (o : Option Member) → f e ≡ o → is_none o ≡ false → HaveMembers f es
    → HaveMembers f (e ∷ es)
have_more f e es None is there others = absurd (false≢true (sym there))
have_more f e es (Some m) is there others = record { at = λ i. by i; there = λ i x h. there_at i x h }
  where
    first : filter_map f (e ∷ es) ≡ m ∷ filter_map f es
    first = ap (λ (o : Option Member). cons_option o (filter_map f es)) is

    by : (i : ℕ) → slice_get (filter_map f (e ∷ es)) i ≡ option_and_then f (slice_get (e ∷ es) i)
    by zero = ap (λ (ms : List Member). slice_get ms 0) first ∙ sym is
    by (suc i) = ap (λ (ms : List Member). slice_get ms (suc i)) first ∙ others.at i

    there_at : (i : ℕ) (x : Entry) → slice_get (e ∷ es) i ≡ Some x → (n : Member) × (f x ≡ Some n)
    there_at zero x h = let same : e ≡ x = cc in (m, ap f (sym same) ∙ is)
    there_at (suc i) x h = others.there i x h

module _ (all : List PackageRecord) (t : ClassTable) (statics : List StaticRec) where
  there_by : (x : PoolPlace) (b : Bool) → is_none (member_of all t statics x.home x.entry) ≡ b → member_fault all t statics x ≡ None → b ≡ false
  unfolding member_fault
  there_by x y e none = grind (arith)

  pool-members : (k n : ℕ) (es : List Entry) → filter_map (member_fault all t statics) (places_from k n es) ≡ []
      → HaveMembers (member_of all t statics k) es
  pool-members k n [] e = have_none (member_of all t statics k)
  pool-members k n (x ∷ xs) e =
      let place : PoolPlace = record { home = k; number = n; entry = x } in
      let both = faultless_first (member_fault all t statics place) (filter_map (member_fault all t statics) (places_from k (n + 1) xs)) e in
      have_more (member_of all t statics k) x xs (member_of all t statics k x) refl (there_by place (is_none (member_of all t statics k x)) refl both.0)
      (pool-members k (n + 1) xs both.1)

  -- the members of a pool
  pub pools-at : (k : ℕ) (ps : List PackageRecord) (n : ℕ) (p : PackageRecord) → filter_map (member_fault all t statics) (places_after k ps) ≡ []
      → slice_get ps n ≡ Some p
      → (i : ℕ) → slice_get (list_at (pools_after (member_of all t statics) k ps) n) i ≡ option_and_then (member_of all t statics (k + n))
      (slice_get p.pool i)
  pools-at k [] n p e at = absurd cc
  pools-at k (q ∷ qs) zero p e at = grind (arith, both_faultless, pool-members)
  pools-at k (q ∷ qs) (suc n) p e at =
      let both = both_faultless (member_fault all t statics) (places_from k 0 q.pool) (places_after (k + 1) qs) e in
      let k-is : k + 1 + n ≡ k + suc n = omega arith in
      λ i. pools-at (k + 1) qs n p both.1 at i ∙ ap (λ (j : ℕ). option_and_then (member_of all t statics j) (slice_get p.pool i)) k-is

  -- an entry of a pool and its member
  pools-entry : (k : ℕ) (ps : List PackageRecord) (n : ℕ) (p : PackageRecord) → filter_map (member_fault all t statics) (places_after k ps) ≡ []
      → slice_get ps n ≡ Some p
      → (i : ℕ) (x : Entry) → slice_get p.pool i ≡ Some x → (m : Member) × (member_of all t statics (k + n) x ≡ Some m)
  pools-entry k [] n p e at i x h = absurd (past_end p at)
    where
      past_end : (p : PackageRecord) → None ≡ Some p → ⊥
      past_end p h = cc
  pools-entry k (q ∷ qs) zero p e at i x h = grind (arith, both_faultless, pool-members)
  pools-entry k (q ∷ qs) (suc n) p e at i x h =
      let both = both_faultless (member_fault all t statics) (places_from k 0 q.pool) (places_after (k + 1) qs) e in
      let k-is : k + 1 + n ≡ k + suc n = omega arith in
      let m = pools-entry (k + 1) qs n p both.1 at i x h in
      (m.0, ap (λ (j : ℕ). member_of all t statics j x) (sym k-is) ∙ m.1)

  pub pools-some : (k : ℕ) (ps : List PackageRecord) (n : ℕ) (p : PackageRecord) → filter_map (member_fault all t statics) (places_after k ps) ≡ []
      → slice_get ps n ≡ Some p
      → (i : ℕ) (x : Entry) → slice_get p.pool i ≡ Some x
      → (m : Member) × (slice_get (list_at (pools_after (member_of all t statics) k ps) n) i ≡ Some m) × (member_of all t statics (k + n) x ≡ Some m)
  pools-some k ps n p e at i x h = grind (arith, pools-entry k ps n p e at i x h, pools-at k ps n p e at i)

-- ---- handlers

module _ (all : List PackageRecord) (t : ClassTable) where
  catches_by : (x : HandlerPlace) (b : Bool) → catches_throwable all t x.home x.pool x.handler.index ≡ b → catch_fault all t x ≡ None → b ≡ true
  unfolding catch_fault
  catches_by x y e none = grind (arith)

  -- a handler of a package catches all, or a class that is thrown
  abbrev pub IsCatching : ℕ → List Entry → HandlerInfo → Type 0
  IsCatching k pool h = catches_throwable all t k pool h.index ≡ true

  table-catches : (k n : ℕ) (pool : List Entry) (hs : List HandlerInfo) → filter_map (catch_fault all t) (handlers_from k pool n hs) ≡ []
      → All (IsCatching k pool) hs
  table-catches k n pool [] e = All-nil (IsCatching k pool)
  table-catches k n pool (h ∷ hs) e =
      let place : HandlerPlace = record { home = k; pool = pool; number = n; handler = h } in
      let both = faultless_first (catch_fault all t place) (filter_map (catch_fault all t) (handlers_from k pool (n + 1) hs)) e in
      All-cons (IsCatching k pool) h hs (catches_by place (catches_throwable all t k pool h.index) refl both.0) (table-catches k (n + 1) pool hs both.1)

  pub handlers-at : (k : ℕ) (ps : List PackageRecord) (n : ℕ) (p : PackageRecord) → filter_map (catch_fault all t) (handlers_after k ps) ≡ []
      → slice_get ps n ≡ Some p → All (IsCatching (k + n) p.pool) p.methods.handlers
  handlers-at k [] n p e at = absurd cc
  handlers-at k (q ∷ qs) zero p e at =
      let same : q ≡ p = cc in
      let both = both_faultless (catch_fault all t) (handlers_from k q.pool 0 q.methods.handlers) (handlers_after (k + 1) qs) e in
      let k-is : k ≡ k + 0 = omega arith in
      subst (λ (r : PackageRecord). All (IsCatching (k + 0) r.pool) r.methods.handlers) same
      (subst (λ (j : ℕ). All (IsCatching j q.pool) q.methods.handlers) k-is (table-catches k 0 q.pool q.methods.handlers both.0))
  handlers-at k (q ∷ qs) (suc n) p e at =
      let both = both_faultless (catch_fault all t) (handlers_from k q.pool 0 q.methods.handlers) (handlers_after (k + 1) qs) e in
      let k-is : k + 1 + n ≡ k + suc n = omega arith in
      subst (λ (j : ℕ). All (IsCatching j p.pool) p.methods.handlers) k-is (handlers-at (k + 1) qs n p both.1 at)
