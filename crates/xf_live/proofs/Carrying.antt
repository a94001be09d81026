-- How a search for live registers goes on.
use Rattle.std.proofs.Common.{◌≡◌, ◌<◌, ◌≤◌, ◌⊎◌, inl, inr, ⊎_elim, ℕ, zero, suc, ◌+◌, List, [], ◌∷◌, ◌++◌, length}
use Rattle.std.proofs.Common.{refl, sym, ap, ◌∙◌, subst, arith, Contains, All}
use Rattle.std.specs.Prelude.{Option, Some, None, get_or, slice_get, slice_set, sum_by, IsSomeAnd}
use Rattle.std.proofs.lemmas.Option.{slice_get_read}
use Rattle.std.proofs.lemmas.Bool.{cases_eq}
use Rattle.std.proofs.lemmas.List.{length-append, length-set, get_or-set_same, get_or-set_other}
use Rattle.std.proofs.lemmas.List.Sums.{sum_by-set, sum_by-cons}
use Rattle.std.proofs.lemmas.List.Elements.{All-contains, Contains-append_left, Contains-push, Contains-push_cases}
use Rattle.xf_live.specs.declared.live.Liveness.{Liveness}
use Rattle.xf_live.specs.declared.live.Node.{Node}
use Rattle.xf_live.specs.declared.set.RegisterSet.{RegisterSet}
use Rattle.xf_live.specs.Set.{Has, IsUnion, IsMinus, weight, IsSmall, no_registers}
use Rattle.xf_live.specs.Live.{IsLive, live_read, live_on, set_at, AreLive}
use Rattle.xf_live.specs.Liveness.{IsPending, Raises, raised_before, raised_now, TakesUp, IsDone, room, AreSmall, work, Grows, IsSound, IsCarried, Carries}
use Rattle.xf_live.specs.Liveness.{IsClosedAt, CarriesAll, IsClosed, Begins}

-- ---- growth

pub grows-not : (s : Liveness) → Grows s s
grows-not s = grind (arith)

pub grows-on : (a b c : Liveness) → Grows a b → Grows b c → Grows a c
grows-on a b c g h = grind (arith, ⊎_elim)

-- a set with more registers is written at a node
pub raises-by :
    (n : ℕ) (more set before : RegisterSet) (old new : Liveness) → before ≡ set_at old.sets.items n → new.sets.items ≡ slice_set old.sets.items n set
    → new.pending.items ≡ old.pending.items ++ n ∷ [] → IsUnion before more set → (set ≡ before) ⊎ (weight before < weight set) → (set ≡ before → ⊥)
    → IsSmall set → Raises n more old new
raises-by n more set before old new is sets pending union rises other small =
    raised_now set sets pending (subst (λ (k : RegisterSet). IsUnion k more set) is union)
    (subst (λ (k : RegisterSet). weight k < weight set) is (more-now rises)) small
  where
    more-now : (set ≡ before) ⊎ (weight before < weight set) → weight before < weight set
    more-now (inl same) = absurd (other same)
    more-now (inr lt) = lt

module _ (n : ℕ) (more : RegisterSet) (old new : Liveness) (inside : n < length old.sets.items) where
  -- a set that is written
  module _ (set : RegisterSet) (sets : new.sets.items ≡ slice_set old.sets.items n set) where
    here-is : set_at new.sets.items n ≡ set
    here-is = ap (λ (ss : List RegisterSet). set_at ss n) sets ∙ get_or-set_same old.sets.items n set no_registers inside

    others-are : (k : ℕ) → (k ≡ n → ⊥) → set_at new.sets.items k ≡ set_at old.sets.items k
    others-are k apart = ap (λ (ss : List RegisterSet). set_at ss k) sets ∙ get_or-set_other old.sets.items n k set no_registers apart

    size-is : length new.sets.items ≡ length old.sets.items
    size-is = ap length sets ∙ length-set old.sets.items n set

    small-is : IsSmall set → AreSmall old.sets.items → AreSmall new.sets.items
    small-is small all k = grind (arith, cases_eq, here-is, others-are, all)

  -- the set of this node has these too, and no set has more than that
  pub raised-only : Raises n more old new → (k x : ℕ) → Has (set_at new.sets.items k) x → Has (set_at old.sets.items k) x ⊎ ((k ≡ n) × Has more x)
  raised-only x k x2 h = grind (arith, cases_eq, here-is, ⊎_elim, others-are)

  pub raised-has : Raises n more old new → (x : ℕ) → Has more x → Has (set_at new.sets.items n) x
  raised-has x x2 h = grind (arith, here-is)

  pub raised-grows : Raises n more old new → Grows old new
  raised-grows (raised_before same union) = subst (Grows old) (sym same) (grows-not old)
  raised-grows (raised_now set sets pending union rises small) = record {
    size = size-is set sets;
    has = λ k x h. elim (cases_eq k n) [
      | inl same ↦
          subst (λ (s : RegisterSet). Has s x) (sym (ap (λ j. set_at new.sets.items j) same ∙ here-is set sets))
          ((union x).1 (inl (subst (λ j. Has (set_at old.sets.items j) x) same h)))
      | inr apart ↦ subst (λ (s : RegisterSet). Has s x) (sym (others-are set sets k apart)) h
    ];
    fresh = λ k. elim (cases_eq k n) [
      | inl same ↦ inr (subst (λ (ps : List ℕ). Contains ps k) (sym pending)
          (subst (λ j. Contains (old.pending.items ++ n ∷ []) j) (sym same) (Contains-push old.pending.items n)))
      | inr apart ↦ inl (others-are set sets k apart)
    ];
    pending = λ k h. subst (λ (ps : List ℕ). Contains ps k) (sym pending) (Contains-append_left old.pending.items (n ∷ []) k h);
    small = small-is set sets small;
    less =
        let sums = sum_by-set weight old.sets.items n set no_registers inside in
        let count : length new.pending.items ≡ length old.pending.items + 1 = ap length pending ∙ length-append old.pending.items (n ∷ []) in
        let total : sum_by weight new.sets.items ≡ sum_by weight (slice_set old.sets.items n set) = ap (sum_by weight) sets in
        omega (arith, sums, count, total, rises);
  }

-- ---- a node before another

module _ (nodes : List Node) where
  pub carry-none : (n : ℕ) (live : RegisterSet) (s : Liveness) → slice_get nodes n ≡ None → Carries nodes n live s s
  carry-none n live s none = record {
    grows = grows-not s;
    carried = λ node x there h apart. absurd (none-some node (sym none ∙ there));
    sound = λ q after at from is sound. sound;
  }
    where
      none-some : (node : Node) → ◌≡◌ {A = Option Node} None (Some node) → ⊥
      none-some node e = cc

  pub carry-some :
      (n : ℕ) (live more : RegisterSet) (node : Node) (old new : Liveness) → n < length old.sets.items → slice_get nodes n ≡ Some node
      → IsMinus live node.writes more → Raises n more old new → Carries nodes n live old new
  carry-some n live more node old new inside there minus raises = record {
    grows = raised-grows n more old new inside raises;
    carried = λ other x at h apart.
        let same : node ≡ other = some-one node other (sym there ∙ at) in
        raised-has n more old new inside raises x ((minus x).1 (h, λ w. apart (subst (λ (k : Node). Has k.writes x) same w)));
    sound = λ q after at from is sound k x h.
        ⊎_elim (λ before. sound k x before)
        (λ both.
        let its = (minus x).0 both.1 in
        subst (IsLive nodes x) (sym both.0) (live_on n q node after there at from its.1 (is x its.0)))
        (raised-only n more old new inside raises k x h);
  }
    where
      some-one : (a b : Node) → ◌≡◌ {A = Option Node} (Some a) (Some b) → a ≡ b
      some-one a b e = cc

  pub carried-on : (live : RegisterSet) (n : ℕ) (old new : Liveness) → Grows old new → IsCarried nodes live n old → IsCarried nodes live n new
  carried-on live n old new grows carried node x there h apart = grows.has n x (carried node x there h apart)

  pub all-carried-on :
      (live : RegisterSet) (ns : List ℕ) (old new : Liveness) → Grows old new → All (λ n. IsCarried nodes live n old) ns
      → All (λ n. IsCarried nodes live n new) ns
  all-carried-on live ns old new grows all = grind (arith, carried-on, all)

  pub there-is : (q : ℕ) (from : List ℕ) (node : Node) → q < length nodes → node ≡ get_or nodes q node → from ≡ node.from.items
      → IsSomeAnd (slice_get nodes q) (λ node. node.from.items ≡ from)
  there-is q from node lt at is = subst (λ o. IsSomeAnd o (λ n. n.from.items ≡ from)) (sym (slice_get_read nodes (length nodes) q node refl lt at)) (sym is)

  -- the node whose set is carried, and those before it
  module _ (q : ℕ) (from : List ℕ) (live : RegisterSet) (start : Liveness)
      (there : IsSomeAnd (slice_get nodes q) (λ node. node.from.items ≡ from)) (is : live ≡ set_at start.sets.items q) where
    the-node : (node : Node) × (slice_get nodes q ≡ Some node) × (node.from.items ≡ from)
    the-node = go (slice_get nodes q) refl there
      where
        go : (o : Option Node) → slice_get nodes q ≡ o → IsSomeAnd o (λ node. node.from.items ≡ from)
            → (node : Node) × (slice_get nodes q ≡ Some node) × (node.from.items ≡ from)
        go None e h = absurd h
        go (Some node) e h = (node, e, h)

    pub carried-sound :
        (n : ℕ) (old new : Liveness) → Contains from n → Carries nodes n live old new → (IsSound nodes start → IsSound nodes old)
        → IsSound nodes start → IsSound nodes new
    carried-sound n old new listed c before sound = grind (arith, the-node)

    pub carried-all :
        (last : Liveness) → Grows start last → All (λ n. IsCarried nodes live n last) from → (IsSound nodes start → IsSound nodes last)
        → CarriesAll nodes q start last
    carried-all last grows all sound = record {
      grows = grows;
      closed = ⊎_elim (λ same. inr (closed same)) (λ waits. inl waits) (grows.fresh q);
      sound = sound;
    }
      where
        closed : set_at last.sets.items q ≡ set_at start.sets.items q → IsClosedAt nodes last q
        closed same after n at listed =
            let its : the-node.0 ≡ after = one the-node.0 after (sym the-node.1 ∙ at) in
            let mine : Contains from n = subst (λ (ns : List ℕ). Contains ns n) the-node.2 (subst (λ (k : Node). Contains k.from.items n) (sym its) listed) in
            subst (λ (k : RegisterSet). IsCarried nodes k n last) (is ∙ sym same) (All-contains (λ m. IsCarried nodes live m last) from n all mine)
          where
            one : (a b : Node) → ◌≡◌ {A = Option Node} (Some a) (Some b) → a ≡ b
            one a b e = cc

  pub closed-on :
      (q : ℕ) (old new : Liveness) → Grows old new → IsPending old q ⊎ IsClosedAt nodes old q → IsPending new q ⊎ IsClosedAt nodes new q
  closed-on q old new grows (inl waits) = inl (grows.pending q waits)
  closed-on q old new grows (inr closed) = ⊎_elim
      (λ same. inr
      (λ after n there from. subst (λ (s : RegisterSet). IsCarried nodes s n new) (sym same)
      (carried-on (set_at old.sets.items q) n old new grows (closed after n there from))))
      (λ waits. inl waits) (grows.fresh q)

  -- ---- a node is taken up

  module _ (q : ℕ) (old new : Liveness) (t : TakesUp q old new) where
    pub taken-sound : IsSound nodes old → IsSound nodes new
    taken-sound sound n x h = sound n x (subst (λ (ss : List RegisterSet). Has (set_at ss n) x) t.sets h)

    pub visited :
        (last : Liveness) → Begins nodes old → CarriesAll nodes q new last → Begins nodes last
    visited last b c = record {
      size = c.grows.size ∙ (ap length t.sets ∙ b.size);
      small = c.grows.small (subst AreSmall (sym t.sets) b.small);
      sound = c.sound (taken-sound b.sound);
      closed = closed;
      reads = λ n x node there h. c.grows.has n x (subst (λ (ss : List RegisterSet). Has (set_at ss n) x) (sym t.sets) (b.reads n x node there h));
    }
      where
        still : (p : ℕ) → IsClosedAt nodes old p → IsClosedAt nodes new p
        still p closed after n there from node x at h apart =
            subst (λ (ss : List RegisterSet). Has (set_at ss n) x) (sym t.sets)
            (closed after n there from node x at (subst (λ (ss : List RegisterSet). Has (set_at ss p) x) t.sets h) apart)

        waiting : (p : ℕ) → IsPending old p → IsPending last p ⊎ IsClosedAt nodes last p
        waiting p w = ⊎_elim (λ later. inl (c.grows.pending p later))
            (λ here. subst (λ k. IsPending last k ⊎ IsClosedAt nodes last k) here c.closed)
            (Contains-push_cases new.pending.items q p (subst (λ (ps : List ℕ). Contains ps p) t.pending w))

        closed : IsClosed nodes last
        closed p = ⊎_elim (waiting p) (λ was. closed-on p new last c.grows (inr (still p was))) (b.closed p)

  -- ---- the end

  pub found-live : (s t : Liveness) → Begins nodes s → IsDone s t → AreLive nodes t.sets.items
  found-live s t b done = subst (AreLive nodes) (sym done.sets) (λ n x. (b.sound n x, all x n))
    where
      none-waits : (q : ℕ) → IsPending s q → ⊥
      none-waits q w =
          let in_none : Contains {X = ℕ} [] q = subst (λ (ps : List ℕ). Contains ps q) done.pending w in
          absurd (nothing q in_none)
        where
          nothing : (q : ℕ) → Contains {X = ℕ} [] q → ⊥
          nothing q h = let lt = h.1 in omega (arith, lt)

      is-closed : (q : ℕ) → IsClosedAt nodes s q
      is-closed q = ⊎_elim (λ waits. absurd (none-waits q waits)) (λ closed. closed) (b.closed q)

      all : (x n : ℕ) → IsLive nodes x n → Has (set_at s.sets.items n) x
      all x _ (live_read n node there reads) = b.reads n x node there reads
      all x _ (live_on n q node after there at from apart live) = is-closed q after n at from node x there (all x q live) apart

-- ---- the work that is left

total-room : (sets : List RegisterSet) → AreSmall sets → sum_by weight sets ≤ room sets
total-room [] small = omega arith
total-room (s ∷ ss) small =
    let here = small zero in
    let a = here.first in
    let b = here.second in
    let c = here.third in
    let d = here.fourth in
    let rest = total-room ss (λ n. small (suc n)) in
    omega (arith, a, b, c, d, rest, sum_by-cons weight s ss)

pub less-work :
    (q : ℕ) (old new last : Liveness) → TakesUp q old new → AreSmall old.sets.items → Grows new last → work last < work old
less-work q old new last t small grows = grind (arith, total-room, length, length-append)
