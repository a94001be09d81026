-- The vertices to which edges go, as they are found.
use Rattle.std.proofs.Common.{◌≡◌, ℕ, ◌+◌, ◌*◌, ◌<◌, ◌≤◌, ◌⊎◌, inl, inr, ⊎_elim, true, false}
use Rattle.std.proofs.Common.{List, [], ◌∷◌, ◌++◌, length, refl, sym, ap, ◌∙◌, subst, arith}
use Rattle.std.specs.Prelude.{Some, None, Contains, slice_get, slice_index_or}
use Rattle.std.proofs.lemmas.Bool.{false≢true}
use Rattle.std.proofs.lemmas.Option.{none-some, same_Some}
use Rattle.std.proofs.lemmas.List.Elements.{Contains-get_or, Contains-append_left, Contains-push, Contains-push_cases}
use Rattle.jc_base.specs.declared.record.MethodRec.{MethodRec}
use Rattle.jc_base.specs.Class.{ClassTable, IsNextOnChain, parent_of}
use Rattle.jc_base.specs.World.{Linked, IsWorld, code_of}
use Rattle.jc_base.proofs.Chains.{next_on_chain}
use Rattle.jc_base.proofs.Climbs.{parent_of-class}
use Rattle.jc_base.proofs.Eaching.{Contains-from_IsAmong, IsAmong-from_Contains}
use Rattle.jc_decode.specs.declared.insn.Placed.{Placed}
use Rattle.jc_decode.specs.Listing.{listing}
use Rattle.jc_decode.proofs.Elements.{nothing-in}
use Rattle.vm_bound.specs.declared.spread.Block.{Block}
use Rattle.vm_bound.specs.declared.graph.Meaning.TheVariants.{Entries, Span}
use Rattle.vm_bound.specs.declared.graph.Vertex.{Vertex}
use Rattle.vm_bound.specs.declared.graph.Vertex.TheVariants.{Method, Means}
use Rattle.vm_bound.specs.Vertices.{IsFit}
use Rattle.vm_bound.specs.Edges.{target, token_told, shares, Owns, IsSupplied, LeadsFromMethod, LeadsToBlocks, leads_block}
use Rattle.vm_bound.specs.Edges.{LeadsFromEntries, leads_own, leads_below, LeadsFromSpan, leads_half, leads_supplied}
use Rattle.vm_bound.specs.Rows.{AreTargets, AreBlockTargets, IsOwned, is_owned, IsOwn, AreSubclasses}
use Rattle.vm_bound.proofs.Graphing.{code-inside}

-- what was true of all vertices is true where one is added that it is true of
added : {A : Type 0} (P : A → Type 0) (xs : List A) (x : A) → ((y : A) → Contains xs y → P y) → P x → (y : A) → Contains (xs ++ x ∷ []) y → P y
added P xs x before here y c = ⊎_elim (λ old. before y old) (λ is. subst P is here) (Contains-push_cases xs x y c)

none-more : {A : Type 0} (P : A → Type 0) (y : A) → Contains [] y → P y
none-more P y c = absurd (nothing-in y c)

-- ---- a method

-- the calls of the code are found, but for the instructions that are left
pub record IsWalked (w : Linked) (m : ℕ) (rec : MethodRec) (left : List Placed) (found : List Vertex) : Type 0 where
  pub only : (v : Vertex) → Contains found v → LeadsFromMethod w m v
  pub fit : (v : Vertex) → Contains found v → IsFit w v
  pub stand : (p : Placed) → Contains left p → Contains (listing (code_of w.infos rec)) p
  pub all : (p : Placed) → Contains (listing (code_of w.infos rec)) p → Contains left p ⊎ ((v : Vertex) → target w rec p ≡ Some v → Contains found v)

module _ (w : Linked) (m : ℕ) (rec : MethodRec) (is : slice_get w.methods m ≡ Some rec) where
  rest : (p q : Placed) (left : List Placed) → Contains (p ∷ left) q → (p ≡ q) ⊎ Contains left q
  rest p q left c = ⊎_elim (λ is. inl is) (λ more. inr (Contains-from_IsAmong q left more)) (IsAmong-from_Contains q (p ∷ left) c)

  front : (p : Placed) (left : List Placed) → Contains (p ∷ left) p
  front p left = Contains-from_IsAmong p (p ∷ left) (inl refl)

  behind : (p q : Placed) (left : List Placed) → Contains left q → Contains (p ∷ left) q
  behind p q left c = Contains-from_IsAmong q (p ∷ left) (inr (IsAmong-from_Contains q left c))

  pub walk-none : (p : Placed) (left : List Placed) (found : List Vertex) → target w rec p ≡ None → IsWalked w m rec (p ∷ left) found
      → IsWalked w m rec left found
  walk-none p left found none walked = record {
    only = walked.only;
    fit = walked.fit;
    stand = λ q c. walked.stand q (behind p q left c);
    all = λ q c. ⊎_elim
        (λ more. ⊎_elim (λ e. inr (λ v leads. absurd (none-some v (sym none ∙ (ap (target w rec) e ∙ leads))))) (λ later. inl later) (rest p q left more))
        (λ has. inr has) (walked.all q c);
  }

  pub walk-some : (p : Placed) (v : Vertex) (left : List Placed) (found : List Vertex) → target w rec p ≡ Some v → IsFit w v
      → IsWalked w m rec (p ∷ left) found → IsWalked w m rec left (found ++ v ∷ [])
  walk-some p v left found leads fit walked = record {
    only = added (LeadsFromMethod w m) found v walked.only
        (record { rec = rec; method = is; instruction = p; stands = walked.stand p (front p left); leads = leads });
    fit = added (IsFit w) found v walked.fit fit;
    stand = λ q c. walked.stand q (behind p q left c);
    all = λ q c. ⊎_elim
        (λ more. ⊎_elim
        (λ e. inr (λ u other. subst (Contains (found ++ v ∷ [])) (same_Some v u (sym leads ∙ (ap (target w rec) e ∙ other))) (Contains-push found v)))
        (λ later. inl later) (rest p q left more))
        (λ has. inr (λ u other. Contains-append_left found (v ∷ []) u (has u other))) (walked.all q c);
  }

  pub walk-ends : (left : List Placed) (found : List Vertex) → left ≡ [] → IsWalked w m rec left found → AreTargets w (LeadsFromMethod w m) found
  walk-ends left found e walked = record { only = walked.only; all = all; fit = walked.fit }
    where
      all : (v : Vertex) → LeadsFromMethod w m v → Contains found v
      all v leads =
          let same : leads.rec ≡ rec = same_Some leads.rec rec (sym leads.method ∙ is) in
          let there = subst (λ (r : MethodRec). Contains (listing (code_of w.infos r)) leads.instruction) same leads.stands in
          let here = subst (λ (r : MethodRec). target w r leads.instruction ≡ Some v) same leads.leads in
          ⊎_elim (λ more. absurd (nothing-in leads.instruction (subst (λ (ps : List Placed). Contains ps leads.instruction) e more)))
          (λ has. has v here) (walked.all leads.instruction there)

-- ---- a method that an interface describes

module _ (w : Linked) (rec : MethodRec) where
  wider : (seen : List Block) (b : Block) (v : Vertex) → LeadsToBlocks w.classes rec seen v → LeadsToBlocks w.classes rec (seen ++ b ∷ []) v
  wider seen b v (leads_block {b = other} among told) = leads_block (Contains-append_left seen (b ∷ []) other among) told

  pub block-skipped : (seen : List Block) (b : Block) (found : List Vertex) → token_told w.classes rec.class rec.token b.by ≡ None
      → AreBlockTargets w rec seen found → AreBlockTargets w rec (seen ++ b ∷ []) found
  block-skipped seen b found none before = record { only = λ v c. wider seen b v (before.only v c); all = all; fit = before.fit }
    where
      all : (v : Vertex) → LeadsToBlocks w.classes rec (seen ++ b ∷ []) v → Contains found v
      all v (leads_block {b = other} {public = public} among told) = ⊎_elim (λ old. before.all v (leads_block old told))
          (λ same. absurd
          (none-some public (sym none ∙ subst (λ (x : Block). token_told w.classes rec.class rec.token x.by ≡ Some public) (sym same) told)))
          (Contains-push_cases seen b other among)

  pub block-taken : (seen : List Block) (b : Block) (public : ℕ) (found : List Vertex) → token_told w.classes rec.class rec.token b.by ≡ Some public
      → AreBlockTargets w rec seen found → AreBlockTargets w rec (seen ++ b ∷ []) (found ++ Means (Span b.node public) ∷ [])
  block-taken seen b public found told before = record {
    only = added (LeadsToBlocks w.classes rec (seen ++ b ∷ [])) found (Means (Span b.node public)) (λ v c. wider seen b v (before.only v c))
        (leads_block (Contains-push seen b) told);
    all = all;
    fit = added (IsFit w) found (Means (Span b.node public)) before.fit tt;
  }
    where
      all : (v : Vertex) → LeadsToBlocks w.classes rec (seen ++ b ∷ []) v → Contains (found ++ Means (Span b.node public) ∷ []) v
      all v (leads_block {b = other} {public = token} among here) = ⊎_elim
          (λ old. Contains-append_left found (Means (Span b.node public) ∷ []) (Means (Span other.node token)) (before.all v (leads_block old here)))
          (λ same. there same) (Contains-push_cases seen b other among)
        where
          there : b ≡ other → Contains (found ++ Means (Span b.node public) ∷ []) (Means (Span other.node token))
          there same =
              let tokens : public ≡ token = same_Some public token
              (sym told ∙ subst (λ (x : Block). token_told w.classes rec.class rec.token x.by ≡ Some token) (sym same) here) in
              subst (λ (x : Block). Contains (found ++ Means (Span b.node public) ∷ []) (Means (Span x.node token))) same
              (subst (λ (n : ℕ). Contains (found ++ Means (Span b.node public) ∷ []) (Means (Span b.node n))) tokens
              (Contains-push found (Means (Span b.node public))))

-- ---- entries

owned-equal : (w : Linked) (c token n m : ℕ) → Owns w c token n → Owns w c token m → n ≡ m
owned-equal w c token n m a b = same_Some n m (sym a.entry ∙ b.entry)

pub own-one : (w : Linked) (c token n : ℕ) → Owns w c token n → IsOwn w c token (Method n ∷ [])
own-one w c token n owns =
    grind (arith, added (IsOwned w c token) [] (Method n) (none-more (IsOwned w c token)) (is_owned owns), owned-equal)

-- an item of the list of subclasses is one
pub item-link : (t : ClassTable) (c : ℕ) (row : List ℕ) (i : ℕ) → AreSubclasses t c row → i < length row
    → parent_of t (slice_index_or row i 0) ≡ Some c
item-link t c row i are inside = are.only (slice_index_or row i 0) (Contains-get_or row i 0 inside)

pub item-inside : (t : ClassTable) (c : ℕ) (row : List ℕ) (i : ℕ) → AreSubclasses t c row → i < length row
    → slice_index_or row i 0 < length t.records
item-inside t c row i are inside = (parent_of-class t (slice_index_or row i 0) c (item-link t c row i are inside)).number

pub record AreEntriesOf (w : Linked) (c token : ℕ) (seen : List ℕ) (found : List Vertex) : Type 0 where
  pub only : (v : Vertex) → Contains found v → LeadsFromEntries w c token v
  pub fit : (v : Vertex) → Contains found v → IsFit w v
  pub own : (n : ℕ) → Owns w c token n → Contains found (Method n)
  pub below : (d : ℕ) → Contains seen d → shares w.classes c token d ≡ true → Contains found (Means (Entries d token))

module _ (w : Linked) (c token : ℕ) where
  own-leads : (v : Vertex) → IsOwned w c token v → LeadsFromEntries w c token v
  own-leads v (is_owned owns) = leads_own owns

  own-fit : (v : Vertex) → IsOwned w c token v → IsFit w v
  own-fit v (is_owned {n = n} owns) = code-inside w n owns.code

  pub entries-begin : (found : List Vertex) → IsOwn w c token found → AreEntriesOf w c token [] found
  entries-begin found own = grind (arith, own-leads, own-fit, nothing-in)

  pub entries-not : (d : ℕ) (seen : List ℕ) (found : List Vertex) → shares w.classes c token d ≡ false → AreEntriesOf w c token seen found
      → AreEntriesOf w c token (seen ++ d ∷ []) found
  entries-not d seen found not before = record {
    only = before.only;
    fit = before.fit;
    own = before.own;
    below = λ k h shared. ⊎_elim (λ old. before.below k old shared)
        (λ is. absurd (false≢true (sym not ∙ subst (λ (x : ℕ). shares w.classes c token x ≡ true) (sym is) shared))) (Contains-push_cases seen d k h);
  }

  pub entries-is : (d : ℕ) (seen : List ℕ) (found : List Vertex) → parent_of w.classes d ≡ Some c → shares w.classes c token d ≡ true
      → AreEntriesOf w c token seen found → AreEntriesOf w c token (seen ++ d ∷ []) (found ++ Means (Entries d token) ∷ [])
  entries-is d seen found link here before = record {
    only = added (LeadsFromEntries w c token) found (Means (Entries d token)) before.only (leads_below link here);
    fit = added (IsFit w) found (Means (Entries d token)) before.fit tt;
    own = λ n owns. Contains-append_left found (Means (Entries d token) ∷ []) (Method n) (before.own n owns);
    below = λ k h shared. ⊎_elim
        (λ old. Contains-append_left found (Means (Entries d token) ∷ []) (Means (Entries k token)) (before.below k old shared))
        (λ is. subst (λ (x : ℕ). Contains (found ++ Means (Entries d token) ∷ []) (Means (Entries x token))) is
        (Contains-push found (Means (Entries d token)))) (Contains-push_cases seen d k h);
  }

  pub entries-end : (seen : List ℕ) (found : List Vertex) → AreSubclasses w.classes c seen → AreEntriesOf w c token seen found
      → AreTargets w (LeadsFromEntries w c token) found
  entries-end seen found subclasses entries = record { only = entries.only; all = all; fit = entries.fit }
    where
      all : (v : Vertex) → LeadsFromEntries w c token v → Contains found v
      all v (leads_own {n = n} owns) = entries.own n owns
      all v (leads_below {d = d} link shared) = entries.below d (subclasses.all d link) shared

  -- no class is there
  pub entries-past : IsWorld w → length w.classes.records ≤ c → AreTargets w (LeadsFromEntries w c token) []
  entries-past world past = record { only = none-more (LeadsFromEntries w c token); all = all; fit = none-more (IsFit w) }
    where
      all : (v : Vertex) → LeadsFromEntries w c token v → Contains [] v
      all v (leads_own owns) = let l = owns.class_is.number in absurd (omega (arith, l, past))
      all v (leads_below {d = d} link shared) =
          let next : IsNextOnChain w.classes d c = next_on_chain w.classes d c world.chains (parent_of-class w.classes d c link) link in
          let l = next.class.number in
          absurd (omega (arith, l, past))

-- ---- classes under a node

module _ (w : Linked) (order : List ℕ) (x token : ℕ) where
  supplied-equal : (n m : ℕ) → IsSupplied w order x token n → IsSupplied w order x token m → n ≡ m
  supplied-equal n m a b = grind (arith, same_Some)

  pub span-none : length order ≤ x → ((n : ℕ) → ¬ (IsSupplied w order x token n)) → AreTargets w (LeadsFromSpan w order x token) []
  span-none past none = record { only = none-more (LeadsFromSpan w order x token); all = all; fit = none-more (IsFit w) }
    where
      all : (v : Vertex) → LeadsFromSpan w order x token v → Contains [] v
      all v (leads_half pos inside half) = absurd (omega (arith, past, inside))
      all v (leads_supplied {n = n} supplied) = absurd (none n supplied)

  pub span-one : (n : ℕ) → length order ≤ x → IsSupplied w order x token n → AreTargets w (LeadsFromSpan w order x token) (Method n ∷ [])
  span-one n past one = record {
    only = added (LeadsFromSpan w order x token) [] (Method n) (none-more (LeadsFromSpan w order x token)) (leads_supplied one);
    all = all;
    fit = added (IsFit w) [] (Method n) (none-more (IsFit w)) (code-inside w n one.supplies.code);
  }
    where
      all : (v : Vertex) → LeadsFromSpan w order x token v → Contains (Method n ∷ []) v
      all v (leads_half pos inside half) = absurd (omega (arith, past, inside))
      all v (leads_supplied {n = m} other) =
          subst (λ (k : ℕ). Contains (Method n ∷ []) (Method k)) (supplied-equal n m one other) (Contains-push [] (Method n))

  pub span-top : x ≡ 0 → x < length order → AreTargets w (LeadsFromSpan w order x token) []
  span-top top inside = record { only = none-more (LeadsFromSpan w order x token); all = all; fit = none-more (IsFit w) }
    where
      all : (v : Vertex) → LeadsFromSpan w order x token v → Contains [] v
      all v (leads_half pos l half) = absurd (omega (arith, top, pos))
      all v (leads_supplied supplied) = let e = supplied.node in absurd (omega (arith, e, inside))

  pub span-halves : 0 < x → x < length order
      → AreTargets w (LeadsFromSpan w order x token) (Means (Span (x * 2) token) ∷ Means (Span (x * 2 + 1) token) ∷ [])
  span-halves pos inside = record {
    only = added (LeadsFromSpan w order x token) (Means (Span (x * 2) token) ∷ []) (Means (Span (x * 2 + 1) token))
        (added (LeadsFromSpan w order x token) [] (Means (Span (x * 2) token)) (none-more (LeadsFromSpan w order x token))
        (leads_half pos inside (inl refl))) (leads_half pos inside (inr refl));
    all = all;
    fit = grind (arith, added, none-more);
  }
    where
      all : (v : Vertex) → LeadsFromSpan w order x token v → Contains (Means (Span (x * 2) token) ∷ Means (Span (x * 2 + 1) token) ∷ []) v
      all v (leads_half {y = y} p l half) = elim half [
        | inl e ↦
            subst (λ (k : ℕ). Contains (Means (Span (x * 2) token) ∷ Means (Span (x * 2 + 1) token) ∷ []) (Means (Span k token))) (sym e)
            (Contains-append_left (Means (Span (x * 2) token) ∷ []) (Means (Span (x * 2 + 1) token) ∷ []) (Means (Span (x * 2) token))
            (Contains-push [] (Means (Span (x * 2) token))))
        | inr e ↦
            subst (λ (k : ℕ). Contains (Means (Span (x * 2) token) ∷ Means (Span (x * 2 + 1) token) ∷ []) (Means (Span k token))) (sym e)
            (Contains-push (Means (Span (x * 2) token) ∷ []) (Means (Span (x * 2 + 1) token)))
      ]
      all v (leads_supplied supplied) = let e = supplied.node in absurd (omega (arith, e, inside))
