-- Each entry of the handler table is owned by exactly one method, in whose code it lies.
use Rattle.std.proofs.Common.{◌≡◌, ◌≤◌, ◌<◌, ◌+◌, ◌-◌, ℕ, zero, suc, List, [], ◌∷◌, ◌++◌, length, map, drop, sum_by}
use Rattle.std.proofs.Common.{filter, filter_map, slice_get, max, Bool, true, false, cond, not, ◌&&◌}
use Rattle.std.proofs.Common.{Option, Some, None, inl, inr, refl, sym, ap, subst}
use Rattle.std.proofs.Common.{◌∙◌, arith}
use Rattle.std.specs.Prelude.{if◌then◌else◌, nat_lt, nat_le, ◌==◌}
use Rattle.std.proofs.lemmas.Bool.{false≢true, leb-true, le-leb, lt-ltb, le-ltb}
use Rattle.std.proofs.lemmas.Option.{slice_get_within}
use Rattle.cap_method.specs.declared.read_methods.HandlerInfo.{HandlerInfo}
use Rattle.cap_desc.specs.DescriptorFormat.{MethodDescriptor}
use Rattle.cap_components.specs.declared.fault.PackFault.TheVariants.{HandlerOutside}
use Rattle.cap_components.specs.Parts.{Lent}
use Rattle.cap_components.specs.PackageRecord.{PackageRecord, described_methods, handlers_of}
use Rattle.cap_package.specs.MethodChecks.{code_start, code_end}
use Rattle.cap_package.specs.HandlerChecks.{claims, owners, is_within, has_home, handler_fault, claim_fault, numbered_fault}
use Rattle.std.specs.List.{enumerate_from}
use Rattle.cap_package.proofs.StaticsKnown.{both_empty}
use Rattle.cap_laying.specs.HandlerTable.{AreInside, entries_at}
use Rattle.jc_decode.specs.declared.symbols.Laid.{Laid}
use Rattle.jc_decode.specs.declared.symbols.LaidHandler.{LaidHandler}
use Rattle.law_package.specs.Changes.{FormerMethod, Change, changes, sources_from}
use Rattle.law_package.specs.Written.{IsAs, IsMethodWritten, handlers_in, block_of}
use Rattle.law_package.specs.Rewritten.{IsRewritten}
use Rattle.law_package.specs.Laying.{IsFor, AreLaidFor}
use Rattle.law_package.proofs.Lists.{Each, Has, each_at, each_of, none_each}
use Rattle.law_package.proofs.Lists.{each_none, append_none, filter_map_in, filter_alike, has_filter}
use Rattle.law_package.proofs.Sums.{sum_beside}
use Rattle.law_package.proofs.Owners.{below, lies_in, Distinct, owned}
use Rattle.cap_package.proofs.Agreed.{Agrees}
use Rattle.law_package.proofs.Zipped.{old_of, source_of, from_number, now_of}
use Rattle.law_package.proofs.Facts.{Fact, facts, news, olds, froms, old_each, all_written, few_by, no_faults}
use Rattle.law_package.proofs.Standing.{distinct_map}
use Rattle.law_package.proofs.Names.{is_told}
use Rattle.jc_base.proofs.Lists.{slice_get-drop, slice_get-take}

-- ---- the former table: no two methods had one first entry

numbered_at : {X : Type 0} (P : ℕ × X → Type 0) (n : ℕ) (xs : List X) → Each P (enumerate_from n xs) → (i : ℕ) → i < length xs → (x : X)
    × P (n + i, x)
numbered_at P n [] h i lt = absurd (omega arith)
numbered_at P n (x ∷ xs) h zero lt = let e : n ≡ n + 0 = omega arith in (x, subst (λ k. P (k, x)) e h.0)
numbered_at P n (x ∷ xs) h (suc i) lt = grind (arith, suc, numbered_at P (n + 1) xs h.1 i (omega arith))

pub one_home : (info : List ℕ) (h : HandlerInfo) (ms : List MethodDescriptor) → has_home info h ms ≡ true → length ms ≤ 1
one_home info h [] e = omega arith
one_home info h (m ∷ []) e = omega arith
one_home info h (m ∷ n ∷ ms) e = absurd (false≢true e)

pub one_owner : (info : List ℕ) (ms : List MethodDescriptor) (number : ℕ) (h : HandlerInfo) → handler_fault info ms number h ≡ None
    → length (filter (claims number) ms) ≤ 1
unfolding handler_fault owners
one_owner info ms number h e = one_home info h (filter (claims number) ms) (is_told (has_home info h (filter (claims number) ms)) _ e)

abbrev pub OwnedOnce : ℕ → List MethodDescriptor → Type 0
OwnedOnce n ms = (i : ℕ) → i < n → length (filter (claims i) ms) ≤ 1

pub owned_once : (parts : List Lent) (p : PackageRecord) → Agrees parts p → OwnedOnce (length p.methods.handlers) (described_methods p)
owned_once parts p a i lt =
    let info = p.methods.info in
    let ms = described_methods p in
    let both = both_empty (filter_map (numbered_fault info ms) (enumerate_from 0 p.methods.handlers))
    (filter_map (claim_fault (length p.methods.handlers)) ms) a.handlers in
    let at = numbered_at (λ x. numbered_fault info ms x ≡ None) 0 p.methods.handlers
    (none_each (numbered_fault info ms) (enumerate_from 0 p.methods.handlers) both.0) i lt in
    let e : 0 + i ≡ i = omega arith in
    subst (λ k. length (filter (claims k) ms) ≤ 1) e (one_owner info ms (0 + i) at.0 at.1)

abbrev pub ClaimsInside : ℕ → MethodDescriptor → Type 0
ClaimsInside n m = (m.handler_count == 0) ≡ false → m.handler_index + m.handler_count ≤ n

pub some_count : (n : ℕ) → (n == 0) ≡ false → 1 ≤ n
some_count n e = grind arith

claims_inside : (n : ℕ) (m : MethodDescriptor) → claim_fault n m ≡ None → ClaimsInside n m
unfolding claim_fault
claims_inside n m e some = grind (arith, not, few_by)

pub all_claims : (parts : List Lent) (p : PackageRecord) → Agrees parts p → Each (ClaimsInside (length p.methods.handlers)) (described_methods p)
all_claims parts p a =
    let info = p.methods.info in
    let ms = described_methods p in
    let n = length p.methods.handlers in
    let both = both_empty (filter_map (numbered_fault info ms) (enumerate_from 0 p.methods.handlers)) (filter_map (claim_fault n) ms) a.handlers in
    let each = none_each (claim_fault n) ms both.1 in
    each_of (ClaimsInside n) ms (λ m h. claims_inside n m (each_at (λ x. claim_fault n x ≡ None) ms m each h))

-- ---- blocks are apart

pub distinct_numbers : (n : ℕ) (ms : List MethodDescriptor) (ls : List (Option Laid)) → Distinct (λ (s : FormerMethod). s.number) (sources_from n ms ls)
distinct_numbers n [] ls = tt
distinct_numbers n (m ∷ ms) [] = tt
distinct_numbers n (m ∷ ms) (l ∷ ls) = grind (arith, from_number, each_of, each_at, distinct_numbers (n + 1) ms ls)

many_has : {X : Type 0} (xs : List X) (x : X) → Has xs x → 1 ≤ length xs
many_has [] x h = absurd h
many_has (y ∷ ys) x h = omega arith

pub has_map : {X Y : Type 0} (g : X → Y) (xs : List X) (x : X) → Has xs x → Has (map g xs) (g x)
has_map g [] x h = h
has_map g (y ∷ ys) x (inl s) = inl (ap g s)
has_map g (y ∷ ys) x (inr h) = inr (has_map g ys x h)

fewer : {X : Type 0} (b : Bool) (x : X) (xs : List X) → length xs ≤ length (cond b (x ∷ xs) xs)
fewer true x xs = omega arith
fewer false x xs = omega arith

claims_first : (m : MethodDescriptor) → (m.handler_count == 0) ≡ false → claims m.handler_index m ≡ true
claims_first m e = grind (arith, some_count)

-- two methods that claim one entry
claimed_twice : (ms : List MethodDescriptor) (m n : MethodDescriptor) (i : ℕ) → Has ms n → claims i m ≡ true → claims i n ≡ true
    → length (filter (claims i) (m ∷ ms)) ≤ 1 → ⊥
claimed_twice ms m n i h e f le =
    grind (arith, filter (claims i) (m ∷ ms), many_has (filter (claims i) ms) n (has_filter (claims i) ms n h f), suc, cond)

blocks_differ : (p : PackageRecord) (c d : Change) (cs : List Change) (b e : Bool) → (c.source.method.handler_count == 0) ≡ b
    → (d.source.method.handler_count == 0) ≡ e → Has cs d
    → (d.source.number ≡ c.source.number → ⊥) → ClaimsInside (length p.methods.handlers) c.source.method
    → ClaimsInside (length p.methods.handlers) d.source.method
    → OwnedOnce (length p.methods.handlers) (map old_of (c ∷ cs)) → block_of p d.source ≡ block_of p c.source → ⊥
blocks_differ p c d cs true true u v h n x y o s = grind (arith)
blocks_differ p c d cs true false u v h n x y o s = grind (arith, some_count)
blocks_differ p c d cs false true u v h n x y o s = grind (arith, some_count)
blocks_differ p c d cs false false u v h n x y o s =
    grind (
      arith,
      some_count c.source.method.handler_count u,
      has_map old_of cs d h,
      claims_first c.source.method u,
      claims_first d.source.method v,
      claimed_twice,
    )

abbrev pub block : PackageRecord → Change → ℕ
block p c = block_of p c.source

pub blocks_apart : (p : PackageRecord) (cs : List Change) → Each (λ (c : Change). ClaimsInside (length p.methods.handlers) c.source.method) cs
    → Distinct (λ (c : Change). c.source.number) cs
    → OwnedOnce (length p.methods.handlers) (map old_of cs) → Distinct (block p) cs
blocks_apart p [] x n o = tt
blocks_apart p (c ∷ cs) x n o = (
  each_of (λ (d : Change). block p d ≡ block p c → ⊥) cs
      (λ d h. blocks_differ p c d cs (c.source.method.handler_count == 0) (d.source.method.handler_count == 0) refl refl h
      (each_at (λ (y : Change). y.source.number ≡ c.source.number → ⊥) cs d n.0 h) x.0
      (each_at (λ (y : Change). ClaimsInside (length p.methods.handlers) y.source.method) cs d x.1 h) o),
  blocks_apart p cs x.1 n.1 (grind (arith, fewer, filter)),
)

pub all_blocks : (parts : List Lent) (p q : PackageRecord) (laid : List (Option Laid)) → Agrees parts p → IsRewritten p laid q
    → Distinct (block p) (changes p laid q)
all_blocks parts p q laid a r =
    blocks_apart p (changes p laid q)
    (old_each p q laid (ClaimsInside (length p.methods.handlers)) r (all_claims parts p a))
    (distinct_map (λ (s : FormerMethod). s.number) source_of (changes p laid q)
    (subst (Distinct (λ (s : FormerMethod). s.number)) (sym (froms p q laid r)) (distinct_numbers 0 (described_methods p) _)))
    (subst (OwnedOnce (length p.methods.handlers)) (sym (olds p q laid r)) (owned_once parts p a))

-- ---- who owns an entry now

nothing_in : (n k z : ℕ) → z ≡ 0 → nat_le n k && nat_lt k (n + z) ≡ false
nothing_in n k z e = by (nat_le n k) refl
  where
    by : (b : Bool) → nat_le n k ≡ b → b && nat_lt k (n + z) ≡ false
    by true h = let l = leb-true n k h in let f : nat_lt k (n + z) ≡ false = grind arith in f
    by false h = refl

is_none : (n : ℕ) → (n == 0) ≡ true → n ≡ 0
is_none n e = grind arith

index_is : (p q : PackageRecord) (all : List Change) (c : Change) → IsMethodWritten p q all c
    → c.now.handler_index ≡ (if c.now.handler_count == 0 then 0 else below handlers_in (block p) all (block p c))
index_is p q all c w = w.index

lies_or_claims : (p q : PackageRecord) (all : List Change) (k : ℕ) (c : Change) → IsMethodWritten p q all c
    → claims k c.now ≡ lies_in handlers_in (block p) all k c
lies_or_claims p q all k c w = by (c.now.handler_count == 0) refl
  where
    by : (b : Bool) → (c.now.handler_count == 0) ≡ b → claims k c.now ≡ lies_in handlers_in (block p) all k c
    by true e =
        let z = is_none c.now.handler_count e in
        nothing_in c.now.handler_index k c.now.handler_count z ∙ sym (nothing_in (below handlers_in (block p) all (block p c)) k c.now.handler_count z)
    by false e =
        let i : c.now.handler_index ≡ below handlers_in (block p) all (block p c) = index_is p q all c w
        ∙ ap (λ b. if b then 0 else below handlers_in (block p) all (block p c)) e in
        ap (λ n. nat_le n k && nat_lt k (n + c.now.handler_count)) i

owners_are : (p q : PackageRecord) (laid : List (Option Laid)) (k : ℕ) (c : Change) → IsRewritten p laid q
    → filter (lies_in handlers_in (block p) (changes p laid q) k) (changes p laid q) ≡ c ∷ [] → owners k (described_methods q) ≡ c.now ∷ []
unfolding owners
owners_are p q laid k c r alone =
    let cs = changes p laid q in
    let ws = all_written p q laid r in
    ap (filter (claims k)) (sym (news p q laid r))
    ∙ filter_map_in (claims k) now_of cs
    ∙ ap (map now_of) (filter_alike (λ (x : Change). claims k x.now) (lies_in handlers_in (block p) cs k) cs
    (each_of (λ (x : Change). claims k x.now ≡ lies_in handlers_in (block p) cs k x) cs
    (λ x h. lies_or_claims p q cs k x (each_at (IsMethodWritten p q cs) cs x ws h))) ∙ alone)

-- ---- where an entry lies

pub record IsEntryOf (start size : ℕ) (e : HandlerInfo) : Type 0 where
  pub low : start ≤ e.start
  pub high : e.start + e.length ≤ start + size
  pub after : start ≤ e.entry
  pub before : e.entry < start + size

entry_within : (start size : ℕ) (hs : List LaidHandler) (j : ℕ) (e : HandlerInfo) → AreInside size hs → slice_get (entries_at start hs) j ≡ Some e
    → IsEntryOf start size e
entry_within start size [] j e a g = absurd cc
entry_within start size (h ∷ hs) zero e a g =
    let s : start + h.start ≡ e.start = ap (λ o. start_or start o) g in
    let l : h.length ≡ e.length = ap (λ o. length_or h.length o) g in
    let n : start + h.entry ≡ e.entry = ap (λ o. entry_or start o) g in
    let r = a.0.range in
    let b = a.0.entry in
    record { low = omega arith; high = omega arith; after = omega arith; before = omega arith }
  where
    start_or : ℕ → Option HandlerInfo → ℕ
    start_or d None = d
    start_or d (Some x) = x.start

    length_or : ℕ → Option HandlerInfo → ℕ
    length_or d None = d
    length_or d (Some x) = x.length

    entry_or : ℕ → Option HandlerInfo → ℕ
    entry_or d None = d
    entry_or d (Some x) = x.entry
entry_within start size (h ∷ hs) (suc j) e a g = entry_within start size hs j e a.1 g

within_code : (info : List ℕ) (m : MethodDescriptor) (size : ℕ) (h : HandlerInfo) → m.bytecode_count ≡ size → IsEntryOf (code_start info m) size h
    → is_within info h m ≡ true
unfolding code_end
within_code info m size h e i = grind (arith, le-leb, lt-ltb)

owner_within : (p q : PackageRecord) (all : List Change) (c : Change) (k : ℕ) (h : HandlerInfo) (l : Option Laid) (x : _) → IsFor x l
    → IsAs p q c.source.method l c.now → IsMethodWritten p q all c
    → slice_get q.methods.handlers k ≡ Some h → below handlers_in (block p) all (block p c) ≤ k
    → k < below handlers_in (block p) all (block p c) + c.now.handler_count → is_within q.methods.info h c.now ≡ true
owner_within p q all c k h None x f is w g low high = let z = is.no_handlers in absurd (omega arith)
owner_within p q all c k h (Some laid) x f is w g low high =
    let m = c.now in
    let n = below handlers_in (block p) all (block p c) in
    let some : (m.handler_count == 0) ≡ false = not_none m.handler_count (omega arith) in
    let i : m.handler_index ≡ n = index_is p q all c w ∙ ap (λ b. if b then 0 else n) some in
    let at : m.handler_index + (k - n) ≡ k = omega arith in
    let e : slice_get (handlers_of q m) (k - n) ≡ Some h =
    slice_get-take m.handler_count (k - n) (drop m.handler_index q.methods.handlers) (omega arith) ∙ slice_get-drop m.handler_index (k - n) q.methods.handlers
    ∙ ap (slice_get q.methods.handlers) at ∙ g in
    within_code q.methods.info m (length laid.code) h is.long
    (entry_within (code_start q.methods.info m) (length laid.code) laid.handlers (k - n) h f.inside (ap (λ hs. slice_get hs (k - n)) (sym is.handlers) ∙ e))
  where
    not_none : (n : ℕ) → 1 ≤ n → (n == 0) ≡ false
    not_none n h = grind arith

-- ---- all entries, and all that methods claim

numbered_all : {X : Type 0} (P : ℕ × X → Type 0) (n : ℕ) (xs : List X) → ((i : ℕ) (x : X) → slice_get xs i ≡ Some x → P (n + i, x))
    → Each P (enumerate_from n xs)
numbered_all P n [] f = tt
numbered_all P n (x ∷ xs) f =
    let e : n + 0 ≡ n = omega arith in (
      subst (λ k. P (k, x)) e (f 0 x refl),
      numbered_all P (n + 1) xs (λ i y g. let s : n + suc i ≡ n + 1 + i = omega arith in subst (λ k. P (k, y)) s (f (suc i) y g)),
    )

entry_home : (info : List ℕ) (ms : List MethodDescriptor) (k : ℕ) (h : HandlerInfo) (m : MethodDescriptor) → owners k ms ≡ m ∷ []
    → is_within info h m ≡ true → handler_fault info ms k h ≡ None
unfolding handler_fault
entry_home info ms k h m e w = rw (e, w) refl

one_entry : (parts : List Lent) (p q : PackageRecord) (laid : List (Option Laid)) → Agrees parts p → AreLaidFor p laid → IsRewritten p laid q
    → (k : ℕ) (h : HandlerInfo) → slice_get q.methods.handlers k ≡ Some h → handler_fault q.methods.info (described_methods q) k h ≡ None
one_entry parts p q laid a l r k h g =
    let cs = changes p laid q in
    let less = slice_get_within q.methods.handlers k h g in
    let o = owned handlers_in (block p) cs k (all_blocks parts p q laid a r) (omega (arith, r.handlers)) in
    let f = each_at (Fact p q) cs o.owner (facts parts p q laid a l r) o.has in
    let w = each_at (IsMethodWritten p q cs) cs o.owner (all_written p q laid r) o.has in
    entry_home q.methods.info (described_methods q) k h o.owner.now (owners_are p q laid k o.owner r o.alone)
    (owner_within p q cs o.owner k h o.owner.source.laid f.was.header f.fits f.written w g o.low o.high)

claim_none : (n : ℕ) (m : MethodDescriptor) → ((m.handler_count == 0) ≡ false → m.handler_index + m.handler_count ≤ n) → claim_fault n m ≡ None
unfolding claim_fault
claim_none n m h = by (m.handler_count == 0) refl
  where
    by : (b : Bool) → (m.handler_count == 0) ≡ b
        → (if not b && nat_lt n (m.handler_index + m.handler_count) then Some (HandlerOutside (max m.handler_index n)) else None) ≡ None
    by true e = refl
    by false e = let le = h e in let f : nat_lt n (m.handler_index + m.handler_count) ≡ false = grind arith in rw f refl

claims_now : (p q : PackageRecord) (all : List Change) (c : Change) → IsMethodWritten p q all c → Has all c
    → length q.methods.handlers ≡ sum_by handlers_in all → claim_fault (length q.methods.handlers) c.now ≡ None
claims_now p q all c w h many = grind (arith, claim_none, index_is, sum_beside, le-ltb)

pub all_home : (parts : List Lent) (p q : PackageRecord) (laid : List (Option Laid)) → Agrees parts p → AreLaidFor p laid → IsRewritten p laid q
    → filter_map (numbered_fault q.methods.info (described_methods q)) (enumerate_from 0 q.methods.handlers) ++ filter_map
    (claim_fault (length q.methods.handlers)) (described_methods q) ≡ []
all_home parts p q laid a l r =
    let cs = changes p laid q in
    let ms = described_methods q in
    let info = q.methods.info in
    append_none (filter_map (numbered_fault info ms) (enumerate_from 0 q.methods.handlers)) (filter_map (claim_fault (length q.methods.handlers)) ms)
    (each_none (numbered_fault info ms) (enumerate_from 0 q.methods.handlers) (numbered_all (λ x. numbered_fault info ms x ≡ None) 0 q.methods.handlers
    (λ i h g. let e : i ≡ 0 + i = omega arith in subst (λ k. handler_fault info ms k h ≡ None) e (one_entry parts p q laid a l r i h g))))
    (no_faults p q laid (claim_fault (length q.methods.handlers)) r (each_of (λ (c : Change). claim_fault (length q.methods.handlers) c.now ≡ None) cs
    (λ c h. claims_now p q cs c (each_at (IsMethodWritten p q cs) cs c (all_written p q laid r) h) h r.handlers)))
