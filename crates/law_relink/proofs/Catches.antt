-- Each handler catches all, or a class below throwable.
use Rattle.std.proofs.Common.{◌≡◌, ◌≤◌, ◌<◌, ◌+◌, ◌-◌, ℕ, zero, suc, List, [], ◌∷◌, length, drop, map, filter_map}
use Rattle.std.proofs.Common.{Bool, true, false, Option, Some, None, option_map, ◌||◌, ◌⊎◌, inl, inr, slice_get, refl, sym, ap, subst}
use Rattle.std.proofs.Common.{◌∙◌, arith}
use Rattle.std.specs.Prelude.{if◌then◌else◌, All, ◌==◌}
use Rattle.std.proofs.lemmas.Option.{slice_get-map, slice_get_within}
use Rattle.cap_desc.specs.DescriptorFormat.{MethodDescriptor}
use Rattle.cap_method.specs.declared.read_methods.HandlerInfo.{HandlerInfo}
use Rattle.cap_pool.specs.PoolFormat.{Entry}
use Rattle.cap_pool.specs.declared.pool_record.PoolReference.{PoolReference}
use Rattle.cap_package.specs.PackageRecord.{PackageRecord, handlers_of}
use Rattle.cap_package.specs.Parts.{Lent}
use Rattle.cap_package.specs.StandsFor.{StandsFor}
use Rattle.cap_package.proofs.StaticsKnown.{both_empty}
use Rattle.cap_laying.specs.HandlerTable.{entries_at}
use Rattle.cap_renewal.specs.PoolEdits.{renewed_entry}
use Rattle.cap_renewal.proofs.RenewedEntries.{asked-same}
use Rattle.jc_base.specs.declared.record.Handler.{Handler}
use Rattle.jc_base.specs.Class.{ClassTable}
use Rattle.jc_base.proofs.Eaching.{Each-from_All}
use Rattle.jc_decode.specs.declared.symbols.LaidHandler.{LaidHandler as Laying}
use Rattle.jc_decode.specs.declared.symbols.Laid.{Laid}
use Rattle.jc_link.specs.Catches.{class_caught, class_caught_by, thrown_by, catches_throwable, HandlerPlace, handlers_from, handlers_after, catch_fault}
use Rattle.jc_link.specs.Catches.{bad_catches}
use Rattle.jc_resolve.specs.declared.fault.LinkFault.TheVariants.{BadCatch}
use Rattle.jc_resolve.specs.NamedMethods.{handler_named}
use Rattle.law_package.specs.Changes.{Change, changes}
use Rattle.law_package.specs.Written.{IsAs, IsMethodWritten, handlers_in, block_of}
use Rattle.law_package.specs.Rewritten.{IsRewritten}
use Rattle.law_package.proofs.Lists.{Each, each_at, none_each, each_none, append_none}
use Rattle.law_package.proofs.Owners.{below, owned}
use Rattle.cap_package.proofs.Agreed.{agrees}
use Rattle.law_package.proofs.Facts.{all_written}
use Rattle.law_package.proofs.Handlers.{all_blocks}
use Rattle.law_laid.proofs.Steps.{at-contains}
use Rattle.jc_resolve.proofs.Pairwise.{each-at}
use Rattle.law_relink.specs.Last.{and_last}
use Rattle.law_relink.specs.Replaced.{HasPoolOf}
use Rattle.law_relink.proofs.Lists.{get_each, each_take, each_drop}
use Rattle.law_relink.proofs.Members.{class_same}
use Rattle.std.proofs.lemmas.List.Elements.{filter_map-append}
use Rattle.jc_base.proofs.Lists.{slice_get-drop, slice_get-take}

module _ (ps : List PackageRecord) (p q : PackageRecord) (laid : List (Option Laid)) (r : IsRewritten p laid q) (t : ClassTable)
  where
    abbrev now : List PackageRecord
    now = and_last ps q

    abbrev old : List PackageRecord
    old = and_last ps p

    caught_same : (k : ℕ) (x : PoolReference) → class_caught now k x ≡ class_caught old k x
    caught_same k other = grind (arith, class_same)

    by_same : (k : ℕ) (o : Option Entry) → class_caught_by now k o ≡ class_caught_by old k o
    by_same k x = grind (arith, caught_same)

    catches_same : (k : ℕ) (pool : List Entry) (index : ℕ) → catches_throwable now t k pool index ≡ catches_throwable old t k pool index
    unfolding catches_throwable
    catches_same k pool index = ap (λ c. index == 0 || thrown_by t c) (by_same k (slice_get pool index))

    by_renewed : (k : ℕ) (to : ℕ → ℕ) (o : Option Entry) → class_caught_by old k (option_map (renewed_entry to) o) ≡ class_caught_by old k o
    by_renewed k to None = refl
    by_renewed k to (Some e) = asked-same (class_caught old k) None (λ o. refl) to e

    catches_renewed : (k index : ℕ) → catches_throwable now t k q.pool index ≡ catches_throwable old t k p.pool index
    unfolding catches_throwable
    catches_renewed k index = grind (arith, by_same, slice_get, slice_get-map, by_renewed)

    -- ---- the handlers of a package

    abbrev Catches : List PackageRecord → ℕ → List Entry → HandlerInfo → Type 0
    Catches xs k pool h = catches_throwable xs t k pool h.index ≡ true

    fault_not : (b : Bool) (k n : ℕ) → (if b then None else Some (BadCatch k n)) ≡ None → b ≡ true
    fault_not x k n e = grind (arith)

    each_catches : (xs : List PackageRecord) (k : ℕ) (pool : List Entry) (n : ℕ) (hs : List HandlerInfo)
        → filter_map (catch_fault xs t) (handlers_from k pool n hs) ≡ [] → Each (Catches xs k pool) hs
    unfolding catch_fault
    each_catches xs k pool n hs e = by n hs (none_each (catch_fault xs t) (handlers_from k pool n hs) e)
      where
        by : (n : ℕ) (hs : List HandlerInfo) → Each (λ (x : HandlerPlace). catch_fault xs t x ≡ None) (handlers_from k pool n hs)
            → Each (Catches xs k pool) hs
        by n [] h = tt
        by n (x ∷ hs) h = (fault_not (catches_throwable xs t k pool x.index) k n h.0, by (n + 1) hs h.1)

    no_fault : (xs : List PackageRecord) (k : ℕ) (pool : List Entry) (n : ℕ) (hs : List HandlerInfo) → Each (Catches xs k pool) hs
        → filter_map (catch_fault xs t) (handlers_from k pool n hs) ≡ []
    unfolding catch_fault
    no_fault xs k pool n hs h = each_none (catch_fault xs t) (handlers_from k pool n hs) (by n hs h)
      where
        by : (n : ℕ) (hs : List HandlerInfo) → Each (Catches xs k pool) hs
            → Each (λ (x : HandlerPlace). catch_fault xs t x ≡ None) (handlers_from k pool n hs)
        by n [] h = tt
        by n (x ∷ hs) h = (ap (λ b. if b then None else Some (BadCatch k n)) h.0, by (n + 1) hs h.1)

    earlier_catches : (k : ℕ) (pool : List Entry) (hs : List HandlerInfo) → Each (Catches old k pool) hs
        → Each (Catches now k pool) hs
    earlier_catches k pool [] h = tt
    earlier_catches k pool (x ∷ hs) h = (catches_same k pool x.index ∙ h.0, earlier_catches k pool hs h.1)

    -- ---- handlers that are laid

    -- each handler of the code that is laid catches all, or a class below throwable
    abbrev pub LaidCatch : Change → Type 0
    LaidCatch c = (l : Laid) → c.source.laid ≡ Some l → Each (λ (h : Laying). catches_throwable old t (length ps) p.pool h.pool ≡ true)
        l.handlers

    entry_catches : (start : ℕ) (hs : List Laying) (j : ℕ) (e : HandlerInfo)
        → Each (λ (h : Laying). catches_throwable old t (length ps) p.pool h.pool ≡ true) hs → slice_get (entries_at start hs) j ≡ Some e
        → catches_throwable old t (length ps) p.pool e.index ≡ true
    entry_catches start [] j e h g = absurd cc
    entry_catches start (x ∷ hs) zero e h g =
        let s : x.pool ≡ e.index = ap (λ o. index_or x.pool o) g in
        ap (catches_throwable old t (length ps) p.pool) (sym s) ∙ h.0
      where
        index_or : ℕ → Option HandlerInfo → ℕ
        index_or d None = d
        index_or d (Some y) = y.index
    entry_catches start (x ∷ hs) (suc j) e h g = entry_catches start hs j e h.1 g

    abbrev block : Change → ℕ
    block c = block_of p c.source

    not_none : (n : ℕ) → 1 ≤ n → (n == 0) ≡ false
    not_none n h = grind arith

    owner_catches : (c : Change) (n : ℕ) (h : HandlerInfo) (o : Option Laid) → IsAs p q c.source.method o c.now
        → c.now.handler_index ≡ (if c.now.handler_count == 0 then 0 else below handlers_in block (changes p laid q) (block c))
        → ((l : Laid) → o ≡ Some l → Each (λ (x : Laying). catches_throwable old t (length ps) p.pool x.pool ≡ true) l.handlers)
        → slice_get q.methods.handlers n ≡ Some h
        → below handlers_in block (changes p laid q) (block c) ≤ n
        → n < below handlers_in block (changes p laid q) (block c) + c.now.handler_count
        → catches_throwable old t (length ps) p.pool h.index ≡ true
    owner_catches c n h None is i l g low high = let z = is.no_handlers in absurd (omega (arith, z, low, high))
    owner_catches c n h (Some laid_code) is i l g low high =
        let m = c.now in
        let first = below handlers_in block (changes p laid q) (block c) in
        let some : (m.handler_count == 0) ≡ false = not_none m.handler_count (omega (arith, low, high)) in
        let index : m.handler_index ≡ first = i ∙ ap (λ b. if b then 0 else first) some in
        let at : m.handler_index + (n - first) ≡ n = omega (arith, index, low) in
        let e : slice_get (handlers_of q m) (n - first) ≡ Some h =
        slice_get-take m.handler_count (n - first) (drop m.handler_index q.methods.handlers) (omega (arith, low, high))
        ∙ slice_get-drop m.handler_index (n - first) q.methods.handlers ∙ ap (slice_get q.methods.handlers) at ∙ g in
        entry_catches _ laid_code.handlers (n - first) h (l laid_code refl) (ap (λ hs. slice_get hs (n - first)) (sym is.handlers)
        ∙ e)

    last_catches : (parts : List Lent) → StandsFor parts p → Each LaidCatch (changes p laid q)
        → Each (Catches now (length ps) q.pool) q.methods.handlers
    last_catches parts s all =
        let cs = changes p laid q in
        get_each (Catches now (length ps) q.pool) q.methods.handlers (λ n h g.
        let less = slice_get_within q.methods.handlers n h g in
        let o = owned handlers_in block cs n (all_blocks parts p q laid (agrees parts p s.agree) r)
        (omega (arith, less, r.handlers)) in
        let w = each_at (IsMethodWritten p q cs) cs o.owner (all_written p q laid r) o.has in
        catches_renewed (length ps) h.index ∙ owner_catches o.owner n h o.owner.source.laid w.is w.index
        (each_at LaidCatch cs o.owner all o.has) g o.low o.high)

    -- ---- all packages

    all_catches : (parts : List Lent) (k : ℕ) (xs : List PackageRecord) → StandsFor parts p → Each LaidCatch (changes p laid q)
        → k + length xs ≡ length ps → filter_map (catch_fault old t) (handlers_after k (and_last xs p)) ≡ []
        → filter_map (catch_fault now t) (handlers_after k (and_last xs q)) ≡ []
    all_catches parts k [] s all e none =
        let z : length ps ≡ k = omega (arith, e) in
        let own = handlers_from k q.pool 0 q.methods.handlers in
        filter_map-append (catch_fault now t) own []
        ∙ append_none (filter_map (catch_fault now t) own) []
        (subst (λ j. filter_map (catch_fault now t) (handlers_from j q.pool 0 q.methods.handlers) ≡ []) z
        (no_fault now (length ps) q.pool 0 q.methods.handlers (last_catches parts s all))) refl
    all_catches parts k (x ∷ xs) s all e none =
        let fault = catch_fault old t in
        let own = handlers_from k x.pool 0 x.methods.handlers in
        let both = both_empty (filter_map fault own) (filter_map fault (handlers_after (k + 1) (and_last xs p)))
        (sym (filter_map-append fault own (handlers_after (k + 1) (and_last xs p))) ∙ none) in
        filter_map-append (catch_fault now t) own (handlers_after (k + 1) (and_last xs q))
        ∙ append_none (filter_map (catch_fault now t) own) (filter_map (catch_fault now t) (handlers_after (k + 1) (and_last xs q)))
        (no_fault now k x.pool 0 x.methods.handlers (earlier_catches k x.pool x.methods.handlers
        (each_catches old k x.pool 0 x.methods.handlers both.0)))
        (all_catches parts (k + 1) xs s all (omega (arith, e)) both.1)

    pub none_bad : (parts : List Lent) → StandsFor parts p → Each LaidCatch (changes p laid q) → bad_catches old t ≡ []
        → bad_catches now t ≡ []
    none_bad parts s all none = all_catches parts 0 ps s all (omega arith) none

    -- ---- from the handlers that the methods had

    own_catches : (k : ℕ) (xs : List PackageRecord) → k + length xs ≡ length ps
        → filter_map (catch_fault old t) (handlers_after k (and_last xs p)) ≡ []
        → Each (Catches old (length ps) p.pool) p.methods.handlers
    own_catches k [] e none = grind (arith, length, both_empty, filter_map, filter_map-append, each_catches)
    own_catches k (x ∷ xs) e none =
        let own = handlers_from k x.pool 0 x.methods.handlers in
        let both = both_empty (filter_map (catch_fault old t) own)
        (filter_map (catch_fault old t) (handlers_after (k + 1) (and_last xs p)))
        (sym (filter_map-append (catch_fault old t) own (handlers_after (k + 1) (and_last xs p))) ∙ none) in
        own_catches (k + 1) xs (omega (arith, e)) both.1

    named_catch : (throwable code_at : ℕ) (hs : List HandlerInfo) → Each (Catches old (length ps) p.pool) hs
        → Each (λ (h : Handler). catches_throwable old t (length ps) p.pool h.index ≡ true)
        (map (handler_named old throwable (length ps) p.pool code_at) hs)
    unfolding handler_named
    named_catch throwable code_at [] h = tt
    named_catch throwable code_at (x ∷ hs) h = (h.0, named_catch throwable code_at hs h.1)

    catches_all : (pool : List Entry) (index : ℕ) → index ≡ 0 → catches_throwable old t (length ps) pool index ≡ true
    unfolding catches_throwable
    catches_all pool index e = ap (λ n. n == 0 || thrown_by t (class_caught_by old (length ps) (slice_get pool n))) e

    -- what is laid where the handlers of the method catch so
    pub laid_catches : (throwable code_at : ℕ) (m : MethodDescriptor) (hs : List Handler) (l : Laid) → bad_catches old t ≡ []
        → hs ≡ map (handler_named old throwable (length ps) p.pool code_at) (handlers_of p m)
        → All (λ h. (h.pool ≡ 0) ⊎ HasPoolOf hs h) l.handlers → Each (λ (h : Laying). catches_throwable old t (length ps) p.pool h.pool ≡ true)
        l.handlers
    laid_catches throwable code_at m hs l none is all =
        let own = own_catches 0 ps (omega arith) none in
        let of_method = each_take (Catches old (length ps) p.pool) m.handler_count (drop m.handler_index p.methods.handlers)
        (each_drop (Catches old (length ps) p.pool) m.handler_index p.methods.handlers own) in
        let each = subst (Each (λ (h : Handler). catches_throwable old t (length ps) p.pool h.index ≡ true)) (sym is)
        (named_catch throwable code_at (handlers_of p m) of_method) in
        by l.handlers (Each-from_All (λ h. (h.pool ≡ 0) ⊎ HasPoolOf hs h) l.handlers all) each
      where
        one : (x : Laying) → Each (λ (h : Handler). catches_throwable old t (length ps) p.pool h.index ≡ true) hs
            → (x.pool ≡ 0) ⊎ HasPoolOf hs x → catches_throwable old t (length ps) p.pool x.pool ≡ true
        one x each (inl e) = catches_all p.pool x.pool e
        one x each (inr a) =
            let there = at-contains hs a.1 (a.0, a.2, a.3) in
            ap (catches_throwable old t (length ps) p.pool) (sym a.4)
            ∙ each-at (λ (h : Handler). catches_throwable old t (length ps) p.pool h.index ≡ true) hs a.0 a.1 each there

        by : (xs : List Laying) → Each (λ (h : Laying). (h.pool ≡ 0) ⊎ HasPoolOf hs h) xs
            → Each (λ (h : Handler). catches_throwable old t (length ps) p.pool h.index ≡ true) hs
            → Each (λ (h : Laying). catches_throwable old t (length ps) p.pool h.pool ≡ true) xs
        by [] h each = tt
        by (x ∷ xs) h each = (one x each h.0, by xs h.1 each)
