-- A table by spots keeps the only member at a spot.
use Rattle.std.proofs.Common.{◌≡◌, Bool, true, false, cond, eqb, List, [], ◌∷◌, Option, Some, None, refl, sym, ap, ◌∙◌, is_some, arith}
use Rattle.std.specs.Option.{option_flatten}
use Rattle.std.proofs.lemmas.Bool.{eqb-true, true≢false, and_parts}
use Rattle.indexmap.specs.IndexMap.{insert_entry}
use Rattle.jc_base.specs.declared.record.Member.{Member}
use Rattle.jc_link.specs.declared.sites.Spot.{Spot}
use Rattle.jc_link.specs.Sites.{MemberSite, only, is_there, same_spot, members_standing, kept_at, added_entry, all_entered}

-- ---- spots

same-equal : (a b : Spot) → same_spot a b ≡ true → a ≡ b
same-equal a b h = grind (arith, and_parts, eqb, eqb-true)

-- ---- one more entry

replaced : (v old : Option Member) (rest : Option (Option Member)) (b c : Bool) → c ≡ b
    → cond c (Some v) rest ≡ cond b (Some v) (cond c (Some old) rest)
replaced v old rest u v2 e = grind (arith, true≢false)

apart : (q k at : Spot) (v old : Option Member) (rest : Option (Option Member)) → same_spot k at ≡ false → (b c : Bool) → same_spot q k ≡ b
    → same_spot q at ≡ c
    → cond c (Some old) (cond b (Some v) rest) ≡ cond b (Some v) (cond c (Some old) rest)
apart q k at v old rest ne b c e f = grind (arith, same-equal, true≢false)

kept-inserted : (es : List (Spot × Option Member)) (q k : Spot) (v : Option Member) → kept_at (insert_entry same_spot es k v) q ≡ cond (same_spot q k)
    (Some v) (kept_at es q)
kept-inserted [] q k v = refl
kept-inserted (e ∷ es) q k v = by (same_spot k e.0) (kept-inserted es q k v) refl
  where
    by : (b : Bool) → kept_at (insert_entry same_spot es k v) q ≡ cond (same_spot q k) (Some v) (kept_at es q) → same_spot k e.0 ≡ b
        → kept_at (cond b ((e.0, v) ∷ es) (e ∷ insert_entry same_spot es k v)) q ≡ cond (same_spot q k) (Some v)
        (cond (same_spot q e.0) (Some e.1) (kept_at es q))
    by true others h = replaced v e.1 (kept_at es q) (same_spot q k) (same_spot q e.0) (ap (λ x. same_spot q x) (sym (same-equal k e.0 h)))
    by false others h =
        ap (λ o. cond (same_spot q e.0) (Some e.1) o) others ∙ apart q k e.0 v e.1 (kept_at es q) h (same_spot q k) (same_spot q e.0) refl refl

-- ---- all entries

-- what is kept, when more members are met at a spot
after : Option (Option Member) → List Member → Option (Option Member)
after o [] = o
after None (m ∷ ms) = after (Some (Some m)) ms
after (Some x) (m ∷ ms) = after (Some None) ms

met : (es : List (Spot × Option Member)) (s : MemberSite) (q : Spot) (ms : List Member) → same_spot q s.spot ≡ true → (o : Option (Option Member))
    → kept_at es q ≡ o → after (kept_at (added_entry es s) q) ms ≡ after o (s.member ∷ ms)
unfolding added_entry after
met es s q ms h o e =
    let there : kept_at es s.spot ≡ o = ap (kept_at es) (sym (same-equal q s.spot h)) ∙ e in
    ap (λ x. after x ms) (kept-inserted es q s.spot (cond (is_some (kept_at es s.spot)) None (Some s.member)))
    ∙ ap (λ b. after (cond b (Some (cond (is_some (kept_at es s.spot)) None (Some s.member))) (kept_at es q)) ms) h
    ∙ ap (λ x. after (Some (cond (is_some x) None (Some s.member))) ms) there
    ∙ by o
  where
    by : (x : Option (Option Member)) → after (Some (cond (is_some x) None (Some s.member))) ms ≡ after x (s.member ∷ ms)
    by None = refl
    by (Some x) = refl

passed : (es : List (Spot × Option Member)) (s : MemberSite) (q : Spot) → same_spot q s.spot ≡ false → kept_at (added_entry es s) q ≡ kept_at es q
unfolding added_entry
passed es s q h = grind (arith, kept-inserted, cond, is_some)

all-kept : (xs : List MemberSite) (es : List (Spot × Option Member)) (q : Spot) → kept_at (all_entered es xs) q ≡ after (kept_at es q)
    (members_standing xs q)
unfolding after
all-kept [] es q = refl
all-kept (s ∷ xs) es q = all-kept xs (added_entry es s) q ∙ by (same_spot q s.spot) refl
  where
    by : (b : Bool) → same_spot q s.spot ≡ b → after (kept_at (added_entry es s) q) (members_standing xs q) ≡ after (kept_at es q)
        (cond b (s.member ∷ members_standing xs q) (members_standing xs q))
    by true h = met es s q (members_standing xs q) h (kept_at es q) refl
    by false h = ap (λ o. after o (members_standing xs q)) (passed es s q h)

several : (ms : List Member) → after (Some None) ms ≡ Some None
unfolding after
several [] = refl
several (m ∷ ms) = several ms

only-after : (ms : List Member) → option_flatten (after None ms) ≡ only ms
unfolding after
only-after x = grind (arith, several)

-- the table keeps the only member at a spot
pub only_kept : (xs : List MemberSite) (q : Spot) → option_flatten (kept_at (all_entered [] xs) q) ≡ only (members_standing xs q)
only_kept xs q = ap option_flatten (all-kept xs [] q) ∙ only-after (members_standing xs q)

there-after : (x : Option Member) (ms : List Member) → is_some (after (Some x) ms) ≡ true
unfolding after
there-after x [] = refl
there-after x (m ∷ ms) = there-after None ms

some-after : (ms : List Member) → is_some (after None ms) ≡ is_there ms
unfolding after
some-after x = grind (arith, there-after)

-- and tells whether there is any
pub some_kept : (xs : List MemberSite) (q : Spot) → is_some (kept_at (all_entered [] xs) q) ≡ is_there (members_standing xs q)
some_kept xs q = ap is_some (all-kept xs [] q) ∙ some-after (members_standing xs q)

-- ---- what was at a spot before tells how a member is entered

put-again : (q : Spot) (v w : Option Member) (es : List (Spot × Option Member)) (o : Option Member) → kept_at es q ≡ Some o
    → insert_entry same_spot (insert_entry same_spot es q v) q w ≡ insert_entry same_spot es q w
put-again q v w [] o e = absurd cc
put-again q v w (x ∷ es) o e = by (λ found. put-again q v w es o found) (same_spot q x.0) refl e
  where
    by : (kept_at es q ≡ Some o → insert_entry same_spot (insert_entry same_spot es q v) q w ≡ insert_entry same_spot es q w) → (b : Bool)
        → same_spot q x.0 ≡ b → cond b (Some x.1) (kept_at es q) ≡ Some o
        → insert_entry same_spot (cond b ((x.0, v) ∷ es) (x ∷ insert_entry same_spot es q v)) q w ≡ cond b ((x.0, w) ∷ es)
        (x ∷ insert_entry same_spot es q w)
    by later true h found = rw h refl
    by later false h found = rw h (ap (λ l. x ∷ l) (later found))

pub several-entered : (es : List (Spot × Option Member)) (q : Spot) (m : Member) (o : Option Member) → kept_at es q ≡ Some o
    → insert_entry same_spot (insert_entry same_spot es q (Some m)) q None ≡ added_entry es (record { spot = q; member = m })
unfolding added_entry
several-entered es q m o e = rw e (put-again q (Some m) None es o e)

pub first-entered : (es : List (Spot × Option Member)) (q : Spot) (m : Member) → kept_at es q ≡ None → insert_entry same_spot es q (Some m)
    ≡ added_entry es (record { spot = q; member = m })
unfolding added_entry
first-entered es q m e = rw e refl
