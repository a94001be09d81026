-- What a class inherits as it is: the entries before and after the tokens of its own table.
use Rattle.std.proofs.Common.{◌≡◌, ℕ, zero, suc, ◌+◌, ◌-◌, ◌≤◌, ◌<◌, max, min, take, drop, get_or, List, [], ◌∷◌, ◌++◌}
use Rattle.std.proofs.Common.{length, map, Option, None, ◌⊎◌, refl, sym, ap, ◌∙◌, arith, inl, inr, append-nil}
use Rattle.std.specs.List.{range_with_len}
use Rattle.std.proofs.lemmas.Bool.{cases_lt, lt-ltb}
use Rattle.std.proofs.lemmas.Option.{slice_get-get_or}
use Rattle.std.proofs.lemmas.List.{drop_all, get_or-drop, length-drop, take-append-drop, take_all}
use Rattle.std.proofs.lemmas.List.FromFn.{length-map-range_with_len, get_or-map-range_with_len, take-map-range_with_len}
use Rattle.jc_base.specs.declared.record.MethodRec.{MethodRec}
use Rattle.first_fault.specs.Least.{lesser, least_from}
use Rattle.jc_resolve.specs.declared.fault.LinkFault.{LinkFault}
use Rattle.jc_resolve.specs.declared.naming.DispatchTable.{DispatchTable}
use Rattle.jc_resolve.specs.Fault.{link_place}
use Rattle.jc_classes.specs.TableConditions.{Replacement, replacements_from, override_fault}
use Rattle.jc_classes.specs.Entries.{reach, named_by, overlaid, overlaid_at}
use Rattle.jc_classes.proofs.Overlays.{named_past}
use Rattle.jc_classes.proofs.SameTypes.{same_entry}

-- a token that the table does not cover
abbrev pub IsOutside : DispatchTable → ℕ → Type 0
IsOutside table k = (k < table.base) ⊎ (reach table ≤ k)

unnamed_before : (table : DispatchTable) (k : ℕ) → k < table.base → named_by table k ≡ None
unfolding named_by
unnamed_before table k h = rw (lt-ltb k table.base h) refl

unnamed : (table : DispatchTable) (k : ℕ) → IsOutside table k → named_by table k ≡ None
unnamed table k z = grind (arith, unnamed_before, named_past)

kept_entry : (table : DispatchTable) (inherited : List (Option ℕ)) (k : ℕ) (d : Option ℕ) → IsOutside table k → k < length inherited
    → overlaid_at table inherited k ≡ get_or inherited k d
unfolding overlaid_at
kept_entry table inherited k d out h = rw (unnamed table k out, slice_get-get_or inherited k d h) refl

pub length-overlaid : (table : DispatchTable) (inherited : List (Option ℕ)) → length (overlaid table inherited) ≡ max (length inherited) (reach table)
length-overlaid table inherited = length-map-range_with_len (overlaid_at table inherited) 0 (max (length inherited) (reach table))

pub kept : (table : DispatchTable) (inherited : List (Option ℕ)) (k : ℕ) (d : Option ℕ) → IsOutside table k → k < length inherited
    → get_or (overlaid table inherited) k d ≡ get_or inherited k d
kept table inherited k d out h =
    get_or-map-range_with_len (overlaid_at table inherited) 0 (max (length inherited) (reach table)) k k d (omega (arith, h)) (omega arith)
    ∙ kept_entry table inherited k d out h

-- ---- an inherited list that is copied

take_same : (xs ys : List (Option ℕ)) (n : ℕ) → n ≤ length xs → n ≤ length ys
    → ((k : ℕ) → k < n → get_or xs k None ≡ get_or ys k None) → take n xs ≡ take n ys
take_same xs ys zero a b h = refl
take_same [] ys (suc n) a b h = absurd (omega arith)
take_same (x ∷ xs) [] (suc n) a b h = absurd (omega arith)
take_same (x ∷ xs) (y ∷ ys) (suc n) a b h =
    let first : x ≡ y = h 0 (omega arith) in
    let rest : take n xs ≡ take n ys = take_same xs ys n (omega arith) (omega arith) (λ k c. h (suc k) (omega arith)) in
    rw (first, rest) refl

drop_same : (xs ys : List (Option ℕ)) (n : ℕ) → length xs ≡ length ys
    → ((k : ℕ) → n ≤ k → k < length xs → get_or xs k None ≡ get_or ys k None) → drop n xs ≡ drop n ys
drop_same [] [] n e h = refl
drop_same [] (y ∷ ys) n e h = absurd (omega (arith, e))
drop_same (x ∷ xs) [] n e h = absurd (omega (arith, e))
drop_same (x ∷ xs) (y ∷ ys) zero e h =
    let first : x ≡ y = h 0 (omega arith) (omega arith) in
    let rest : drop 0 xs ≡ drop 0 ys = drop_same xs ys 0 (omega (arith, e)) (λ k a b. h (suc k) (omega arith) (omega arith)) in
    let same : xs ≡ ys = rest in
    rw (first, same) refl
drop_same (x ∷ xs) (y ∷ ys) (suc n) e h = drop_same xs ys n (omega (arith, e)) (λ k a b. h (suc k) (omega arith) (omega arith))

-- the copy up to the first token of the table
pub copied_before : (table : DispatchTable) (inherited : List (Option ℕ)) (n : ℕ) → n ≡ min table.base (length inherited)
    → take n inherited ≡ map (overlaid_at table inherited) (range_with_len 0 n)
copied_before table inherited n e =
    let low : n ≤ table.base = omega (arith, e) in
    let within : n ≤ length inherited = omega (arith, e) in
    sym (take_same (overlaid table inherited) inherited n (omega (arith, length-overlaid table inherited, within)) within
    (λ k h. kept table inherited k None (inl (omega (arith, h, low))) (omega (arith, h, within))))
    ∙ take-map-range_with_len (overlaid_at table inherited) 0 (max (length inherited) (reach table)) n (omega (arith, within))

-- what a copy of the rest completes
copied_rest : (table : DispatchTable) (inherited : List (Option ℕ)) (n : ℕ) → reach table ≤ n → n ≤ length inherited
    → map (overlaid_at table inherited) (range_with_len 0 n) ++ drop n inherited ≡ overlaid table inherited
copied_rest table inherited n past within =
    let count : length (overlaid table inherited) ≡ length inherited = omega (arith, length-overlaid table inherited, past, within) in
    ap (λ (xs : List (Option ℕ)). map (overlaid_at table inherited) (range_with_len 0 n) ++ xs)
    (sym
    (drop_same (overlaid table inherited) inherited n count
    (λ k a b. kept table inherited k None (inr (omega (arith, a, past))) (omega (arith, b, count)))))
    ∙ ap (λ (xs : List (Option ℕ)). xs ++ drop n (overlaid table inherited))
    (sym (take-map-range_with_len (overlaid_at table inherited) 0 (max (length inherited) (reach table)) n (omega (arith, within))))
    ∙ take-append-drop n (overlaid table inherited)

whole_by : (table : DispatchTable) (inherited entries : List (Option ℕ)) (n m : ℕ)
    → entries ≡ map (overlaid_at table inherited) (range_with_len 0 n) → length inherited ≤ n → n ≡ max (length inherited) (reach table)
    → m ≡ length inherited
    → entries ++ drop m inherited ≡ overlaid table inherited
whole_by table inherited entries n m e past is at = grind (arith, drop_all, append-nil)

after_by : (table : DispatchTable) (inherited entries : List (Option ℕ)) (n m : ℕ)
    → entries ≡ map (overlaid_at table inherited) (range_with_len 0 n) → reach table ≤ n → n ≤ max (length inherited) (reach table)
    → m ≡ min (length entries) (length inherited)
    → entries ++ drop m inherited ≡ overlaid table inherited
after_by table inherited entries n m e past few at = grind (arith, length-map-range_with_len, cases_lt, copied_rest, whole_by)

pub copied_after : (table : DispatchTable) (inherited entries : List (Option ℕ)) (n m : ℕ)
    → entries ≡ map (overlaid_at table inherited) (range_with_len 0 n) → reach table ≤ n → n ≤ max (length inherited) (reach table)
    → m ≡ min (length entries) (length inherited)
    → entries ++ take (length inherited - m) (drop m inherited) ≡ overlaid table inherited
copied_after table inherited entries n m e past few at = grind (arith, take_all, length-drop, after_by)

pub ruleset copies = (copied_before, copied_after)

-- ---- entries that replace none

no_fault : (methods : List MethodRec) (r : Replacement) → r.method ≡ r.inherited → override_fault methods r ≡ None
unfolding override_fault
no_fault methods r e = rw (← same_entry methods r.method r.inherited e) refl

passed : (methods : List MethodRec) (c token : ℕ) (x m : Option ℕ) (least : Option LinkFault) → m ≡ x
    → lesser link_place least (override_fault methods (record { class = c; token = token; inherited = x; method = m })) ≡ least
unfolding lesser
passed methods c token x m least e = rw (no_fault methods (record { class = c; token = token; inherited = x; method = m }) e) refl

same_rest : (methods : List MethodRec) (c token : ℕ) (inherited list : List (Option ℕ)) (least : Option LinkFault)
    → ((k : ℕ) → k < length inherited → k < length list → get_or list k None ≡ get_or inherited k None)
    → least_from link_place least (override_fault methods) (replacements_from c token inherited list) ≡ least
same_rest methods c token [] list least h = refl
same_rest methods c token (x ∷ xs) [] least h = refl
same_rest methods c token (x ∷ xs) (m ∷ ms) least h =
    ap (λ (o : Option LinkFault). least_from link_place o (override_fault methods) (replacements_from c (token + 1) xs ms))
    (passed methods c token x m least (h 0 (omega arith) (omega arith)))
    ∙ same_rest methods c (token + 1) xs ms least (λ k a b. h (suc k) (omega arith) (omega arith))

same_before : (methods : List MethodRec) (c token n : ℕ) (inherited list : List (Option ℕ)) (least : Option LinkFault)
    → ((k : ℕ) → k < n → k < length inherited → k < length list → get_or list k None ≡ get_or inherited k None)
    → least_from link_place least (override_fault methods) (replacements_from c token inherited list) ≡ least_from link_place least
    (override_fault methods) (replacements_from c (token + n) (drop n inherited) (drop n list))
same_before methods c token zero inherited list least h = grind (arith)
same_before methods c token (suc n) [] list least h = refl
same_before methods c token (suc n) (x ∷ xs) [] least h = none_left (drop n xs) where
  none_left : (es : List (Option ℕ)) → least ≡ least_from link_place least (override_fault methods) (replacements_from c (token + suc n) es [])
  none_left [] = refl
  none_left (e ∷ es) = refl
same_before methods c token (suc n) (x ∷ xs) (m ∷ ms) least h =
    let same : token + 1 + n ≡ token + suc n = omega arith in
    ap (λ (o : Option LinkFault). least_from link_place o (override_fault methods) (replacements_from c (token + 1) xs ms))
    (passed methods c token x m least (h 0 (omega arith) (omega arith) (omega arith)))
    ∙ same_before methods c (token + 1) n xs ms least (λ k a b d. h (suc k) (omega arith) (omega arith) (omega arith))
    ∙ ap (λ (k : ℕ). least_from link_place least (override_fault methods) (replacements_from c k (drop n xs) (drop n ms))) same

-- no entry before the first token of the table replaces another
pub replaced_from : (methods : List MethodRec) (c token : ℕ) (table : DispatchTable) (inherited list : List (Option ℕ)) (least : Option LinkFault)
    → list ≡ overlaid table inherited
    → least_from link_place least (override_fault methods) (replacements_from c (token + table.base) (drop table.base inherited) (drop table.base list))
    ≡ least_from link_place least (override_fault methods) (replacements_from c token inherited list)
replaced_from methods c token table inherited list least e =
    sym
    (same_before methods c token table.base inherited list least (λ k a b d. ap (λ (xs : List (Option ℕ)). get_or xs k None) e
    ∙ kept table inherited k None (inl a) b))

-- none after the last
pub replaced_to : (methods : List MethodRec) (c token : ℕ) (table : DispatchTable) (inherited list : List (Option ℕ)) (least : Option LinkFault)
    (i : ℕ) → list ≡ overlaid table inherited → min (min (reach table) (length inherited)) (length list) ≤ i
    → least_from link_place least (override_fault methods) (replacements_from c token (drop i inherited) (drop i list)) ≡ least
replaced_to methods c token table inherited list least i e past =
    same_rest methods c token (drop i inherited) (drop i list) least (λ k a b.
    let within : i + k < length inherited = omega (arith, a, length-drop i inherited) in
    let there : i + k < length list = omega (arith, b, length-drop i list) in
    get_or-drop i list k None
    ∙ ap (λ (xs : List (Option ℕ)). get_or xs (i + k) None) e
    ∙ kept table inherited (i + k) None (inr (omega (arith, past, within, there))) within
    ∙ sym (get_or-drop i inherited k None))

pub ruleset replaced = (replaced_from, replaced_to)
