-- What the index of a method is, by the package of the method.
use Rattle.std.proofs.Common.{◌≡◌, ℕ, zero, suc, ◌+◌, ◌<◌, ◌≤◌, Bool, true, false, cond, List, [], ◌∷◌, ◌++◌, length, take}
use Rattle.std.proofs.Common.{get_or, Option, Some, None, Result, Ok, Err, refl, ap, ◌∙◌, arith}
use Rattle.std.specs.Prelude.{slice_get, count_by, ◌==◌}
use Rattle.std.proofs.lemmas.List.Sums.{count_by_more_yes, sum_by-cons}
use Rattle.std.proofs.lemmas.Option.{slice_get_within, get_or_from_slice_get, slice_get-get_or}
use Rattle.cap_bytes.specs.declared.fault.FormFault.{FormFault}
use Rattle.cap_bytes.specs.Grammar.{repeat}
use Rattle.cap_bytes.specs.Spelling.{info_of, Spells, Stands}
use Rattle.cap_bytes.specs.Reading.{reading}
use Rattle.cap_bytes.proofs.Laws.{stands, reading_where, spelled-read}
use Rattle.cap_bytes.proofs.Loops.{length-repeat}
use Rattle.cap_package.specs.PackageRecord.{PackageRecord}
use Rattle.jc_base.specs.declared.record.MethodRec.{MethodRec}
use Rattle.jc_base.specs.Linked.{list_at}
use Rattle.cap_index.specs.IndexFormat.{list_info, index_info}
use Rattle.cap_index.specs.Component.{index_in, lists_read, lists_in}
use Rattle.cap_index.specs.Indexes.{has_code, is_coded, lists_after, package_lists, index_after, indexes_after, indexes_of}
use Rattle.cap_index.specs.WorldIndexes.{HasIndex, AreIndexes}
use Rattle.cap_index.proofs.Listing.{indexes-each}

-- ---- the index of a method, among those of all

at-after : (lists : List (List (List ℕ))) (before ms : List MethodRec) (n : ℕ) (m : MethodRec) → slice_get ms n ≡ Some m
    → slice_get (indexes_after lists before ms) n ≡ Some (index_after lists (before ++ take n ms) m)
at-after lists before [] n m e = absurd cc
at-after lists before (x ∷ ms) zero m e =
    let same : x ≡ m = cc in
    let none : before ++ [] ≡ before = append-nothing before in
    rw (same, none) refl
  where
    append-nothing : (xs : List MethodRec) → xs ++ [] ≡ xs
    append-nothing [] = refl
    append-nothing (y ∷ ys) = ap (λ zs. y ∷ zs) (append-nothing ys)
at-after lists before (x ∷ ms) (suc n) m e =
    at-after lists (before ++ x ∷ []) ms n m e ∙ ap (λ seen. Some (index_after lists seen m)) (one-by-one before x (take n ms))
  where
    one-by-one : (xs : List MethodRec) (y : MethodRec) (ys : List MethodRec) → (xs ++ y ∷ []) ++ ys ≡ xs ++ y ∷ ys
    one-by-one [] y ys = refl
    one-by-one (z ∷ xs) y ys = ap (λ zs. z ∷ zs) (one-by-one xs y ys)

module _ (ps : List PackageRecord) (ms : List MethodRec) where
  at-number : (n : ℕ) (m : MethodRec) → slice_get ms n ≡ Some m
      → slice_get (indexes_of ps ms) n ≡ Some (index_after (package_lists ps ms) (take n ms) m)
  unfolding indexes_of
  at-number n m e = at-after (package_lists ps ms) [] ms n m e

-- ---- the lists of a package

lists-here : (ms : List MethodRec) (k j : ℕ) (ps : List PackageRecord) (p : PackageRecord) → slice_get ps j ≡ Some p
    → list_at (lists_after ms k ps) j ≡ lists_in (count_by (is_coded (k + j)) ms) (index_in p)
lists-here ms k j [] p e = absurd cc
lists-here ms k zero (q ∷ ps) p e = grind (arith)
lists-here ms k (suc j) (q ∷ ps) p e = grind (arith, suc, lists-here ms (k + 1) j ps p e)

lists-own : (ms : List MethodRec) (j : ℕ) (ps : List PackageRecord) (p : PackageRecord) → slice_get ps j ≡ Some p
    → list_at (package_lists ps ms) j ≡ lists_in (count_by (is_coded j) ms) (index_in p)
lists-own ms j ps p e = grind (arith, lists-here)

formed-lists : (n : ℕ) (p : PackageRecord) (info : List ℕ) (lists : List (List ℕ)) → index_in p ≡ Some info → Stands (index_info n) info lists
    → lists_in n (index_in p) ≡ lists
formed-lists n p info lists e h = ap (lists_in n) e ∙ ap lists_read (reading_where (info_of 128) (index_info n) info lists h)

-- a well-formed index has a list for each method with code
count-stands : (n : ℕ) (info : List ℕ) (lists : List (List ℕ)) → Stands (index_info n) info lists → length lists ≡ n
unfolding Stands Spells
count-stands n info lists h =
    let counted = h.1.3 in
    let given = counted.3 in
    let last = given.3 in
    ap length last.0 ∙ length-repeat (info_of 128) list_info n info h.1.1 counted.0 counted.1
    (spelled-read (info_of 128) (repeat n list_info) info h.1.1 counted.0 counted.1 counted.2)

most : (f : MethodRec → Bool) (k : ℕ) (xs : List MethodRec) → count_by f (take k xs) ≤ count_by f xs
most f zero xs = omega arith
most f (suc k) [] = omega arith
most f (suc k) (x ∷ xs) =
    let one : count_by f (x ∷ take k xs) ≡ cond (f x) 1 0 + count_by f (take k xs) = sum_by-cons (λ y. cond (f y) 1 0) x (take k xs) in
    let all : count_by f (x ∷ xs) ≡ cond (f x) 1 0 + count_by f xs = sum_by-cons (λ y. cond (f y) 1 0) x xs in
    omega (arith, one, all, most f k xs)

-- a method with code comes before the end of those of its package
fewer-before : (f : MethodRec → Bool) (ms : List MethodRec) (n : ℕ) (m : MethodRec) → slice_get ms n ≡ Some m → f m ≡ true
    → count_by f (take n ms) < count_by f ms
fewer-before f ms n m at coded =
    let here : f (get_or ms n m) ≡ true = ap f (get_or_from_slice_get ms n m m at) ∙ coded in
    let more = count_by_more_yes f ms n m (slice_get_within ms n m at) here in
    let whole = most f (n + 1) ms in
    omega (arith, more, whole)

coded-here : (m : MethodRec) → has_code m ≡ true → is_coded m.package m ≡ true
coded-here m code = let same : (m.package == m.package) ≡ true = grind arith in rw (same, code) refl

module _ (ps : List PackageRecord) (ms : List MethodRec) (n : ℕ) (m : MethodRec) (at : slice_get ms n ≡ Some m) where
  abbrev number : ℕ
  number = count_by (is_coded m.package) (take n ms)

  listed-at : (lists : List (List ℕ)) → has_code m ≡ true → HasIndex ps ms m.package lists
      → (places : List ℕ) × (slice_get lists number ≡ Some places) × (slice_get (indexes_of ps ms) n ≡ Some (Some places))
  unfolding index_after
  listed-at lists code h =
      let whole = count-stands (count_by (is_coded m.package) ms) h.info lists h.formed in
      let fewer = fewer-before (is_coded m.package) ms n m at (coded-here m code) in
      let there = slice_get-get_or lists number [] (omega (arith, whole, fewer)) in
      let own = lists-own ms m.package ps h.record_of h.is ∙ formed-lists (count_by (is_coded m.package) ms) h.record_of h.info lists h.named h.formed in (
        get_or lists number [],
        there,
        at-number ps ms n m at
            ∙ ap Some (ap (λ b. cond b (slice_get (list_at (package_lists ps ms) m.package) number) None) code ∙ ap (λ xs. slice_get xs number) own
            ∙ there),
      )

  bare-at : has_code m ≡ false → slice_get (indexes_of ps ms) n ≡ Some None
  unfolding index_after
  bare-at code = at-number ps ms n m at ∙ ap Some (ap (λ b. cond b (slice_get (list_at (package_lists ps ms) m.package) number) None) code)

  -- no list is there
  empty-by : (p : PackageRecord) → slice_get ps m.package ≡ Some p → ((lists : List (List ℕ)) → ¬ (HasIndex ps ms m.package lists))
      → (o : Option (List ℕ)) → index_in p ≡ o → lists_in (count_by (is_coded m.package) ms) o ≡ []
  empty-by p is never None e = refl
  empty-by p is never (Some info) e = by (reading (info_of 128) (index_info (count_by (is_coded m.package) ms)) info) refl
    where
      by : (r : Result (List (List ℕ)) FormFault) → reading (info_of 128) (index_info (count_by (is_coded m.package) ms)) info ≡ r → lists_read r ≡ []
      by (Ok lists) read =
          absurd
          (never lists
          (record {
            record_of = p;
            is = is;
            info = info;
            named = e;
            formed = stands (info_of 128) (index_info (count_by (is_coded m.package) ms)) info
                lists read;
          }))
      by (Err fault) read = refl

  empty-at : ((lists : List (List ℕ)) → ¬ (HasIndex ps ms m.package lists)) → (o : Option PackageRecord) → slice_get ps m.package ≡ o
      → list_at (package_lists ps ms) m.package ≡ []
  empty-at never (Some p) e = lists-own ms m.package ps p e ∙ empty-by p e never (index_in p) refl
  empty-at never None e = past ms 0 ps m.package e
    where
      past : (xs : List MethodRec) (k : ℕ) (qs : List PackageRecord) (j : ℕ) → slice_get qs j ≡ None → list_at (lists_after xs k qs) j ≡ []
      past xs k [] j none = refl
      past xs k (q ∷ qs) zero none = absurd cc
      past xs k (q ∷ qs) (suc j) none = past xs (k + 1) qs j none

  none-by : (b : Bool) → list_at (package_lists ps ms) m.package ≡ [] → cond b (slice_get (list_at (package_lists ps ms) m.package) number) None ≡ None
  none-by true e = ap (λ xs. slice_get xs number) e ∙ nothing number
    where
      nothing : (k : ℕ) → slice_get {X = List ℕ} [] k ≡ None
      nothing zero = refl
      nothing (suc k) = refl
  none-by false e = refl

  none-at : ((lists : List (List ℕ)) → ¬ (HasIndex ps ms m.package lists)) → slice_get (indexes_of ps ms) n ≡ Some None
  unfolding index_after
  none-at never = at-number ps ms n m at ∙ ap Some (none-by (has_code m) (empty-at never (slice_get ps m.package) refl))

pub are-indexes : (ps : List PackageRecord) (ms : List MethodRec) → AreIndexes ps ms (indexes_of ps ms)
are-indexes ps ms = record {
  each = indexes-each ps ms;
  listed = λ n m lists at code h. listed-at ps ms n m at lists code h;
  none = λ n m at never. none-at ps ms n m at never;
  bare = λ n m at code. bare-at ps ms n m at code;
}
