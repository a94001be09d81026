-- Records with distinct keys as a map.
use Rattle.std.proofs.Common.{◌≡◌, ℕ, suc, ◌+◌, List, [], ◌∷◌, ◌++◌, Bool, true, false, cond, ◌&&◌, nat_lt, nat_le, length}
use Rattle.std.proofs.Common.{Option, Some, None, option_map, is_some, sum_by, find, position, refl, ap, sym, subst, ◌∙◌, arith, length-append}
use Rattle.std.proofs.lemmas.List.Sums.{sum_by-cons, sum_by_push}
use Rattle.std.proofs.lemmas.Slice.Eq.{bytes_eq-Decides}
use Rattle.std.proofs.lemmas.Iterator.Adapters.{position_from-zero}
use Rattle.std.proofs.lemmas.Bool.Decides.{same_from_decides}
use Rattle.std.specs.List.{position_from}
use Rattle.std.specs.Str.{bytes_eq}
use Rattle.std.specs.declared.cmp.Ordering.{Ordering}
use Rattle.std.specs.declared.cmp.Ordering.TheVariants.{Less, Equal, Greater}
use Rattle.std.specs.Ordering.{nat_cmp, eq_by_cmp, is_eq}
use Rattle.std.specs.Cmp.{eq_by_cmp_equiv, Equal-is}
use Rattle.std.specs.Cmp.Lexicographic.{slice_cmp, nat_list_cmp_total}
use Rattle.std.specs.FinMap as map
use Rattle.std.specs.FinMap.Entries.{by_order}
use Rattle.cap_files.specs.Room.{Room, size_of, bytes_taken, suffices}
use Rattle.cap_files.specs.Records.{has_key, without}
use Rattle.cap_files.specs.Distinct.{AreDistinct}

abbrev Held : Type 0
Held = List ℕ × List ℕ

abbrev order : List ℕ → List ℕ → Ordering
order = slice_cmp nat_cmp

abbrev found : List ℕ → List Held → Option (List ℕ)
found q rs = map.find order q rs

-- ---- keys

pub same_key : (k q : List ℕ) → eq_by_cmp order k q ≡ true → k ≡ q
same_key k q e = map.slice_cmp-IsAntisymmetric map.nat_cmp-IsAntisymmetric k q ((Equal-is (order k q)).0 e)

pub own_key : (k : List ℕ) → eq_by_cmp order k k ≡ true
own_key k = (eq_by_cmp_equiv nat_list_cmp_total).refl k

other_key : (k q : List ℕ) → eq_by_cmp order k q ≡ false → eq_by_cmp order q k ≡ false
other_key k q e = (eq_by_cmp_equiv nat_list_cmp_total).symm q k ∙ e

pub key_is : (k q : List ℕ) → bytes_eq q k ≡ eq_by_cmp order k q
key_is k q =
    same_from_decides {P = q ≡ k} (bytes_eq q k) (eq_by_cmp order k q) (bytes_eq-Decides q k)
    (λ e. sym (same_key k q e), λ e. subst (λ q. eq_by_cmp order k q ≡ true) (sym e) (own_key k))

-- ---- look-up
pub find_held : (k : List ℕ) (rs : List Held) → option_map (λ r. r.1) (find (has_key k) rs) ≡ found k rs
find_held k [] = refl
find_held k (r ∷ rs) = grind (arith, option_map, cond, find, find_held k rs)

pub get_held : (k : List ℕ) (rs : List Held) → option_map (λ r. r.1) (find (has_key k) rs) ≡ map.get (map.from_entries {R = order} rs) k
get_held k rs = find_held k rs ∙ sym (map.get-from_entries nat_list_cmp_total rs k)

-- ---- places
abbrev pub place : (Held → Bool) → List Held → Option ℕ
place t [] = None
place t (r ∷ rs) = cond (t r) (Some 0) (option_map suc (place t rs))

abbrev dropped : List ℕ → List Held → List Held
dropped k [] = []
dropped k (r ∷ rs) = cond (has_key k r) rs (r ∷ dropped k rs)

later : (i : ℕ) (o : Option ℕ) → option_map (λ n. (i + 1) + n) o ≡ option_map (λ n. i + n) (option_map suc o)
later i x = grind (arith)

placed_from : (t : Held → Bool) (i : ℕ) (rs : List Held) → position_from t i rs ≡ option_map (λ n. i + n) (place t rs)
placed_from t i [] = refl
placed_from t i (r ∷ rs) = grind (arith, cond, option_map, suc, later, placed_from t (i + 1) rs)

from_zero : (o : Option ℕ) → option_map (λ n. 0 + n) o ≡ o
from_zero x = grind (arith)

pub position_is : (t : Held → Bool) (rs : List Held) → position t rs ≡ place t rs
position_is t rs = position_from-zero t rs ∙ placed_from t 0 rs ∙ from_zero (place t rs)

without_place : (k : List ℕ) (rs : List Held) → without (place (has_key k) rs) rs ≡ dropped k rs
without_place k [] = refl
without_place k (r ∷ rs) =
    elim (has_key k r) as (λ b. without (cond b (Some 0) (option_map suc (place (has_key k) rs))) (r ∷ rs) ≡ cond b rs (r ∷ dropped k rs)) [
      | true ↦ refl
      | false ↦ elim (place (has_key k) rs) as (λ o. without o rs ≡ dropped k rs → without (option_map suc o) (r ∷ rs) ≡ r ∷ dropped k rs) [
        | None ↦ λ e. ap (λ rs. r ∷ rs) e
        | Some n ↦ λ e. ap (λ rs. r ∷ rs) e
      ] (without_place k rs)
    ]

-- ---- distinct keys
missing_dropped : (k : List ℕ) (rs : List Held) → AreDistinct rs → found k (dropped k rs) ≡ None
missing_dropped k [] apart = refl
missing_dropped k (r ∷ rs) apart =
    elim (has_key k r) as (λ b. eq_by_cmp order k r.0 ≡ b → found k (cond b rs (r ∷ dropped k rs)) ≡ None) [
      | true ↦ λ e. subst (λ q. found q rs ≡ None) (sym (same_key k r.0 e)) apart.0
      | false ↦ λ e. ap (λ b. cond b (Some r.1) (found k (dropped k rs))) e ∙ missing_dropped k rs apart.1
    ] refl

found_dropped : (k q : List ℕ) (rs : List Held) → eq_by_cmp order q k ≡ false → found q (dropped k rs) ≡ found q rs
found_dropped k q [] e = refl
found_dropped k q (r ∷ rs) e =
    elim (has_key k r) as (λ b. eq_by_cmp order k r.0 ≡ b → found q (cond b rs (r ∷ dropped k rs)) ≡ cond (eq_by_cmp order q r.0) (Some r.1)
    (found q rs)) [
      | true ↦ λ h. let same = same_key k r.0 h in sym (ap (λ b. cond b (Some r.1) (found q rs)) (subst (λ x. eq_by_cmp order q x ≡ false) same e))
      | false ↦ λ h. ap (cond (eq_by_cmp order q r.0) (Some r.1)) (found_dropped k q rs e)
    ] refl

missing_kept : (k q : List ℕ) (rs : List Held) → found q rs ≡ None → found q (dropped k rs) ≡ None
missing_kept k q [] e = refl
missing_kept k q (r ∷ rs) e =
    elim (eq_by_cmp order q r.0) as (λ b. eq_by_cmp order q r.0 ≡ b → cond b (Some r.1) (found q rs) ≡ None
    → found q (cond (has_key k r) rs (r ∷ dropped k rs)) ≡ None) [
      | true ↦ λ h is. cc
      | false ↦ λ h is. elim (has_key k r) as (λ b. found q (cond b rs (r ∷ dropped k rs)) ≡ None) [
        | true ↦ is
        | false ↦ ap (λ b. cond b (Some r.1) (found q (dropped k rs))) h ∙ missing_kept k q rs is
      ]
    ] refl e

distinct_dropped : (k : List ℕ) (rs : List Held) → AreDistinct rs → AreDistinct (dropped k rs)
distinct_dropped k [] apart = tt
distinct_dropped k (r ∷ rs) apart = grind (arith, cond, missing_kept, distinct_dropped k rs apart.1)

missing_pushed : (q k v : List ℕ) (rs : List Held) → eq_by_cmp order q k ≡ false → found q rs ≡ None → found q (rs ++ (k, v) ∷ []) ≡ None
missing_pushed q k v [] e none = ap (λ b. cond b (Some v) None) e
missing_pushed q k v (r ∷ rs) e none =
    elim (eq_by_cmp order q r.0) as (λ b. cond b (Some r.1) (found q rs) ≡ None → cond b (Some r.1) (found q (rs ++ (k, v) ∷ [])) ≡ None) [
      | true ↦ λ is. cc
      | false ↦ λ is. missing_pushed q k v rs e is
    ] none

distinct_pushed : (k v : List ℕ) (rs : List Held) → AreDistinct rs → found k rs ≡ None → AreDistinct (rs ++ (k, v) ∷ [])
distinct_pushed k v [] apart none = (refl, tt)
distinct_pushed k v (r ∷ rs) apart none =
    elim (eq_by_cmp order k r.0) as (λ b. eq_by_cmp order k r.0 ≡ b → cond b (Some r.1) (found k rs) ≡ None
    → AreDistinct ((r ∷ rs) ++ (k, v) ∷ [])) [
      | true ↦ λ h is. cc
      | false ↦ λ h is. (missing_pushed r.0 k v rs (other_key k r.0 h) apart.0, distinct_pushed k v rs apart.1 is)
    ] refl none

-- ---- the map
from_pushed : (k v : List ℕ) (rs : List Held) → found k rs ≡ None → map.from_entries {R = order} (rs ++ (k, v) ∷ [])
    ≡ map.insert (map.from_entries rs) k v
from_pushed k v rs none = map.from_entries_push nat_list_cmp_total (map.slice_cmp-IsAntisymmetric map.nat_cmp-IsAntisymmetric) rs k v none

from_dropped : (k v : List ℕ) (rs : List Held) → map.insert (map.from_entries {R = order} (dropped k rs)) k v ≡ map.insert (map.from_entries rs) k v
from_dropped k v rs =
    map.same_map nat_list_cmp_total (map.slice_cmp-IsAntisymmetric map.nat_cmp-IsAntisymmetric) _ _
    (λ q. map.get-insert nat_list_cmp_total _ k v q
    ∙ elim (eq_by_cmp order q k) as (λ b. eq_by_cmp order q k ≡ b → cond b (Some v) (map.get (map.from_entries {R = order} (dropped k rs)) q)
    ≡ cond b (Some v) (map.get (map.from_entries {R = order} rs) q)) [
      | true ↦ λ _. refl
      | false ↦ λ e. map.get-from_entries nat_list_cmp_total (dropped k rs) q ∙ found_dropped k q rs e
          ∙ sym (map.get-from_entries nat_list_cmp_total rs q)
    ] refl
    ∙ sym (map.get-insert nat_list_cmp_total _ k v q))

-- ---- sizes
sum_put : (k v : List ℕ) (es : List Held) → found k es ≡ None → sum_by size_of (map.put order k v es) ≡ size_of (k, v) + sum_by size_of es
sum_put k v [] none = sum_by-cons size_of (k, v) []
sum_put k v (e ∷ es) none =
    elim (order k e.0) as (λ o. cond (is_eq o) (Some e.1) (found k es) ≡ None
    → sum_by size_of (by_order o ((k, v) ∷ e ∷ es) ((e.0, v) ∷ es) (e ∷ map.put order k v es)) ≡ size_of (k, v) + sum_by size_of (e ∷ es)) [
      | Less ↦ λ _. sum_by-cons size_of (k, v) (e ∷ es)
      | Equal ↦ λ is. cc
      | Greater ↦ λ is. omega (arith, sum_by-cons size_of e (map.put order k v es), sum_by-cons size_of e es, sum_put k v es is)
    ] none

sum_none : (es : List Held) → length es ≡ 0 → sum_by size_of es ≡ 0
sum_none [] e = refl
sum_none (r ∷ rs) e = absurd (omega arith)

missing_entry : (k : List ℕ) (rs : List Held) → found k rs ≡ None → map.get (map.from_entries {R = order} rs) k ≡ None
missing_entry k rs none = map.get-from_entries nat_list_cmp_total rs k ∙ none

taken_is : (rs : List Held) → AreDistinct rs → bytes_taken (map.from_entries rs) ≡ sum_by size_of rs
taken_is [] apart = sum_none (map.entries map.empty) (sym (map.len-entries map.empty) ∙ map.len-empty order (List ℕ))
taken_is (r ∷ rs) apart =
    let m = map.from_entries {R = order} rs in
    let none : found r.0 (map.entries m) ≡ None = sym (map.get-entries m r.0) ∙ missing_entry r.0 rs apart.0 in
    ap (sum_by size_of) (map.entries-insert nat_list_cmp_total m r.0 r.1) ∙ sum_put r.0 r.1 (map.entries m) none
    ∙ ap (λ n. size_of r + n) (taken_is rs apart.1) ∙ sym (sum_by-cons size_of r rs)

held_is : (rs : List Held) → AreDistinct rs → map.len (map.from_entries {R = order} rs) ≡ length rs
held_is [] apart = map.len-empty order (List ℕ)
held_is (r ∷ rs) apart =
    let m = map.from_entries {R = order} rs in
    map.len-insert nat_list_cmp_total m r.0 r.1 ∙ ap (λ (o : Option (List ℕ)). cond (is_some o) (map.len m) (map.len m + 1)) (missing_entry r.0 rs apart.0)
    ∙ ap (λ n. n + 1) (held_is rs apart.1) ∙ omega arith

-- ---- a part put in the place of another, or after all
pub rest_is : (k : List ℕ) (rs : List Held) → without (position (has_key k) rs) rs ≡ dropped k rs
rest_is k rs = ap (λ o. without o rs) (position_is (has_key k) rs) ∙ without_place k rs

pub distinct_put : (k v : List ℕ) (rs : List Held) → AreDistinct rs → AreDistinct (without (position (has_key k) rs) rs ++ (k, v) ∷ [])
distinct_put k v rs apart = grind (arith, rest_is, distinct_pushed, distinct_dropped, missing_dropped)

pub map_put : (k v : List ℕ) (rs : List Held) → AreDistinct rs
    → map.from_entries {R = order} (without (position (has_key k) rs) rs ++ (k, v) ∷ []) ≡ map.insert (map.from_entries rs) k v
map_put k v rs apart = grind (arith, rest_is, from_pushed, missing_dropped, from_dropped)

pub held_put : (k v : List ℕ) (rs : List Held) → AreDistinct rs → map.len (map.insert (map.from_entries {R = order} rs) k v)
    ≡ suc (length (without (position (has_key k) rs) rs))
held_put k v rs apart = grind (arith, position (has_key k) rs, map_put k v rs apart, held_is _ (distinct_put k v rs apart), length-append)

pub taken_put : (k v : List ℕ) (rs : List Held) → AreDistinct rs
    → bytes_taken (map.insert (map.from_entries rs) k v) ≡ sum_by size_of (without (position (has_key k) rs) rs) + size_of (k, v)
taken_put k v rs apart =
    ap bytes_taken (sym (map_put k v rs apart)) ∙ taken_is _ (distinct_put k v rs apart) ∙ sum_by_push size_of (without (position (has_key k) rs) rs) (k, v)

pub suffices_put : (k v : List ℕ) (rs : List Held) (room : Room) → AreDistinct rs
    → suffices room (map.insert (map.from_entries rs) k v)
    ≡ (nat_lt (length (without (position (has_key k) rs) rs)) room.parts && nat_le
    (sum_by size_of (without (position (has_key k) rs) rs) + size_of (k, v)) room.bytes)
suffices_put k v rs room apart = rw (held_put k v rs apart, taken_put k v rs apart) refl
