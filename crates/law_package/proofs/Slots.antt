-- Tables in which members are put at the numbers of a key.
use Rattle.std.proofs.Common.{◌≡◌, ◌<◌, ◌+◌, ℕ, zero, suc, List, [], ◌∷◌, length, filter, replicate, sum_by, Bool, true, false, cond}
use Rattle.std.proofs.Common.{Option, Some, None, ◌⊎◌, inl, inr, refl, sym, ap, subst, ◌∙◌, arith}
use Rattle.std.specs.Prelude.{if◌then◌else◌, nat_lt, ◌==◌, slice_set, slice_index_or}
use Rattle.std.proofs.lemmas.List.Sums.{sum_by-cons}
use Rattle.std.proofs.lemmas.Bool.{eqb-true, eqb-false}
use Rattle.cap_laying.specs.declared.member.WrittenMember.{WrittenMember}
use Rattle.cap_laying.specs.Member.{placed, by_offset, body_size, size_if}
use Rattle.cap_laying.specs.MethodInfo.{place_in_table}
use Rattle.cap_laying.specs.Blocks.{put_by, put_firsts, firsts}
use Rattle.cap_laying.proofs.Owned.{set_other, set_same, length_set, length_none}
use Rattle.law_package.proofs.Lists.{Each, Has, each_at, each_of}

abbrev pub slot : List (Option WrittenMember) → ℕ → Option WrittenMember
slot table n = slice_index_or table n None

abbrev pub weight_if : (WrittenMember → ℕ) → Option WrittenMember → ℕ
weight_if w None = 0
weight_if w (Some m) = w m

-- what the members in the first n slots weigh
abbrev pub sum_slots : (WrittenMember → ℕ) → ℕ → List (Option WrittenMember) → ℕ
sum_slots w zero table = 0
sum_slots w (suc n) [] = 0
sum_slots w (suc n) (s ∷ table) = weight_if w s + sum_slots w n table

abbrev pub put_all : (WrittenMember → Option ℕ) → List (Option WrittenMember) → List WrittenMember → List (Option WrittenMember)
put_all key table [] = table
put_all key table (m ∷ ms) = put_all key (put_by table m (key m)) ms

-- ---- one more

first_set : (w : WrittenMember → ℕ) (n : ℕ) (table : List (Option WrittenMember)) (m : WrittenMember) (b : Bool) (k : ℕ) → k ≡ 0 → b ≡ true
    → w m + sum_slots w n table ≡ k + sum_slots w n table + (if b then w m else 0)
first_set w n table m v k z t = grind (arith)

set_sum : (w : WrittenMember → ℕ) (n : ℕ) (table : List (Option WrittenMember)) (i : ℕ) (m : WrittenMember) → i < length table
    → slot table i ≡ None
    → sum_slots w n (slice_set table i (Some m)) ≡ sum_slots w n table + (if nat_lt i n then w m else 0)
set_sum w n [] i m lt e = absurd (omega arith)
set_sum w zero (s ∷ table) zero m lt e = refl
set_sum w zero (s ∷ table) (suc i) m lt e = let t : nat_lt (suc i) 0 ≡ false = grind arith in rw t refl
set_sum w (suc n) (s ∷ table) zero m lt e = grind (arith, first_set, suc)
set_sum w (suc n) (s ∷ table) (suc i) m lt e = grind (arith, suc, set_sum w n table i m (omega arith) e)

-- ---- all

abbrev FreeAt : List (Option WrittenMember) → Option ℕ → Type 0
FreeAt table None = Unit {0}
FreeAt table (Some i) = (i < length table) × (slot table i ≡ None)

-- no two have one number, and where they are put nothing stands
abbrev pub Differ : (WrittenMember → Option ℕ) → WrittenMember → WrittenMember → Type 0
Differ key m y = (i : ℕ) → key m ≡ Some i → key y ≡ Some i → ⊥

abbrev pub AreFree : (WrittenMember → Option ℕ) → List (Option WrittenMember) → List WrittenMember → Type 0
AreFree key table [] = Unit {0}
AreFree key table (m ∷ ms) = FreeAt table (key m) × Each (Differ key m) ms × AreFree key table ms

free_set : (key : WrittenMember → Option ℕ) (table : List (Option WrittenMember)) (m : WrittenMember) (i : ℕ) (ms : List WrittenMember)
    → Each (λ y. key y ≡ Some i → ⊥) ms → AreFree key table ms → AreFree key (slice_set table i (Some m)) ms
free_set key table m i [] d f = tt
free_set key table m i (y ∷ ms) d f = ((grind (arith, length_set, set_other)), f.1, free_set key table m i ms d.1 f.2)

free_put : (key : WrittenMember → Option ℕ) (table : List (Option WrittenMember)) (m : WrittenMember) (ms : List WrittenMember) (o : Option ℕ)
    → key m ≡ o → Each (Differ key m) ms → AreFree key table ms → AreFree key (put_by table m o) ms
free_put key table m ms v e d f = grind (arith, free_set, each_of, each_at)

abbrev pub key_below : ℕ → Option ℕ → Bool
key_below n None = false
key_below n (Some i) = nat_lt i n

put_one : (w : WrittenMember → ℕ) (n : ℕ) (table : List (Option WrittenMember)) (m : WrittenMember) (o : Option ℕ) → FreeAt table o
    → sum_slots w n (put_by table m o) ≡ sum_slots w n table + (if key_below n o then w m else 0)
put_one w n table m v f = grind (arith, set_sum)

sum_cond : (w : WrittenMember → ℕ) (b : Bool) (m : WrittenMember) (ms : List WrittenMember)
    → sum_by w (cond b (m ∷ ms) ms) ≡ (if b then w m else 0) + sum_by w ms
sum_cond w y m ms = grind (arith, sum_by-cons)

pub put_sum : (w : WrittenMember → ℕ) (key : WrittenMember → Option ℕ) (n : ℕ) (table : List (Option WrittenMember)) (ms : List WrittenMember)
    → AreFree key table ms
    → sum_slots w n (put_all key table ms) ≡ sum_slots w n table + sum_by w (filter (λ m. key_below n (key m)) ms)
put_sum w key n table [] f = omega arith
put_sum w key n table (m ∷ ms) f =
    let a = put_sum w key n (put_by table m (key m)) ms (free_put key table m ms (key m) refl f.1 f.2) in
    let b = put_one w n table m (key m) f.0 in
    let c = sum_cond w (key_below n (key m)) m (filter (λ x. key_below n (key x)) ms) in
    a ∙ ap (λ k. k + sum_by w (filter (λ x. key_below n (key x)) ms)) b ∙ shifted (sum_slots w n table) (if key_below n (key m) then w m else 0)
    (sum_by w (filter (λ x. key_below n (key x)) ms)) _ c
  where
    shifted : (x y z t : ℕ) → t ≡ y + z → x + y + z ≡ x + t
    shifted x y z t e = omega arith

put_kept : (key : WrittenMember → Option ℕ) (table : List (Option WrittenMember)) (m : WrittenMember) (o : Option ℕ) (i : ℕ)
    → (o ≡ Some i → ⊥) → slot (put_by table m o) i ≡ slot table i
put_kept key table m u i h = grind (arith, set_other)

-- a slot at whose number none is put stays
pub kept : (key : WrittenMember → Option ℕ) (table : List (Option WrittenMember)) (ms : List WrittenMember) (i : ℕ)
    → Each (λ y. key y ≡ Some i → ⊥) ms → slot (put_all key table ms) i ≡ slot table i
kept key table [] i d = refl
kept key table (m ∷ ms) i d = kept key (put_by table m (key m)) ms i d.1 ∙ put_kept key table m (key m) i d.0

-- each stands at its number
pub own : (key : WrittenMember → Option ℕ) (table : List (Option WrittenMember)) (ms : List WrittenMember) (m : WrittenMember) (i : ℕ)
    → AreFree key table ms → Has ms m → key m ≡ Some i → slot (put_all key table ms) i ≡ Some m
own key table [] m i f h e = absurd h
own key table (y ∷ ms) m i f (inl s) e = grind (arith, kept, each_of, each_at, set_same)
own key table (y ∷ ms) m i f (inr h) e = own key (put_by table y (key y)) ms m i (free_put key table y ms (key y) refl f.1 f.2) h e

held_by : (key : WrittenMember → Option ℕ) (table : List (Option WrittenMember)) (m : WrittenMember) (o : Option ℕ) (j : ℕ) (b : WrittenMember)
    → key m ≡ o → slot (put_by table m o) j ≡ Some b → (slot table j ≡ Some b) ⊎ ((b ≡ m) × (key b ≡ Some j))
held_by key table m None j b k e = inl e
held_by key table m (Some i) j b k e = at_slot table i j k e
  where
    at_slot : (table : List (Option WrittenMember)) (i j : ℕ) → key m ≡ Some i → slot (slice_set table i (Some m)) j ≡ Some b
        → (slot table j ≡ Some b) ⊎ ((b ≡ m) × (key b ≡ Some j))
    at_slot table i j k e = by (i == j) refl
      where
        first : (table : List (Option WrittenMember)) (j : ℕ) → slot (slice_set table j (Some m)) j ≡ Some b → (slot table j ≡ Some b) ⊎ (b ≡ m)
        first [] j e = inl e
        first (s ∷ table) zero e = let q : b ≡ m = cc in inr q
        first (s ∷ table) (suc j) e = first table j e

        by : (t : Bool) → (i == j) ≡ t → (slot table j ≡ Some b) ⊎ ((b ≡ m) × (key b ≡ Some j))
        by true t =
            let s = eqb-true i j t in
            held (first table j (subst (λ n. slot (slice_set table n (Some m)) j ≡ Some b) s e))
          where
            held : (slot table j ≡ Some b) ⊎ (b ≡ m) → (slot table j ≡ Some b) ⊎ ((b ≡ m) × (key b ≡ Some j))
            held (inl h) = inl h
            held (inr h) = inr (h, ap key h ∙ k ∙ ap Some (eqb-true i j t))
        by false t = inl (sym (set_other table j i m (eqb-false i j t)) ∙ e)

-- what a slot has is one of those that were put there
pub holds : (key : WrittenMember → Option ℕ) (table : List (Option WrittenMember)) (ms : List WrittenMember) (j : ℕ) (b : WrittenMember)
    → slot (put_all key table ms) j ≡ Some b → (slot table j ≡ Some b) ⊎ (Has ms b × (key b ≡ Some j))
holds key table [] j b e = inl e
holds key table (m ∷ ms) j b e = by (holds key (put_by table m (key m)) ms j b e)
  where
    at_one : (slot table j ≡ Some b) ⊎ ((b ≡ m) × (key b ≡ Some j)) → (slot table j ≡ Some b) ⊎ (Has (m ∷ ms) b × (key b ≡ Some j))
    at_one (inl h) = inl h
    at_one (inr h) = inr (inl h.0, h.1)

    by : (slot (put_by table m (key m)) j ≡ Some b) ⊎ (Has ms b × (key b ≡ Some j)) → (slot table j ≡ Some b)
        ⊎ (Has (m ∷ ms) b × (key b ≡ Some j))
    by (inl h) = at_one (held_by key table m (key m) j b refl h)
    by (inr h) = inr (inr h.0, h.1)

-- ---- an empty table

pub slot_none : (n i : ℕ) → slot (replicate n None) i ≡ None
slot_none zero i = refl
slot_none (suc n) zero = refl
slot_none (suc n) (suc i) = slot_none n i

pub sum_none : (w : WrittenMember → ℕ) (n k : ℕ) → sum_slots w n (replicate k None) ≡ 0
sum_none w zero k = refl
sum_none w (suc n) zero = refl
sum_none w (suc n) (suc k) = let r = sum_none w n k in omega arith

pub free_none : (key : WrittenMember → Option ℕ) (size : ℕ) (m : WrittenMember) (o : Option ℕ) → ((i : ℕ) → o ≡ Some i → i < size)
    → FreeAt (replicate size None) o
free_none key size m u h = grind (arith, length_none, slot_none)

abbrev pub AreApartBy : (WrittenMember → Option ℕ) → ℕ → List WrittenMember → Type 0
AreApartBy key size [] = Unit {0}
AreApartBy key size (m ∷ ms) = ((i : ℕ) → key m ≡ Some i → i < size) × Each (Differ key m) ms × AreApartBy key size ms

pub all_free : (key : WrittenMember → Option ℕ) (size : ℕ) (ms : List WrittenMember) → AreApartBy key size ms → AreFree key (replicate size None) ms
all_free key size [] a = tt
all_free key size (m ∷ ms) a = (free_none key size m (key m) a.0, a.1, all_free key size ms a.2)

-- what stands in the first n slots
pub sum_put : (w : WrittenMember → ℕ) (key : WrittenMember → Option ℕ) (size n : ℕ) (ms : List WrittenMember) → AreApartBy key size ms
    → sum_slots w n (put_all key (replicate size None) ms) ≡ sum_by w (filter (λ m. key_below n (key m)) ms)
sum_put w key size n ms a = grind (arith, put_sum, replicate, all_free, sum_none)

-- ---- the tables

abbrev pub at_offset_of : WrittenMember → Option ℕ
at_offset_of m = Some m.offset

abbrev pub first_of : WrittenMember → Option ℕ
first_of m = m.handlers_from

placed_is : (table : List (Option WrittenMember)) (ms : List WrittenMember) → placed table ms ≡ put_all at_offset_of table ms
placed_is table [] = refl
placed_is table (m ∷ ms) = placed_is (slice_set table m.offset (Some m)) ms

pub by_offset_is : (size : ℕ) (ms : List WrittenMember) → by_offset size ms ≡ put_all at_offset_of (replicate size None) ms
unfolding by_offset
by_offset_is size ms = placed_is (replicate size None) ms

firsts_is_by : (table : List (Option WrittenMember)) (ms : List WrittenMember) → put_firsts table ms ≡ put_all first_of table ms
firsts_is_by table [] = refl
firsts_is_by table (m ∷ ms) = firsts_is_by (put_by table m m.handlers_from) ms

pub firsts_is : (room : ℕ) (ms : List WrittenMember) → firsts room ms ≡ put_all first_of (replicate room None) ms
unfolding firsts
firsts_is room ms = firsts_is_by (replicate room None) ms

-- ---- places

abbrev pub size_of : WrittenMember → ℕ
size_of m = body_size m.body

size_is : (s : Option WrittenMember) → size_if s ≡ weight_if size_of s
size_is x = grind (arith)

pub place_is : (at : ℕ) (table : List (Option WrittenMember)) (n : ℕ) → place_in_table at table n ≡ at + sum_slots size_of n table
place_is at [] zero = omega arith
place_is at [] (suc n) = omega arith
place_is at (s ∷ table) zero = omega arith
place_is at (s ∷ table) (suc n) = grind (arith, size_is, place_is (at + size_if s) table n)

length_put : (key : WrittenMember → Option ℕ) (table : List (Option WrittenMember)) (ms : List WrittenMember)
    → length (put_all key table ms) ≡ length table
length_put key table [] = refl
length_put key table (m ∷ ms) = length_put key (put_by table m (key m)) ms ∙ (grind (arith, length_set))

pub length_table : (key : WrittenMember → Option ℕ) (size : ℕ) (ms : List WrittenMember) → length (put_all key (replicate size None) ms) ≡ size
length_table key size ms = length_put key (replicate size None) ms ∙ length_none size
