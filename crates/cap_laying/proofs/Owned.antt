-- Where each method stands.
use Rattle.std.proofs.Common.{◌≡◌, ◌≤◌, ◌<◌, ◌+◌, ℕ, zero, suc, List, [], ◌∷◌, ◌++◌, length, replicate, Option, Some, None}
use Rattle.std.proofs.Common.{Bool, true, false, cond, refl, sym, ap, subst, ◌∙◌, arith, length-append}
use Rattle.std.specs.Prelude.{slice_set, slice_index_or, filter, is_none}
use Rattle.std.specs.List.{flat_map}
use Rattle.std.specs.Option.{option_to_list}
use Rattle.cap_renewal.specs.declared.new_methods.NewMethod.{NewMethod}
use Rattle.cap_renewal.specs.NewMethods.{at_offset, offset_or, to}
use Rattle.cap_laying.specs.declared.member.Body.{Body}
use Rattle.cap_laying.specs.declared.member.WrittenMember.{WrittenMember}
use Rattle.cap_laying.specs.Member.{bodies, put_member, placed, by_offset, size_if, body_size, handlers_of, methods_end_from, AreWithin}
use Rattle.cap_laying.specs.NewPlaces.{new_method, news_from, AreSmallBodies}
use Rattle.jc_decode.specs.declared.symbols.LaidHandler.{LaidHandler}
use Rattle.cap_method.specs.declared.read_methods.HandlerInfo.{HandlerInfo}
use Rattle.cap_laying.specs.HandlerTable.{entries_at, table_bytes}
use Rattle.cap_laying.specs.Blocks.{entries_of_blocks, put_by, put_firsts, firsts, had_none, blocks, IsPlacedBody, ArePlacedBodies}
use Rattle.cap_laying.specs.Blocks.{total_handlers}
use Rattle.cap_laying.specs.MethodInfo.{method_info, place_in_table}
use Rattle.cap_laying.specs.Members.{IsAlone, AreApart, HasHandlersInside, MayBeMember, AreMembers}
use Rattle.cap_laying.proofs.PlaceLaws.{end_grows}

-- what holds of each method of a list, and of each that a table has
abbrev pub All : (WrittenMember → Type 0) → List WrittenMember → Type 0
All P [] = Unit {0}
All P (m ∷ ms) = P m × All P ms

abbrev PIf : (WrittenMember → Type 0) → Option WrittenMember → Type 0
PIf P None = Unit {0}
PIf P (Some m) = P m

abbrev AllIf : (WrittenMember → Type 0) → List (Option WrittenMember) → Type 0
AllIf P [] = Unit {0}
AllIf P (m ∷ ms) = PIf P m × AllIf P ms

none_all : (P : WrittenMember → Type 0) (n : ℕ) → AllIf P (replicate n None)
none_all P zero = tt
none_all P (suc n) = (tt, none_all P n)

set_all : (P : WrittenMember → Type 0) (table : List (Option WrittenMember)) (i : ℕ) (m : WrittenMember) → P m → AllIf P table
    → AllIf P (slice_set table i (Some m))
set_all P [] i m p h = h
set_all P (s ∷ ms) zero m p h = (p, h.1)
set_all P (s ∷ ms) (suc i) m p h = (h.0, set_all P ms i m p h.1)

placed_all : (P : WrittenMember → Type 0) (table : List (Option WrittenMember)) (ms : List WrittenMember) → All P ms → AllIf P table
    → AllIf P (placed table ms)
placed_all P table [] a h = h
placed_all P table (m ∷ ms) a h = placed_all P (put_member table m) ms a.1 (set_all P table m.offset m a.0 h)

pub offset_all : (P : WrittenMember → Type 0) (size : ℕ) (ms : List WrittenMember) → All P ms → AllIf P (by_offset size ms)
unfolding by_offset
offset_all P size ms a = placed_all P (replicate size None) ms a (none_all P size)

by_all : (P : WrittenMember → Type 0) (table : List (Option WrittenMember)) (m : WrittenMember) (o : Option ℕ) → P m → AllIf P table
    → AllIf P (put_by table m o)
by_all x table m x2 p h = grind (arith, set_all)

firsts_all : (P : WrittenMember → Type 0) (table : List (Option WrittenMember)) (ms : List WrittenMember) → All P ms → AllIf P table
    → AllIf P (put_firsts table ms)
firsts_all P table [] a h = h
firsts_all P table (m ∷ ms) a h = firsts_all P (put_by table m m.handlers_from) ms a.1 (by_all P table m m.handlers_from a.0 h)

append_all : (P : WrittenMember → Type 0) (xs ys : List WrittenMember) → All P xs → All P ys → All P (xs ++ ys)
append_all P [] ys a b = b
append_all P (x ∷ xs) ys a b = (a.0, append_all P xs ys a.1 b)

present_all : (P : WrittenMember → Type 0) (table : List (Option WrittenMember)) → AllIf P table → All P (flat_map option_to_list table)
present_all P [] h = tt
present_all P (None ∷ ms) h = present_all P ms h.1
present_all P (Some m ∷ ms) h = (h.0, present_all P ms h.1)

late_all : (P : WrittenMember → Type 0) (ms : List WrittenMember) → All P ms → All P (filter had_none ms)
late_all P [] h = tt
late_all P (m ∷ ms) h = by (had_none m) (late_all P ms h.1)
  where
    by : (b : Bool) → All P (filter had_none ms) → All P (cond b (m ∷ filter had_none ms) (filter had_none ms))
    by true rest = (h.0, rest)
    by false rest = rest

-- what holds of each method holds of each in the order of the blocks
pub blocks_all : (P : WrittenMember → Type 0) (room : ℕ) (ms : List WrittenMember) → All P ms → All P (blocks room ms)
unfolding firsts
blocks_all P room ms a = append_all P (flat_map option_to_list (put_firsts (replicate room None) ms)) (filter had_none ms)
    (present_all P (put_firsts (replicate room None) ms) (firsts_all P (replicate room None) ms a (none_all P room))) (late_all P ms a)

-- ---- each method at its former offset

abbrev slot : List (Option WrittenMember) → ℕ → Option WrittenMember
slot table o = slice_index_or table o None

pub set_same : (table : List (Option WrittenMember)) (o : ℕ) (m : WrittenMember) → o < length table → slot (slice_set table o (Some m)) o ≡ Some m
set_same [] o m h = absurd (omega arith)
set_same (s ∷ ms) zero m h = refl
set_same (s ∷ ms) (suc o) m h = set_same ms o m (omega arith)

pub set_other : (table : List (Option WrittenMember)) (o k : ℕ) (m : WrittenMember) → (k ≡ o → ⊥) → slot (slice_set table k (Some m)) o
    ≡ slot table o
set_other [] o k m h = refl
set_other (s ∷ ms) zero zero m h = absurd (h refl)
set_other (s ∷ ms) (suc o) zero m h = refl
set_other (s ∷ ms) zero (suc k) m h = refl
set_other (s ∷ ms) (suc o) (suc k) m h = set_other ms o k m (λ e. h (ap suc e))

pub length_set : (table : List (Option WrittenMember)) (o : ℕ) (m : WrittenMember) → length (slice_set table o (Some m)) ≡ length table
length_set [] o m = refl
length_set (s ∷ ms) zero m = refl
length_set (s ∷ ms) (suc o) m = ap suc (length_set ms o m)

placed_other : (table : List (Option WrittenMember)) (ms : List WrittenMember) (o : ℕ) → IsAlone o ms → slot (placed table ms) o ≡ slot table o
placed_other table [] o alone = refl
placed_other table (m ∷ ms) o alone = placed_other (put_member table m) ms o alone.1 ∙ set_other table o m.offset m alone.0

-- a method is what its slot has
abbrev pub IsInSlot : List (Option WrittenMember) → WrittenMember → Type 0
IsInSlot table m = slot table m.offset ≡ Some m

placed_own : (table : List (Option WrittenMember)) (size : ℕ) (ms : List WrittenMember) → length table ≡ size → AreMembers size ms → AreApart ms
    → All (IsInSlot (placed table ms)) ms
placed_own table size [] len are apart = tt
placed_own table size (m ∷ ms) len are apart =
    let in_size = are.0.within in
    let long : length (put_member table m) ≡ size = length_set table m.offset m ∙ len in (
      placed_other (put_member table m) ms m.offset apart.0 ∙ set_same table m.offset m (omega arith),
      placed_own (put_member table m) size ms long are.1
          apart.1,
    )

pub length_none : (n : ℕ) → length (replicate {A = Option WrittenMember} n None) ≡ n
length_none zero = refl
length_none (suc n) = ap suc (length_none n)

pub own_slots : (size : ℕ) (ms : List WrittenMember) → AreMembers size ms → AreApart ms → All (IsInSlot (by_offset size ms)) ms
unfolding by_offset
own_slots size ms are apart = placed_own (replicate size None) size ms (length_none size) are apart

-- ---- its new place

pub record IsPlaced (indexes : List ℕ) (at : ℕ) (table : List (Option WrittenMember)) (o : ℕ) (m : WrittenMember) : Type 0 where
  pub new : at_offset (news_from indexes at table) o ≡ Some (new_method indexes (place_in_table at table o) m)
  pub within : place_in_table at table o + body_size m.body ≤ methods_end_from at table

is_placed : (indexes : List ℕ) (at : ℕ) (table : List (Option WrittenMember)) (o : ℕ) (m : WrittenMember) → slot table o ≡ Some m
    → IsPlaced indexes at table o m
is_placed indexes at [] o m e = absurd (cc)
is_placed indexes at (None ∷ ms) zero m e = absurd (cc)
is_placed indexes at (Some k ∷ ms) zero m e = grind (arith, end_grows)
is_placed indexes at (s ∷ ms) (suc o) m e = grind (arith, is_placed indexes (at + size_if s) ms o m e)

offset_is : (o : ℕ) (n : Option NewMethod) (m : NewMethod) → n ≡ Some m → offset_or o n ≡ m.offset
offset_is o n m e = rw e refl

pub to_place : (indexes : List ℕ) (at : ℕ) (table : List (Option WrittenMember)) (o : ℕ) (m : WrittenMember) → slot table o ≡ Some m
    → (to (news_from indexes at table) o ≡ place_in_table at table o) × (place_in_table at table o + body_size m.body ≤ methods_end_from at table)
unfolding to
to_place indexes at table o m e = grind (arith, is_placed indexes at table o m e, offset_is)

pub is_new : (indexes : List ℕ) (at : ℕ) (table : List (Option WrittenMember)) (o : ℕ) (m : WrittenMember) → slot table o ≡ Some m
    → at_offset (news_from indexes at table) o ≡ Some (new_method indexes (place_in_table at table o) m)
is_new indexes at table o m e = (is_placed indexes at table o m e).new

-- a method whose body is whole lies in the info
placed_body : (at : ℕ) (b : Body) → HasHandlersInside b → at + body_size b ≤ 65535 → IsPlacedBody at b
placed_body at x whole h = grind (arith)

all_placed : (indexes : List ℕ) (at size : ℕ) (table : List (Option WrittenMember)) (bs : List WrittenMember) → methods_end_from at table ≤ 65535
    → All (IsInSlot table) bs → All (MayBeMember size) bs → ArePlacedBodies (news_from indexes at table) bs
all_placed indexes at size table [] end own are = tt
all_placed indexes at size table (b ∷ bs) end own are =
    let p = to_place indexes at table b.offset b own.0 in
    let within = p.1 in (
      subst (λ o. IsPlacedBody o b.body) (sym p.0) (placed_body (place_in_table at table b.offset) b.body are.0.whole (omega arith)),
      all_placed indexes at size table bs end own.1 are.1,
    )

members_all : (size : ℕ) (ms : List WrittenMember) → AreMembers size ms → All (MayBeMember size) ms
members_all size [] h = tt
members_all size (m ∷ ms) h = (h.0, members_all size ms h.1)

pub blocks_placed : (size room at : ℕ) (indexes : List ℕ) (ms : List WrittenMember) → AreMembers size ms → AreApart ms
    → methods_end_from at (by_offset size ms) ≤ 65535 → ArePlacedBodies (news_from indexes at (by_offset size ms)) (blocks room ms)
blocks_placed size room at indexes ms are apart end = grind (arith, all_placed, blocks_all, own_slots, members_all)

-- ---- what the steps ask for

within_of : (size : ℕ) (ms : List WrittenMember) → All (MayBeMember size) ms → AreWithin size ms
within_of size [] h = tt
within_of size (m ∷ ms) h = (h.0.within, within_of size ms h.1)

pub members_within : (size : ℕ) (ms : List WrittenMember) → AreMembers size ms → AreWithin size ms
members_within size ms are = within_of size ms (members_all size ms are)

pub blocks_within : (size room : ℕ) (ms : List WrittenMember) → AreMembers size ms → AreWithin size (blocks room ms)
blocks_within size room ms are = within_of size (blocks room ms) (blocks_all (MayBeMember size) room ms (members_all size ms are))

small_slots : (size : ℕ) (table : List (Option WrittenMember)) → AllIf (MayBeMember size) table → AreSmallBodies table
small_slots size [] h = tt
small_slots size (None ∷ ms) h = (tt, small_slots size ms h.1)
small_slots size (Some m ∷ ms) h = (h.0.small, small_slots size ms h.1)

pub members_small : (size : ℕ) (ms : List WrittenMember) → AreMembers size ms → AreSmallBodies (by_offset size ms)
members_small size ms are = small_slots size (by_offset size ms) (offset_all (MayBeMember size) size ms (members_all size ms are))

-- ---- how many handlers there are

total_if : List (Option WrittenMember) → ℕ
total_if [] = 0
total_if (None ∷ ms) = total_if ms
total_if (Some m ∷ ms) = length (handlers_of m.body) + total_if ms

total_none : (n : ℕ) → total_if (replicate n None) ≡ 0
unfolding total_if
total_none zero = refl
total_none (suc n) = total_none n

total_set : (table : List (Option WrittenMember)) (i : ℕ) (m : WrittenMember) → total_if (slice_set table i (Some m)) ≤ total_if table + length
    (handlers_of m.body)
unfolding total_if
total_set [] i m = omega arith
total_set (None ∷ ms) zero m = omega arith
total_set (Some k ∷ ms) zero m = omega arith
total_set (None ∷ ms) (suc i) m = total_set ms i m
total_set (Some k ∷ ms) (suc i) m = let r = total_set ms i m in omega arith

pub total_append : (xs ys : List WrittenMember) → total_handlers (xs ++ ys) ≡ total_handlers xs + total_handlers ys
total_append [] ys = omega arith
total_append (x ∷ xs) ys = let r = total_append xs ys in omega arith

total_present : (table : List (Option WrittenMember)) → total_handlers (flat_map option_to_list table) ≡ total_if table
unfolding total_if
total_present [] = refl
total_present (None ∷ ms) = total_present ms
total_present (Some m ∷ ms) = let r = total_present ms in omega arith

total_both : (table : List (Option WrittenMember)) (ms : List WrittenMember) → total_if (put_firsts table ms) + total_handlers (filter had_none ms) ≤
    total_if table + total_handlers ms
unfolding total_if
total_both table [] = omega arith
total_both table (m ∷ ms) = by m.handlers_from (λ other. total_both other ms)
  where
    by : (o : Option ℕ)
        → ((other : List (Option WrittenMember)) → total_if (put_firsts other ms) + total_handlers (filter had_none ms) ≤ total_if other +
        total_handlers ms) → total_if (put_firsts (put_by table m o) ms) + total_handlers
        (cond (is_none o) (m ∷ filter had_none ms) (filter had_none ms)) ≤ total_if table + (length (handlers_of m.body) + total_handlers ms)
    by None others = let r = others table in omega arith
    by (Some i) others = let r = others (slice_set table i (Some m)) in let s = total_set table i m in omega arith

-- the blocks have no more handlers than the methods
pub total_blocks : (room : ℕ) (ms : List WrittenMember) → total_handlers (blocks room ms) ≤ total_handlers ms
unfolding firsts
total_blocks room ms = grind (arith, replicate, total_append, total_present, total_both, total_none)

pub length_entries : (start : ℕ) (hs : List LaidHandler) → length (entries_at start hs) ≡ length hs
length_entries start [] = refl
length_entries start (h ∷ hs) = ap suc (length_entries start hs)

-- the entries of the blocks are as many as their handlers
pub length_table : (news : List (Option NewMethod)) (bs : List WrittenMember) → length (entries_of_blocks news bs) ≡ total_handlers bs
length_table news [] = refl
length_table news (b ∷ bs) = grind (arith, length-append, length_entries, length_table news bs)

-- the steps of writing an info
pub info_steps : (total : ℕ) (first second third fourth : List ℕ) (entries : List HandlerInfo) (table : List (Option WrittenMember)) → first ≡ []
    → second ≡ first ++ total ∷ [] → third ≡ second ++ table_bytes entries → fourth ≡ third ++ bodies table → total ≡ length entries
    → fourth ≡ method_info entries table
info_steps total first second third fourth entries table a b c d e = rw (d, c, b, a, e) refl

-- what the steps of writing ask for
pub ruleset writing = (members_within, blocks_within, members_small, total_blocks)
