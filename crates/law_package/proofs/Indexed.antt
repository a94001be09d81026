-- Where a method that is written stands, and where its handlers do.
use Rattle.std.proofs.Common.{◌≡◌, ◌≤◌, ◌<◌, ◌+◌, ℕ, suc, List, [], ◌∷◌, ◌++◌, length, map, filter, replicate, sum_by, Bool}
use Rattle.std.proofs.Common.{true, false, not, Option, Some, None, is_none, inl, inr, ◌⊎◌, refl, sym, ap, subst, ◌∙◌, arith, length-append}
use Rattle.std.specs.Prelude.{if◌then◌else◌, nat_lt, ◌==◌}
use Rattle.std.proofs.lemmas.List.{map-append}
use Rattle.std.proofs.lemmas.List.Filters.{sum_by-filter_both}
use Rattle.std.proofs.lemmas.Option.{same_Some}
use Rattle.std.proofs.lemmas.Bool.{lt-ltb, le-ltb}
use Rattle.cap_components.specs.Parts.{Lent}
use Rattle.cap_components.specs.PackageRecord.{PackageRecord, described_methods}
use Rattle.cap_package.specs.StandsFor.{StandsFor}
use Rattle.cap_renewal.specs.NewMethods.{to}
use Rattle.cap_renewal.specs.DescriptorEdits.{renewed_method}
use Rattle.cap_laying.specs.declared.member.WrittenMember.{WrittenMember}
use Rattle.cap_laying.specs.HandlerTable.{table_bytes}
use Rattle.cap_laying.specs.Member.{bodies, by_offset}
use Rattle.cap_laying.specs.Blocks.{blocks, firsts, had_none, entries_of_blocks, handler_indexes, total_handlers}
use Rattle.cap_laying.specs.MethodInfo.{method_info}
use Rattle.cap_laying.specs.Members.{AreMembers, AreApart, IsAlone, new_places, start_of, written_info}
use Rattle.cap_laying.proofs.HeaderLaws.{length_body}
use Rattle.cap_laying.proofs.InfoLaws.{length_table as length_bytes}
use Rattle.cap_laying.proofs.Owned.{to_place, total_append, length_table as length_entries}
use Rattle.jc_decode.specs.declared.symbols.Laid.{Laid}
use Rattle.law_package.specs.Changes.{FormerMethod, Change, sources}
use Rattle.law_package.specs.Written.{size_written, handlers_in, stood_before, block_of, methods_begin}
use Rattle.law_package.specs.Writing.{first_handler, IsWrittenAnew, places}
use Rattle.law_package.proofs.Lists.{Each, Has, each_at, each_of}
use Rattle.cap_package.proofs.Agreed.{agrees}
use Rattle.law_package.proofs.Owners.{Distinct}
use Rattle.law_package.proofs.Zipped.{old_of}
use Rattle.law_package.proofs.Sums.{filter_every}
use Rattle.law_package.proofs.Kept.{map_twice, sum_map}
use Rattle.law_package.proofs.Standing.{distinct_map}
use Rattle.law_package.proofs.Handlers.{ClaimsInside, OwnedOnce, owned_once, all_claims, blocks_apart}
use Rattle.law_package.proofs.Handlers.{distinct_numbers, has_map, some_count, block}
use Rattle.law_package.proofs.Ranks.{sums_agree, sum_through, sums_all, split_at, late_sum}
use Rattle.law_package.proofs.Ranks.{Rising, rising_map, rising_sources, rising_before, rising_after}
use Rattle.law_package.proofs.Slots.{slot, sum_slots, size_of, key_below, AreApartBy, at_offset_of, Differ}
use Rattle.law_package.proofs.Slots.{first_of, put_all, own, holds, all_free, slot_none}
use Rattle.law_package.proofs.Slots.{sum_put, length_table, by_offset_is, firsts_is, place_is}
use Rattle.law_package.proofs.Anew.{Pair, pairs_in, source_in, member_in, pair_sources, pair_members, change_in}
use Rattle.law_package.proofs.Order.{many_of, present, total_sum, total_slots, IsAmong, early, late}
use Rattle.law_package.proofs.Known.{Known, was_described, of_methods, size_known}
use Rattle.jc_base.proofs.Eaching.{Each-map}

-- ---- they stood apart

alone_each : (o : ℕ) (ms : List WrittenMember) → IsAlone o ms → Each (λ (m : WrittenMember). m.offset ≡ o → ⊥) ms
alone_each o [] a = tt
alone_each o (m ∷ ms) a = (a.0, alone_each o ms a.1)

pub apart_by : (size : ℕ) (ms : List WrittenMember) → AreMembers size ms → AreApart ms → AreApartBy at_offset_of size ms
apart_by size [] a d = tt
apart_by size (m ∷ ms) a d = grind (arith, alone_each m.offset ms d.0, apart_by size ms a.1 d.1, same_Some, each_of, each_at)

apart_after : (lead rest : List WrittenMember) (m : WrittenMember) → AreApart (lead ++ m ∷ rest)
    → Each (λ (b : WrittenMember). b.offset ≡ m.offset → ⊥) rest
apart_after [] rest m a = alone_each m.offset rest a.0
apart_after (x ∷ lead) rest m a = apart_after lead rest m a.1

pub own_slot : (size : ℕ) (ms : List WrittenMember) (m : WrittenMember) → AreMembers size ms → AreApart ms → Has ms m
    → slot (by_offset size ms) m.offset ≡ Some m
own_slot size ms m a d h =
    ap (λ t. slot t m.offset) (by_offset_is size ms)
    ∙ own at_offset_of (replicate size None) ms m m.offset (all_free at_offset_of size ms (apart_by size ms a d)) h refl

only_one : (size : ℕ) (ms : List WrittenMember) (m b : WrittenMember) → AreMembers size ms → AreApart ms → Has ms m → Has ms b
    → b.offset ≡ m.offset → b ≡ m
only_one size ms m b a d h g s =
    let x = own_slot size ms m a d h in
    let y = own_slot size ms b a d g in
    same (sym y ∙ ap (slot (by_offset size ms)) s ∙ x)
  where
    same : Some b ≡ Some m → b ≡ m
    same e = cc

-- ---- places

pub place_among : (size room : ℕ) (ms : List WrittenMember) (m : WrittenMember) → AreMembers size ms → AreApart ms → Has ms m
    → to (new_places size room ms) m.offset ≡ start_of room ms + sum_by size_of (filter (λ (y : WrittenMember). nat_lt y.offset m.offset) ms)
unfolding new_places
place_among size room ms m a d h =
    let table = by_offset size ms in
    let at = start_of room ms in
    (to_place (handler_indexes size (blocks room ms)) at table m.offset m (own_slot size ms m a d h)).0
    ∙ place_is at table m.offset
    ∙ ap (λ t. at + sum_slots size_of m.offset t) (by_offset_is size ms)
    ∙ ap (λ n. at + n) (sum_put size_of at_offset_of size m.offset ms (apart_by size ms a d))

has_member : (p q : PackageRecord) (laid : List (Option Laid)) (ms : List WrittenMember) (z : Pair) → IsWrittenAnew p laid ms q
    → Has (pairs_in p laid ms) z → Has ms z.member
has_member p q laid ms z w h =
    subst (λ xs. Has xs z.member) (pair_members p.methods.info (sources p laid) ms w.members) (has_map member_in (pairs_in p laid ms) z h)

over_pairs : (p q : PackageRecord) (laid : List (Option Laid)) (ms : List WrittenMember) (f : WrittenMember → ℕ) (t : WrittenMember → Bool)
    → IsWrittenAnew p laid ms q
    → sum_by f (filter t ms) ≡ sum_by (λ (z : Pair). f z.member) (filter (λ (z : Pair). t z.member) (pairs_in p laid ms))
over_pairs p q laid ms f t w = grind (arith, sum_by, filter, pair_members, sum_through)

pub starts : (p q : PackageRecord) (laid : List (Option Laid)) (ms : List WrittenMember) → IsWrittenAnew p laid ms q
    → start_of (length p.methods.handlers) ms ≡ methods_begin q
starts p q laid ms w = grind (arith, length_entries)

pub placed_known : (p q : PackageRecord) (laid : List (Option Laid)) (ms : List WrittenMember) (z : Pair) → IsWrittenAnew p laid ms q
    → Each (Known p q ms) (pairs_in p laid ms) → Has (pairs_in p laid ms) z
    → (renewed_method (places p ms) z.source.method).method_offset ≡ methods_begin q + sum_by (size_written q)
    (filter (stood_before (change_in (places p ms) z)) (map (change_in (places p ms)) (pairs_in p laid ms)))
placed_known p q laid ms z w ks h =
    let zs = pairs_in p laid ms in
    let size = length p.methods.info in
    let room = length p.methods.handlers in
    let news = places p ms in
    let k = each_at (Known p q ms) zs z ks h in
    let sizes : Each (λ (y : Pair). size_of y.member ≡ size_written q (change_in news y)) zs = each_of
    (λ (y : Pair). size_of y.member ≡ size_written q (change_in news y)) zs (λ y g. sym (size_known p q ms y (each_at (Known p q ms) zs y ks g))) in
    let tests : Each (λ (y : Pair). nat_lt y.member.offset z.member.offset ≡ nat_lt y.source.method.method_offset z.source.method.method_offset) zs =
    each_of (λ (y : Pair). nat_lt y.member.offset z.member.offset ≡ nat_lt y.source.method.method_offset z.source.method.method_offset) zs
    (λ y g. ap (λ n. nat_lt n z.member.offset) (each_at (Known p q ms) zs y ks g).is.offset ∙ ap (nat_lt y.source.method.method_offset) k.is.offset) in
    k.told.offset
    ∙ place_among size room ms z.member w.may.each w.may.apart (has_member p q laid ms z w h)
    ∙ ap (λ n. n + sum_by size_of (filter (λ (y : WrittenMember). nat_lt y.offset z.member.offset) ms)) (starts p q laid ms w)
    ∙ ap (λ n. methods_begin q + n) (over_pairs p q laid ms size_of (λ (y : WrittenMember). nat_lt y.offset z.member.offset) w
    ∙ sums_agree (λ (y : Pair). size_of y.member) (λ (y : Pair). size_written q (change_in news y))
    (λ (y : Pair). nat_lt y.member.offset z.member.offset) (λ (y : Pair). nat_lt y.source.method.method_offset z.source.method.method_offset) zs sizes
    tests
    ∙ sym (sum_through (size_written q) (stood_before (change_in news z)) (change_in news) zs))

-- ---- blocks

pub record HadFirst (p : PackageRecord) (s : FormerMethod) (i : ℕ) : Type 0 where
  pub some : (s.method.handler_count == 0) ≡ false
  pub index : s.method.handler_index ≡ i
  pub block : block_of p s ≡ i

had_first : (p : PackageRecord) (s : FormerMethod) (i : ℕ) → first_handler s.method ≡ Some i → HadFirst p s i
had_first p s i e = by (s.method.handler_count == 0) refl
  where
    none_some : None ≡ Some i → ⊥
    none_some k = cc

    by : (b : Bool) → (s.method.handler_count == 0) ≡ b → HadFirst p s i
    by x h = grind (arith, same_Some)

pub record HadNone (p : PackageRecord) (s : FormerMethod) : Type 0 where
  pub block : block_of p s ≡ length p.methods.handlers + s.number

data WasFirst (p : PackageRecord) (s : FormerMethod) (o : Option ℕ) : Type 0 where
  had : (i : ℕ) → o ≡ Some i → HadFirst p s i → WasFirst p s o
  had_not : o ≡ None → HadNone p s → WasFirst p s o

was_first : (p : PackageRecord) (s : FormerMethod) → WasFirst p s (first_handler s.method)
was_first p s = by (s.method.handler_count == 0) refl
  where
    by : (b : Bool) → (s.method.handler_count == 0) ≡ b → WasFirst p s (first_handler s.method)
    by true h =
        had_not (ap (λ b. if b then None else Some s.method.handler_index) h)
        (record { block = ap (λ b. if b then length p.methods.handlers + s.number else s.method.handler_index) h })
    by false h = had s.method.handler_index (ap (λ b. if b then None else Some s.method.handler_index) h)
        (record { some = h; index = refl; block = ap (λ b. if b then length p.methods.handlers + s.number else s.method.handler_index) h })

first_low : (p : PackageRecord) (s : FormerMethod) (i : ℕ) → ClaimsInside (length p.methods.handlers) s.method → HadFirst p s i
    → i < length p.methods.handlers
first_low p s i c h = grind (arith, some_count)

abbrev block_in : PackageRecord → Pair → ℕ
block_in p z = block_of p z.source

distinct_up : {X Y : Type 0} (key : Y → ℕ) (g : X → Y) (xs : List X) → Distinct (λ x. key (g x)) xs → Distinct key (map g xs)
distinct_up key g [] d = tt
distinct_up key g (x ∷ xs) d = (Each-map (λ y. key y ≡ key (g x) → ⊥) g xs d.0, distinct_up key g xs d.1)

was_old : (p q : PackageRecord) (laid : List (Option Laid)) (ms : List WrittenMember) → IsWrittenAnew p laid ms q
    → map old_of (map (change_in (places p ms)) (pairs_in p laid ms)) ≡ described_methods p
was_old p q laid ms w = grind (arith, pair_sources p.methods.info (sources p laid) ms w.members, was_described p q laid ms w, map_twice)

blocks_differ : (parts : List Lent) (p q : PackageRecord) (laid : List (Option Laid)) (ms : List WrittenMember) → StandsFor parts p
    → IsWrittenAnew p laid ms q → Distinct (block_in p) (pairs_in p laid ms)
blocks_differ parts p q laid ms s w =
    let zs = pairs_in p laid ms in
    let a = agrees parts p s.agree in
    let cs = map (change_in (places p ms)) zs in
    let numbers : Distinct (λ (z : Pair). z.source.number) zs = distinct_map (λ (x : FormerMethod). x.number) source_in zs
    (subst (Distinct (λ (x : FormerMethod). x.number)) (sym (pair_sources p.methods.info (sources p laid) ms w.members))
    (distinct_numbers 0 (described_methods p) _)) in
    distinct_map (block p) (change_in (places p ms)) zs
    (blocks_apart p cs
    (Each-map (λ (c : Change). ClaimsInside (length p.methods.handlers) c.source.method) (change_in (places p ms)) zs
    (of_methods p q laid ms (ClaimsInside (length p.methods.handlers)) w (all_claims parts p a)))
    (distinct_up (λ (c : Change). c.source.number) (change_in (places p ms)) zs numbers)
    (subst (OwnedOnce (length p.methods.handlers)) (sym (was_old p q laid ms w)) (owned_once parts p a)))

firsts_apart : (p q : PackageRecord) (ms : List WrittenMember) (zs : List Pair) → Each (Known p q ms) zs → Distinct (block_in p) zs
    → AreApartBy first_of (length p.methods.handlers) (map member_in zs)
firsts_apart p q ms [] k d = tt
firsts_apart p q ms (z ∷ zs) k d = (
  (λ i e. first_low p z.source i k.0.inside (had_first p z.source i (sym k.0.is.handlers ∙ e))),
  Each-map (Differ first_of z.member) member_in zs (each_of (λ (y : Pair). Differ first_of z.member y.member) zs (λ y h. λ i e f.
      let a = had_first p z.source i (sym k.0.is.handlers ∙ e) in
      let b = had_first p y.source i (sym (each_at (Known p q ms) zs y k.1 h).is.handlers ∙ f) in
      each_at (λ (x : Pair). block_in p x ≡ block_in p z → ⊥) zs y d.0 h (b.block ∙ sym a.block))),
  firsts_apart p q ms zs k.1 d.1,
)

pub all_firsts : (parts : List Lent) (p q : PackageRecord) (laid : List (Option Laid)) (ms : List WrittenMember) → StandsFor parts p
    → IsWrittenAnew p laid ms q → Each (Known p q ms) (pairs_in p laid ms) → AreApartBy first_of (length p.methods.handlers) ms
all_firsts parts p q laid ms s w ks =
    subst (AreApartBy first_of (length p.methods.handlers)) (pair_members p.methods.info (sources p laid) ms w.members)
    (firsts_apart p q ms (pairs_in p laid ms) ks (blocks_differ parts p q laid ms s w))

-- ---- handlers before

-- the block of a method stands after those of methods whose blocks came before
pub record HasRank (p : PackageRecord) (laid : List (Option Laid)) (ms : List WrittenMember) (z : Pair) : Type 0 where
  pub before : ℕ
  pub among : IsAmong (blocks (length p.methods.handlers) ms) z.member before
  pub sum : before ≡ sum_by (λ (y : Pair). many_of y.member) (filter (λ (y : Pair). nat_lt (block_in p y) (block_in p z)) (pairs_in p laid ms))

below_early : (p : PackageRecord) (s : FormerMethod) (o : Option ℕ) (i n : ℕ) → n ≡ i → i < length p.methods.handlers → WasFirst p s o
    → key_below i o ≡ nat_lt (block_of p s) n
below_early p s o i n e lt b = grind (arith, le-ltb)

early_rank : (p q : PackageRecord) (laid : List (Option Laid)) (ms : List WrittenMember) (z : Pair) (i : ℕ) → IsWrittenAnew p laid ms q
    → Each (Known p q ms) (pairs_in p laid ms) → Has (pairs_in p laid ms) z
    → AreApartBy first_of (length p.methods.handlers) ms → first_handler z.source.method ≡ Some i → HadFirst p z.source i → HasRank p laid ms z
early_rank p q laid ms z i w ks h apart e hf =
    let room = length p.methods.handlers in
    let size = length p.methods.info in
    let zs = pairs_in p laid ms in
    let k = each_at (Known p q ms) zs z ks h in
    let m = z.member in
    let has = has_member p q laid ms z w h in
    let first : first_of m ≡ Some i = k.is.handlers ∙ e in
    let low = first_low p z.source i k.inside hf in
    let at : slot (firsts room ms) i ≡ Some m = ap (λ t. slot t i) (firsts_is room ms)
    ∙ own first_of (replicate room None) ms m i (all_free first_of room ms apart) has first in
    let tests : Each (λ (y : Pair). key_below i (first_of y.member) ≡ nat_lt (block_in p y) (block_in p z)) zs =
    each_of (λ (y : Pair). key_below i (first_of y.member) ≡ nat_lt (block_in p y) (block_in p z)) zs
    (λ y g. ap (key_below i) (each_at (Known p q ms) zs y ks g).is.handlers ∙ below_early p y.source (first_handler y.source.method) i (block_in p z)
    hf.block low (was_first p y.source)) in
    record {
      before = sum_slots many_of i (firsts room ms);
      among =
          early room ms i m at first
          (λ j b g. held j b (holds first_of (replicate room None) ms j b (ap (λ t. slot t j) (sym (firsts_is room ms)) ∙ g)))
          (λ b g s. only_one size ms m b w.may.each w.may.apart has g s);
      sum =
          ap (sum_slots many_of i) (firsts_is room ms) ∙ sum_put many_of first_of room i ms apart
          ∙ over_pairs p q laid ms many_of (λ y. key_below i (first_of y)) w
          ∙ sums_agree (λ (y : Pair). many_of y.member) (λ (y : Pair). many_of y.member) (λ (y : Pair). key_below i (first_of y.member))
          (λ (y : Pair). nat_lt (block_in p y) (block_in p z)) zs
          (each_of (λ (y : Pair). many_of y.member ≡ many_of y.member) zs (λ y g. refl)) tests;
    }
  where
    no_slot : (b : WrittenMember) → None ≡ Some b → ⊥
    no_slot b k = cc

    held : (j : ℕ) (b : WrittenMember) → (slot (replicate (length p.methods.handlers) None) j ≡ Some b) ⊎ (Has ms b × (first_of b ≡ Some j))
        → Has ms b × (first_of b ≡ Some j)
    held j b (inl e) = absurd (no_slot b (sym (slot_none (length p.methods.handlers) j) ∙ e))
    held j b (inr g) = g

abbrev had_none_of : Option ℕ → Bool
had_none_of o = is_none o

had_bool : (o : Option ℕ) → had_none_of o ≡ not (not (had_none_of o))
had_bool x = grind (arith)

below_all : (p : PackageRecord) (s : FormerMethod) (o : Option ℕ) → ClaimsInside (length p.methods.handlers) s.method → WasFirst p s o
    → key_below (length p.methods.handlers) o ≡ not (had_none_of o)
below_all p s z c f = grind (arith, same_Some, first_low, lt-ltb)

-- of two methods, one that had handlers comes before one that had none, and of those the one with the lesser number
late_before : (p : PackageRecord) (s : FormerMethod) (o : Option ℕ) (k n : ℕ) → k ≡ length p.methods.handlers + n → s.number < n
    → ClaimsInside (length p.methods.handlers) s.method → WasFirst p s o → nat_lt (block_of p s) k ≡ true
late_before p s o k n e lt c c2 = grind (arith, first_low, lt-ltb)

late_after : (p : PackageRecord) (s : FormerMethod) (o : Option ℕ) (k n : ℕ) → k ≡ length p.methods.handlers + n → n ≤ s.number
    → ClaimsInside (length p.methods.handlers) s.method → WasFirst p s o → nat_lt (block_of p s) k ≡ not (had_none_of o)
late_after p s o k n e le c c2 = grind (arith, first_low, lt-ltb, not, le-ltb)

rising_pairs : (p q : PackageRecord) (laid : List (Option Laid)) (ms : List WrittenMember) → IsWrittenAnew p laid ms q
    → Rising (λ (z : Pair). z.source.number) (pairs_in p laid ms)
rising_pairs p q laid ms w = rising_map (λ (s : FormerMethod). s.number) source_in (pairs_in p laid ms)
    (subst (Rising (λ (s : FormerMethod). s.number)) (sym (pair_sources p.methods.info (sources p laid) ms w.members))
    (rising_sources 0 (described_methods p) _))

-- how many handlers those methods have that had some
early_total : (p q : PackageRecord) (laid : List (Option Laid)) (ms : List WrittenMember) → IsWrittenAnew p laid ms q
    → Each (Known p q ms) (pairs_in p laid ms) → AreApartBy first_of (length p.methods.handlers) ms
    → total_handlers (present (firsts (length p.methods.handlers) ms)) ≡ sum_by (λ (y : Pair). many_of y.member)
    (filter (λ (y : Pair). not (had_none y.member)) (pairs_in p laid ms))
early_total p q laid ms w ks apart =
    let room = length p.methods.handlers in
    let zs = pairs_in p laid ms in
    let tests : Each (λ (y : Pair). key_below room (first_of y.member) ≡ not (had_none y.member)) zs =
    each_of (λ (y : Pair). key_below room (first_of y.member) ≡ not (had_none y.member)) zs
    (λ y g. let k = each_at (Known p q ms) zs y ks g in
    below_all p y.source (first_of y.member) k.inside (subst (WasFirst p y.source) (sym k.is.handlers) (was_first p y.source))) in
    ap (λ t. total_handlers (present t)) (firsts_is room ms)
    ∙ total_slots (put_all first_of (replicate room None) ms)
    ∙ ap (λ n. sum_slots many_of n (put_all first_of (replicate room None) ms)) (length_table first_of room ms)
    ∙ sum_put many_of first_of room room ms apart
    ∙ over_pairs p q laid ms many_of (λ y. key_below room (first_of y)) w
    ∙ sums_agree (λ (y : Pair). many_of y.member) (λ (y : Pair). many_of y.member) (λ (y : Pair). key_below room (first_of y.member))
    (λ (y : Pair). not (had_none y.member)) zs
    (each_of (λ (y : Pair). many_of y.member ≡ many_of y.member) zs (λ y g. refl)) tests

map_parts : {X Y : Type 0} (g : X → Y) (xs ys : List X) (x : X) → map g (xs ++ x ∷ ys) ≡ map g xs ++ g x ∷ map g ys
map_parts g xs ys x = map-append g xs (x ∷ ys)

late_rank : (p q : PackageRecord) (laid : List (Option Laid)) (ms : List WrittenMember) (z : Pair) → IsWrittenAnew p laid ms q
    → Each (Known p q ms) (pairs_in p laid ms) → Has (pairs_in p laid ms) z
    → AreApartBy first_of (length p.methods.handlers) ms → first_handler z.source.method ≡ None → HadNone p z.source → HasRank p laid ms z
late_rank p q laid ms z w ks h apart e hn =
    let room = length p.methods.handlers in
    let zs = pairs_in p laid ms in
    let k = each_at (Known p q ms) zs z ks h in
    let s = split_at zs z h in
    let lead = map member_in s.lead in
    let rest = map member_in s.rest in
    let m = z.member in
    let parts : ms ≡ lead ++ m ∷ rest = sym (pair_members p.methods.info (sources p laid) ms w.members) ∙ ap (map member_in) s.is
    ∙ map_parts member_in s.lead s.rest z in
    let none : had_none m ≡ true = ap had_none_of (k.is.handlers ∙ e) in
    let others = apart_after lead rest m (subst AreApart parts w.may.apart) in
    let among = late room lead rest m none others in
    let rising = subst (Rising (λ (y : Pair). y.source.number)) s.is (rising_pairs p q laid ms w) in
    let before = rising_before (λ (y : Pair). y.source.number) s.lead s.rest z rising in
    let after = rising_after (λ (y : Pair). y.source.number) s.lead s.rest z rising in
    let ks' = subst (Each (Known p q ms)) s.is ks in
    let at_lead : (y : Pair) → Has s.lead y → Known p q ms y = λ y g. each_at (Known p q ms) s.lead y (lead_each s.lead (z ∷ s.rest) ks') g in
    let at_rest : (y : Pair) → Has (z ∷ s.rest) y → Known p q ms y = λ y g. each_at (Known p q ms) (z ∷ s.rest) y
    (rest_each s.lead (z ∷ s.rest) ks') g in
    let sum : sum_by (λ (y : Pair). many_of y.member) (filter (λ (y : Pair). nat_lt (block_in p y) (block_in p z)) (s.lead ++ z ∷ s.rest))
    ≡ sum_by (λ (y : Pair). many_of y.member) (filter (λ (y : Pair). not (had_none y.member)) (s.lead ++ z ∷ s.rest)) + sum_by
    (λ (y : Pair). many_of y.member) (filter (λ (y : Pair). had_none y.member) s.lead) =
    late_sum (λ (y : Pair). many_of y.member) (λ (y : Pair). not (had_none y.member)) (λ (y : Pair). had_none y.member)
    (λ (y : Pair). nat_lt (block_in p y) (block_in p z)) s.lead (z ∷ s.rest)
    (λ y. had_bool (first_of y.member))
    (each_of (λ (y : Pair). nat_lt (block_in p y) (block_in p z) ≡ true) s.lead
    (λ y g. late_before p y.source (first_handler y.source.method) (block_in p z) z.source.number hn.block
    (each_at (λ (x : Pair). x.source.number < z.source.number) s.lead y before g) (at_lead y g).inside (was_first p y.source)))
    (each_of (λ (y : Pair). nat_lt (block_in p y) (block_in p z) ≡ not (had_none y.member)) (z ∷ s.rest)
    (λ y g. late_after p y.source (first_handler y.source.method) (block_in p z) z.source.number hn.block (not_less s.rest y g after) (at_rest y g).inside
    (was_first p y.source) ∙ ap (λ o. not (had_none_of o)) (sym (at_rest y g).is.handlers))) in
    let following : total_handlers (filter had_none lead) ≡ sum_by (λ (y : Pair). many_of y.member) (filter (λ (y : Pair). had_none y.member) s.lead) =
    total_sum (filter had_none lead) ∙ sum_through many_of had_none member_in s.lead in
    record {
      before = total_handlers (present (firsts room ms)) + total_handlers (filter had_none lead);
      among = subst (λ xs. IsAmong (blocks room xs) m (total_handlers (present (firsts room xs)) + total_handlers (filter had_none lead))) (sym parts) among;
      sum =
          sums (total_handlers (present (firsts room ms))) (total_handlers (filter had_none lead)) _ _ _
          (early_total p q laid ms w ks apart ∙ ap (λ xs. sum_by (λ (y : Pair). many_of y.member) (filter (λ (y : Pair). not (had_none y.member)) xs))
          s.is) following sum
          ∙ ap (λ xs. sum_by (λ (y : Pair). many_of y.member) (filter (λ (y : Pair). nat_lt (block_in p y) (block_in p z)) xs)) (sym s.is);
    }
  where
    sums : (a b c d t : ℕ) → a ≡ c → b ≡ d → t ≡ c + d → a + b ≡ t
    sums a b c d t e f g = omega arith

    lead_each : (xs ys : List Pair) → Each (Known p q ms) (xs ++ ys) → Each (Known p q ms) xs
    lead_each [] ys k = tt
    lead_each (x ∷ xs) ys k = (k.0, lead_each xs ys k.1)

    rest_each : (xs ys : List Pair) → Each (Known p q ms) (xs ++ ys) → Each (Known p q ms) ys
    rest_each [] ys k = k
    rest_each (x ∷ xs) ys k = rest_each xs ys k.1

    not_less : (rest : List Pair) (y : Pair) → Has (z ∷ rest) y → Each (λ (x : Pair). z.source.number < x.source.number) rest
        → z.source.number ≤ y.source.number
    not_less rest y z a = grind (arith, each_at)

pub rank : (parts : List Lent) (p q : PackageRecord) (laid : List (Option Laid)) (ms : List WrittenMember) (z : Pair) → StandsFor parts p
    → IsWrittenAnew p laid ms q → Each (Known p q ms) (pairs_in p laid ms) → Has (pairs_in p laid ms) z → HasRank p laid ms z
rank parts p q laid ms z s w ks h = by (was_first p z.source)
  where
    by : WasFirst p z.source (first_handler z.source.method) → HasRank p laid ms z
    by (had i e f) = early_rank p q laid ms z i w ks h (all_firsts parts p q laid ms s w ks) e f
    by (had_not e f) = late_rank p q laid ms z w ks h (all_firsts parts p q laid ms s w ks) e f

-- ---- whole sizes

-- all methods together have the handlers of the blocks
pub all_handlers : (parts : List Lent) (p q : PackageRecord) (laid : List (Option Laid)) (ms : List WrittenMember) → StandsFor parts p
    → IsWrittenAnew p laid ms q → Each (Known p q ms) (pairs_in p laid ms)
    → length q.methods.handlers ≡ sum_by handlers_in (map (change_in (places p ms)) (pairs_in p laid ms))
all_handlers parts p q laid ms s w ks =
    let room = length p.methods.handlers in
    let zs = pairs_in p laid ms in
    let news = places p ms in
    let had = early_total p q laid ms w ks (all_firsts parts p q laid ms s w ks) in
    let none = total_sum (filter had_none ms) ∙ over_pairs p q laid ms many_of had_none w in
    let both = sum_by-filter_both (λ (y : Pair). not (had_none y.member)) (λ (y : Pair). had_none y.member) (λ y. had_bool (first_of y.member))
    (λ (y : Pair). many_of y.member) zs in
    let blocks_total = total_append (present (firsts room ms)) (filter had_none ms) in
    let same : sum_by (λ (y : Pair). many_of y.member) zs ≡ sum_by handlers_in (map (change_in news) zs) =
    sym (ap (sum_by (λ (y : Pair). many_of y.member)) (filter_every zs))
    ∙ sums_agree (λ (y : Pair). many_of y.member) (λ (y : Pair). handlers_in (change_in news y)) (λ y. true) (λ y. true) zs
    (each_of (λ (y : Pair). many_of y.member ≡ handlers_in (change_in news y)) zs (λ y g. sym (each_at (Known p q ms) zs y ks g).told.many))
    (each_of (λ (y : Pair). true ≡ true) zs (λ y g. refl))
    ∙ ap (sum_by (λ (y : Pair). handlers_in (change_in news y))) (filter_every zs) ∙ sym (sum_map handlers_in (change_in news) zs) in
    let a = ap length w.handlers in
    let b = length_entries news (blocks room ms) in
    let c : total_handlers (blocks room ms) ≡ total_handlers (present (firsts room ms) ++ filter had_none ms) = refl in
    omega (arith, had, none, both, blocks_total, same, a, b, c)

length_bodies : (table : List (Option WrittenMember)) → length (bodies table) ≡ sum_slots size_of (length table) table
length_bodies [] = refl
length_bodies (None ∷ table) = let r = length_bodies table in omega arith
length_bodies (Some m ∷ table) = grind (arith, length-append, length_body, length_bodies table)

below_size : (size : ℕ) (ms : List WrittenMember) → AreMembers size ms → Each (λ (m : WrittenMember). key_below size (at_offset_of m) ≡ true) ms
below_size size [] a = tt
below_size size (m ∷ ms) a = (lt-ltb m.offset size a.0.within, below_size size ms a.1)

pub whole_info : (p q : PackageRecord) (laid : List (Option Laid)) (ms : List WrittenMember) → IsWrittenAnew p laid ms q
    → Each (Known p q ms) (pairs_in p laid ms)
    → length q.methods.info ≡ methods_begin q + sum_by (size_written q) (map (change_in (places p ms)) (pairs_in p laid ms))
unfolding written_info
whole_info p q laid ms w ks =
    let size = length p.methods.info in
    let room = length p.methods.handlers in
    let zs = pairs_in p laid ms in
    let news = places p ms in
    let entries = entries_of_blocks news (blocks room ms) in
    let table = by_offset size ms in
    let a = ap length w.info in
    let b = length-append (table_bytes entries) (bodies table) in
    let c = length_bytes entries in
    let d = length_bodies table in
    let e : sum_slots size_of (length table) table ≡ sum_by size_of ms =
    ap (λ t. sum_slots size_of (length t) t) (by_offset_is size ms)
    ∙ ap (λ n. sum_slots size_of n (put_all at_offset_of (replicate size None) ms)) (length_table at_offset_of size ms)
    ∙ sum_put size_of at_offset_of size size ms (apart_by size ms w.may.each w.may.apart)
    ∙ sums_all size_of (λ m. key_below size (at_offset_of m)) ms (below_size size ms w.may.each) in
    let f : sum_by size_of ms ≡ sum_by (size_written q) (map (change_in news) zs) =
    ap (sum_by size_of) (sym (filter_every ms)) ∙ over_pairs p q laid ms size_of (λ m. true) w
    ∙ sums_agree (λ (y : Pair). size_of y.member) (λ (y : Pair). size_written q (change_in news y)) (λ y. true) (λ y. true) zs
    (each_of (λ (y : Pair). size_of y.member ≡ size_written q (change_in news y)) zs
    (λ y g. sym (size_known p q ms y (each_at (Known p q ms) zs y ks g)))) (each_of (λ (y : Pair). true ≡ true) zs (λ y g. refl))
    ∙ ap (sum_by (λ (y : Pair). size_written q (change_in news y))) (filter_every zs) ∙ sym (sum_map (size_written q) (change_in news) zs) in
    let g = ap length w.handlers in
    let i : length (method_info entries table) ≡ suc (length (table_bytes entries ++ bodies table)) = refl in
    omega (arith, a, b, c, d, e, f, g, i)
