-- The order of the blocks of handlers, and where the entries of a method stand in it.
use Rattle.std.proofs.Common.{◌≡◌, ◌≤◌, ◌<◌, ◌+◌, ℕ, zero, suc, List, [], ◌∷◌, ◌++◌, length, filter, replicate, sum_by, take}
use Rattle.std.proofs.Common.{drop, flat_map, option_to_list, Bool, true, false, cond, Option, Some}
use Rattle.std.proofs.Common.{None, is_none, inl, inr, refl, sym, ap, ◌∙◌, arith}
use Rattle.std.proofs.Common.{append_assoc}
use Rattle.std.specs.Prelude.{if◌then◌else◌, ◌==◌, slice_set, slice_index}
use Rattle.std.proofs.lemmas.List.Sums.{sum_by-cons}
use Rattle.std.proofs.lemmas.Option.{same_Some}
use Rattle.std.proofs.Math.Seq.{take-append_seam, drop-append_seam}
use Rattle.cap_method.specs.declared.read_methods.HandlerInfo.{HandlerInfo}
use Rattle.cap_renewal.specs.declared.new_methods.NewMethod.{NewMethod}
use Rattle.cap_renewal.specs.NewMethods.{to}
use Rattle.cap_laying.specs.declared.member.WrittenMember.{WrittenMember}
use Rattle.cap_laying.specs.Member.{handlers_of, lead_size}
use Rattle.cap_laying.specs.Blocks.{blocks, firsts, had_none, first_entry, put_indexes}
use Rattle.cap_laying.specs.Blocks.{handler_indexes, block_entries, entries_of_blocks, total_handlers}
use Rattle.cap_laying.proofs.Owned.{total_append, length_entries as length_at, length_table}
use Rattle.law_package.proofs.Lists.{Each, Has, each_at}
use Rattle.law_package.proofs.Slots.{slot, sum_slots, first_of}
use Rattle.std.proofs.lemmas.List.Elements.{filter-append}

abbrev pub many_of : WrittenMember → ℕ
many_of m = length (handlers_of m.body)

abbrev pub present : List (Option WrittenMember) → List WrittenMember
present table = flat_map option_to_list table

-- ---- how many handlers

pub total_sum : (ms : List WrittenMember) → total_handlers ms ≡ sum_by many_of ms
total_sum [] = refl
total_sum (m ∷ ms) = let r = total_sum ms in let c = sum_by-cons many_of m ms in omega arith

total_front : (table : List (Option WrittenMember)) (n : ℕ) → total_handlers (present (take n table)) ≡ sum_slots many_of n table
total_front table zero = refl
total_front [] (suc n) = refl
total_front (None ∷ table) (suc n) = let r = total_front table n in omega arith
total_front (Some m ∷ table) (suc n) = let r = total_front table n in omega arith

pub total_slots : (table : List (Option WrittenMember)) → total_handlers (present table) ≡ sum_slots many_of (length table) table
total_slots [] = refl
total_slots (None ∷ table) = let r = total_slots table in omega arith
total_slots (Some m ∷ table) = let r = total_slots table in omega arith

-- ---- a member among others

pub record IsAmong (ms : List WrittenMember) (m : WrittenMember) (before : ℕ) : Type 0 where
  pub lead : List WrittenMember
  pub rest : List WrittenMember
  pub is : ms ≡ lead ++ m ∷ rest
  pub total : total_handlers lead ≡ before
  pub others : Each (λ (b : WrittenMember). b.offset ≡ m.offset → ⊥) rest

in_slot : (table : List (Option WrittenMember)) (i : ℕ) (m : WrittenMember) → slot table i ≡ Some m
    → present table ≡ present (take i table) ++ m ∷ present (drop (suc i) table)
in_slot [] i m e = absurd cc
in_slot (None ∷ table) zero m e = absurd cc
in_slot (Some k ∷ table) zero m e = let s : k ≡ m = cc in ap (λ x. x ∷ present table) s
in_slot (None ∷ table) (suc i) m e = in_slot table i m e
in_slot (Some k ∷ table) (suc i) m e = ap (λ xs. k ∷ xs) (in_slot table i m e)

each_parts : (P : WrittenMember → Type 0) (xs ys : List WrittenMember) → Each P xs → Each P ys → Each P (xs ++ ys)
each_parts P [] ys a b = b
each_parts P (x ∷ xs) ys a b = (a.0, each_parts P xs ys a.1 b)

each_after : (P : WrittenMember → Type 0) (table : List (Option WrittenMember)) (n : ℕ)
    → ((j : ℕ) (b : WrittenMember) → n ≤ j → slot table j ≡ Some b → P b) → Each P (present (drop n table))
each_after P [] zero f = tt
each_after P [] (suc n) f = tt
each_after P (None ∷ table) zero f = each_after P table zero (λ j b h e. f (suc j) b (omega arith) e)
each_after P (Some m ∷ table) zero f = (f 0 m (omega arith) refl, each_after P table zero (λ j b h e. f (suc j) b (omega arith) e))
each_after P (s ∷ table) (suc n) f = each_after P table n (λ j b h e. f (suc j) b (omega arith) e)

each_late : (P : WrittenMember → Type 0) (ms : List WrittenMember) → ((b : WrittenMember) → Has ms b → had_none b ≡ true → P b)
    → Each P (filter had_none ms)
each_late P [] f = tt
each_late P (m ∷ ms) f = by (had_none m) refl (each_late P ms (λ b h e. f b (inr h) e))
  where
    by : (b : Bool) → had_none m ≡ b → Each P (filter had_none ms) → Each P (cond b (m ∷ filter had_none ms) (filter had_none ms))
    by true e others = (f m (inl refl) e, others)
    by false e others = others

none_of : (o : Option ℕ) → is_none o ≡ true → o ≡ None
none_of x e = grind (arith)

some_none : (i : ℕ) → Some i ≡ None → ⊥
some_none i e = absurd cc

-- one that had handlers stands among those that had
pub early : (room : ℕ) (ms : List WrittenMember) (i : ℕ) (m : WrittenMember) → slot (firsts room ms) i ≡ Some m → first_of m ≡ Some i
    → ((j : ℕ) (b : WrittenMember) → slot (firsts room ms) j ≡ Some b → Has ms b × (first_of b ≡ Some j))
    → ((b : WrittenMember) → Has ms b → b.offset ≡ m.offset → b ≡ m)
    → IsAmong (blocks room ms) m (sum_slots many_of i (firsts room ms))
early room ms i m e first hold one =
    let table = firsts room ms in
    let P : WrittenMember → Type 0 = λ b. b.offset ≡ m.offset → ⊥ in
    record {
      lead = present (take i table);
      rest = present (drop (suc i) table) ++ filter had_none ms;
      is =
          ap (λ xs. xs ++ filter had_none ms) (in_slot table i m e) ∙ append_assoc (present (take i table)) (m ∷ present (drop (suc i) table))
          (filter had_none ms);
      total = total_front table i;
      others = each_parts P (present (drop (suc i) table)) (filter had_none ms)
          (each_after P table (suc i) (λ j b h g. λ s. let k = hold j b g in let n = same_Some j i (sym k.1 ∙ ap first_of (one b k.0 s) ∙ first) in
          absurd (omega arith)))
          (each_late P ms (λ b h n. λ s. some_none i (sym first ∙ sym (ap first_of (one b h s)) ∙ none_of (first_of b) n)));
    }

-- one that had none stands after them
pub late : (room : ℕ) (lead rest : List WrittenMember) (m : WrittenMember) → had_none m ≡ true
    → Each (λ (b : WrittenMember). b.offset ≡ m.offset → ⊥) rest
    → IsAmong (blocks room (lead ++ m ∷ rest)) m (total_handlers (present (firsts room (lead ++ m ∷ rest))) + total_handlers (filter had_none lead))
late room lead rest m e apart =
    let ms = lead ++ m ∷ rest in
    let table = firsts room ms in
    let last : filter had_none ms ≡ filter had_none lead ++ m ∷ filter had_none rest =
    filter-append had_none lead (m ∷ rest) ∙ ap (λ b. filter had_none lead ++ cond b (m ∷ filter had_none rest) (filter had_none rest)) e in
    record {
      lead = present table ++ filter had_none lead;
      rest = filter had_none rest;
      is = ap (λ xs. present table ++ xs) last ∙ sym (append_assoc (present table) (filter had_none lead) (m ∷ filter had_none rest));
      total = total_append (present table) (filter had_none lead);
      others = each_late (λ b. b.offset ≡ m.offset → ⊥) rest (λ b h n. each_at (λ (x : WrittenMember). x.offset ≡ m.offset → ⊥) rest b apart h);
    }

-- ---- its number, and its entries

set_there : (xs : List ℕ) (i k : ℕ) → i < length xs → slice_index (slice_set xs i k) i ≡ k
set_there [] i k h = absurd (omega arith)
set_there (x ∷ xs) zero k h = refl
set_there (x ∷ xs) (suc i) k h = set_there xs i k (omega arith)

set_elsewhere : (xs : List ℕ) (i j k : ℕ) → (j ≡ i → ⊥) → slice_index (slice_set xs j k) i ≡ slice_index xs i
set_elsewhere [] i j k h = refl
set_elsewhere (x ∷ xs) zero zero k h = absurd (h refl)
set_elsewhere (x ∷ xs) (suc i) zero k h = refl
set_elsewhere (x ∷ xs) zero (suc j) k h = refl
set_elsewhere (x ∷ xs) (suc i) (suc j) k h = set_elsewhere xs i j k (λ e. h (ap suc e))

length_set : (xs : List ℕ) (i k : ℕ) → length (slice_set xs i k) ≡ length xs
length_set [] i k = refl
length_set (x ∷ xs) zero k = refl
length_set (x ∷ xs) (suc i) k = ap suc (length_set xs i k)

length_indexes : (xs : List ℕ) (before : ℕ) (bs : List WrittenMember) → length (put_indexes xs before bs) ≡ length xs
length_indexes xs before [] = refl
length_indexes xs before (b ∷ bs) =
    grind (arith, length_set, length_indexes (slice_set xs b.offset (first_entry before (many_of b))) (before + many_of b) bs)

indexes_parts : (xs : List ℕ) (before : ℕ) (as_ bs : List WrittenMember)
    → put_indexes xs before (as_ ++ bs) ≡ put_indexes (put_indexes xs before as_) (before + total_handlers as_) bs
indexes_parts xs before [] bs = ap (λ n. put_indexes xs n bs) (omega arith)
indexes_parts xs before (a ∷ as_) bs =
    grind (arith, indexes_parts (slice_set xs a.offset (first_entry before (many_of a))) (before + many_of a) as_ bs)

index_stays : (xs : List ℕ) (before i : ℕ) (bs : List WrittenMember) → Each (λ (b : WrittenMember). b.offset ≡ i → ⊥) bs
    → slice_index (put_indexes xs before bs) i ≡ slice_index xs i
index_stays xs before i [] h = refl
index_stays xs before i (b ∷ bs) h =
    grind (arith, set_elsewhere, index_stays (slice_set xs b.offset (first_entry before (many_of b))) (before + many_of b) i bs h.1)

length_zeros : (n : ℕ) → length (replicate {A = ℕ} n 0) ≡ n
length_zeros zero = refl
length_zeros (suc n) = ap suc (length_zeros n)

pub index_among : (size : ℕ) (bs : List WrittenMember) (m : WrittenMember) (before : ℕ) → IsAmong bs m before → m.offset < size
    → slice_index (handler_indexes size bs) m.offset ≡ first_entry before (many_of m)
unfolding handler_indexes
index_among size bs m before a lt =
    let start : List ℕ = replicate size 0 in
    let led = put_indexes start 0 a.lead in
    let long = length_indexes start 0 a.lead in
    let zeros = length_zeros size in
    let e : 0 + total_handlers a.lead ≡ before = omega (arith, a.total) in
    ap (λ xs. slice_index (put_indexes start 0 xs) m.offset) a.is
    ∙ ap (λ xs. slice_index xs m.offset) (indexes_parts start 0 a.lead (m ∷ a.rest))
    ∙ ap (λ n. slice_index (put_indexes led n (m ∷ a.rest)) m.offset) e
    ∙ index_stays (slice_set led m.offset (first_entry before (many_of m))) (before + many_of m) m.offset a.rest a.others
    ∙ set_there led m.offset (first_entry before (many_of m)) (omega arith)

entries_parts : (news : List (Option NewMethod)) (as_ bs : List WrittenMember) → entries_of_blocks news (as_ ++ bs) ≡ entries_of_blocks news
    as_ ++ entries_of_blocks news bs
entries_parts news [] bs = refl
entries_parts news (a ∷ as_) bs = grind (arith, append_assoc, entries_parts news as_ bs)

pub entries_among : (news : List (Option NewMethod)) (bs : List WrittenMember) (m : WrittenMember) (before : ℕ) → IsAmong bs m before
    → take (many_of m) (drop (first_entry before (many_of m)) (entries_of_blocks news bs)) ≡ block_entries news m
entries_among news bs m before a = by (many_of m == 0) refl
  where
    none : (n : ℕ) → (n == 0) ≡ true → n ≡ 0
    none n e = grind arith

    empty : (xs : List HandlerInfo) → length xs ≡ 0 → [] ≡ xs
    empty [] e = refl
    empty (x ∷ xs) e = absurd (omega arith)

    long : length (block_entries news m) ≡ many_of m
    long = length_at (to news m.offset + lead_size m.body) (handlers_of m.body)

    by : (b : Bool) → (many_of m == 0) ≡ b → take (many_of m) (drop (if b then 0 else before) (entries_of_blocks news bs)) ≡ block_entries news m
    by true e =
        let z = none (many_of m) e in
        let l = long in
        ap (λ n. take n (drop 0 (entries_of_blocks news bs))) z ∙ empty (block_entries news m) (l ∙ z)
    by false e = grind (arith, length_table, entries_parts, drop-append_seam, long, take-append_seam)
