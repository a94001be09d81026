-- How long the Method component is that is written, and its plain size.
use Rattle.std.proofs.Common.{◌≡◌, ◌≤◌, ◌+◌, ◌*◌, ℕ, zero, suc, Bool, true, false, cond, List, [], ◌∷◌, length, map, replicate}
use Rattle.std.proofs.Common.{Option, Some, None, refl, ap, arith, length-append}
use Rattle.std.specs.Prelude.{slice_set}
use Rattle.jc_decode.proofs.InstructionLists.{all-are-listed}
use Rattle.jc_decode.specs.CodeSize.{plain_code_size, plain_sum}
use Rattle.jc_decode.proofs.PlainLengths.{plain_is, plain_known}
use Rattle.cap_laying.specs.declared.member.Body.{Body}
use Rattle.cap_laying.specs.declared.member.WrittenMember.{WrittenMember}
use Rattle.cap_laying.specs.HeaderBytes.{HeaderNumbers, header_size, is_compact}
use Rattle.cap_laying.specs.Member.{bodies, body_size, by_offset, methods_end_from, handlers_of, placed, put_member, size_if}
use Rattle.cap_laying.specs.Blocks.{total_handlers}
use Rattle.cap_laying.specs.Members.{written_info, written_size}
use Rattle.cap_laying.proofs.InfoLaws.{length_table as bytes_table}
use Rattle.cap_laying.proofs.Owned.{length_table, total_blocks}
use Rattle.cap_laying.proofs.HeaderLaws.{length_body}
use Rattle.cap_write.specs.Described.{body_seen, member_seen}
use Rattle.cap_write.specs.PlainComponent.{plain_component, plain_member, plain_members}

-- ---- its length

bodies_long : (at : ℕ) (table : List (Option WrittenMember)) → at + length (bodies table) ≡ methods_end_from at table
bodies_long at [] = omega arith
bodies_long at (None ∷ ms) = let r = bodies_long at ms in omega (arith, ap (λ n. methods_end_from n ms) (plus at))
  where
    plus : (n : ℕ) → n + 0 ≡ n
    plus n = omega arith
bodies_long at (Some m ∷ ms) = grind (arith, length_body, length-append, bodies_long (at + body_size m.body) ms)

pub info_long : (size room : ℕ) (ms : List WrittenMember) → length (written_info size room ms) ≡ written_size size room ms
unfolding written_info written_size
info_long size room ms = grind (arith, length-append, bytes_table, length_table, bodies_long)

-- ---- its plain size is no less

table_size : List (Option WrittenMember) → ℕ
table_size [] = 0
table_size (m ∷ ms) = size_if m + table_size ms

sum_end : (at : ℕ) (table : List (Option WrittenMember)) → methods_end_from at table ≡ at + table_size table
unfolding table_size
sum_end at [] = omega arith
sum_end at (m ∷ ms) = let r = sum_end (at + size_if m) ms in omega arith

none_size : (n : ℕ) → table_size (replicate n None) ≡ 0
unfolding table_size
none_size zero = refl
none_size (suc n) = omega (arith, none_size n)

set_size : (table : List (Option WrittenMember)) (i : ℕ) (m : WrittenMember) → table_size (slice_set table i (Some m)) ≤ table_size table + body_size
    m.body
unfolding table_size
set_size [] i m = omega arith
set_size (s ∷ ms) zero m = omega arith
set_size (s ∷ ms) (suc i) m = let r = set_size ms i m in omega arith

members_size : List WrittenMember → ℕ
members_size [] = 0
members_size (m ∷ ms) = body_size m.body + members_size ms

placed_size : (table : List (Option WrittenMember)) (ms : List WrittenMember) → table_size (placed table ms) ≤ table_size table + members_size ms
unfolding members_size
placed_size table [] = omega arith
placed_size table (m ∷ ms) = grind (arith, set_size, placed_size (put_member table m) ms)

header_small : (n : HeaderNumbers) → header_size n ≤ 4
header_small n = by (is_compact n)
  where
    by : (b : Bool) → cond b 2 4 ≤ 4
    by true = omega arith
    by false = omega arith

code_plain : (code : List ℕ) → length code ≤ plain_code_size code
code_plain code = grind (arith, plain_known code (all-are-listed code), plain_is code (plain_sum _) _ refl refl)

body_plain : (b : Body) → 8 * length (handlers_of b) + body_size b ≤ plain_member (body_seen b)
body_plain x = grind (arith, code_plain, header_small)

members_plain : (ms : List WrittenMember) → 8 * total_handlers ms + members_size ms ≤ plain_members (map member_seen ms)
unfolding members_size
members_plain [] = omega arith
members_plain (m ∷ ms) = grind (arith, body_plain, members_plain ms)

pub plain_least : (size room : ℕ) (ms : List WrittenMember) → written_size size room ms ≤ plain_component (map member_seen ms)
unfolding written_size by_offset
plain_least size room ms = grind (arith, sum_end, replicate, placed_size, none_size, total_blocks, members_plain)
