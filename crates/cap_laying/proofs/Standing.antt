-- Each method that is written stands at its new offset.
use Rattle.std.proofs.Common.{◌≡◌, ℕ, List, [], ◌∷◌, ◌++◌, length, take, drop, Some, sym, ap, ◌∙◌, arith}
use Rattle.cap_laying.specs.declared.member.WrittenMember.{WrittenMember}
use Rattle.cap_laying.specs.HandlerTable.{table_bytes}
use Rattle.cap_laying.specs.Member.{body_size, bodies, by_offset}
use Rattle.cap_laying.specs.NewPlaces.{new_method, news_from}
use Rattle.cap_laying.specs.Blocks.{blocks, entries_of_blocks, handler_indexes}
use Rattle.cap_laying.specs.Members.{MayBeWritten, new_places, start_of, written_info}
use Rattle.cap_laying.specs.Standing.{StandsAnew, AllStand}
use Rattle.cap_laying.proofs.InfoLaws.{bodies_there}
use Rattle.cap_laying.proofs.InfoLaws.{length_table as length_bytes}
use Rattle.cap_laying.proofs.Owned.{All, IsInSlot, own_slots, to_place, is_new, length_table}

stands_anew : (size room : ℕ) (ms : List WrittenMember) (m : WrittenMember) → IsInSlot (by_offset size ms) m → StandsAnew size room ms m
unfolding new_places written_info
stands_anew size room ms m own =
    let table = by_offset size ms in
    let order = blocks room ms in
    let indexes = handler_indexes size order in
    let at = start_of room ms in
    let news = news_from indexes at table in
    let entries = entries_of_blocks news order in
    let lead = length entries ∷ table_bytes entries in
    let there = (to_place indexes at table m.offset m own).0 in
    let few = length_table news order in
    let bytes = length_bytes entries in
    let long : length lead ≡ at = omega arith in
    record {
      bytes = ap (λ k. take (body_size m.body) (drop k (lead ++ bodies table))) there ∙ bodies_there table lead at m.offset m long own;
      numbers = is_new indexes at table m.offset m own ∙ ap (λ k. Some (new_method indexes k m)) (sym there);
    }

all_stand : (size room : ℕ) (all ms : List WrittenMember) → All (IsInSlot (by_offset size all)) ms → AllStand size room all ms
all_stand size room all [] own = tt
all_stand size room all (m ∷ ms) own = (stands_anew size room all m own.0, all_stand size room all ms own.1)

pub methods_stand : (size room : ℕ) (ms : List WrittenMember) → MayBeWritten size ms → AllStand size room ms ms
methods_stand size room ms may = all_stand size room ms ms (own_slots size ms may.each may.apart)
