-- How long the ReferenceLocation component is that is written: places that rise take few bytes, and there are few of them.
use Rattle.std.proofs.Common.{◌≡◌, ◌≤◌, ◌<◌, ◌+◌, ◌-◌, ◌*◌, ℕ, Bool, true, false, cond, List, [], ◌∷◌}
use Rattle.std.proofs.Common.{◌++◌, length, replicate, Option, Some, None, sym, subst, arith, length-append}
use Rattle.std.specs.Prelude.{◌==◌, IfSome}
use Rattle.std.proofs.lemmas.List.{length-replicate}
use Rattle.jc_decode.specs.declared.insn.Insn.{Insn}
use Rattle.jc_decode.specs.declared.insn.Placed.{Placed}
use Rattle.jc_decode.specs.declared.pool_index.PoolIndex.{PoolIndex}
use Rattle.jc_decode.specs.declared.pool_index.IndexWidth.{IndexWidth}
use Rattle.jc_decode.specs.declared.symbols.LaidHandler.{LaidHandler}
use Rattle.jc_decode.specs.PoolIndex.{bytes_of_index, pool_index}
use Rattle.jc_decode.specs.Listing.{listing, listing_end, end_from as insns_end, Lists}
use Rattle.jc_decode.proofs.Decoded.{IsWithin-decoded}
use Rattle.jc_decode.proofs.InstructionLists.{all-are-listed}
use Rattle.jc_decode.proofs.PlainLengths.{plain_known}
use Rattle.cap_laying.specs.Catches.{catch_place, catch_places}
use Rattle.cap_laying.specs.Component.{component_bytes}
use Rattle.cap_laying.specs.Distances.{distances, last_of}
use Rattle.cap_laying.specs.Indices.{HasIndexInside, index_by, index_places, indices}
use Rattle.cap_bytes.specs.Spelling.{Stands}
use Rattle.cap_pool.specs.LocationFormat.{locations_info}
use Rattle.cap_laying.proofs.Components.{components_stand}
use Rattle.cap_laying.proofs.Rooms.{has_room}
use Rattle.cap_write.specs.WrittenPackage.{locations_of}
use Rattle.cap_laying.specs.declared.member.Body.{Body}
use Rattle.cap_laying.specs.declared.member.Body.TheVariants.{Code, Header}
use Rattle.cap_laying.specs.declared.member.WrittenMember.{WrittenMember}
use Rattle.cap_laying.specs.Blocks.{blocks, total_handlers}
use Rattle.cap_laying.specs.Member.{body_size, by_offset, methods_end_from, handlers_of, lead_size, size_if}
use Rattle.cap_laying.specs.Members.{start_of, written_size}
use Rattle.cap_laying.specs.References.{block_catches, body_indices, indices_if, method_indices, references_info, written_references}
use Rattle.cap_laying.proofs.PlaceLaws.{end_grows}
use Rattle.cap_laying.proofs.Tellings.{distances_both, last_both}

-- places between two others: they take a byte each, and one for each 255 on the way
record IsSpread (last high : ℕ) (ps : List ℕ) : Type 0 where
  few : 255 * length (distances last ps) + last ≤ 255 * length ps + last_of last ps
  most : last_of last ps ≤ high

abbrev AreBetween : ℕ → ℕ → List ℕ → Type 0
AreBetween low high ps = (last : ℕ) → last ≤ low → IsSpread last high ps

between_none : (low high : ℕ) → low ≤ high → AreBetween low high []
between_none low high h last le = record { few = omega arith; most = omega arith }

between_one : (low high p : ℕ) → low ≤ p → p ≤ high → AreBetween low high (p ∷ [])
between_one low high p a b last le = grind (arith, length-append, replicate, length-replicate)

between_both : (low mid high : ℕ) (ps qs : List ℕ) → AreBetween low mid ps → AreBetween mid high qs → AreBetween low high (ps ++ qs)
between_both low mid high ps qs a b last le = grind (arith, distances_both, length-append, last_both)

between_wider : (low high less more : ℕ) (ps : List ℕ) → less ≤ low → high ≤ more → AreBetween low high ps → AreBetween less more ps
between_wider low high less more ps a b h last le = grind (arith)

-- ---- the indices of an instruction

-- those of both widths
record AreFew (at long : ℕ) (one two : List ℕ) : Type 0 where
  one_between : AreBetween at (at + long) one
  two_between : AreBetween at (at + long) two
  few : 2 * (length one + length two) ≤ long

one_index : (at long place : ℕ) (w : IndexWidth) → at ≤ place → place ≤ at + long → 2 ≤ long
    → AreFew at long (cond (bytes_of_index w == 1) (place ∷ []) []) (cond (bytes_of_index w == 2) (place ∷ []) [])
one_index at long place u a b c = grind (arith, between_one, between_none)

few_none : (at long : ℕ) → AreFew at long [] []
few_none at long = grind (arith, between_none)

insn_few : (code : List ℕ) (start at : ℕ) (i : Insn) → HasIndexInside i → AreFew (start + at) i.len (index_by 1 (start + at) (pool_index i))
    (index_by 2 (start + at) (pool_index i))
insn_few code start at i r = by (pool_index i) r.room
  where
    by : (o : Option PoolIndex) → IfSome o (λ n. (1 ≤ n.at) × (n.at < i.len)) → AreFew (start + at) i.len (index_by 1 (start + at) o)
        (index_by 2 (start + at) o)
    by None h = few_none (start + at) i.len
    by (Some n) h = let a = h.0 in let b = h.1 in one_index (start + at) i.len (start + at + n.at) n.width (omega arith) (omega arith) (omega arith)

few_both : (at long more : ℕ) (a b c d : List ℕ) → AreFew at long a b → AreFew (at + long) more c d → AreFew at (long + more) (a ++ c) (b ++ d)
few_both at long more a b c d x y =
    let e : at + (long + more) ≡ at + long + more = omega arith in
    let f = x.few in
    let g = y.few in
    let h = length-append a c in
    let k = length-append b d in
    record {
      one_between =
          between_wider at (at + long + more) at (at + (long + more)) (a ++ c) (omega arith) (omega arith)
          (between_both at (at + long) (at + long + more) a c x.one_between y.one_between);
      two_between =
          between_wider at (at + long + more) at (at + (long + more)) (b ++ d) (omega arith) (omega arith)
          (between_both at (at + long) (at + long + more) b d x.two_between y.two_between);
      few = omega arith;
    }

few_wider : (at long less more : ℕ) (one two : List ℕ) → less ≤ at → at + long ≤ less + more → AreFew at long one two → AreFew less more one two
few_wider at long less more one two a b x = grind (arith, between_wider)

-- an end is no earlier
ends_grow : (code : List ℕ) (at : ℕ) (is : List Placed) → Lists code at is → at ≤ insns_end at is
ends_grow code at [] l = omega arith
ends_grow code at (p ∷ ps) l = let r = ends_grow code (at + p.insn.len) ps l.2 in omega arith

-- those of the instructions of a code
insns_few : (code : List ℕ) (start at : ℕ) (is : List Placed) → Lists code at is → (long : ℕ) → at + long ≡ insns_end at is
    → AreFew (start + at) long (indices 1 start is) (indices 2 start is)
insns_few code start at [] l long e = few_none (start + at) long
insns_few code start at (p ∷ ps) l long e =
    let w = IsWithin-decoded code at p.insn l.1 in
    let grows = ends_grow code (at + p.insn.len) ps l.2 in
    let more = long - p.insn.len in
    let same : p.insn.len + more ≡ long = omega arith in
    let one : AreFew (start + at) p.insn.len (index_by 1 (start + at) (pool_index p.insn)) (index_by 2 (start + at) (pool_index p.insn)) = insn_few code
    start at p.insn (has_room p.insn code at l.1) in
    let here : AreFew (start + at) p.insn.len (index_places 1 start p) (index_places 2 start p) = subst
    (λ n. AreFew (start + at) p.insn.len (index_by 1 (start + n) (pool_index p.insn)) (index_by 2 (start + n) (pool_index p.insn))) (sym l.0) one in
    let next : start + (at + p.insn.len) ≡ start + at + p.insn.len = omega arith in
    let rest : AreFew (start + at + p.insn.len) more (indices 1 start ps) (indices 2 start ps) = subst
    (λ n. AreFew n more (indices 1 start ps) (indices 2 start ps)) next (insns_few code start (at + p.insn.len) ps l.2 more (omega arith)) in
    subst (λ n. AreFew (start + at) n (indices 1 start (p ∷ ps)) (indices 2 start (p ∷ ps))) same
    (few_both (start + at) p.insn.len more (index_places 1 start p) (index_places 2 start p) (indices 1 start ps) (indices 2 start ps) here rest)

body_few : (at : ℕ) (b : Body) → AreFew at (body_size b) (body_indices 1 at b) (body_indices 2 at b)
body_few at (Header header) = few_none at (length header.now)
body_few at (Code laid) =
    let code = laid.now.code in
    let listed = all-are-listed code in
    let start = at + lead_size (Code laid) in
    let ends = (plain_known code listed).ends in
    let f = insns_few code start 0 (listing code) listed.lists (listing_end code) (omega arith) in
    few_wider (start + 0) (listing_end code) at (body_size (Code laid)) (indices 1 start (listing code)) (indices 2 start (listing code)) (omega arith)
    (omega arith) f

slot_few : (at : ℕ) (m : Option WrittenMember) → AreFew at (size_if m) (indices_if 1 at m) (indices_if 2 at m)
slot_few at None = few_none at 0
slot_few at (Some m) = body_few at m.body

table_few : (at : ℕ) (table : List (Option WrittenMember)) (long : ℕ) → at + long ≡ methods_end_from at table
    → AreFew at long (method_indices 1 at table) (method_indices 2 at table)
table_few at [] long e = few_none at long
table_few at (m ∷ ms) long e =
    let grows = end_grows (at + size_if m) ms in
    let more = long - size_if m in
    let same : size_if m + more ≡ long = omega arith in
    subst (λ n. AreFew at n (method_indices 1 at (m ∷ ms)) (method_indices 2 at (m ∷ ms))) same
    (few_both at (size_if m) more (indices_if 1 at m) (indices_if 2 at m) (method_indices 1 (at + size_if m) ms) (method_indices 2 (at + size_if m) ms)
    (slot_few at m) (table_few (at + size_if m) ms more (omega arith)))

-- ---- the pool numbers of caught classes

record AreCaught (at long : ℕ) (ps : List ℕ) : Type 0 where
  between : AreBetween at (at + long) ps
  few : 2 * length ps ≤ long

caught_both : (at long more : ℕ) (a b : List ℕ) → AreCaught at long a → AreCaught (at + long) more b → AreCaught at (long + more) (a ++ b)
caught_both at long more a b x y =
    let f = x.few in
    let g = y.few in
    let h = length-append a b in
    record {
      between =
          between_wider at (at + long + more) at (at + (long + more)) (a ++ b) (omega arith) (omega arith)
          (between_both at (at + long) (at + long + more) a b x.between y.between);
      few = omega arith;
    }

caught_one : (at pool : ℕ) → AreCaught at 8 (catch_place at pool)
caught_one at pool = by (pool == 0)
  where
    by : (b : Bool) → AreCaught at 8 (cond b [] ((at + 6) ∷ []))
    by true = record { between = between_none at (at + 8) (omega arith); few = omega arith }
    by false = record { between = between_one at (at + 8) (at + 6) (omega arith) (omega arith); few = omega arith }

caught_all : (at : ℕ) (hs : List LaidHandler) → AreCaught at (8 * length hs) (catch_places at hs)
caught_all at [] = record { between = between_none at (at + 0) (omega arith); few = omega arith }
caught_all at (h ∷ hs) =
    let same : 8 + 8 * length hs ≡ 8 * length (h ∷ hs) = omega arith in
    subst (λ n. AreCaught at n (catch_places at (h ∷ hs))) same
    (caught_both at 8 (8 * length hs) (catch_place at h.pool) (catch_places (at + 8) hs) (caught_one at h.pool) (caught_all (at + 8) hs))

caught_blocks : (at : ℕ) (bs : List WrittenMember) → AreCaught at (8 * total_handlers bs) (block_catches at bs)
caught_blocks at [] = record { between = between_none at (at + 0) (omega arith); few = omega arith }
caught_blocks at (b ∷ bs) =
    let n = length (handlers_of b.body) in
    let same : 8 * n + 8 * total_handlers bs ≡ 8 * total_handlers (b ∷ bs) = omega arith in
    subst (λ n. AreCaught at n (block_catches at (b ∷ bs))) same
    (caught_both at (8 * n) (8 * total_handlers bs) (catch_places at (handlers_of b.body)) (block_catches (at + 8 * n) bs)
    (caught_all at (handlers_of b.body)) (caught_blocks (at + 8 * n) bs))

-- ---- all

-- the two lists together
abbrev pub located : ℕ → ℕ → List WrittenMember → ℕ
located size room ms = length (locations_of size room ms).byte + length (locations_of size room ms).byte2

few_located : (size room : ℕ) (ms : List WrittenMember) → written_size size room ms ≤ 65535 → located size room ms ≤ 33300
unfolding written_size
few_located size room ms short =
    let start = start_of room ms in
    let table = by_offset size ms in
    let bs = blocks room ms in
    let grows = end_grows start table in
    let long = methods_end_from start table - start in
    let t = table_few start table long (omega arith) in
    let c = caught_blocks 1 bs in
    let a = method_indices 1 start table in
    let b = method_indices 2 start table in
    let k = block_catches 1 bs in
    let x = t.one_between 0 (omega arith) in
    let y = between_both 1 start (start + long) k b (between_wider 1 (1 + 8 * total_handlers bs) 1 start k (omega arith) (omega arith) c.between)
    t.two_between 0 (omega arith) in
    let f = x.few in
    let g = y.few in
    let m = x.most in
    let n = y.most in
    let u = t.few in
    let v = c.few in
    let w = length-append k b in
    omega arith

pub references_short : (size room : ℕ) (ms : List WrittenMember) → written_size size room ms ≤ 65535
    → length (written_references size room ms) ≤ 65535
unfolding written_references references_info component_bytes
references_short size room ms short = grind (arith, few_located, length-append)

pub references_stand : (size room : ℕ) (ms : List WrittenMember) → written_size size room ms ≤ 65535
    → Stands locations_info (written_references size room ms) (locations_of size room ms)
unfolding written_references references_info
references_stand size room ms short = grind (arith, few_located, components_stand)
