-- The info that is written stands for its handler table, and has each method at its place.
use Rattle.std.proofs.Common.{◌≡◌, ℕ, zero, suc, ◌+◌, ◌*◌, ◌%◌, ◌^◌, ◌≤◌, ◌<◌, List, [], ◌∷◌, ◌++◌, length, take}
use Rattle.std.proofs.Common.{drop, Option, Some, None, Bool, true, false, refl, subst, arith, append_assoc, length-append}
use Rattle.std.specs.Prelude.{nat_le, if◌then◌else◌, slice_index_or}
use Rattle.std.proofs.lemmas.List.{drop_at, take_at, append-nil}
use Rattle.byteorder.specs.Endian.{big_bytes}
use Rattle.cap_bytes.specs.Grammar.{u1, u2, any, give, repeat, rest, counted, ◌>>=◌}
use Rattle.cap_bytes.specs.Spelling.{Spells, Stands}
use Rattle.cap_method.specs.declared.read_methods.HandlerInfo.{HandlerInfo}
use Rattle.cap_method.specs.MethodFormat.{handler_info, methods_info}
use Rattle.cap_bytes.specs.Writing.{SpellsInPlace}
use Rattle.cap_bytes.proofs.Written.{writes_give, writes_number, writes_piece, writes_then, writes_stands}
use Rattle.cap_laying.specs.declared.member.WrittenMember.{WrittenMember}
use Rattle.cap_laying.specs.HandlerTable.{active, entry_bytes, table_bytes}
use Rattle.cap_laying.specs.Member.{body_bytes, body_size, bodies, bytes_if, size_if}
use Rattle.cap_laying.specs.MethodInfo.{method_info, methods_start, place_in_table, IsSmallEntry, AreSmallEntries, IsInfoWritten}
use Rattle.cap_laying.proofs.HeaderLaws.{writes_u1, length_body}

writes_u2 : (total n at : ℕ) → n < 65536 → SpellsInPlace total u2 at (big_bytes 2 n) n
writes_u2 total n at h = writes_number total 2 n at any h refl

entry_written : (total at : ℕ) (e : HandlerInfo) → IsSmallEntry e → SpellsInPlace total handler_info at (entry_bytes e) e
unfolding entry_bytes
entry_written total at e small =
    let a = active e in
    let facts = active_facts e small.length in
    let read : HandlerInfo = record { start = e.start; stop = nat_le (2 ^ 15) a; length = a % 2 ^ 15; entry = e.entry; index = e.index } in
    let p1 = at + length (big_bytes 2 e.start) in
    let p2 = p1 + length (big_bytes 2 a) in
    let p3 = p2 + length (big_bytes 2 e.entry) in
    let four : SpellsInPlace total
    (u2 >>= λ index. give (record { start = e.start; stop = nat_le (2 ^ 15) a; length = a % 2 ^ 15; entry = e.entry; index = index })) p3
    (big_bytes 2 e.index ++ []) read =
    writes_then total p3 u2 (λ index. give (record { start = e.start; stop = nat_le (2 ^ 15) a; length = a % 2 ^ 15; entry = e.entry; index = index }))
    (big_bytes 2 e.index) [] e.index read (writes_u2 total e.index p3 small.index) (writes_give total (p3 + length (big_bytes 2 e.index)) read) in
    let four' : SpellsInPlace total
    (u2 >>= λ index. give (record { start = e.start; stop = nat_le (2 ^ 15) a; length = a % 2 ^ 15; entry = e.entry; index = index })) p3
    (big_bytes 2 e.index) read = subst
    (λ xs. SpellsInPlace total
    (u2 >>= λ index. give (record { start = e.start; stop = nat_le (2 ^ 15) a; length = a % 2 ^ 15; entry = e.entry; index = index })) p3 xs read)
    (append-nil (big_bytes 2 e.index)) four in
    let three : SpellsInPlace total
    (u2 >>= λ entry. u2 >>= λ index. give (record { start = e.start; stop = nat_le (2 ^ 15) a; length = a % 2 ^ 15; entry = entry; index = index }))
    p2 (big_bytes 2 e.entry ++ big_bytes 2 e.index) read =
    writes_then total p2 u2
    (λ entry. u2 >>= λ index. give (record { start = e.start; stop = nat_le (2 ^ 15) a; length = a % 2 ^ 15; entry = entry; index = index }))
    (big_bytes 2 e.entry) (big_bytes 2 e.index) e.entry read (writes_u2 total e.entry p2 small.entry) four' in
    let two : SpellsInPlace total
    (u2 >>= λ active. u2 >>= λ entry. u2 >>= λ index. give
    (record { start = e.start; stop = nat_le (2 ^ 15) active; length = active % 2 ^ 15; entry = entry; index = index })) p1
    (big_bytes 2 a ++ (big_bytes 2 e.entry ++ big_bytes 2 e.index)) read =
    writes_then total p1 u2
    (λ active. u2 >>= λ entry. u2 >>= λ index. give
    (record { start = e.start; stop = nat_le (2 ^ 15) active; length = active % 2 ^ 15; entry = entry; index = index })) (big_bytes 2 a)
    (big_bytes 2 e.entry ++ big_bytes 2 e.index) a read (writes_u2 total a p1 facts.0) three in
    let one : SpellsInPlace total handler_info at (big_bytes 2 e.start ++ (big_bytes 2 a ++ (big_bytes 2 e.entry ++ big_bytes 2 e.index))) read =
    writes_then total at u2
    (λ start. u2 >>= λ active. u2 >>= λ entry. u2 >>= λ index. give
    (record { start = start; stop = nat_le (2 ^ 15) active; length = active % 2 ^ 15; entry = entry; index = index })) (big_bytes 2 e.start)
    (big_bytes 2 a ++ (big_bytes 2 e.entry ++ big_bytes 2 e.index)) e.start read (writes_u2 total e.start at small.start) two in
    let same : read ≡ e = rw (facts.1, facts.2) refl in
    subst (λ x. SpellsInPlace total handler_info at (big_bytes 2 e.start ++ (big_bytes 2 a ++ (big_bytes 2 e.entry ++ big_bytes 2 e.index))) x) same one
  where
    active_facts : (e : HandlerInfo) → e.length < 32768 → (active e < 65536) × (nat_le (2 ^ 15) (active e) ≡ e.stop) × (active e % 2 ^ 15 ≡ e.length)
    active_facts e h = by e.stop
      where
        by : (b : Bool) → ((if b then 32768 + e.length else e.length) < 65536) × (nat_le (2 ^ 15) (if b then 32768 + e.length else e.length) ≡ b)
            × ((if b then 32768 + e.length else e.length) % 2 ^ 15 ≡ e.length)
        by true = (omega arith, grind arith, omega arith)
        by false = (omega arith, grind arith, omega arith)

table_written : (total at : ℕ) (es : List HandlerInfo) → AreSmallEntries es → SpellsInPlace total (repeat (length es) handler_info) at (table_bytes es) es
table_written total at [] small = writes_give total at []
table_written total at (e ∷ es) small =
    let next = at + length (entry_bytes e) in
    let more : SpellsInPlace total (repeat (length es) handler_info >>= λ xs. give (e ∷ xs)) next (table_bytes es ++ []) (e ∷ es) =
    writes_then total next (repeat (length es) handler_info) (λ xs. give (e ∷ xs)) (table_bytes es) [] es (e ∷ es)
    (table_written total next es small.1) (writes_give total (next + length (table_bytes es)) (e ∷ es)) in
    let more' : SpellsInPlace total (repeat (length es) handler_info >>= λ xs. give (e ∷ xs)) next (table_bytes es) (e ∷ es) = subst
    (λ xs. SpellsInPlace total (repeat (length es) handler_info >>= λ xs. give (e ∷ xs)) next xs (e ∷ es)) (append-nil (table_bytes es)) more in
    writes_then total at handler_info (λ x. repeat (length es) handler_info >>= λ xs. give (x ∷ xs)) (entry_bytes e) (table_bytes es) e (e ∷ es)
    (entry_written total at e small.0) more'

length_entry : (e : HandlerInfo) → length (entry_bytes e) ≡ 8
unfolding entry_bytes
length_entry e = grind (arith, length-append)

pub length_table : (es : List HandlerInfo) → length (table_bytes es) ≡ 8 * length es
length_table [] = refl
length_table (e ∷ es) = grind (arith, length-append, length_entry, length_table es)

writes_rest : (total at : ℕ) (bytes : List ℕ) → total ≡ at + length bytes → SpellsInPlace total rest at bytes bytes
unfolding Spells
writes_rest total at bytes e = record {
  there = λ before after l t.
      let whole = length-append before (bytes ++ after) in
      let part = length-append bytes after in
      let none : after ≡ [] = nil after (omega arith) in
      (length bytes, at, (omega arith, refl), (writes_piece total (length bytes) at bytes refl).there before after l t);
}
  where
    nil : (xs : List ℕ) → length xs ≡ 0 → xs ≡ []
    nil [] h = refl
    nil (x ∷ xs) h = absurd (omega arith)

info_stands : (es : List HandlerInfo) (tail : List ℕ) → length es ≤ 255 → AreSmallEntries es
    → Stands methods_info (length es ∷ (table_bytes es ++ tail)) es
info_stands es tail few small =
    let n = length es in
    let info = n ∷ (table_bytes es ++ tail) in
    let total = length info in
    let at = 1 + length (table_bytes es) in
    let long : total ≡ at + length tail = omega (arith, length-append (table_bytes es) tail) in
    let list : SpellsInPlace total (counted handler_info) 0 (n ∷ table_bytes es) es = writes_then total 0 u1 (λ k. repeat k handler_info) (n ∷ [])
    (table_bytes es) n es (writes_u1 total n 0 (omega arith)) (table_written total 1 es small) in
    let after : SpellsInPlace total (rest >>= λ methods. give es) (0 + length (n ∷ table_bytes es)) (tail ++ []) es =
    writes_then total (0 + length (n ∷ table_bytes es)) rest (λ methods. give es) tail [] tail es
    (writes_rest total (0 + length (n ∷ table_bytes es)) tail (omega arith))
    (writes_give total (0 + length (n ∷ table_bytes es) + length tail) es) in
    let after' : SpellsInPlace total (rest >>= λ methods. give es) (0 + length (n ∷ table_bytes es)) tail es = subst
    (λ xs. SpellsInPlace total (rest >>= λ methods. give es) (0 + length (n ∷ table_bytes es)) xs es) (append-nil tail) after in
    let whole : SpellsInPlace total methods_info 0 ((n ∷ table_bytes es) ++ tail) es = writes_then total 0 (counted handler_info)
    (λ handlers. rest >>= λ methods. give handlers) (n ∷ table_bytes es) tail es es list after' in
    writes_stands methods_info info es whole

-- ---- each method at its place

pub bodies_there : (table : List (Option WrittenMember)) (lead : List ℕ) (at n : ℕ) (m : WrittenMember) → length lead ≡ at
    → slice_index_or table n None ≡ Some m → take (body_size m.body) (drop (place_in_table at table n) (lead ++ bodies table)) ≡ body_bytes m.body
bodies_there [] lead at n m l e = absurd (cc)
bodies_there (None ∷ ms) lead at zero m l e = absurd (cc)
bodies_there (Some k ∷ ms) lead at zero m l e = grind (arith, drop, drop_at, length_body, take, take_at)
bodies_there (s ∷ ms) lead at (suc n) m l e =
    let long = length_slot s in
    let front = length-append lead (bytes_if s) in
    let r = bodies_there ms (lead ++ bytes_if s) (at + size_if s) n m (omega arith) e in
    subst (λ xs. take (body_size m.body) (drop (place_in_table (at + size_if s) ms n) xs) ≡ body_bytes m.body) (append_assoc lead (bytes_if s) (bodies ms)) r
  where
    length_slot : (s : Option WrittenMember) → length (bytes_if s) ≡ size_if s
    length_slot None = refl
    length_slot (Some m) = length_body m.body

pub info_written : (entries : List HandlerInfo) (table : List (Option WrittenMember)) → length entries ≤ 255 → AreSmallEntries entries
    → IsInfoWritten entries table (method_info entries table)
info_written entries table few small = record {
  stands = info_stands entries (bodies table) few small;
  bodies = λ n m e. bodies_there table (length entries ∷ table_bytes entries) (methods_start entries) n m (omega (arith, length_table entries)) e;
}
