-- The info that is written stands for its two lists.
use Rattle.std.proofs.Common.{◌≡◌, ℕ, ◌+◌, ◌<◌, List, [], ◌++◌, length, refl, subst, arith, append_assoc, length-append}
use Rattle.std.proofs.lemmas.List.{append-nil}
use Rattle.byteorder.specs.Endian.{big_bytes}
use Rattle.cap_bytes.specs.Grammar.{Grammar, any, u2, piece, finish, give, ◌>>=◌}
use Rattle.cap_bytes.specs.Spelling.{Stands}
use Rattle.cap_pool.specs.LocationFormat.{LocationItems, locations_info}
use Rattle.cap_bytes.specs.Writing.{SpellsInPlace}
use Rattle.cap_bytes.proofs.Written.{writes_give, writes_number, writes_piece, writes_finish, writes_then, writes_stands}
use Rattle.cap_laying.specs.Component.{component_bytes}

pub ruleset steps = (append_assoc)

-- a list after the number of its bytes, in a grammar that goes on
list_written : {Y : Type 0} (total at : ℕ) (bytes rest : List ℕ) (next : List ℕ → Grammar Y) (y : Y) → length bytes < 65536
    → SpellsInPlace total (next bytes) (at + length (big_bytes 2 (length bytes)) + length bytes) rest y
    → SpellsInPlace total (u2 >>= λ n. piece n >>= next) at (big_bytes 2 (length bytes) ++ (bytes ++ rest)) y
list_written total at bytes rest next y small more =
    writes_then total at u2 (λ n. piece n >>= next) (big_bytes 2 (length bytes)) (bytes ++ rest) (length bytes) y
    (writes_number total 2 (length bytes) at any small refl)
    (writes_then total (at + length (big_bytes 2 (length bytes))) (piece (length bytes)) next bytes rest bytes y
    (writes_piece total (length bytes) (at + length (big_bytes 2 (length bytes))) bytes refl) more)

pub components_stand : (byte byte2 : List ℕ) → length byte < 65536 → length byte2 < 65536
    → Stands locations_info (component_bytes byte byte2) (record { byte = byte; byte2 = byte2 })
unfolding component_bytes
components_stand byte byte2 a b =
    let whole = big_bytes 2 (length byte) ++ (byte ++ (big_bytes 2 (length byte2) ++ byte2)) in
    let total = length whole in
    let items : LocationItems = record { byte = byte; byte2 = byte2 } in
    let mid = 0 + length (big_bytes 2 (length byte)) + length byte in
    let end = mid + length (big_bytes 2 (length byte2)) + length byte2 in
    let all : total ≡ end = simp length-append (omega arith) in
    let last : SpellsInPlace total (finish >>= λ end. give items) end ([] ++ []) items = writes_then total end finish (λ end. give items) [] [] (tt {0})
    items (writes_finish total end all) (writes_give total (end + 0) items) in
    let second : SpellsInPlace total (u2 >>= λ n. piece n >>= λ byte2. finish >>= λ end. give (record { byte = byte; byte2 = byte2 })) mid
    (big_bytes 2 (length byte2) ++ (byte2 ++ ([] ++ []))) items =
    list_written total mid byte2 ([] ++ []) (λ byte2. finish >>= λ end. give (record { byte = byte; byte2 = byte2 })) items b last in
    let first : SpellsInPlace total locations_info 0 (big_bytes 2 (length byte) ++ (byte ++ (big_bytes 2 (length byte2) ++ (byte2 ++ ([] ++ []))))) items =
    list_written total 0 byte (big_bytes 2 (length byte2) ++ (byte2 ++ ([] ++ [])))
    (λ byte. u2 >>= λ n. piece n >>= λ byte2. finish >>= λ end. give (record { byte = byte; byte2 = byte2 })) items a second in
    writes_stands locations_info whole items
    (subst (λ xs. SpellsInPlace total locations_info 0 (big_bytes 2 (length byte) ++ (byte ++ (big_bytes 2 (length byte2) ++ xs))) items)
    (append-nil byte2) first)
