-- A pool entry with another offset.
use Rattle.std.proofs.Common.{◌≡◌, ℕ, ◌+◌, ◌≤◌, ◌<◌, List, [], ◌∷◌, length, map, take, drop, Option, Some, None, slice_index, refl}
use Rattle.std.proofs.Common.{sym, ap, ◌∙◌, arith}
use Rattle.std.proofs.lemmas.List.{get_or-take, get_or-drop, drop_more}
use Rattle.byteorder.specs.Endian.{big_bytes}
use Rattle.cap_bytes.specs.Grammar.{number, that, u2, repeat}
use Rattle.cap_bytes.specs.Spelling.{Spells, Stands}
use Rattle.cap_bytes.proofs.Wide.{read_within}
use Rattle.cap_pool.specs.PoolFormat.{Entry, is_pool_tag, entry_info, pool_info}
use Rattle.cap_pool.specs.declared.pool_record.PoolReference.{PoolReference}
use Rattle.cap_pool.specs.declared.pool_record.PoolReference.TheVariants.{StaticMethod}
use Rattle.cap_pool.specs.declared.pool_record.StaticReference.TheVariants.{Internal}
use Rattle.cap_pool.specs.PoolReference.{referred}
use Rattle.cap_pool.proofs.OwnMethods.{own-told}
use Rattle.cap_bytes.specs.Edit.{patched_all, AreInside, FitBytes}
use Rattle.cap_bytes.specs.Renewal.{Renews, IsEdited, AreSame}
use Rattle.cap_bytes.proofs.Same.{spelled_same, same_part}
use Rattle.cap_bytes.proofs.Patches.{edited_split, inside_from}
use Rattle.cap_bytes.specs.Bytes.{AreBytes}
use Rattle.cap_renewal.specs.NewMethods.{KeepsSmall}
use Rattle.cap_renewal.specs.PoolEdits.{own_offset, entry_by, renewed_entry, edits_by, entry_edits, entry_width, pool_edits}
use Rattle.cap_renewal.proofs.Items.{IsItem, IsFit, all_inside, all_fit, all_renewed, IsRenewing, has_more}

record HasEntry (bytes : List ℕ) (at : ℕ) (e : Entry) (after : ℕ) : Type 0 where
  tag : Spells (number 1 (that is_pool_tag)) bytes at e.tag (at + 1)
  fits : at + 4 ≤ length bytes
  three : e.bytes ≡ take 3 (drop (at + 1) bytes)
  end : after ≡ at + 4

has_entry : (bytes : List ℕ) (at : ℕ) (e : Entry) (after : ℕ) → Spells entry_info bytes at e after → HasEntry bytes at e after
unfolding Spells
has_entry bytes at e after h = grind (arith)

by_inside : (to : ℕ → ℕ) (at : ℕ) (o : Option ℕ) → AreInside (edits_by to at o) at (at + 4)
by_inside to at z = grind (arith)

three_bytes : (k : ℕ) (xs : List ℕ) → k < length xs → take 3 (drop k xs) ≡ slice_index xs k ∷ take 2 (drop (k + 1) xs)
three_bytes k xs h = ap (take 3) (drop_more xs k 0 h)

first_byte : (bytes : List ℕ) (at : ℕ) (e : Entry) (after : ℕ) → HasEntry bytes at e after → (k : ℕ) → k < 3
    → slice_index e.bytes k ≡ slice_index bytes (at + 1 + k)
first_byte bytes at e after p k h = ap (λ xs. slice_index xs k) p.three ∙ get_or-take 3 (drop (at + 1) bytes) k 0 h ∙ get_or-drop (at + 1) bytes k 0

by_renewed : (to : ℕ → ℕ) (bytes out : List ℕ) (at : ℕ) (e : Entry) (after : ℕ) (o : Option ℕ) → length out ≡ length bytes
    → Spells entry_info bytes at e after → IsEdited (edits_by to at o) at after bytes out → Spells entry_info out at (entry_by to e o) after
unfolding Spells
by_renewed to bytes out at e after None len h ed = spelled_same entry_info bytes out at e after len ed h
by_renewed to bytes out at e after (Some o) len h ed =
    let p = has_entry bytes at e after h in
    let end = p.end in
    let fits = p.fits in
    let one : AreSame at (at + 1) bytes out = same_part at (at + 2) at (at + 1) bytes out ed.0 (omega arith) (omega arith) in
    let z : at + 1 + 0 ≡ at + 1 = omega arith in
    let two : at + 1 + 1 ≡ at + 2 = omega arith in
    let old : slice_index e.bytes 0 ≡ slice_index bytes (at + 1) = first_byte bytes at e after p 0 (omega arith) ∙ ap (slice_index bytes) z in
    let kept : slice_index out (at + 1) ≡ slice_index bytes (at + 1) = ed.0.each (at + 1) (omega arith) (omega arith) in
    let there : take 2 (drop (at + 1 + 1) out) ≡ big_bytes 2 (to o) = ap (λ k. take 2 (drop k out)) two ∙ ed.1.bytes in
    let three : take 3 (drop (at + 1) out) ≡ slice_index e.bytes 0 ∷ big_bytes 2 (to o) =
    three_bytes (at + 1) out (omega arith) ∙ ap (λ b. b ∷ take 2 (drop (at + 1 + 1) out)) (kept ∙ sym old)
    ∙ ap (λ bs. slice_index e.bytes 0 ∷ bs) there in (
      e.tag,
      at + 1,
      spelled_same (number 1 (that is_pool_tag)) bytes out at e.tag (at + 1) len one p.tag,
      (slice_index e.bytes 0 ∷ big_bytes 2 (to o), at + 4, (omega arith, sym three, omega arith), (refl, end)),
    )

by_fit : (to : ℕ → ℕ) (at : ℕ) (e : Entry) (x : PoolReference) → referred e ≡ x → slice_index e.bytes 1 < 256 → slice_index e.bytes 2 < 256
    → KeepsSmall to → FitBytes (edits_by to at (own_offset x))
by_fit to at e (StaticMethod (Internal o)) is b c keeps = let told = (own-told e o [] is).told in (keeps.each o (omega (arith, told, b, c)), tt)
by_fit to at e other is b c keeps = tt

pub entry_item : (to : ℕ → ℕ) (bytes : List ℕ) → IsItem entry_info (entry_edits to) entry_width (renewed_entry to) bytes
entry_item to bytes = grind (arith, has_entry, by_inside, by_renewed)

entry_fit : (to : ℕ → ℕ) (bytes : List ℕ) → AreBytes bytes → KeepsSmall to → IsFit entry_info (entry_edits to) bytes
entry_fit to bytes are keeps = record {
  fit = λ at e after h.
      let p = has_entry bytes at e after h in
      let b = first_byte bytes at e after p 1 (omega arith) in
      let c = first_byte bytes at e after p 2 (omega arith) in
      let x = are (at + 1 + 1) in
      let y = are (at + 1 + 2) in
      by_fit to at e (referred e) refl (omega (arith, b, x)) (omega (arith, c, y)) keeps;
}

pub record HasPool (bytes : List ℕ) (es : List Entry) : Type 0 where
  pub count : ℕ
  pub head : Spells u2 bytes 0 count 2
  pub items : Spells (repeat count entry_info) bytes 2 es (length bytes)
  pub some : 2 ≤ length bytes

pub has_pool : (bytes : List ℕ) (es : List Entry) → Stands pool_info bytes es → HasPool bytes es
unfolding Stands Spells
has_pool bytes es s = grind (arith, read_within)

pool_made : (bytes : List ℕ) (es : List Entry) → HasPool bytes es → Stands pool_info bytes es
unfolding Stands Spells
pool_made bytes es h =
    (length bytes, (h.count, 2, h.head, (es, length bytes, h.items, (tt {0}, length bytes, (omega arith, refl), (refl, refl)))))

pub pool_inside : (to : ℕ → ℕ) (bytes : List ℕ) (es : List Entry) → Stands pool_info bytes es → AreInside (pool_edits to es) 0 (length bytes)
pool_inside to bytes es s =
    let h = has_pool bytes es s in
    inside_from (pool_edits to es) 0 2 (length bytes) (omega arith)
    (all_inside entry_info (entry_edits to) entry_width (renewed_entry to) bytes (entry_item to bytes) h.count 2 es (length bytes) h.items)

pub pool_fit : (to : ℕ → ℕ) (bytes : List ℕ) (es : List Entry) → AreBytes bytes → KeepsSmall to → Stands pool_info bytes es
    → FitBytes (pool_edits to es)
pool_fit to bytes es are keeps s = grind (arith, has_pool bytes es s, entry_item to bytes, entry_fit to bytes are keeps, all_fit)

pub pool_renewed : (to : ℕ → ℕ) (bytes out : List ℕ) (es : List Entry) → Stands pool_info bytes es → Renews (pool_edits to es) bytes out
    → Stands pool_info out (map (renewed_entry to) es)
pool_renewed to bytes out es s r =
    let h = has_pool bytes es s in
    let len = r.long in
    let is = entry_item to bytes in
    let inside = all_inside entry_info (entry_edits to) entry_width (renewed_entry to) bytes is h.count 2 es (length bytes) h.items in
    let both = edited_split [] (pool_edits to es) 0 2 (length bytes) bytes out (omega arith) inside r.inside in
    pool_made out (map (renewed_entry to) es) (record {
      count = h.count;
      head = spelled_same u2 bytes out 0 h.count 2 len both.0 h.head;
      items = rw len (all_renewed entry_info (entry_edits to) entry_width (renewed_entry to) bytes is out len h.count 2 es (length bytes) h.items both.1);
      some = omega (arith, h.some, len);
    })

-- where the loop over them begins
pub pool_begins : (to : ℕ → ℕ) (bytes : List ℕ) (es : List Entry) → Stands pool_info bytes es
    → IsRenewing entry_info (entry_edits to) entry_width bytes (patched_all (pool_edits to es) bytes) 2 es bytes
pool_begins to bytes es s = grind (arith, has_pool bytes es s, has_more)
