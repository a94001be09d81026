-- The contents as components, with one byte more.
use Rattle.std.proofs.Common.{◌≡◌, ℕ, zero, suc, ◌+◌, ◌*◌, ◌-◌, ◌<◌, List, [], ◌∷◌, ◌++◌, length, map, Option, None, refl}
use Rattle.std.proofs.Common.{sym, ap, subst, ◌∙◌, arith, length-append, append_assoc}
use Rattle.std.proofs.lemmas.List.{append-nil, map-append}
use Rattle.std.proofs.lemmas.List.Concat.{flat_map-append}
use Rattle.std.specs.List.{AllByRecursion}
use Rattle.cap_components.specs.Parts.{Lent, bytes_of}
use Rattle.cap_load.specs.declared.component.Next.{Next}
use Rattle.cap_load.specs.declared.component.Next.TheVariants.{Tag, High, Low, Info}
use Rattle.cap_load.specs.declared.component.Reading.{Reading}
use Rattle.cap_load.specs.Order.{InOrder}
use Rattle.cap_load.specs.LoadFile.{IsFile, tag_of, files_of}
use Rattle.cap_load.specs.Reading.{shown, shown_by, info_left, read_by, read_byte}
use Rattle.cap_load.specs.Loaded.{begun, IsLast, IsRead}
use Rattle.cap_load.proofs.Orders.{all_push, tag_more}

pub files_push : (files : List Lent) (part : Lent) → files_of (files ++ part ∷ []) ≡ files_of files ++ part.bytes
files_push files part = flat_map-append bytes_of files (part ∷ []) ∙ ap (λ (x : List ℕ). files_of files ++ x) (append-nil part.bytes)

pub tags_push : (files : List Lent) (part : Lent) → map tag_of (files ++ part ∷ []) ≡ map tag_of files ++ part.part ∷ []
tags_push files part = map-append tag_of files (part ∷ [])

-- whole components, and one that has its tag and its size
record IsInside (contents : List ℕ) (last : Option ℕ) (left : ℕ) : Type 0 where
  files : List Lent
  tag : ℕ
  high : ℕ
  low : ℕ
  info : List ℕ
  each : AllByRecursion IsFile files
  whole : contents ≡ files_of files ++ tag ∷ high ∷ low ∷ info
  size : length info + left ≡ 256 * high + low
  fit : (tag < 256) × (high < 256) × (low < 256)
  order : InOrder (map tag_of files ++ tag ∷ [])
  is_last : IsLast last (map tag_of files ++ tag ∷ [])

read_left : (contents : List ℕ) (last : Option ℕ) (left : ℕ) → IsInside contents last left
    → IsRead contents (record { last = last; next = info_left left })
read_left contents last zero i =
    let part : Lent = record { part = i.tag; bytes = i.tag ∷ i.high ∷ i.low ∷ i.info } in
    let size = i.size in
    let file : IsFile part = record { high = i.high; low = i.low; info = i.info; bytes = refl; fit = i.fit; size = omega arith } in
    let tags : map tag_of (i.files ++ part ∷ []) ++ [] ≡ map tag_of i.files ++ i.tag ∷ [] = append-nil (map tag_of (i.files ++ part ∷ []))
    ∙ tags_push i.files part in
    record {
      files = i.files ++ part ∷ [];
      tail = [];
      each = all_push IsFile i.files part i.each file;
      whole = i.whole ∙ sym (files_push i.files part) ∙ sym (append-nil (files_of (i.files ++ part ∷ [])));
      order = subst InOrder (sym tags) i.order;
      next = refl;
      last = subst (IsLast last) (sym tags) i.is_last;
    }
read_left contents last (suc n) i = grind (arith)

more : (contents : List ℕ) (files : List Lent) (tail : List ℕ) (byte : ℕ) → contents ≡ files_of files ++ tail
    → contents ++ byte ∷ [] ≡ files_of files ++ (tail ++ byte ∷ [])
more contents files tail byte e = ap (λ (x : List ℕ). x ++ byte ∷ []) e ∙ append_assoc (files_of files) tail (byte ∷ [])

read_by_more : (next : Next) (last : Option ℕ) (contents : List ℕ) (byte : ℕ) → IsRead contents (record { last = last; next = next })
    → shown_by next last byte ≡ None → byte < 256 → IsRead (contents ++ byte ∷ []) (read_by next last byte)
read_by_more Tag last contents byte r e fits = grind (arith, append-nil, tag_more)
read_by_more High last contents byte r e fits =
    let tag = r.next.0 in
    let tail : r.tail ≡ tag ∷ [] = r.next.1 in
    record {
      files = r.files;
      tail = tag ∷ byte ∷ [];
      each = r.each;
      whole = more contents r.files r.tail byte r.whole ∙ ap (λ (t : List ℕ). files_of r.files ++ (t ++ byte ∷ [])) tail;
      order = subst (λ (t : List ℕ). InOrder (map tag_of r.files ++ begun t)) tail r.order;
      next = (tag, refl, r.next.2, fits);
      last = subst (λ (t : List ℕ). IsLast last (map tag_of r.files ++ begun t)) tail r.last;
    }
read_by_more (Low high) last contents byte r e fits =
    let tag = r.next.0 in
    let tail : r.tail ≡ tag ∷ high ∷ [] = r.next.1 in
    read_left (contents ++ byte ∷ []) last (high * 256 + byte) (record {
      files = r.files;
      tag = tag;
      high = high;
      low = byte;
      info = [];
      each = r.each;
      whole = more contents r.files r.tail byte r.whole ∙ ap (λ (t : List ℕ). files_of r.files ++ (t ++ byte ∷ [])) tail;
      size = omega arith;
      fit = (r.next.2, r.next.3, fits);
      order = subst (λ (t : List ℕ). InOrder (map tag_of r.files ++ begun t)) tail r.order;
      is_last = subst (λ (t : List ℕ). IsLast last (map tag_of r.files ++ begun t)) tail r.last;
    })
read_by_more (Info left) last contents byte r e fits =
    let n = r.next in
    let tail : r.tail ≡ n.0 ∷ n.1 ∷ n.2 ∷ n.3 = n.4 in
    let some : 0 < left = n.5 in
    let size : length n.3 + left ≡ 256 * n.1 + n.2 = n.6 in
    read_left (contents ++ byte ∷ []) last (left - 1) (record {
      files = r.files;
      tag = n.0;
      high = n.1;
      low = n.2;
      info = n.3 ++ byte ∷ [];
      each = r.each;
      whole = more contents r.files r.tail byte r.whole ∙ ap (λ (t : List ℕ). files_of r.files ++ (t ++ byte ∷ [])) tail;
      size = omega (arith, length-append n.3 (byte ∷ []));
      fit = (n.7, n.8, n.9);
      order = subst (λ (t : List ℕ). InOrder (map tag_of r.files ++ begun t)) tail r.order;
      is_last = subst (λ (t : List ℕ). IsLast last (map tag_of r.files ++ begun t)) tail r.last;
    })

-- a byte that shows no fault keeps the contents components in order and a front of one
pub read_more : (contents : List ℕ) (reading : Reading) (byte : ℕ) → IsRead contents reading → shown reading byte ≡ None → byte < 256
    → IsRead (contents ++ byte ∷ []) (read_byte reading byte)
read_more contents reading byte r e fits = read_by_more reading.next reading.last contents byte r e fits
