-- Contents are divided into the files of their parts.
use Rattle.std.proofs.Common.{◌≡◌, ℕ, ◌+◌, ◌*◌, ◌<◌, ◌≤◌, true, List, [], ◌∷◌, ◌++◌, length, take}
use Rattle.std.proofs.Common.{drop, map, Option, IsNone, get_or, cond, refl, sym, ap, subst, ◌∙◌, arith, length-append, append_assoc}
use Rattle.std.proofs.lemmas.List.{append-nil, take_at, drop_at}
use Rattle.std.proofs.lemmas.Bool.{ne_eqb, ltb-true}
use Rattle.std.specs.List.{AllByRecursion}
use Rattle.cap_components.specs.Parts.{Lent, held}
use Rattle.cap_load.specs.declared.component.Next.{Next}
use Rattle.cap_load.specs.declared.component.Next.TheVariants.{Tag, High, Low, Info}
use Rattle.cap_load.specs.declared.component.Reading.{Reading}
use Rattle.cap_load.specs.Order.{place, is_below, comes_before, InOrder}
use Rattle.cap_load.specs.LoadFile.{IsFile, tag_of, files_of, AreFiles}
use Rattle.cap_load.specs.Loaded.{begun, IsNext, IsRead}
use Rattle.cap_load.specs.Finishing.{AreWhole}
use Rattle.cap_load.proofs.Splits.{same_lent}
use Rattle.cap_load.proofs.Streams.{later}

-- the first of files, by the bytes that tell its size
pub record First (rest : List ℕ) (left : List Lent) : Type 0 where
  pub part : Lent
  pub others : List Lent
  pub is : left ≡ part ∷ others
  pub tag : get_or rest 0 0 ≡ part.part
  pub within : 3 + get_or rest 1 0 * 256 + get_or rest 2 0 ≤ length rest
  pub file : take (3 + get_or rest 1 0 * 256 + get_or rest 2 0) rest ≡ part.bytes
  pub behind : drop (3 + get_or rest 1 0 * 256 + get_or rest 2 0) rest ≡ files_of others

pub first_file : (left : List Lent) (rest : List ℕ) → rest ≡ files_of left → AllByRecursion IsFile left → 3 ≤ length rest → First rest left
first_file [] rest e each long = absurd (let none = ap length e in omega arith)
first_file (p ∷ ps) rest e each long = grind (arith, get_or, length-append, take_at, drop_at)

pub short_none : (left : List Lent) (rest : List ℕ) → rest ≡ files_of left → AllByRecursion IsFile left → length rest < 3 → left ≡ []
short_none [] rest e each short = refl
short_none (p ∷ ps) rest e each short = grind (arith)

below_itself : (o : Option ℕ) → is_below o o ≡ true → ⊥
below_itself x h = grind (arith, ltb-true)

pub before_itself : (a b : ℕ) → comes_before a b ≡ true → a ≡ b → ⊥
unfolding comes_before
before_itself a b h e = below_itself (place a) (subst (λ (n : ℕ). is_below (place a) (place n) ≡ true) (sym e) h)

-- parts in order have no tag twice
pub not_held : (before others : List Lent) (p : Lent) → InOrder (map tag_of (before ++ p ∷ others)) → IsNone (held before p.part)
not_held [] others p o = refl
not_held (b ∷ bs) others p o =
    grind (arith, ne_eqb b.part p.part (before_itself b.part p.part (later others bs p b.part o.1)), not_held bs others p o.2, cond)

-- contents at the end of a component are whole
pub read_whole : (contents : List ℕ) (reading : Reading) → IsRead contents reading → reading.next ≡ Tag → AreWhole contents
read_whole contents reading r e = (r.files, by reading.next r.next e)
  where
    by : (next : Next) → IsNext next r.tail → next ≡ Tag → AreFiles contents r.files
    by Tag n t =
        let no_tail : r.tail ≡ [] = n in
        let tags : map tag_of r.files ++ begun r.tail ≡ map tag_of r.files =
        ap (λ (t : List ℕ). map tag_of r.files ++ begun t) no_tail ∙ append-nil (map tag_of r.files) in
        record {
          whole = r.whole ∙ ap (λ (t : List ℕ). files_of r.files ++ t) no_tail ∙ append-nil (files_of r.files);
          each = r.each;
          order = subst InOrder tags r.order;
        }
    by High n t = absurd (cc)
    by (Low high) n t = absurd (cc)
    by (Info left) n t = absurd (cc)

-- ---- a list of parts that grows

each_behind : (ps qs : List Lent) → AllByRecursion IsFile (ps ++ qs) → AllByRecursion IsFile qs
each_behind [] qs a = a
each_behind (p ∷ ps) qs a = each_behind ps qs a.1

pub next_file : (contents rest : List ℕ) (done left : List Lent) → rest ≡ files_of left → AreFiles contents (done ++ left) → 3 ≤ length rest
    → First rest left
next_file contents rest done left e f long = first_file left rest e (each_behind done left f.each) long

pub next_absent : (contents rest : List ℕ) (done left : List Lent) → (e : rest ≡ files_of left) → (f : AreFiles contents (done ++ left))
    → 3 ≤ length rest
    → IsNone (held done (get_or rest 0 0))
next_absent contents rest done left e f long = grind (arith, next_file contents rest done left e f long, not_held)

same_part : (p : Lent) (tag : ℕ) (bytes : List ℕ) → tag ≡ p.part → bytes ≡ p.bytes
    → p ≡ (let part : Lent = record { part = tag; bytes = bytes } in part)
same_part p tag bytes e h = same_lent p.part tag p.bytes bytes (sym e) (sym h)

-- one part more, and what is left
pub next_parts : (contents rest back file : List ℕ) (done left new : List Lent) (tag : ℕ) → rest ≡ files_of left
    → AreFiles contents (done ++ left) → 3 ≤ length rest
    → tag ≡ get_or rest 0 0 → file ≡ take (3 + get_or rest 1 0 * 256 + get_or rest 2 0) rest
    → back ≡ drop (3 + get_or rest 1 0 * 256 + get_or rest 2 0) rest → new ≡ done ++ record { part = tag; bytes = file } ∷ []
    → (others : List Lent) × (back ≡ files_of others) × AreFiles contents (new ++ others)
next_parts contents rest back file done left new tag e f long t front behind push =
    grind (arith, next_file contents rest done left e f long, same_part, append_assoc)

pub last_parts : (contents rest : List ℕ) (done left : List Lent) → rest ≡ files_of left → AreFiles contents (done ++ left) → length rest < 3
    → AreFiles contents done
last_parts contents rest done left e f short = grind (arith, short_none, each_behind, append-nil)
