-- A file that its frame reads is a component's, where it is of bytes.
use Rattle.std.proofs.Common.{◌≡◌, ℕ, suc, ◌+◌, ◌*◌, ◌-◌, ◌/◌, ◌%◌, ◌<◌, ◌≤◌, Bool, true, false, List, [], ◌∷◌}
use Rattle.std.proofs.Common.{◌++◌, length, get_or, Option, Some, None, IsSome, cond, refl, ap, subst, ◌∙◌, arith, length-append}
use Rattle.std.proofs.Common.{if◌then◌else◌}
use Rattle.std.proofs.lemmas.List.{get_or-append_right}
use Rattle.std.proofs.lemmas.Bool.{eqb-true}
use Rattle.std.specs.Prelude.{◌==◌}
use Rattle.std.specs.List.{AllByRecursion}
use Rattle.cap_bytes.specs.declared.fault.FormKind.TheVariants.{WrongTag}
use Rattle.cap_bytes.specs.Number.{number_at}
use Rattle.cap_bytes.specs.Spelling.{Spells, Stands}
use Rattle.cap_frame.specs.Frame.{component, other_tag}
use Rattle.cap_components.specs.Parts.{Lent, held}
use Rattle.cap_load.specs.Order.{place, InOrder}
use Rattle.cap_load.specs.LoadFile.{IsFile, files_of}
use Rattle.cap_load.specs.Packing.{IsFramed}
use Rattle.cap_load.proofs.Choosing.{chosen_by, chosen}

abbrev pub HasFrame : Lent → Type 0
HasFrame lent = (info : List ℕ) × Stands (component lent.part) lent.bytes info

-- the number that a file begins with, and its length
record Headed (tag : ℕ) (bytes : List ℕ) : Type 0 where
  head : ℕ
  there : number_at 3 0 bytes ≡ Some head
  tagged : other_tag tag head ≡ None
  long : length bytes ≡ 3 + head % 65536

headed : (tag : ℕ) (bytes info : List ℕ) → Stands (component tag) bytes info → Headed tag bytes
unfolding Stands Spells
headed tag bytes info s = grind (arith)

same_tag : (tag head : ℕ) → other_tag tag head ≡ None → head / 65536 ≡ tag
same_tag tag head e = by (head / 65536 == tag) refl
  where
    by : (b : Bool) → (head / 65536 == tag) ≡ b → head / 65536 ≡ tag
    by true h = eqb-true (head / 65536) tag h
    by false h = absurd (let found : (if (head / 65536 == tag) then None else Some WrongTag) ≡ None = e in cc (found, h))

-- the first three bytes
record Cells (tag : ℕ) (bytes : List ℕ) : Type 0 where
  first : ℕ
  high : ℕ
  low : ℕ
  info : List ℕ
  whole : bytes ≡ first ∷ high ∷ low ∷ info
  tagged : (first * 65536 + high * 256 + low) / 65536 ≡ tag
  size : length info ≡ (first * 65536 + high * 256 + low) % 65536

cells_of : (tag : ℕ) (bytes : List ℕ) → Headed tag bytes → Cells tag bytes
cells_of tag [] h = absurd (let long = h.long in omega arith)
cells_of tag (a ∷ []) h = absurd (let long = h.long in omega arith)
cells_of tag (a ∷ b ∷ []) h = absurd (let long = h.long in omega arith)
cells_of tag (a ∷ b ∷ c ∷ info) h = grind (arith, length, same_tag)

cells : (lent : Lent) → HasFrame lent → Cells lent.part lent.bytes
cells lent f = cells_of lent.part lent.bytes (headed lent.part lent.bytes f.0 f.1)

pub file_long : (lent : Lent) → HasFrame lent → length lent.bytes ≤ 65538
file_long lent f = let h = headed lent.part lent.bytes f.0 f.1 in let long = h.long in omega arith

file_is : (lent : Lent) (rest : List ℕ) → HasFrame lent → ((i : ℕ) → get_or (lent.bytes ++ rest) i 0 < 256) → IsFile lent
file_is lent rest f fits =
    let c = cells lent f in
    let whole : lent.bytes ++ rest ≡ c.first ∷ c.high ∷ c.low ∷ (c.info ++ rest) = ap (λ (b : List ℕ). b ++ rest) c.whole in
    let first : get_or (lent.bytes ++ rest) 0 0 ≡ c.first = ap (λ (x : List ℕ). get_or x 0 0) whole in
    let high : get_or (lent.bytes ++ rest) 1 0 ≡ c.high = ap (λ (x : List ℕ). get_or x 1 0) whole in
    let low : get_or (lent.bytes ++ rest) 2 0 ≡ c.low = ap (λ (x : List ℕ). get_or x 2 0) whole in
    let high_fits : c.high < 256 = omega (arith, fits 1) in
    let low_fits : c.low < 256 = omega (arith, fits 2) in
    let tagged = c.tagged in
    let size = c.size in
    let tag : c.first ≡ lent.part = omega arith in
    record {
      high = c.high;
      low = c.low;
      info = c.info;
      bytes = c.whole ∙ ap (λ (t : ℕ). t ∷ c.high ∷ c.low ∷ c.info) tag;
      fit = (omega (arith, fits 0), high_fits, low_fits);
      size = omega arith;
    }

pub files_are : (parts : List Lent) → AllByRecursion HasFrame parts → ((i : ℕ) → get_or (files_of parts) i 0 < 256) → AllByRecursion IsFile parts
files_are [] a fits = tt {0}
files_are (p ∷ ps) a fits = (file_is p (files_of ps) a.0 fits, files_are ps a.1 (λ i. rest i (fits (length p.bytes + i))))
  where
    rest : (i : ℕ) → get_or (p.bytes ++ files_of ps) (length p.bytes + i) 0 < 256 → get_or (files_of ps) i 0 < 256
    rest i h =
        let back : length p.bytes + i - length p.bytes ≡ i = omega arith in
        let same = get_or-append_right p.bytes (files_of ps) (length p.bytes) (length p.bytes + i) 0 refl (omega arith)
        ∙ ap (λ (k : ℕ). get_or (files_of ps) k 0) back in
        subst (λ (n : ℕ). n < 256) same h

-- ---- the parts that were chosen

frame_by : (p : Lent) (ps : List Lent) (tag : ℕ) (bytes : List ℕ) (b : Bool) → (p.part == tag) ≡ b → IsFramed p → IsSome (place tag)
    → (held ps tag ≡ Some bytes → (info : List ℕ) × Stands (component tag) bytes info) → held (p ∷ ps) tag ≡ Some bytes
    → (info : List ℕ) × Stands (component tag) bytes info
frame_by p ps tag bytes v e f s rest h = grind (arith, eqb-true, cond)

held_frame : (parts : List Lent) (tag : ℕ) (bytes : List ℕ) → AllByRecursion IsFramed parts → IsSome (place tag) → held parts tag ≡ Some bytes
    → (info : List ℕ) × Stands (component tag) bytes info
held_frame [] tag bytes a s h = absurd (cc)
held_frame (p ∷ ps) tag bytes a s h = frame_by p ps tag bytes (p.part == tag) refl a.0 s (λ k. held_frame ps tag bytes a.1 s k) h

frames_by : (t : ℕ) (o : Option (List ℕ)) (others : List Lent)
    → ((bytes : List ℕ) → o ≡ Some bytes → (info : List ℕ) × Stands (component t) bytes info)
    → AllByRecursion HasFrame others → AllByRecursion HasFrame (chosen_by t o others)
frames_by t y others f a = grind (arith)

pub chosen_frames : (tags : List ℕ) (parts : List Lent) → InOrder tags → AllByRecursion IsFramed parts → AllByRecursion HasFrame (chosen tags parts)
chosen_frames [] parts o a = tt {0}
chosen_frames (t ∷ ts) parts o a =
    frames_by t (held parts t) (chosen ts parts) (λ bytes e. held_frame parts t bytes a o.0 e) (chosen_frames ts parts o.2 a)

few_by : (t n : ℕ) (o : Option (List ℕ)) (others : List Lent) → length others ≤ n → length (chosen_by t o others) ≤ suc n
few_by t n z others h = grind (arith)

pub chosen_few : (tags : List ℕ) (parts : List Lent) → length (chosen tags parts) ≤ length tags
chosen_few [] parts = omega arith
chosen_few (t ∷ ts) parts = few_by t (length ts) (held parts t) (chosen ts parts) (chosen_few ts parts)

pub files_long : (parts : List Lent) → AllByRecursion HasFrame parts → length (files_of parts) ≤ 65538 * length parts
files_long [] a = omega arith
files_long (p ∷ ps) a = grind (arith, file_long, length-append, files_long ps a.1)
