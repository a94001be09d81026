-- The custom components that stay.
use Rattle.std.proofs.Common.{◌≡◌, ◌≤◌, ◌<◌, ◌+◌, ◌*◌, ◌-◌, ℕ, zero, suc, List, [], ◌∷◌, ◌++◌, length, drop, Bool, true}
use Rattle.std.proofs.Common.{false, cond, slice_index, Some, refl, sym, ap, ◌∙◌, arith, append_assoc}
use Rattle.std.specs.Prelude.{filter, slice_get}
use Rattle.std.specs.Option.{unwrap_or}
use Rattle.std.proofs.lemmas.Bool.{le-leb}
use Rattle.cap_frame.specs.Directory.{size_in}
use Rattle.std.specs.List.{flat_map}
use Rattle.std.proofs.lemmas.List.{drop_more}
use Rattle.byteorder.specs.Endian.{big_bytes}
use Rattle.cap_frame.specs.DirectoryFormat.{Custom, DirectoryItems}
use Rattle.cap_laying.specs.declared.writing.IndexChange.{IndexChange}
use Rattle.cap_laying.specs.declared.writing.ComponentSizes.{ComponentSizes}
use Rattle.cap_laying.specs.DirectoryBytes.{AreShort, custom_bytes, customs_size, directory_bytes}
use Rattle.cap_laying.specs.NewDirectory.{head_of, index_entry, kept_bytes, kept_count, kept_size, new_directory, new_size, sizes_from, stays_in_index}

abbrev pub kept : IndexChange → List Custom → List Custom
kept change cs = filter (stays_in_index change) cs

count_more : (change : IndexChange) (c : Custom) (cs : List Custom) → length (kept change (c ∷ cs)) ≡ kept_count change c + length (kept change cs)
count_more change c cs = by (stays_in_index change c)
  where
    by : (b : Bool) → length (cond b (c ∷ kept change cs) (kept change cs)) ≡ cond b 1 0 + length (kept change cs)
    by true = omega arith
    by false = omega arith

size_kept : (change : IndexChange) (c : Custom) (cs : List Custom) → customs_size (kept change (c ∷ cs)) ≡ kept_size change c + customs_size
    (kept change cs)
size_kept change c cs = by (stays_in_index change c)
  where
    by : (b : Bool) → customs_size (cond b (c ∷ kept change cs) (kept change cs)) ≡ cond b (4 + length c.aid) 0 + customs_size (kept change cs)
    by true = refl
    by false = omega arith

bytes_more : (change : IndexChange) (c : Custom) (cs : List Custom) → flat_map custom_bytes (kept change (c ∷ cs)) ≡ kept_bytes change c ++ flat_map
    custom_bytes (kept change cs)
bytes_more change c cs = by (stays_in_index change c)
  where
    by : (b : Bool) → flat_map custom_bytes (cond b (c ∷ kept change cs) (kept change cs)) ≡ cond b (custom_bytes c) [] ++ flat_map custom_bytes
        (kept change cs)
    by true = refl
    by false = refl

pub few_kept : (change : IndexChange) (cs : List Custom) → length (kept change cs) ≤ length cs
few_kept change [] = omega arith
few_kept change (c ∷ cs) =
    let r = few_kept change cs in
    let m = count_more change c cs in
    let o = one change c in
    omega arith
  where
    one : (change : IndexChange) (c : Custom) → kept_count change c ≤ 1
    one change c = by (stays_in_index change c)
      where
        by : (b : Bool) → cond b 1 0 ≤ 1
        by true = omega arith
        by false = omega arith

pub small_kept : (change : IndexChange) (cs : List Custom) → AreShort cs → customs_size (kept change cs) ≤ 20 * length cs
small_kept change [] short = omega arith
small_kept change (c ∷ cs) short =
    let r = small_kept change cs short.1 in
    let m = size_kept change c cs in
    let o = one change c short.0 in
    omega arith
  where
    one : (change : IndexChange) (c : Custom) → length c.aid ≤ 16 → kept_size change c ≤ 20
    one change c short = by (stays_in_index change c)
      where
        by : (b : Bool) → cond b (4 + length c.aid) 0 ≤ 20
        by true = omega arith
        by false = omega arith

-- so far these were measured, and those that are left are not
pub record IsMeasured (change : IndexChange) (all : List Custom) (count size : ℕ) (left : List Custom) : Type 0 where
  pub short : AreShort left
  pub counted : count + length (kept change left) ≡ length (kept change all)
  pub sized : size + customs_size (kept change left) ≡ customs_size (kept change all)

pub measured_more : (change : IndexChange) (all : List Custom) (count size : ℕ) (left : List Custom) (c : Custom) (cs : List Custom) (next bytes : ℕ)
    → IsMeasured change all count size left → left ≡ c ∷ cs → next ≡ count + kept_count change c → bytes ≡ size + kept_size change c
    → IsMeasured change all next bytes cs
measured_more change all count size left c cs next bytes m e n b = grind (arith, length, count_more, size_kept)

-- what is known of the next of them
pub record IsNextCustom (change : IndexChange) (all : List Custom) (count size : ℕ) (c : Custom) : Type 0 where
  pub short : length c.aid ≤ 16
  pub counted : count + kept_count change c ≤ length all
  pub sized : size + kept_size change c ≤ 20 * length all

-- one more was put
pub put_more : (change : IndexChange) (c : Custom) (cs all : List Custom) (now new whole : List ℕ) → all ≡ c ∷ cs
    → new ≡ now ++ kept_bytes change c → now ++ flat_map custom_bytes (kept change all) ≡ whole → new ++ flat_map custom_bytes (kept change cs)
    ≡ whole
put_more change c cs all now new whole e n h = grind (arith, append_assoc, bytes_more)

-- one more size was put
pub size_more : (own : ℕ) (new : ComponentSizes) (tag : ℕ) (sizes : List ℕ) (k : ℕ) (now next whole : List ℕ) → k < length sizes
    → next ≡ now ++ big_bytes 2 (new_size own new tag (slice_index sizes k))
    → now ++ flat_map (big_bytes 2) (sizes_from own new tag (drop k sizes)) ≡ whole
    → next ++ flat_map (big_bytes 2) (sizes_from own new (tag + 1) (drop (k + 1) sizes)) ≡ whole
size_more own new tag sizes k now next whole lt n h = grind (arith, drop, slice_index, append_assoc, drop_more)

pub size_both : (xs ys : List Custom) → customs_size (xs ++ ys) ≡ customs_size xs + customs_size ys
size_both [] ys = omega arith
size_both (x ∷ xs) ys = let r = size_both xs ys in omega arith

bytes_both : (xs ys : List Custom) → flat_map custom_bytes (xs ++ ys) ≡ flat_map custom_bytes xs ++ flat_map custom_bytes ys
bytes_both [] ys = refl
bytes_both (x ∷ xs) ys = grind (arith, append_assoc, bytes_both xs ys)

count_both : (xs ys : List Custom) → length (xs ++ ys) ≡ length xs + length ys
count_both [] ys = omega arith
count_both (x ∷ xs) ys = let r = count_both xs ys in omega arith

-- the steps of writing the info
pub directory_steps : (new : ComponentSizes) (d : DirectoryItems) (own count : ℕ) (first second third fourth fifth : List ℕ)
    → own ≡ 2 * length d.sizes + 9 + (customs_size (kept new.index d.customs) + customs_size (index_entry new.index))
    → count ≡ length (kept new.index d.customs) + length (index_entry new.index)
    → second ≡ first ++ head_of own new d → third ≡ second ++ count ∷ [] → fourth ≡ third ++ flat_map custom_bytes (kept new.index d.customs)
    → fifth ≡ fourth ++ flat_map custom_bytes (index_entry new.index)
    → fifth ≡ first ++ directory_bytes (new_directory new d)
unfolding directory_bytes
directory_steps new d own count first second third fourth fifth o k a b c e =
    let xs = kept new.index d.customs in
    let ys = index_entry new.index in
    let size : own ≡ 2 * length d.sizes + 9 + customs_size (xs ++ ys) = omega (arith, size_both xs ys) in
    let number : count ≡ length (xs ++ ys) = omega (arith, count_both xs ys) in
    let tail : fifth ≡ ((first ++ head_of own new d) ++ count ∷ []) ++ flat_map custom_bytes xs ++ flat_map custom_bytes ys = rw (e, c, b, a) refl in
    let right : ((first ++ head_of own new d) ++ count ∷ []) ++ flat_map custom_bytes xs ++ flat_map custom_bytes ys
    ≡ first ++ (head_of own new d ++ (count ∷ (flat_map custom_bytes xs ++ flat_map custom_bytes ys))) = simp append_assoc in
    tail ∙ right ∙ ap (λ bs. first ++ (head_of own new d ++ (count ∷ bs))) (sym (bytes_both xs ys))
    ∙ ap (λ n. first ++ (head_of own new d ++ (n ∷ flat_map custom_bytes (xs ++ ys)))) number
    ∙ ap (λ n. first ++ (head_of n new d ++ (length (xs ++ ys) ∷ flat_map custom_bytes (xs ++ ys)))) size

-- ---- a size as it was

read_or : (xs : List ℕ) (k : ℕ) → unwrap_or (slice_get xs k) 0 ≡ slice_index xs k
read_or [] k = refl
read_or (x ∷ xs) zero = refl
read_or (x ∷ xs) (suc k) = read_or xs k

pub size_known : (d : DirectoryItems) (tag s : ℕ) → 1 ≤ tag → tag ≤ 12 → size_in d tag ≡ Some s → s ≡ slice_index d.sizes (tag - 1)
size_known d tag s low high e = grind (arith, le-leb, read_or)
