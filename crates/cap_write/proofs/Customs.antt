-- The custom components that the Directory names once methods are written anew.
use Rattle.std.proofs.Common.{◌≡◌, ◌≤◌, ◌<◌, ℕ, Bool, true, false, cond, List, [], ◌∷◌, ◌++◌, filter, find, Some, None, refl, sym}
use Rattle.std.proofs.Common.{ap, ◌∙◌, arith}
use Rattle.std.specs.Prelude.{◌==◌, ◌&&◌, not, nat_le, IsTrue}
use Rattle.std.proofs.lemmas.Bool.Decides.{nat_tests}
use Rattle.std.proofs.lemmas.Bool.{eqb-true, ne_eqb}
use Rattle.cap_frame.specs.Tags.{index_aid}
use Rattle.cap_frame.specs.DirectoryFormat.{Custom, is_new_tag, and_that_of}
use Rattle.cap_laying.specs.WrittenDirectory.{AreCustoms}
use Rattle.cap_laying.specs.NewDirectory.{drops, stays_in_index, index_entry, new_customs}
use Rattle.cap_laying.specs.declared.writing.IndexChange.{IndexChange}
use Rattle.cap_laying.specs.declared.writing.IndexChange.TheVariants.{Kept, Dropped, Written}

abbrev pub has_tag : ℕ → Custom → Bool
has_tag tag c = c.tag == tag

find_front : (tag : ℕ) (xs ys : List Custom) → find (has_tag tag) ys ≡ None → find (has_tag tag) (xs ++ ys) ≡ find (has_tag tag) xs
find_front tag [] ys e = e
find_front tag (x ∷ xs) ys e = ap (λ o. cond (x.tag == tag) (Some x) o) (find_front tag xs ys e)

find_back : (tag : ℕ) (xs ys : List Custom) → find (has_tag tag) xs ≡ None → find (has_tag tag) (xs ++ ys) ≡ find (has_tag tag) ys
find_back tag [] ys e = refl
find_back tag (x ∷ xs) ys e = by (x.tag == tag) e (λ k. find_back tag xs ys k)
  where
    by : (b : Bool) → cond b (Some x) (find (has_tag tag) xs) ≡ None
        → (find (has_tag tag) xs ≡ None → find (has_tag tag) (xs ++ ys) ≡ find (has_tag tag) ys) → cond b (Some x) (find (has_tag tag) (xs ++ ys))
        ≡ find (has_tag tag) ys
    by true e rest = absurd (cc)
    by false e rest = rest e

-- a component with another tag stays
find_other : (change : IndexChange) (tag : ℕ) (cs : List Custom) → (tag ≡ 128 → ⊥) → find (has_tag tag) (filter (stays_in_index change) cs)
    ≡ find (has_tag tag) cs
find_other change tag [] h = refl
find_other change tag (c ∷ cs) h = by (drops change) (c.tag == 128) (c.tag == tag) refl refl (find_other change tag cs h)
  where
    by : (d x y : Bool) → (c.tag == 128) ≡ x → (c.tag == tag) ≡ y → find (has_tag tag) (filter (stays_in_index change) cs) ≡ find (has_tag tag) cs
        → find (has_tag tag) (cond (not (d && x)) (c ∷ filter (stays_in_index change) cs) (filter (stays_in_index change) cs)) ≡ cond y (Some c)
        (find (has_tag tag) cs)
    by false x y e f r = ap (λ b. cond b (Some c) (find (has_tag tag) (filter (stays_in_index change) cs))) f ∙ ap (λ o. cond y (Some c) o) r
    by true false y e f r = ap (λ b. cond b (Some c) (find (has_tag tag) (filter (stays_in_index change) cs))) f ∙ ap (λ o. cond y (Some c) o) r
    by true true false e f r = r
    by true true true e f r = absurd (h (sym (eqb-true c.tag tag f) ∙ eqb-true c.tag 128 e))

pub found_other : (change : IndexChange) (tag : ℕ) (cs : List Custom) → (tag ≡ 128 → ⊥) → find (has_tag tag) (new_customs change cs)
    ≡ find (has_tag tag) cs
found_other change tag cs h = grind (arith, find_front, filter, find_other, cond, ne_eqb)

-- the one with the tag of a target index stays, or goes
filter_kept : (cs : List Custom) → filter (stays_in_index Kept) cs ≡ cs
filter_kept [] = refl
filter_kept (c ∷ cs) = ap (λ xs. c ∷ xs) (filter_kept cs)

pub found_kept : (tag : ℕ) (cs : List Custom) → find (has_tag tag) (new_customs Kept cs) ≡ find (has_tag tag) cs
found_kept tag cs = find_front tag (filter (stays_in_index Kept) cs) [] refl ∙ ap (find (has_tag tag)) (filter_kept cs)

find_gone : (change : IndexChange) (cs : List Custom) → drops change ≡ true → find (has_tag 128) (filter (stays_in_index change) cs) ≡ None
find_gone change [] d = refl
find_gone change (c ∷ cs) d = by (drops change) (c.tag == 128) d refl (find_gone change cs d)
  where
    by : (d x : Bool) → d ≡ true → (c.tag == 128) ≡ x → find (has_tag 128) (filter (stays_in_index change) cs) ≡ None
        → find (has_tag 128) (cond (not (d && x)) (c ∷ filter (stays_in_index change) cs) (filter (stays_in_index change) cs)) ≡ None
    by false x d e r = absurd (cc)
    by true true d e r = r
    by true false d e r = ap (λ b. cond b (Some c) (find (has_tag 128) (filter (stays_in_index change) cs))) e ∙ r

pub found_dropped : (cs : List Custom) → find (has_tag 128) (new_customs Dropped cs) ≡ None
found_dropped cs = find_front 128 (filter (stays_in_index Dropped) cs) [] refl ∙ find_gone Dropped cs refl

pub found_written : (size : ℕ) (cs : List Custom) → find (has_tag 128) (new_customs (Written size) cs)
    ≡ Some (record { tag = 128; size = size; aid = index_aid })
found_written size cs = find_back 128 (filter (stays_in_index (Written size)) cs) (index_entry (Written size)) (find_gone (Written size) cs refl)

-- ---- tags

pub record IsCustomTag (tag : ℕ) : Type 0 where
  pub least : 128 ≤ tag
  pub most : tag < 256

new_least : (named : ℕ → Bool) (tag : ℕ) → IsTrue (is_new_tag named tag) → 128 ≤ tag
new_least named tag e = by (nat_le 128 tag) refl e
  where
    by : (b : Bool) → nat_le 128 tag ≡ b → IsTrue (b && not (named tag)) → 128 ≤ tag
    by true e h = grind (arith, nat_tests)
    by false e h = absurd (cc)

pub tag_found : (named : ℕ → Bool) (cs : List Custom) (tag : ℕ) (c : Custom) → AreCustoms named cs → find (has_tag tag) cs ≡ Some c
    → IsCustomTag tag
tag_found named [] tag c a e = absurd (cc)
tag_found named (x ∷ xs) tag c a e = by (x.tag == tag) refl e (λ k. tag_found (and_that_of named x) xs tag c a.4 k)
  where
    by : (b : Bool) → (x.tag == tag) ≡ b → cond b (Some x) (find (has_tag tag) xs) ≡ Some c
        → (find (has_tag tag) xs ≡ Some c → IsCustomTag tag) → IsCustomTag tag
    by true f e rest =
        let same = eqb-true x.tag tag f in
        let least = new_least named x.tag a.0 in
        let most = a.1 in
        record { least = omega arith; most = omega arith }
    by false f e rest = rest e
