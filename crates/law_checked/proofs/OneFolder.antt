-- A folder that tells what it holds has one list of parts, and one file of roles.
use Rattle.std.proofs.Common.{◌≡◌, ◌<◌, ◌==◌, ℕ, suc, Bool, true, false, cond, List, [], ◌∷◌, find, Option, Some, None, IsSome}
use Rattle.std.proofs.Common.{IfSome, IsNone, option_map, refl, sym, ap, subst, ◌∙◌, arith, ◌⊎◌, inl, inr}
use Rattle.std.specs.FinMap as map
use Rattle.std.specs.Prelude.{nat_lt}
use Rattle.std.proofs.lemmas.Bool.{eq-eqb, ltb-true}
use Rattle.std.proofs.lemmas.Bool.Decides.{nat_tests}
use Rattle.cap_files.specs.Folder.{Folders, Parts, IsThere, IsAbsent}
use Rattle.cap_package.specs.Parts.{Lent, held, is_of, bytes_of}
use Rattle.capcheck_core.specs.Loads.{is_asked, Has, Rise, AreParts}
use Rattle.capcheck_core.specs.Roles.{AreRolesIn, roles_key}
use Rattle.capcheck_core.proofs.Loads.{asked_by, below_none}

-- ---- what a folder has

-- of two answers of a folder that tells, each is what the map has
found_one : (m : Option Parts) (key xs ys : List ℕ) → IsSome m → IfSome m (λ parts. map.get parts key ≡ Some xs)
    → IfSome m (λ parts. map.get parts key ≡ Some ys) → xs ≡ ys
found_one x key xs ys told a b = grind (arith)

not_both : (m : Option Parts) (key xs : List ℕ) → IsSome m → IfSome m (λ parts. map.get parts key ≡ Some xs)
    → IfSome m (λ parts. map.get parts key ≡ None) → ⊥
not_both x key xs told a b = grind (arith)

module _ (before now : Folders) (same : now.held ≡ before.held) (told : IsSome before.held) where
  there_then : (key bytes : List ℕ) → IsThere now key bytes → IsThere before key bytes
  there_then key bytes h = subst (λ m. IfSome m (λ parts. map.get parts key ≡ Some bytes)) same h

  absent_then : (key : List ℕ) → IsAbsent now key → IsAbsent before key
  absent_then key h = subst (λ m. IfSome m (λ parts. map.get parts key ≡ None)) same h

  has_one : (dir : List ℕ) (tag : ℕ) (o p : Option (List ℕ)) → Has before dir tag o → Has now dir tag p → o ≡ p
  has_one dir tag x x2 a b = grind (arith, not_both, there_then, absent_then, found_one)

  pub roles_one : (dir : List ℕ) (xs ys : List ℕ) → AreRolesIn before dir xs → AreRolesIn now dir ys → xs ≡ ys
  roles_one dir xs ys a b = found_one before.held (roles_key dir) xs ys told a.there (there_then (roles_key dir) ys b.there)

  -- ---- the parts of a folder

  module _ (dir : List ℕ) (xs ys : List Lent) (first : AreParts before dir xs) (second : AreParts now dir ys) where
    none_is : (o : Option (List ℕ)) → IsNone o → o ≡ None
    none_is x h = grind (arith)

    held_by : (tag : ℕ) (b : Bool) → tag < 256 → is_asked xs tag ≡ b → is_asked ys tag ≡ b → held xs tag ≡ held ys tag
    held_by tag true lt a c = has_one dir tag (held xs tag) (held ys tag) (first.asked tag lt a) (second.asked tag lt c)
    held_by tag false lt a c = none_is (held xs tag) (first.unasked tag lt a) ∙ sym (none_is (held ys tag) (second.unasked tag lt c))

    header : held xs 1 ≡ held ys 1
    header = held_by 1 true (omega arith) refl refl

    directory : held xs 2 ≡ held ys 2
    directory = held_by 2 true (omega arith) refl refl

    held_one : (tag : ℕ) → tag < 256 → held xs tag ≡ held ys tag
    held_one tag lt = held_by tag (is_asked ys tag) lt (asked_by tag xs ys header directory) refl

-- ---- lists of parts whose tags rise

held_here : (x : Lent) (xs : List Lent) → held (x ∷ xs) x.part ≡ Some x.bytes
held_here x xs = ap (λ b. option_map bytes_of (cond b (Some x) (find (is_of x.part) xs))) (eq-eqb x.part x.part refl)

held_on : (x : Lent) (xs : List Lent) (tag : ℕ) → (x.part == tag) ≡ false → held (x ∷ xs) tag ≡ held xs tag
held_on x xs tag e = ap (λ b. option_map bytes_of (cond b (Some x) (find (is_of tag) xs))) e

compare : (a b : ℕ) → (a ≡ b) ⊎ ((a < b) ⊎ (b < a))
compare a b = by (nat_lt a b) refl (nat_lt b a) refl
  where
    by : (p : Bool) → nat_lt a b ≡ p → (q : Bool) → nat_lt b a ≡ q → (a ≡ b) ⊎ ((a < b) ⊎ (b < a))
    by true e q f = inr (inl (ltb-true a b e))
    by false e true f = inr (inr (ltb-true b a f))
    by false e false f = inl (grind (arith, nat_tests, e, f))

-- a tag that only one of two lists may have
only_one : (low top : ℕ) (x y : Lent) (xs ys : List Lent) → Rise low top (y ∷ ys) → x.part < y.part → held (x ∷ xs) x.part ≡ held (y ∷ ys) x.part → ⊥
only_one low top x y xs ys rise lt e = grind (arith, below_none, held_here)

pub rising_one : (low top : ℕ) (xs ys : List Lent) → Rise low top xs → Rise low top ys → ((tag : ℕ) → tag < top → held xs tag ≡ held ys tag) → xs ≡ ys
rising_one low top [] [] a b same = refl
rising_one low top [] (y ∷ ys) a b same = absurd (let e : None ≡ Some y.bytes = same y.part b.1 ∙ held_here y ys in cc)
rising_one low top (x ∷ xs) [] a b same = absurd (let e : Some x.bytes ≡ None = sym (held_here x xs) ∙ same x.part a.1 in cc)
rising_one low top (x ∷ xs) (y ∷ ys) a b same =
    by (compare x.part y.part)
    (λ e. rising_one (suc x.part) top xs ys a.2 (subst (λ p. Rise (suc p) top ys) (sym e) b.2) (tails e))
  where
    tails : x.part ≡ y.part → (tag : ℕ) → tag < top → held xs tag ≡ held ys tag
    tails e tag lt = at (compare x.part tag)
      where
        at : (x.part ≡ tag) ⊎ ((x.part < tag) ⊎ (tag < x.part)) → held xs tag ≡ held ys tag
        at (inl s) = below_none (suc x.part) top tag xs a.2 (omega (arith, s)) ∙ sym (below_none (suc y.part) top tag ys b.2 (omega (arith, s, e)))
        at (inr (inl s)) =
            sym (held_on x xs tag (grind (arith, s))) ∙ same tag lt ∙ held_on y ys tag (grind (arith, s, e))
        at (inr (inr s)) =
            sym (held_on x xs tag (grind (arith, s))) ∙ same tag lt ∙ held_on y ys tag (grind (arith, s, e))

    by : (x.part ≡ y.part) ⊎ ((x.part < y.part) ⊎ (y.part < x.part)) → (x.part ≡ y.part → xs ≡ ys) → (x ∷ xs) ≡ (y ∷ ys)
    by (inl e) rest = grind (arith, held_here x xs, held_here y ys)
    by (inr (inl lt)) rest = absurd (only_one low top x y xs ys b lt (same x.part a.1))
    by (inr (inr lt)) rest = absurd (only_one low top y x ys xs a lt (sym (same y.part b.1)))

pub parts_one : (before now : Folders) → now.held ≡ before.held → IsSome before.held → (dir : List ℕ) (xs ys : List Lent) → AreParts before dir xs
    → AreParts now dir ys → xs ≡ ys
parts_one before now same told dir xs ys first second =
    rising_one 0 256 xs ys first.rising second.rising (held_one before now same told dir xs ys first second)
