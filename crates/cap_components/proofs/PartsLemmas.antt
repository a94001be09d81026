-- Lemmas on lists of parts.
use Rattle.std.proofs.Common.{arith}
use Rattle.std.proofs.Common.{◌≡◌, ℕ, ◌∷◌, [], ◌++◌, List, Option, Some, Bool, true, false, IsNone, eqb, refl, sym, cond}
use Rattle.std.proofs.lemmas.Bool.{ne_eqb, eqb-false}
use Rattle.std.specs.Option.{option_map}
use Rattle.std.specs.List.{find}
use Rattle.cap_components.specs.Parts.{Lent, is_of, bytes_of, held, HasEachOnce}

-- the rest of a list holds what the list holds, where its first part is another
pub held-other : (tag : ℕ) (lent : Lent) (parts : List Lent) → eqb lent.part tag ≡ false → held (lent ∷ parts) tag ≡ held parts tag
held-other tag lent parts e = rw e refl

pub held-same : (tag : ℕ) (lent : Lent) (parts : List Lent) → eqb lent.part tag ≡ true → held (lent ∷ parts) tag ≡ Some lent.bytes
held-same tag lent parts e = rw e refl

-- a part that is not in a list, whose first part then is another
absent-first : (b : Bool) (lent : Lent) (rest : Option Lent) → IsNone (option_map bytes_of (cond b (Some lent) rest)) → (b ≡ false)
    × IsNone (option_map bytes_of rest)
absent-first x lent rest h = grind (arith)

-- a list that holds no part of a tag, and one more part of another tag
absent-push : (tag : ℕ) (parts : List Lent) (lent : Lent) → IsNone (held parts tag) → eqb lent.part tag ≡ false
    → IsNone (held (parts ++ lent ∷ []) tag)
absent-push tag [] lent absent other = rw other refl
absent-push tag (l ∷ ls) lent absent other =
    let first = absent-first (eqb l.part tag) l (find (is_of tag) ls) absent in
    rw first.0 (absent-push tag ls lent first.1 other)

eqb-turned : (a b : ℕ) → eqb a b ≡ false → eqb b a ≡ false
eqb-turned a b e = ne_eqb b a (λ h. eqb-false a b e (sym h))

-- appending a part that is not there keeps each part once
pub HasEachOnce-push : (parts : List Lent) (lent : Lent) → HasEachOnce parts → IsNone (held parts lent.part) → HasEachOnce (parts ++ lent ∷ [])
HasEachOnce-push [] lent each absent = (refl, tt {0})
HasEachOnce-push (l ∷ ls) lent each absent =
    let first = absent-first (eqb l.part lent.part) l (find (is_of lent.part) ls) absent in
    (absent-push l.part ls lent each.0 (eqb-turned l.part lent.part first.0), HasEachOnce-push ls lent each.1 first.1)
