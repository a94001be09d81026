-- The chain of a class as it is climbed.
use Rattle.std.proofs.Common.{◌≡◌, ℕ, append_assoc, List, [], ◌∷◌, ◌++◌, Option, Some, None, ◌∙◌, arith}
use Rattle.jc_base.specs.Class.{list_of}
use Rattle.jc_classes.specs.Outline.{LineTable, AreLines, chain, parent_of}
use Rattle.jc_classes.proofs.Bare.{next_on_chain, parent_of-class, chain-alone, chain-front}

-- a chain is its class and the chain of the superclass
pub chain_step : (t : LineTable) (c : ℕ) → AreLines t → chain t c ≡ c ∷ list_of (chain t) (parent_of t c)
chain_step t c are = grind (arith, chain-alone, next_on_chain, parent_of-class)

pub head_same : (x y : ℕ) (xs ys : List ℕ) → x ∷ xs ≡ y ∷ ys → x ≡ y
head_same x y xs ys e = cc

pub tail_same : (x y : ℕ) (xs ys : List ℕ) → x ∷ xs ≡ y ∷ ys → xs ≡ ys
tail_same x y xs ys e = cc

pub no_end : (xs ys : List ℕ) (x : ℕ) → xs ++ (x ∷ ys) ≡ [] → ⊥
no_end [] ys x e = cc
no_end (y ∷ xs) ys x e = cc

above_by : (t : LineTable) (above : Option ℕ) (xs : List ℕ) (x : ℕ) (rest : List ℕ)
    → ((p : ℕ) → xs ++ (x ∷ rest) ≡ chain t p → chain t x ≡ x ∷ rest)
    → xs ++ (x ∷ rest) ≡ list_of (chain t) above → chain t x ≡ x ∷ rest
above_by t None xs x rest further e = absurd (no_end xs rest x e)
above_by t (Some p) xs x rest further e = further p e

-- what stands on a chain from a class on is the chain of that class
pub chain_from : (t : LineTable) → AreLines t → (xs : List ℕ) (c x : ℕ) (rest : List ℕ) → xs ++ (x ∷ rest) ≡ chain t c
    → chain t x ≡ x ∷ rest
chain_from t are [] c x rest e = grind (arith, chain-front t c, head_same)
chain_from t are (y ∷ xs) c x rest e =
    above_by t (parent_of t c) xs x rest (λ p h. chain_from t are xs p x rest h)
    (tail_same y c (xs ++ (x ∷ rest)) (list_of (chain t) (parent_of t c)) (e ∙ chain_step t c are))

-- where the chain above is a whole chain, it is that of the class itself
pub climbed_whole : (t : LineTable) (above : Option ℕ) (c : ℕ) → list_of (chain t) above ≡ chain t c → above ≡ Some c
climbed_whole t None c e = grind (arith, chain-front t c)
climbed_whole t (Some a) c e = grind (arith, chain-front t a, chain-front t c, head_same)

-- one class further up
pub climbed_more : (t : LineTable) (c a : ℕ) (path : List ℕ) (above next : Option ℕ) → above ≡ Some a
    → chain t a ≡ a ∷ list_of (chain t) next → path ++ list_of (chain t) above ≡ chain t c
    → (path ++ (a ∷ [])) ++ list_of (chain t) next ≡ chain t c
climbed_more t c a path above next is step whole = grind (arith, append_assoc)
