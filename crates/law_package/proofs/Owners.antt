-- Pieces that stand one after the other in the order of a key: each number below their whole size lies in exactly one.
use Rattle.std.proofs.Common.{◌≡◌, ◌≤◌, ◌<◌, ◌+◌, ℕ, zero, suc, List, [], ◌∷◌, filter, sum_by, Bool, true, false, cond, ◌&&◌}
use Rattle.std.proofs.Common.{◌⊎◌, inl, inr, refl, sym, ap, subst, ◌∙◌, arith, ltb-true, ltb-false}
use Rattle.std.specs.Prelude.{nat_lt, nat_le, ◌==◌}
use Rattle.std.proofs.lemmas.List.Sums.{sum_by-cons}
use Rattle.std.proofs.lemmas.Bool.{eqb-true, ne_eqb, lt-ltb, le-ltb}
use Rattle.law_package.proofs.Lists.{Each, Has, each_of, filter_none, filter_alike, has_filter}
use Rattle.law_package.proofs.Sums.{sum_le, sum_more, sum_each, sum_none, filter_every}

abbrev pub is_below : {X : Type 0} → (X → ℕ) → ℕ → X → Bool
is_below key n x = nat_lt (key x) n

abbrev is_at : {X : Type 0} → (X → ℕ) → ℕ → X → Bool
is_at key n x = key x == n

-- where the pieces with a key from n on begin
abbrev pub below : {X : Type 0} → (X → ℕ) → (X → ℕ) → List X → ℕ → ℕ
below size key xs n = sum_by size (filter (is_below key n) xs)

abbrev pub Distinct : {X : Type 0} → (X → ℕ) → List X → Type 0
Distinct key [] = Unit {0}
Distinct key (x ∷ xs) = Each (λ y. key y ≡ key x → ⊥) xs × Distinct key xs

-- a number lies in a piece
abbrev pub lies_in : {X : Type 0} → (X → ℕ) → (X → ℕ) → List X → ℕ → X → Bool
lies_in size key xs k x = nat_le (below size key xs (key x)) k && nat_lt k (below size key xs (key x) + size x)

-- ---- the key at which a number lies

three : (a n : ℕ) → (a < n) ⊎ ((a ≡ n) ⊎ (n < a))
three a n = by (nat_lt a n) (nat_lt n a) refl refl
  where
    by : (b c : Bool) → nat_lt a n ≡ b → nat_lt n a ≡ c → (a < n) ⊎ ((a ≡ n) ⊎ (n < a))
    by true c e f = inl (ltb-true a n e)
    by false true e f = inr (inr (ltb-true n a f))
    by false false e f = let x = ltb-false a n e in let y = ltb-false n a f in inr (inl (omega arith))

pub record IsFound {X : Type 0} (size key : X → ℕ) (xs : List X) (k : ℕ) : Type 0 where
  pub at : ℕ
  pub low : below size key xs at ≤ k
  pub high : k < below size key xs (suc at)

search_key : {X : Type 0} (size key : X → ℕ) (xs : List X) (k n : ℕ) → k < below size key xs n → IsFound size key xs k
search_key size key xs k zero h = grind (arith, sum_none, each_of, le-ltb)
search_key size key xs k (suc n) h = by (nat_lt k (below size key xs n)) refl (λ lt. search_key size key xs k n lt)
  where
    by : (b : Bool) → nat_lt k (below size key xs n) ≡ b → (k < below size key xs n → IsFound size key xs k) → IsFound size key xs k
    by true e farther = farther (ltb-true k (below size key xs n) e)
    by false e farther = record { at = n; low = ltb-false k (below size key xs n) e; high = h }

all_below : {X : Type 0} (size key : X → ℕ) (xs : List X) → below size key xs (suc (sum_by key xs)) ≡ sum_by size xs
all_below size key xs = ap (sum_by size) (filter_alike (is_below key (suc (sum_by key xs))) (λ x. true) xs
    (each_of (λ x. is_below key (suc (sum_by key xs)) x ≡ true) xs (λ x h. let e = sum_each key xs x h in passes (key x) (sum_by key xs) e))
    ∙ filter_every xs)
  where
    passes : (a n : ℕ) → a ≤ n → nat_lt a (suc n) ≡ true
    passes a n h = grind arith

-- ---- the pieces at a key

split_by : {X : Type 0} (size : X → ℕ) (x : X) (a n : ℕ) (ps qs rs : List X) → sum_by size ps ≡ sum_by size qs + sum_by size rs → (a < n)
    ⊎ ((a ≡ n) ⊎ (n < a))
    → sum_by size (cond (nat_lt a (suc n)) (x ∷ ps) ps) ≡ sum_by size (cond (nat_lt a n) (x ∷ qs) qs) + sum_by size (cond (a == n) (x ∷ rs) rs)
split_by size x a n ps qs rs e c = grind (arith, suc, sum_by-cons)

split : {X : Type 0} (size key : X → ℕ) (xs : List X) (n : ℕ) → below size key xs (suc n) ≡ below size key xs n + sum_by size
    (filter (is_at key n) xs)
split size key [] n = refl
split size key (x ∷ xs) n = grind (arith, split_by, filter, suc, split size key xs n)

pub data AtMostOne {X : Type 0} (key : X → ℕ) (n : ℕ) (xs : List X) : Type 0 where
  no_one : filter (is_at key n) xs ≡ [] → AtMostOne key n xs
  one : (x : X) → filter (is_at key n) xs ≡ x ∷ [] → Has xs x → key x ≡ n → AtMostOne key n xs

at_most_one : {X : Type 0} (key : X → ℕ) (n : ℕ) (xs : List X) → Distinct key xs → AtMostOne key n xs
at_most_one key n [] d = no_one refl
at_most_one {X = X} key n (x ∷ xs) d = by (key x == n) refl (at_most_one key n xs d.1)
  where
    by : (b : Bool) → (key x == n) ≡ b → AtMostOne key n xs → AtMostOne key n (x ∷ xs)
    by true e others =
        let same = eqb-true (key x) n e in
        let rest : filter (is_at key n) xs ≡ [] = filter_none (is_at key n) xs
        (each_of (λ y. is_at key n y ≡ false) xs (λ y h. ne_eqb (key y) n (λ s. apart xs y d.0 h (s ∙ sym same)))) in
        one x (ap (λ c. cond c (x ∷ filter (is_at key n) xs) (filter (is_at key n) xs)) e ∙ ap (λ ys. x ∷ ys) rest) (inl refl) same
      where
        apart : (ys : List X) (y : X) → Each (λ z. key z ≡ key x → ⊥) ys → Has ys y → key y ≡ key x → ⊥
        apart [] y a h = λ s. h
        apart (z ∷ ys) y a (inl s) = λ k. a.0 (ap key (sym s) ∙ k)
        apart (z ∷ ys) y a (inr h) = apart ys y a.1 h
    by false e (no_one f) = no_one (ap (λ c. cond c (x ∷ filter (is_at key n) xs) (filter (is_at key n) xs)) e ∙ f)
    by false e (one y f h s) = one y (ap (λ c. cond c (x ∷ filter (is_at key n) xs) (filter (is_at key n) xs)) e ∙ f) (inr h) s

-- ---- exactly one

pub record IsOwned {X : Type 0} (size key : X → ℕ) (xs : List X) (k : ℕ) : Type 0 where
  pub owner : X
  pub has : Has xs owner
  pub alone : filter (lies_in size key xs k) xs ≡ owner ∷ []
  pub low : below size key xs (key owner) ≤ k
  pub high : k < below size key xs (key owner) + size owner

rises : (a n m : ℕ) → n ≤ m → nat_lt a n ≡ true → nat_lt a m ≡ true
rises a n m h e = grind arith

-- a piece before the key ends before the number
pub ends_before : {X : Type 0} (size key : X → ℕ) (xs : List X) (n : ℕ) (x : X) → Has xs x → key x < n
    → below size key xs (key x) + size x ≤ below size key xs n
ends_before size key xs n x h lt =
    sum_more size (is_below key (key x)) (is_below key n) xs x (λ y e. rises (key y) (key x) n (omega arith) e) (itself (key x)) (lt-ltb (key x) n lt) h
  where
    itself : (a : ℕ) → nat_lt a a ≡ false
    itself a = grind arith

before_it : (b : Bool) (k n : ℕ) → k < n → nat_le n k && b ≡ false
before_it b k n h = let e : nat_le n k ≡ false = grind arith in rw e refl

-- the pieces in which the number lies are those at the key
lies_at : {X : Type 0} (size key : X → ℕ) (xs : List X) (k n : ℕ) (x : X) → Has xs x → below size key xs n ≤ k → k < below size key xs (suc n)
    → (key x ≡ n → k < below size key xs n + size x)
    → (key x < n) ⊎ ((key x ≡ n) ⊎ (n < key x)) → lies_in size key xs k x ≡ is_at key n x
lies_at size key xs k n x h low high at e = grind (arith, ends_before, ne_eqb, suc, before_it, sum_le, rises)

at_of : {X : Type 0} (key : X → ℕ) (n : ℕ) (xs : List X) (x y : X) → filter (is_at key n) xs ≡ y ∷ [] → Has xs x → key x ≡ n → x ≡ y
at_of {X = X} key n xs x y e h s =
    let f : (key x == n) ≡ true = grind arith in
    alone (subst (λ ys. Has ys x) e (has_filter (is_at key n) xs x h f))
  where
    alone : Has (y ∷ []) x → x ≡ y
    alone (inl k) = k
    alone (inr k) = absurd k

owned_at : {X : Type 0} (size key : X → ℕ) (xs : List X) (k n : ℕ) → below size key xs n ≤ k → k < below size key xs (suc n)
    → AtMostOne key n xs → IsOwned size key xs k
owned_at size key xs k n low high (no_one e) = grind (arith, split, sum_by)
owned_at size key xs k n low high (one y e h s) =
    let t = split size key xs n in
    let z = ap (sum_by size) e ∙ sum_by-cons size y [] in
    let high' : k < below size key xs n + size y = omega arith in
    let w = ap (below size key xs) s in
    let agree : Each (λ x. lies_in size key xs k x ≡ is_at key n x) xs = each_of (λ x. lies_in size key xs k x ≡ is_at key n x) xs
    (λ x g. lies_at size key xs k n x g low high (λ r. let v = ap size (at_of key n xs x y e g r) in omega arith) (three (key x) n)) in
    record {
      owner = y;
      has = h;
      alone = filter_alike (lies_in size key xs k) (is_at key n) xs agree ∙ e;
      low = omega arith;
      high = omega arith;
    }

-- a number below the whole size lies in exactly one piece
pub owned : {X : Type 0} (size key : X → ℕ) (xs : List X) (k : ℕ) → Distinct key xs → k < sum_by size xs → IsOwned size key xs k
owned size key xs k d h =
    let e = all_below size key xs in
    let f = search_key size key xs k (suc (sum_by key xs)) (omega arith) in
    owned_at size key xs k f.at f.low f.high (at_most_one key f.at xs d)
