-- Sums over some of the methods, and methods in the order of their positions.
use Rattle.std.proofs.Common.{◌≡◌, ◌<◌, ◌+◌, ℕ, List, [], ◌∷◌, ◌++◌, map, filter, sum_by, Bool, true, false, cond, not}
use Rattle.std.proofs.Common.{Option, inl, inr, refl, sym, ap, ◌∙◌, arith}
use Rattle.std.proofs.lemmas.List.Sums.{sum_by-cons, sum_by-append}
use Rattle.std.proofs.lemmas.List.Filters.{sum_by-filter_both}
use Rattle.std.proofs.lemmas.List.Elements.{filter-append}
use Rattle.cap_desc.specs.DescriptorFormat.{MethodDescriptor}
use Rattle.jc_decode.specs.declared.symbols.Laid.{Laid}
use Rattle.law_package.specs.Changes.{FormerMethod, sources_from}
use Rattle.law_package.proofs.Lists.{Each, Has, each_at, each_of, filter_map_in}
use Rattle.law_package.proofs.Sums.{filter_every}
use Rattle.law_package.proofs.Zipped.{from_number}
use Rattle.law_package.proofs.Kept.{sum_map}

pub sums_agree : {X : Type 0} (f g : X → ℕ) (p q : X → Bool) (xs : List X) → Each (λ x. f x ≡ g x) xs → Each (λ x. p x ≡ q x) xs
    → sum_by f (filter p xs) ≡ sum_by g (filter q xs)
sums_agree f g p q [] e h = refl
sums_agree f g p q (x ∷ xs) e h = ap (λ b. sum_by f (cond b (x ∷ filter p xs) (filter p xs))) h.0 ∙ by (q x) (sums_agree f g p q xs e.1 h.1)
  where
    by : (b : Bool) → sum_by f (filter p xs) ≡ sum_by g (filter q xs) → sum_by f (cond b (x ∷ filter p xs) (filter p xs))
        ≡ sum_by g (cond b (x ∷ filter q xs) (filter q xs))
    by true r = let a = sum_by-cons f x (filter p xs) in let b = sum_by-cons g x (filter q xs) in let s = e.0 in omega arith
    by false r = r

pub sum_through : {X Y : Type 0} (f : Y → ℕ) (p : Y → Bool) (g : X → Y) (xs : List X) → sum_by f (filter p (map g xs)) ≡ sum_by (λ x. f (g x))
    (filter (λ x. p (g x)) xs)
sum_through f p g xs = ap (sum_by f) (filter_map_in p g xs) ∙ sum_map f g (filter (λ x. p (g x)) xs)

pub sums_all : {X : Type 0} (f : X → ℕ) (p : X → Bool) (xs : List X) → Each (λ x. p x ≡ true) xs → sum_by f (filter p xs) ≡ sum_by f xs
sums_all f p xs h = sums_agree f f p (λ x. true) xs (each_of (λ x. f x ≡ f x) xs (λ x k. refl)) h ∙ ap (sum_by f) (filter_every xs)

-- ---- before and after one of them

pub record IsSplit {X : Type 0} (xs : List X) (x : X) : Type 0 where
  pub lead : List X
  pub rest : List X
  pub is : xs ≡ lead ++ x ∷ rest

pub split_at : {X : Type 0} (xs : List X) (x : X) → Has xs x → IsSplit xs x
split_at [] x h = absurd h
split_at (y ∷ ys) x (inl s) = record { lead = []; rest = ys; is = ap (λ z. z ∷ ys) (sym s) }
split_at (y ∷ ys) x (inr h) = let r = split_at ys x h in record { lead = y ∷ r.lead; rest = r.rest; is = ap (λ zs. y ∷ zs) r.is }

-- those that pass a test t are all before it, and after it those that had something
pub late_sum : {X : Type 0} (w : X → ℕ) (had none t : X → Bool) (lead rest : List X) → ((x : X) → none x ≡ not (had x))
    → Each (λ x. t x ≡ true) lead → Each (λ x. t x ≡ had x) rest
    → sum_by w (filter t (lead ++ rest)) ≡ sum_by w (filter had (lead ++ rest)) + sum_by w (filter none lead)
late_sum w had none t lead rest other before after =
    grind (arith, sum_by, filter-append, sum_by-append, filter, sums_all, sums_agree, each_of, sum_by-filter_both)

-- ---- positions

abbrev pub Rising : {X : Type 0} → (X → ℕ) → List X → Type 0
Rising number [] = Unit {0}
Rising number (x ∷ xs) = Each (λ y. number x < number y) xs × Rising number xs

pub rising_map : {X Y : Type 0} (number : Y → ℕ) (g : X → Y) (xs : List X) → Rising number (map g xs) → Rising (λ x. number (g x)) xs
rising_map {X = X} number g [] r = tt
rising_map {X = X} number g (x ∷ xs) r = (each_map_back xs r.0, rising_map number g xs r.1)
  where
    each_map_back : (ys : List X) → Each (λ y. number (g x) < number y) (map g ys) → Each (λ y. number (g x) < number (g y)) ys
    each_map_back [] h = tt
    each_map_back (y ∷ ys) h = (h.0, each_map_back ys h.1)

pub rising_sources : (n : ℕ) (ms : List MethodDescriptor) (ls : List (Option Laid)) → Rising (λ (s : FormerMethod). s.number) (sources_from n ms ls)
rising_sources n [] ls = tt
rising_sources n (m ∷ ms) [] = tt
rising_sources n (m ∷ ms) (l ∷ ls) = grind (arith, from_number, each_of, each_at, rising_sources (n + 1) ms ls)

pub rising_before : {X : Type 0} (number : X → ℕ) (lead rest : List X) (x : X) → Rising number (lead ++ x ∷ rest)
    → Each (λ y. number y < number x) lead
rising_before {X = X} number [] rest x r = tt
rising_before {X = X} number (y ∷ lead) rest x r = (among lead r.0, rising_before number lead rest x r.1)
  where
    among : (zs : List X) → Each (λ z. number y < number z) (zs ++ x ∷ rest) → number y < number x
    among [] h = h.0
    among (z ∷ zs) h = among zs h.1

pub rising_after : {X : Type 0} (number : X → ℕ) (lead rest : List X) (x : X) → Rising number (lead ++ x ∷ rest)
    → Each (λ y. number x < number y) rest
rising_after number [] rest x r = r.0
rising_after number (y ∷ lead) rest x r = rising_after number lead rest x r.1
