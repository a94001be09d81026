-- Of things that each reach from a start to an end, the least overlap of two is that of a thing and the nearest other.
use Rattle.std.proofs.Common.{◌≡◌, ℕ, ◌<◌, ◌≤◌, ◌⊎◌, Bool, true, false, ltb, eqb, cond, ◌||◌, ◌&&◌, List, [], ◌∷◌}
use Rattle.std.proofs.Common.{◌++◌, map, Option, Some, None, refl, sym, ap, subst, ◌∙◌, inl, inr, arith, lt-ltb, ltb-true, eqb-true, eq-eqb}
use Rattle.std.proofs.Common.{true≢false}
use Rattle.std.specs.List.{filter_map, cons_option}
use Rattle.std.proofs.lemmas.Bool.{cases_lt, or_right}
use Rattle.first_fault.specs.declared.place.Place.{Place}
use Rattle.first_fault.specs.Order.{IsUpTo, two}
use Rattle.first_fault.specs.Least.{least_of}
use Rattle.first_fault.specs.First.{IsLeast, ComesFirst}
use Rattle.first_fault.proofs.Places.{up_to-refl, before-up_to}
use Rattle.first_fault.proofs.LeastFaults.{least_in, least-at_fault, least-found, least-none}
use Rattle.offset_set.specs.Sets.{IsNext, is_among, is_repeated, least_above, nearest}
use Rattle.offset_set.proofs.Next.{next-above}
use Rattle.cap_package.specs.Pairs.{pairs}

-- ---- elements

abbrev pub Has : {X : Type 0} → X → List X → Type 0
Has x [] = ⊥
Has x (y ∷ ys) = (x ≡ y) ⊎ Has x ys

has_left : {X : Type 0} (x : X) (xs ys : List X) → Has x xs → Has x (xs ++ ys)
has_left x [] ys h = absurd h
has_left x (y ∷ xs) ys (inl e) = inl e
has_left x (y ∷ xs) ys (inr h) = inr (has_left x xs ys h)

has_right : {X : Type 0} (x : X) (xs ys : List X) → Has x ys → Has x (xs ++ ys)
has_right x [] ys h = h
has_right x (y ∷ xs) ys h = inr (has_right x xs ys h)

has_either : {X : Type 0} (x : X) (xs ys : List X) → Has x (xs ++ ys) → Has x xs ⊎ Has x ys
has_either x [] ys h = inr h
has_either x (y ∷ xs) ys (inl e) = inl (inl e)
has_either x (y ∷ xs) ys (inr h) = elim (has_either x xs ys h) [ inl k ↦ inl (inr k) | inr k ↦ inr k ]

has_pair : {X : Type 0} (x y : X) (ys : List X) → Has y ys → Has {X = X × X} (x, y) (map (λ z. (x, z)) ys)
has_pair x y [] h = absurd h
has_pair x y (z ∷ ys) (inl e) = inl (ap (λ w. (x, w)) e)
has_pair x y (z ∷ ys) (inr h) = inr (has_pair x y ys h)

pair_has : {X : Type 0} (x : X) (p : X × X) (ys : List X) → Has p (map (λ z. (x, z)) ys) → (p.0 ≡ x) × Has p.1 ys
pair_has x p [] h = absurd h
pair_has {X} x p (z ∷ ys) (inl e) = (ap (λ (q : X × X). q.0) e, inl (ap (λ (q : X × X). q.1) e))
pair_has x p (z ∷ ys) (inr h) = grind (arith, pair_has x p ys h)

record FoundIn {X Y : Type 0} (f : X → Option Y) (xs : List X) (y : Y) : Type 0 where
  thing : X
  there : Has thing xs
  gives : f thing ≡ Some y

kept_by : {Y : Type 0} (y : Y) (o : Option Y) (ys : List Y) → o ≡ Some y → Has y (cons_option o ys)
kept_by y x ys e = grind (arith)

kept_later : {Y : Type 0} (y : Y) (o : Option Y) (ys : List Y) → Has y ys → Has y (cons_option o ys)
kept_later y x ys h = grind (arith)

kept : {X Y : Type 0} (f : X → Option Y) (xs : List X) (x : X) (y : Y) → Has x xs → f x ≡ Some y → Has y (filter_map f xs)
kept f [] x y h e = absurd h
kept f (z ∷ xs) x y (inl same) e = kept_by y (f z) (filter_map f xs) (ap f (sym same) ∙ e)
kept f (z ∷ xs) x y (inr h) e = kept_later y (f z) (filter_map f xs) (kept f xs x y h e)

found_by : {X Y : Type 0} (f : X → Option Y) (x : X) (xs : List X) (y : Y) (o : Option Y) → f x ≡ o →
    (Has y (filter_map f xs) → FoundIn f xs y) → Has y (cons_option o (filter_map f xs)) → FoundIn f (x ∷ xs) y
found_by f x xs y x2 e known h = grind (arith)

found : {X Y : Type 0} (f : X → Option Y) (xs : List X) (y : Y) → Has y (filter_map f xs) → FoundIn f xs y
found f [] y h = absurd h
found f (x ∷ xs) y h = found_by f x xs y (f x) refl (found f xs y) h

-- ---- the least of a list is in it, and up to each of it

least_has : {F : Type 0} (place : F → Place) (fs : List F) (f : F) → IsLeast place fs f → Has f fs
least_has place [] f h = absurd h
least_has place (g ∷ fs) f (inl h) = inl h.0
least_has place (g ∷ fs) f (inr h) = inr (least_has place fs f h.1)

first_up_to : {F : Type 0} (place : F → Place) (fs : List F) (f g : F) → ComesFirst place fs f → Has g fs →
    IsUpTo (place f) (place g)
first_up_to place [] f g h k = absurd k
first_up_to place (x ∷ fs) f g h (inl e) = subst (λ y. IsUpTo (place f) (place y)) (sym e) h.0
first_up_to place (x ∷ fs) f g h (inr k) = first_up_to place fs f g h.1 k

least_up_to : {F : Type 0} (place : F → Place) (fs : List F) (f g : F) → IsLeast place fs f → Has g fs → IsUpTo (place f) (place g)
least_up_to place [] f g h k = absurd k
least_up_to place (x ∷ fs) f g (inl h) (inl e) = subst (λ y. IsUpTo (place f) (place y)) (h.0 ∙ sym e) (up_to-refl (place f))
least_up_to place (x ∷ fs) f g (inl h) (inr k) = first_up_to place fs f g h.1 k
least_up_to place (x ∷ fs) f g (inr h) (inl e) = grind (arith, before-up_to)
least_up_to place (x ∷ fs) f g (inr h) (inr k) = least_up_to place fs f g h.1 k

up_to-trans : (p q r : Place) → IsUpTo p q → IsUpTo q r → IsUpTo p r
up_to-trans p q r x x2 = grind (arith)

same_numbers : (p q : Place) → IsUpTo p q → IsUpTo q p → (p.first ≡ q.first) × (p.second ≡ q.second)
same_numbers p q x x2 = grind (arith)

-- ---- two lists of faults that name two numbers have one least, where the second is among the first, and each of the
-- first has one of the second up to it

module _ {F : Type 0} (place : F → Place) (make : ℕ → ℕ → F) (placed : (m n : ℕ) → place (make m n) ≡ two m n) where
  pub record IsMade (f : F) : Type 0 where
    pub m : ℕ
    pub n : ℕ
    pub made : f ≡ make m n

  same_made : (f g : F) → IsMade f → IsMade g → (place f).first ≡ (place g).first → (place f).second ≡ (place g).second → f ≡ g
  same_made f g x y d e = grind (arith)

  pub record Below (fs : List F) (f : F) : Type 0 where
    pub fault : F
    pub there : Has fault fs
    pub below : IsUpTo (place fault) (place f)
    pub made : IsMade f

  none_left : (gs : List F) (q : Option F) → least_in place None gs ≡ q → ((g : F) → Has g gs → ⊥) → q ≡ None
  none_left gs None e h = refl
  none_left gs (Some g) e h = absurd (h g (least_has place gs g (least-found place gs g e)))

  same_least_by : (fs gs : List F) (o q : Option F) → least_in place None fs ≡ o → least_in place None gs ≡ q →
      ((g : F) → Has g gs → Has g fs) → ((f : F) → Has f fs → Below gs f) → o ≡ q
  same_least_by fs gs None q d e within below =
      sym (none_left gs q e (λ g h. subst (Has g) (least-none place fs d) (within g h)))
  same_least_by fs gs (Some f) None d e within below = grind (arith, least_has place fs f (least-found place fs f d), least-none place gs e)
  same_least_by fs gs (Some f) (Some g) d e within below =
      let least_f = least-found place fs f d in
      let least_g = least-found place gs g e in
      let k = below f (least_has place fs f least_f) in
      let there = within g (least_has place gs g least_g) in
      let up = least_up_to place fs f g least_f there in
      let down = up_to-trans (place g) (place k.fault) (place f) (least_up_to place gs g k.fault least_g k.there) k.below in
      let same = same_numbers (place f) (place g) up down in
      ap Some (same_made f g k.made (below g there).made same.0 same.1)

  pub same-least : (fs gs : List F) → ((g : F) → Has g gs → Has g fs) → ((f : F) → Has f fs → Below gs f) → least_in place None fs
      ≡ least_in place None gs
  same-least fs gs within below = same_least_by fs gs (least_in place None fs) (least_in place None gs) refl refl within below

-- ---- starts

module _ {X : Type 0} (start : X → ℕ) where
  both_left : (a b c : Bool) → a ≡ true → b ≡ true → ((a && b) || c) ≡ true
  both_left x b c d e = grind (arith, true≢false)

  has_among : (xs : List X) (x : X) (n : ℕ) → Has x xs → start x ≡ n → is_among (map start xs) n ≡ true
  has_among [] x n h e = absurd h
  has_among (y ∷ xs) x n (inl same) e = ap (λ b. b || is_among (map start xs) n) (eq-eqb (start y) n (ap start (sym same) ∙ e))
  has_among (y ∷ xs) x n (inr h) e = or_right (eqb (start y) n) (is_among (map start xs) n) (has_among xs x n h e)

  record StartsAt (xs : List X) (n : ℕ) : Type 0 where
    thing : X
    there : Has thing xs
    starts : start thing ≡ n

  among_by : (x : X) (xs : List X) (n : ℕ) (b : Bool) → eqb (start x) n ≡ b → (is_among (map start xs) n ≡ true → StartsAt xs n) →
      (b || is_among (map start xs) n) ≡ true → StartsAt (x ∷ xs) n
  among_by x xs n x2 e known h = grind (arith, eqb-true)

  among_has : (xs : List X) (n : ℕ) → is_among (map start xs) n ≡ true → StartsAt xs n
  among_has [] n h = absurd cc
  among_has (x ∷ xs) n h = among_by x xs n (eqb (start x) n) refl (among_has xs n) h

  -- ---- pairs

  record IsPair (xs : List X) (a b : X) : Type 0 where
    first : Has a xs
    second : Has b xs
    twice : start a ≡ start b → is_repeated (map start xs) (start a) ≡ true

  pair_by : (x : X) (xs : List X) (a b : X) → (Has {X = X × X} (a, b) (pairs xs) → IsPair xs a b) →
      Has {X = X × X} (a, b) (map (λ y. (x, y)) xs) ⊎ Has {X = X × X} (a, b) (pairs xs) → IsPair (x ∷ xs) a b
  pair_by x xs a b known x2 = grind (arith, pair_has, both_left, eqb, map, eq-eqb, has_among, or_right)

  is_pair : (xs : List X) (a b : X) → Has {X = X × X} (a, b) (pairs xs) → IsPair xs a b
  is_pair [] a b h = absurd h
  is_pair (x ∷ xs) a b h = pair_by x xs a b (is_pair xs a b) (has_either (a, b) (map (λ y. (x, y)) xs) (pairs xs) h)

  record TwoAt (xs : List X) (n : ℕ) : Type 0 where
    one : X
    other : X
    paired : Has {X = X × X} (one, other) (pairs xs)
    first : start one ≡ n
    second : start other ≡ n

  two_later : (x : X) (xs : List X) (n : ℕ) → TwoAt xs n → TwoAt (x ∷ xs) n
  two_later x xs n k = grind (arith, has_right, map)

  two_by : (x : X) (xs : List X) (n : ℕ) (b c : Bool) → eqb (start x) n ≡ b → is_among (map start xs) n ≡ c →
      (is_repeated (map start xs) n ≡ true → TwoAt xs n) → ((b && c) || is_repeated (map start xs) n) ≡ true → TwoAt (x ∷ xs) n
  two_by x xs n true true d e known h = grind (arith, among_has xs n e, eqb-true (start x) n d, has_left, map, has_pair)
  two_by x xs n true false d e known h = two_later x xs n (known h)
  two_by x xs n false c d e known h = two_later x xs n (known h)

  two_at : (xs : List X) (n : ℕ) → is_repeated (map start xs) n ≡ true → TwoAt xs n
  two_at [] n h = absurd cc
  two_at (x ∷ xs) n h = two_by x xs n (eqb (start x) n) (is_among (map start xs) n) refl refl (two_at xs n) h

  apart_pair : (xs : List X) (a b : X) → Has a xs → Has b xs → (start a ≡ start b → ⊥) →
      Has {X = X × X} (a, b) (pairs xs) ⊎ Has {X = X × X} (b, a) (pairs xs)
  apart_pair [] a b h k apart = absurd h
  apart_pair (x ∷ xs) a b (inl d) (inl e) apart = absurd (apart (ap start (d ∙ sym e)))
  apart_pair (x ∷ xs) a b (inl d) (inr k) apart = grind (arith, has_left, map, has_pair)
  apart_pair (x ∷ xs) a b (inr h) (inl e) apart = grind (arith, has_left, map, has_pair)
  apart_pair (x ∷ xs) a b (inr h) (inr k) apart = grind (arith, has_right, map, apart_pair xs a b h k apart)

-- ---- the nearest

record NearBelow (ns : List ℕ) (s t : ℕ) : Type 0 where
  n : ℕ
  near : nearest ns s ≡ Some n
  below : n ≤ t

next_below : (ns : List ℕ) (s t : ℕ) (o : Option ℕ) → IsNext (is_among ns) s o → s < t → is_among ns t ≡ true → (n : ℕ)
    × (o ≡ Some n) × (n ≤ t)
next_below ns s t x h lt e = grind (arith, true≢false, cases_lt)

near_by : (ns : List ℕ) (s t : ℕ) (b : Bool) → is_repeated ns s ≡ b → s ≤ t → is_among ns t ≡ true →
    (s ≡ t → is_repeated ns s ≡ true) → NearBelow ns s t
near_by ns s t true e le there twice = record { n = s; near = ap (λ b. cond b (Some s) (least_above s ns)) e; below = le }
near_by ns s t false e le there twice =
    let lt : s < t = elim (cases_lt s t) [ inl less ↦ less | inr ge ↦ absurd (true≢false (sym (twice (omega arith)) ∙ e)) ] in
    let k = next_below ns s t (least_above s ns) (next-above s ns) lt there in
    record { n = k.0; near = ap (λ b. cond b (Some s) (least_above s ns)) e ∙ k.1; below = k.2 }

-- ---- overlaps

module _ {X F : Type 0} (start end : X → ℕ) (place : F → Place) (make : ℕ → ℕ → F) (placed : (m n : ℕ) → place (make m n) ≡ two m n)
    (overlap : X × X → Option F)
    (up : (a b : X) → start a ≤ start b → overlap (a, b) ≡ cond (ltb (start b) (end a)) (Some (make (start a) (start b))) None)
    (down : (a b : X) → start b ≤ start a → overlap (a, b) ≡ cond (ltb (start a) (end b)) (Some (make (start b) (start a))) None)
    (own : (a b : X) → start a ≡ start b → start a < end a → start b < end b) where
  abbrev reach : ℕ → ℕ → Option ℕ → Option F
  reach s e None = None
  reach s e (Some n) = cond (ltb n e) (Some (make s n)) None

  abbrev near_fault : List X → X → Option F
  near_fault xs a = reach (start a) (end a) (nearest (map start xs) (start a))

  lower_by : (xs : List X) (lo hi : X) (f : F) (b : Bool) → ltb (start hi) (end lo) ≡ b → Has lo xs → Has hi xs →
      start lo ≤ start hi → (start lo ≡ start hi → is_repeated (map start xs) (start lo) ≡ true) →
      cond b (Some (make (start lo) (start hi))) None ≡ Some f → Below place make placed (filter_map (near_fault xs) xs) f
  lower_by xs lo hi f true e lo_in hi_in le twice h =
      let same : make (start lo) (start hi) ≡ f = cc in
      let k = near_by (map start xs) (start lo) (start hi) (is_repeated (map start xs) (start lo)) refl le
      (has_among start xs hi (start hi) hi_in refl) twice in
      let below = k.below in
      let lt = ltb-true (start hi) (end lo) e in
      let reaches : ltb k.n (end lo) ≡ true = lt-ltb k.n (end lo) (omega arith) in
      let up_to : IsUpTo (two (start lo) k.n) (two (start lo) (start hi)) = inr (refl, below) in
      record {
        fault = make (start lo) k.n;
        there = kept (near_fault xs) xs lo (make (start lo) k.n) lo_in (ap (reach (start lo) (end lo)) k.near
            ∙ ap (λ b. cond b (Some (make (start lo) k.n)) None) reaches);
        below = subst (λ p. IsUpTo p (place f)) (sym (placed (start lo) k.n))
            (subst (IsUpTo (two (start lo) k.n)) (sym (placed (start lo) (start hi)) ∙ ap place same) up_to);
        made = record { m = start lo; n = start hi; made = sym same };
      }
  lower_by xs lo hi f false e lo_in hi_in le twice h = absurd cc

  reaching_by : (xs : List X) (a b : X) (f : F) → IsPair start xs a b → (start b < start a) ⊎ (start a ≤ start b) → overlap (a, b)
      ≡ Some f → Below place make placed (filter_map (near_fault xs) xs) f
  reaching_by xs a b f k x h = grind (arith, lower_by, ltb)

  reaching : (xs : List X) (f : F) → Has f (filter_map overlap (pairs xs)) →
      Below place make placed (filter_map (near_fault xs) xs) f
  reaching xs f h =
      let k = found overlap (pairs xs) f h in
      let p = is_pair start xs k.thing.0 k.thing.1 k.there in
      reaching_by xs k.thing.0 k.thing.1 f p (cases_lt (start k.thing.1) (start k.thing.0)) k.gives

  here_by : (xs : List X) (c : X) (g : F) (b : Bool) → ltb (start c) (end c) ≡ b → is_repeated (map start xs) (start c) ≡ true →
      cond b (Some (make (start c) (start c))) None ≡ Some g → Has g (filter_map overlap (pairs xs))
  here_by xs c g true e twice h =
      let k = two_at start xs (start c) twice in
      let reaches = own c k.one (sym k.first) (ltb-true (start c) (end c) e) in
      let first = k.first in
      let second = k.second in
      let before : ltb (start k.other) (end k.one) ≡ true =
      lt-ltb (start k.other) (end k.one) (omega (arith, reaches, first, second)) in
      kept overlap (pairs xs) (k.one, k.other) g k.paired
      (up k.one k.other (omega (arith, first, second)) ∙ ap (λ b. cond b (Some (make (start k.one) (start k.other))) None) before
      ∙ ap (λ n. Some (make n (start k.other))) first ∙ ap (λ n. Some (make (start c) n)) second ∙ h)
  here_by xs c g false e twice h = absurd cc

  above_by : (xs : List X) (c : X) (g : F) (n : ℕ) (b : Bool) → Has c xs → start c < n → is_among (map start xs) n ≡ true →
      ltb n (end c) ≡ b → cond b (Some (make (start c) n)) None ≡ Some g → Has g (filter_map overlap (pairs xs))
  above_by xs c g n true there lt among e h =
      let k = among_has start xs n among in
      let starts = k.starts in
      let reaches : ltb (start k.thing) (end c) ≡ true = ap (λ m. ltb m (end c)) starts ∙ e in
      let gives : cond (ltb (start k.thing) (end c)) (Some (make (start c) (start k.thing))) None ≡ Some g =
      ap (λ b. cond b (Some (make (start c) (start k.thing))) None) reaches ∙ ap (λ m. Some (make (start c) m)) starts ∙ h in
      elim (apart_pair start xs c k.thing there k.there (λ same. absurd (omega (arith, same, starts, lt)))) [
        | inl p ↦ kept overlap (pairs xs) (c, k.thing) g p (up c k.thing (omega (arith, starts, lt)) ∙ gives)
        | inr p ↦ kept overlap (pairs xs) (k.thing, c) g p (down k.thing c (omega (arith, starts, lt)) ∙ gives)
      ]
  above_by xs c g n false there lt among e h = absurd cc

  next_by : (xs : List X) (c : X) (g : F) (o : Option ℕ) → Has c xs → IsNext (is_among (map start xs)) (start c) o →
      reach (start c) (end c) o ≡ Some g → Has g (filter_map overlap (pairs xs))
  next_by xs c g x there next h = grind (arith, above_by, ltb)

  within_by : (xs : List X) (c : X) (g : F) (b : Bool) → Has c xs → is_repeated (map start xs) (start c) ≡ b →
      reach (start c) (end c) (cond b (Some (start c)) (least_above (start c) (map start xs))) ≡ Some g →
      Has g (filter_map overlap (pairs xs))
  within_by xs c g x there e h = grind (arith, here_by, ltb, next_by, map, next-above)

  within : (xs : List X) (g : F) → Has g (filter_map (near_fault xs) xs) → Has g (filter_map overlap (pairs xs))
  within xs g h =
      let k = found (near_fault xs) xs g h in
      within_by xs k.thing g (is_repeated (map start xs) (start k.thing)) k.there refl k.gives

  -- the least overlap is that of a thing and the nearest other
  pub least-neighbour : (xs : List X) → least_of place overlap (pairs xs) ≡ least_of place (near_fault xs) xs
  least-neighbour xs =
      least-at_fault place overlap (pairs xs) None
      ∙ same-least place make placed (filter_map overlap (pairs xs)) (filter_map (near_fault xs) xs) (within xs) (reaching xs)
      ∙ sym (least-at_fault place (near_fault xs) xs None)
