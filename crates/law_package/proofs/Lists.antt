-- Facts of each element of a list, and lists in which nothing is at fault.
use Rattle.std.proofs.Common.{◌≡◌, List, [], ◌∷◌, ◌++◌, map, filter, filter_map, Bool, true, false, cond, Option, None, ◌⊎◌, inl, arith}
use Rattle.std.proofs.Common.{inr, refl, sym, ap, subst, ◌∙◌}
use Rattle.std.specs.List.{cons_option}
use Rattle.first_fault.proofs.LeastFaults.{faultless_first}

-- ---- each element

abbrev pub Each : {X : Type 0} → (X → Type 0) → List X → Type 0
Each P [] = Unit {0}
Each P (x ∷ xs) = P x × Each P xs

abbrev pub Has : {X : Type 0} → List X → X → Type 0
Has [] x = ⊥
Has (y ∷ ys) x = (x ≡ y) ⊎ Has ys x

pub each_at : {X : Type 0} (P : X → Type 0) (xs : List X) (x : X) → Each P xs → Has xs x → P x
each_at P [] x e h = absurd h
each_at P (y ∷ ys) x e (inl s) = subst P (sym s) e.0
each_at P (y ∷ ys) x e (inr h) = each_at P ys x e.1 h

pub each_of : {X : Type 0} (P : X → Type 0) (xs : List X) → ((x : X) → Has xs x → P x) → Each P xs
each_of P [] f = tt
each_of P (x ∷ xs) f = (f x (inl refl), each_of P xs (λ y h. f y (inr h)))

pub map_each : {X Y : Type 0} (P : Y → Type 0) (g : X → Y) (xs : List X) → Each P (map g xs) → Each (λ x. P (g x)) xs
map_each P g [] h = tt
map_each P g (x ∷ xs) h = (h.0, map_each P g xs h.1)

-- ---- nothing at fault

pub none_each : {F X : Type 0} (f : X → Option F) (xs : List X) → filter_map f xs ≡ [] → Each (λ x. f x ≡ None) xs
none_each f [] e = tt
none_each f (x ∷ xs) e = let r = faultless_first (f x) (filter_map f xs) e in (r.0, none_each f xs r.1)

pub each_none : {F X : Type 0} (f : X → Option F) (xs : List X) → Each (λ x. f x ≡ None) xs → filter_map f xs ≡ []
each_none f [] h = refl
each_none f (x ∷ xs) h = ap (λ o. cons_option o (filter_map f xs)) h.0 ∙ each_none f xs h.1

pub append_none : {F : Type 0} (xs ys : List F) → xs ≡ [] → ys ≡ [] → xs ++ ys ≡ []
append_none xs ys e h = rw (e, h) refl

pub faults_map : {F X Y : Type 0} (f : Y → Option F) (g : X → Y) (xs : List X) → filter_map f (map g xs) ≡ filter_map (λ x. f (g x)) xs
faults_map f g [] = refl
faults_map f g (x ∷ xs) = ap (cons_option (f (g x))) (faults_map f g xs)

pub faults_same : {F X : Type 0} (f g : X → Option F) (xs : List X) → ((x : X) → f x ≡ g x) → filter_map f xs ≡ filter_map g xs
faults_same f g [] h = refl
faults_same f g (x ∷ xs) h = ap (λ o. cons_option o (filter_map f xs)) (h x) ∙ ap (cons_option (g x)) (faults_same f g xs h)

-- lists that a map makes the same have the same faults, where no fault asks for what the map changes
pub faults_alike : {F X Y : Type 0} (f : X → Option F) (g : X → Y) (b : Y → Option F) (xs ys : List X) → ((x : X) → f x ≡ b (g x))
    → map g ys ≡ map g xs → filter_map f ys ≡ filter_map f xs
faults_alike f g b xs ys h e = grind (arith, faults_map b g ys, filter_map b, faults_map b g xs, faults_same)

-- ---- filters

pub filter_none : {X : Type 0} (p : X → Bool) (xs : List X) → Each (λ x. p x ≡ false) xs → filter p xs ≡ []
filter_none p [] h = refl
filter_none p (x ∷ xs) h = ap (λ b. cond b (x ∷ filter p xs) (filter p xs)) h.0 ∙ filter_none p xs h.1

pub filter_alike : {X : Type 0} (p q : X → Bool) (xs : List X) → Each (λ x. p x ≡ q x) xs → filter p xs ≡ filter q xs
filter_alike p q [] h = refl
filter_alike p q (x ∷ xs) h = grind (arith, cond, filter, filter_alike p q xs h.1)

pub filter_map_in : {X Y : Type 0} (p : Y → Bool) (g : X → Y) (xs : List X) → filter p (map g xs) ≡ map g (filter (λ x. p (g x)) xs)
filter_map_in p g [] = refl
filter_map_in p g (x ∷ xs) = by (p (g x)) (filter_map_in p g xs)
  where
    by : (b : Bool) → filter p (map g xs) ≡ map g (filter (λ y. p (g y)) xs) → cond b (g x ∷ filter p (map g xs)) (filter p (map g xs))
        ≡ map g (cond b (x ∷ filter (λ y. p (g y)) xs) (filter (λ y. p (g y)) xs))
    by true e = ap (λ ys. g x ∷ ys) e
    by false e = e

pub has_filter : {X : Type 0} (p : X → Bool) (xs : List X) (x : X) → Has xs x → p x ≡ true → Has (filter p xs) x
has_filter p [] x h e = absurd h
has_filter p (y ∷ ys) x (inl s) e = rw (ap p (sym s) ∙ e) (inl s)
has_filter p (y ∷ ys) x (inr h) e = by (p y) (has_filter p ys x h e)
  where
    by : (b : Bool) → Has (filter p ys) x → Has (cond b (y ∷ filter p ys) (filter p ys)) x
    by true r = inr r
    by false r = r
