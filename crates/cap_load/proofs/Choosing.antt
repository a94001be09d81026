-- The components among the parts, in order.
use Rattle.std.proofs.Common.{◌≡◌, ℕ, zero, suc, ◌+◌, ◌<◌, ◌≤◌, Bool, true, false, not, List, [], ◌∷◌, ◌++◌, length, map}
use Rattle.std.proofs.Common.{Option, Some, None, IsSome, cond, refl, sym, ap, subst, ◌∙◌, arith, rules, length-append, if◌then◌else◌}
use Rattle.std.proofs.lemmas.List.Concat.{flat_map-append}
use Rattle.std.proofs.lemmas.Bool.{eqb-true, lt-ltb, le-leb, ltb-true}
use Rattle.std.specs.Prelude.{◌==◌, ◌||◌, ◌&&◌, nat_le, nat_lt, is_some, position, find, option_map}
use Rattle.std.specs.List.{position_or_len}
use Rattle.std.proofs.lemmas.Bool.Decides.{nat_tests}
use Rattle.std.specs.List.{AllByRecursion, flat_map}
use Rattle.std.proofs.Math.Bool.{or-true, or-false}
use Rattle.cap_components.specs.Parts.{Lent, is_of, bytes_of, held}
use Rattle.cap_load.specs.Order.{components, place, is_below, comes_before, InOrder}
use Rattle.cap_load.specs.LoadFile.{tag_of, files_of}
use Rattle.cap_load.specs.Packing.{AreComponents}
use Rattle.cap_load.specs.Joining.{counted_from, in_order, bytes_in, file_in}

abbrev pub lent_of : ℕ → List ℕ → Lent
lent_of tag bytes = record { part = tag; bytes = bytes }

abbrev pub chosen_by : ℕ → Option (List ℕ) → List Lent → List Lent
chosen_by tag None chosen = chosen
chosen_by tag (Some bytes) chosen = lent_of tag bytes ∷ chosen

-- the parts of these tags
abbrev pub chosen : List ℕ → List Lent → List Lent
chosen [] parts = []
chosen (tag ∷ tags) parts = chosen_by tag (held parts tag) (chosen tags parts)

-- ---- their files

files_by : (tag : ℕ) (o : Option (List ℕ)) (chosen : List Lent) → files_of (chosen_by tag o chosen) ≡ bytes_in o ++ files_of chosen
files_by tag y chosen = grind (arith)

pub files_chosen : (tags : List ℕ) (parts : List Lent) → files_of (chosen tags parts) ≡ flat_map (file_in parts) tags
files_chosen [] parts = refl
files_chosen (tag ∷ tags) parts = grind (arith, files_by, files_chosen tags parts)

-- ---- each is the part of its tag

abbrev stands_in : ℕ → List ℕ → Bool
stands_in tag [] = false
stands_in tag (t ∷ ts) = (t == tag) || stands_in tag ts

none_held : (parts : List Lent) (tag : ℕ) (b : Bool) → held parts tag ≡ None → (if b then held parts tag else None) ≡ None
none_held parts tag z n = grind (arith)

held_by : (tag t : ℕ) (o : Option (List ℕ)) (others : List Lent) (parts : List Lent) (rest : Bool) → held parts t ≡ o
    → held others tag ≡ (if rest then held parts tag else None)
    → held (chosen_by t o others) tag ≡ (if (t == tag) || rest then held parts tag else None)
held_by tag t o others parts rest h k = by (t == tag) refl o h
  where
    by : (b : Bool) → (t == tag) ≡ b → (o : Option (List ℕ)) → held parts t ≡ o
        → held (chosen_by t o others) tag ≡ (if (t == tag) || rest then held parts tag else None)
    by true e None n =
        let same : t ≡ tag = eqb-true t tag e in
        let none : held parts tag ≡ None = ap (held parts) (sym same) ∙ n in
        let first : (if rest then held parts tag else None) ≡ None = none_held parts tag rest none in
        k ∙ first ∙ sym none ∙ ap (λ (b : Bool). if b || rest then held parts tag else None) (sym e)
    by true e (Some bytes) n =
        let same : t ≡ tag = eqb-true t tag e in
        ap (λ (b : Bool). option_map bytes_of (cond b (Some (lent_of t bytes)) (find (is_of tag) others))) e
        ∙ sym n ∙ ap (held parts) same ∙ ap (λ (b : Bool). if b || rest then held parts tag else None) (sym e)
    by false e None n = k ∙ ap (λ (b : Bool). if b || rest then held parts tag else None) (sym e)
    by false e (Some bytes) n =
        ap (λ (b : Bool). option_map bytes_of (cond b (Some (lent_of t bytes)) (find (is_of tag) others))) e
        ∙ k ∙ ap (λ (b : Bool). if b || rest then held parts tag else None) (sym e)

held_chosen : (tags : List ℕ) (parts : List Lent) (tag : ℕ) → held (chosen tags parts) tag ≡ (if stands_in tag tags then held parts tag else None)
held_chosen [] parts tag = refl
held_chosen (t ∷ ts) parts tag = held_by tag t (held parts t) (chosen ts parts) parts (stands_in tag ts) refl (held_chosen ts parts tag)

-- ---- all tags with a place are those in order

or_assoc : (a b c : Bool) → (a || (b || c)) ≡ ((a || b) || c)
or_assoc x b c = grind (arith)

stands_append : (tag : ℕ) (ts us : List ℕ) → stands_in tag (ts ++ us) ≡ (stands_in tag ts || stands_in tag us)
stands_append tag [] us = refl
stands_append tag (t ∷ ts) us = grind (arith, or_assoc, stands_append tag ts us)

none_counted : (first tag : ℕ) → false ≡ (nat_le first tag && nat_lt tag (first + 0))
none_counted first tag = grind (arith, nat_tests)

one_counted : (first tag n : ℕ) → ((first == tag) || (nat_le (suc first) tag && nat_lt tag (suc first + n)))
    ≡ (nat_le first tag && nat_lt tag (first + suc n))
one_counted first tag n = grind (arith, nat_tests)

stands_counted : (n first tag : ℕ) → stands_in tag (counted_from first n) ≡ (nat_le first tag && nat_lt tag (first + n))
unfolding counted_from
stands_counted zero first tag = none_counted first tag
stands_counted (suc n) first tag = ap (λ (b : Bool). (first == tag) || b) (stands_counted n (suc first) tag) ∙ one_counted first tag n

less : (a b : ℕ) → nat_lt (1 + a) (suc b) ≡ nat_lt a b
less a b = grind (arith, nat_tests)

found_by : (t tag : ℕ) (ts : List ℕ) (b : Bool) → (t == tag) ≡ b → nat_lt (position_or_len (λ t. t == tag) ts) (length ts) ≡ stands_in tag ts
    → nat_lt (position_or_len (λ t. t == tag) (t ∷ ts)) (length (t ∷ ts)) ≡ (b || stands_in tag ts)
found_by t tag ts u e rest = grind (arith, cond, not, lt-ltb, less)

found : (ts : List ℕ) (tag : ℕ) → nat_lt (position_or_len (λ t. t == tag) ts) (length ts) ≡ stands_in tag ts
found [] tag = refl
found (t ∷ ts) tag = found_by t tag ts (t == tag) refl (found ts tag)

position_some : (ts : List ℕ) (tag : ℕ) → is_some (position (λ t. t == tag) ts) ≡ stands_in tag ts
position_some ts tag = grind (arith, length, found)

place_by : (b : Bool) (tag : ℕ) → (stands_in tag components || b) ≡ is_some (if b then Some tag else position (λ t. t == tag) components)
place_by true tag = or-true (stands_in tag components)
place_by false tag = or-false (stands_in tag components) ∙ sym (position_some components tag)

place_is : (tag : ℕ) → stands_in tag in_order ≡ is_some (place tag)
unfolding place in_order
place_is tag =
    stands_append tag components (counted_from 128 128) ∙ ap (λ (c : Bool). stands_in tag components || c) (stands_counted 128 128 tag)
    ∙ place_by (nat_le 128 tag && nat_lt tag 256) tag

pub are_components : (parts : List Lent) → AreComponents parts (chosen in_order parts)
are_components parts tag = held_chosen in_order parts tag ∙ ap (λ (b : Bool). if b then held parts tag else None) (place_is tag)

-- ---- they are in order

-- what holds of all tags holds of those that were chosen
all_by : (P : ℕ → Type 0) (t : ℕ) (o : Option (List ℕ)) (others : List Lent) → P t → AllByRecursion P (map tag_of others)
    → AllByRecursion P (map tag_of (chosen_by t o others))
all_by x t z others p a = grind (arith)

all_chosen : (P : ℕ → Type 0) (tags : List ℕ) (parts : List Lent) → AllByRecursion P tags → AllByRecursion P (map tag_of (chosen tags parts))
all_chosen P [] parts a = tt {0}
all_chosen P (t ∷ ts) parts a = all_by P t (held parts t) (chosen ts parts) a.0 (all_chosen P ts parts a.1)

order_by : (t : ℕ) (o : Option (List ℕ)) (others : List Lent) → IsSome (place t) → AllByRecursion (λ later. comes_before t later ≡ true)
    (map tag_of others)
    → InOrder (map tag_of others) → InOrder (map tag_of (chosen_by t o others))
order_by t y others p a o = grind (arith)

chosen_order : (tags : List ℕ) (parts : List Lent) → InOrder tags → InOrder (map tag_of (chosen tags parts))
chosen_order [] parts o = tt {0}
chosen_order (t ∷ ts) parts o = grind (arith, order_by, all_chosen, chosen_order ts parts o.2)

all_append : (P : ℕ → Type 0) (ts us : List ℕ) → AllByRecursion P ts → AllByRecursion P us → AllByRecursion P (ts ++ us)
all_append P [] us a b = b
all_append P (t ∷ ts) us a b = (a.0, all_append P ts us a.1 b)

order_append : (ts us : List ℕ) → InOrder ts → InOrder us → AllByRecursion (λ t. AllByRecursion (λ u. comes_before t u ≡ true) us) ts
    → InOrder (ts ++ us)
order_append [] us o p a = p
order_append (t ∷ ts) us o p a = (o.0, all_append (λ u. comes_before t u ≡ true) ts us o.1 a.0, order_append ts us o.2 p a.1)

custom_place : (tag : ℕ) → 128 ≤ tag → tag < 256 → place tag ≡ Some tag
unfolding place
custom_place tag h few = grind (arith, le-leb, lt-ltb)

customs_before : (t u : ℕ) → 128 ≤ t → t < u → u < 256 → comes_before t u ≡ true
unfolding comes_before
customs_before t u h l few = grind (arith, custom_place, lt-ltb)

all_counted : (P : ℕ → Type 0) (n first : ℕ) → ((u : ℕ) → first ≤ u → u < first + n → P u) → AllByRecursion P (counted_from first n)
unfolding counted_from
all_counted P zero first h = tt {0}
all_counted P (suc n) first h = (h first (omega arith) (omega arith), all_counted P n (suc first) (λ u l m. h u (omega arith) (omega arith)))

customs_order : (n first : ℕ) → 128 ≤ first → first + n ≤ 256 → InOrder (counted_from first n)
unfolding counted_from
customs_order zero first h few = tt {0}
customs_order (suc n) first h few = (
  subst (λ (o : Option ℕ). IsSome o) (sym (custom_place first h (omega arith))) refl,
  all_counted (λ u. comes_before first u ≡ true) n (suc first) (λ u l m. customs_before first u h (omega arith) (omega arith)),
  customs_order n (suc first) (omega arith) (omega arith),
)

component_by : (t : ℕ) (o : Option ℕ) → place t ≡ o → is_below o (Some 128) ≡ true
    → AllByRecursion (λ u. comes_before t u ≡ true) (counted_from 128 128)
unfolding comes_before
component_by t None e l = absurd (cc)
component_by t (Some n) e l = all_counted (λ u. comes_before t u ≡ true) 128 128 (λ u h m.
    let low = ltb-true n 128 l in
    ap (λ (o : Option ℕ). is_below o (place u)) e ∙ ap (λ (o : Option ℕ). is_below (Some n) o) (custom_place u h (omega arith))
    ∙ lt-ltb n u (omega arith))

component_before : (t : ℕ) → is_below (place t) (Some 128) ≡ true → AllByRecursion (λ u. comes_before t u ≡ true) (counted_from 128 128)
component_before t l = component_by t (place t) refl l

components_order : InOrder components
unfolding place comes_before
components_order = search rules

components_first : AllByRecursion (λ t. AllByRecursion (λ u. comes_before t u ≡ true) (counted_from 128 128)) components
unfolding place
components_first = search (rules, component_before)

pub all_placed : InOrder in_order
unfolding in_order
all_placed = order_append components (counted_from 128 128) components_order (customs_order 128 128 (omega arith) (omega arith)) components_first

pub all_in_order : (parts : List Lent) → InOrder (map tag_of (chosen in_order parts))
all_in_order parts = chosen_order in_order parts all_placed

counted_long : (n first : ℕ) → length (counted_from first n) ≡ n
unfolding counted_from
counted_long zero first = refl
counted_long (suc n) first = let rest = counted_long n (suc first) in omega arith

pub order_long : length in_order ≡ 139
unfolding in_order
order_long = omega (arith, length-append components (counted_from 128 128), counted_long 128 128)

pub joined_order : (f : ℕ → List ℕ) → flat_map f components ++ flat_map f (counted_from 128 128) ≡ flat_map f in_order
unfolding in_order
joined_order f = sym (flat_map-append f components (counted_from 128 128))
