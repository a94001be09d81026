-- The slots of classes as they are filled.
use Rattle.std.proofs.Common.{◌≡◌, ℕ, zero, suc, ◌+◌, ◌≤◌, ◌<◌, set, List, [], ◌∷◌, ◌++◌, length, map, length-set, get_or}
use Rattle.std.proofs.Common.{append_assoc, append-nil, replicate, Option, Some, None, refl, sym, ap, ◌∙◌, arith}
use Rattle.std.specs.List.{range_with_len}
use Rattle.std.proofs.lemmas.List.{length-replicate}
use Rattle.std.specs.Prelude.{All, filter_map, IfSome, slice_get}
use Rattle.std.specs.Option.{option_to_list, option_map, option_flatten, option_and_then}
use Rattle.std.proofs.lemmas.Bool.{cases_lt, false≢true, cases_eq}
use Rattle.std.proofs.lemmas.List.Sums.{sum_by-le}
use Rattle.jc_base.proofs.Lists.{All-slice_get, slice_get-set_here, slice_get-set_other}
use Rattle.jc_base.specs.Class.{list_of}
use Rattle.jc_classes.specs.Outline.{LineTable, AreLines, chain, parent_of}
use Rattle.jc_classes.proofs.Bare.{next_on_chain, chain-length, chain-front, parent_of-class}
use Rattle.jc_classes.specs.KnownLines.{HaveSuperclasses}
use Rattle.jc_classes.proofs.Climbs.{chain_from, chain_step, climbed_whole, head_same, tail_same, no_end}
use Rattle.jc_resolve.specs.declared.naming.NamedClass.{NamedClass}
use Rattle.jc_resolve.specs.Named.{IsSized}
use Rattle.jc_classes.specs.declared.overlay.ClassLayout.{ClassLayout}
use Rattle.jc_classes.specs.Layout.{layouts, of_class, own_of, instance_cells, class_layout, class_layout_from, above_or_nothing, at_home}
use Rattle.jc_classes.specs.Slots.{slot_at, IsFilled, AreLayouts, IsMade, KeepsFilled, IsClimb}
use Rattle.jc_classes.proofs.Steps.{layout_step}

-- ---- a write to a slot

pub filled-here : (slots : List (Option ClassLayout)) (c : ℕ) (l : ClassLayout) → c < length slots → slot_at (set slots c (Some l)) c ≡ Some l
unfolding slot_at
filled-here slots c l h = ap option_flatten (slice_get-set_here slots c (Some l) h)

pub filled-other : (slots : List (Option ClassLayout)) (c d : ℕ) (l : ClassLayout) → (c ≡ d → ⊥)
    → slot_at (set slots c (Some l)) d ≡ slot_at slots d
unfolding slot_at
filled-other slots c d l ne = ap option_flatten (slice_get-set_other slots c d (Some l) ne)

pub slots_filled : (t : LineTable) (classes : List NamedClass) (slots : List (Option ClassLayout)) (c : ℕ) (l : ClassLayout)
    → AreLayouts t classes slots → c < length classes → l ≡ class_layout t classes c
    → AreLayouts t classes (set slots c (Some l))
slots_filled t classes slots c l are h is = grind (arith, length-set, cases_eq, filled-here, filled-other)

pub slots_kept : (t : LineTable) (classes : List NamedClass) (slots : List (Option ClassLayout)) (c : ℕ) (l : ClassLayout) → AreLayouts t classes slots
    → c < length classes → l ≡ class_layout t classes c
    → KeepsFilled t classes slots (set slots c (Some l))
slots_kept t classes slots c l are h is = grind (arith, cases_eq, filled-here, filled-other)

-- ---- the superclass's slot

-- ---- how many cells an instance can have

own_few_by : (o : Option NamedClass) → IfSome o IsSized → length (of_class [] (λ k. k.own) o) ≤ 131070
own_few_by x h = grind (arith)

pub sized_at : (classes : List NamedClass) (c : ℕ) (o : Option NamedClass) → slice_get classes c ≡ o → All IsSized classes → IfSome o IsSized
sized_at classes c None e all = tt
sized_at classes c (Some k) e all = All-slice_get IsSized classes c k all e

own_few : (classes : List NamedClass) (c : ℕ) → All IsSized classes → length (own_of classes c) ≤ 131070
unfolding own_of
own_few classes c all = own_few_by (slice_get classes c) (sized_at classes c (slice_get classes c) refl all)

pub cells_few : (t : LineTable) (classes : List NamedClass) (c : ℕ) → All IsSized classes → length t.lines ≤ 4096
    → instance_cells t classes c ≤ 536993790
unfolding instance_cells
cells_few t classes c all few =
    let sum = sum_by-le (λ a. length (own_of classes a)) 131070 (chain t c) (grind (arith, own_few, get_or)) in
    let long = chain-length t c in
    omega (arith, sum, long)

pub above_few : (t : LineTable) (classes : List NamedClass) (above : Option ℕ) → All IsSized classes → length t.lines ≤ 4096
    → (above_or_nothing (option_map (class_layout t classes) above)).cells ≤ 536993790
unfolding class_layout
above_few t classes z all few = grind (arith, cells_few)

-- ---- a class made from the one above it

pub up_is : (t : LineTable) (classes : List NamedClass) (slots : List (Option ClassLayout)) (above : Option ℕ) (up : Option ClassLayout)
    → up ≡ option_and_then (slot_at slots) above → IfSome above (IsFilled t classes slots) → up ≡ option_map (class_layout t classes) above
up_is t classes slots above up e made = grind (arith)

pub up_few : (t : LineTable) (classes : List NamedClass) (slots : List (Option ClassLayout)) (above : Option ℕ) (up : Option ClassLayout)
    → up ≡ option_and_then (slot_at slots) above → IfSome above (IsFilled t classes slots) → HaveSuperclasses t classes
    → (above_or_nothing up).cells ≤ 536993790
up_few t classes slots above up e made known =
    rw (up_is t classes slots above up e made) (above_few t classes above known.sized (omega (arith, known.few, known.count)))

pub made_right : (t : LineTable) (classes : List NamedClass) (slots : List (Option ClassLayout)) (above : Option ℕ) (up : Option ClassLayout) (c : ℕ)
    (k : NamedClass) (made : ClassLayout) → AreLayouts t classes slots → c < length classes
    → up ≡ option_and_then (slot_at slots) above → IfSome above (IsFilled t classes slots) → slice_get classes c ≡ Some k
    → chain t c ≡ c ∷ list_of (chain t) above
    → made ≡ class_layout_from k (above_or_nothing up) (at_home t above c) → IsMade t classes slots (set slots c (Some made)) c
made_right t classes slots above up c k made are known e filled at step is =
    let same : made ≡ class_layout t classes c =
    is ∙ ap (λ (o : Option ClassLayout). class_layout_from k (above_or_nothing o) (at_home t above c)) (up_is t classes slots above up e filled)
    ∙ sym (layout_step t classes c above k step at) in
    let within : c < length slots = omega (arith, are.count) in
    record {
      slots = slots_filled t classes slots c made are known same;
      keeps = slots_kept t classes slots c made are known same;
      filled = filled-here slots c made within ∙ ap Some same;
    }

pub ruleset makes = (up_few, made_right)

-- ---- down the climbed classes

known_by : (t : LineTable) (c : ℕ) (above : Option ℕ) → AreLines t → parent_of t c ≡ above → IfSome above (λ p. p < length t.lines)
known_by t c None are e = tt
known_by t c (Some p) are e = (next_on_chain t c p are (parent_of-class t c p e) e).class.number

above_known_by : (t : LineTable) (above : Option ℕ) (xs : List ℕ) (x : ℕ) (rest : List ℕ)
    → ((p : ℕ) → p < length t.lines → xs ++ (x ∷ rest) ≡ chain t p → x < length t.lines)
    → IfSome above (λ p. p < length t.lines) → xs ++ (x ∷ rest) ≡ list_of (chain t) above → x < length t.lines
above_known_by t y xs x rest further known e = grind (arith, no_end)

-- the number of each class on a chain is that of a record
on_chain_known : (t : LineTable) → AreLines t → (xs : List ℕ) (c x : ℕ) (rest : List ℕ) → c < length t.lines
    → xs ++ (x ∷ rest) ≡ chain t c → x < length t.lines
on_chain_known t are [] c x rest h e = grind (arith, chain-front t c, head_same)
on_chain_known t are (y ∷ xs) c x rest h e =
    above_known_by t (parent_of t c) xs x rest (λ p k g. on_chain_known t are xs p x rest k g) (known_by t c (parent_of t c) are refl)
    (tail_same y c (xs ++ (x ∷ rest)) (list_of (chain t) (parent_of t c)) (e ∙ chain_step t c are))

taken : (t : LineTable) (path rest : List ℕ) (x : ℕ) (above : Option ℕ) (c : ℕ) → path ≡ rest ++ (x ∷ [])
    → path ++ list_of (chain t) above ≡ chain t c → rest ++ (x ∷ list_of (chain t) above) ≡ chain t c
taken t path rest x above c e whole = grind (arith, append_assoc)

-- the last class of the path stands below the class above it
pub down_step : (t : LineTable) (path rest : List ℕ) (x : ℕ) (above : Option ℕ) (c : ℕ) → AreLines t → path ≡ rest ++ (x ∷ [])
    → path ++ list_of (chain t) above ≡ chain t c → chain t x ≡ x ∷ list_of (chain t) above
down_step t path rest x above c are e whole = chain_from t are rest c x (list_of (chain t) above) (taken t path rest x above c e whole)

pub down_known : (t : LineTable) (classes : List NamedClass) (path rest : List ℕ) (x : ℕ) (above : Option ℕ) (c : ℕ) → AreLines t
    → HaveSuperclasses t classes → c < length classes → path ≡ rest ++ (x ∷ []) → path ++ list_of (chain t) above ≡ chain t c
    → x < length classes
down_known t classes path rest x above c are known h e whole =
    let low : c < length t.lines = omega (arith, known.count) in
    let k = on_chain_known t are rest c x (list_of (chain t) above) low (taken t path rest x above c e whole) in
    omega (arith, known.count, k)

-- ---- the invariant of the descent

pub record IsDescent (t : LineTable) (classes : List NamedClass) (first : List (Option ClassLayout)) (slots : List (Option ClassLayout)) (c : ℕ)
    (path : List ℕ) (above : Option ℕ) : Type 0 where
  pub whole : path ++ list_of (chain t) above ≡ chain t c
  pub right : AreLayouts t classes slots
  pub keeps : KeepsFilled t classes first slots
  pub filled : IfSome above (IsFilled t classes slots)
  pub known : IfSome above (λ p. p < length classes)

pub descent_first : (t : LineTable) (classes : List NamedClass) (slots : List (Option ClassLayout)) (c : ℕ) (path : List ℕ) (above : Option ℕ)
    → HaveSuperclasses t classes → AreLayouts t classes slots → IsClimb t slots c path above → IsDescent t classes slots slots c path above
descent_first t classes slots c path above known are climb = grind (arith, false≢true)

pub descent_next : (t : LineTable) (classes : List NamedClass) (first slots next : List (Option ClassLayout)) (c : ℕ) (path rest : List ℕ) (x : ℕ)
    (above : Option ℕ) → AreLines t → HaveSuperclasses t classes → c < length classes → path ≡ rest ++ (x ∷ [])
    → IsDescent t classes first slots c path above → IsMade t classes slots next x → IsDescent t classes first next c rest (Some x)
descent_next t classes first slots next c path rest x above are known low e d made = grind (arith, down_known, down_step, taken)

pub descent_last : (t : LineTable) (classes : List NamedClass) (first slots : List (Option ClassLayout)) (c : ℕ) (path : List ℕ) (above : Option ℕ)
    → path ≡ [] → IsDescent t classes first slots c path above → IsMade t classes first slots c
descent_last t classes first slots c path above e d = grind (arith, climbed_whole)

pub ruleset fills = (descent_first, descent_last, down_step, down_known)

-- ---- all classes

-- slots of which those below a number are filled
pub record AreFilledBelow (t : LineTable) (classes : List NamedClass) (slots : List (Option ClassLayout)) (n : ℕ) : Type 0 where
  pub right : AreLayouts t classes slots
  pub filled : (c : ℕ) → c < n → IsFilled t classes slots c

nothing_there : (n c : ℕ) → option_flatten (slice_get {X = Option ClassLayout} (replicate n None) c) ≡ None
nothing_there zero c = refl
nothing_there (suc n) zero = refl
nothing_there (suc n) (suc c) = nothing_there n c

pub none_filled : (t : LineTable) (classes : List NamedClass) (slots : List (Option ClassLayout)) (n : ℕ) → n ≡ length classes
    → slots ≡ replicate n None → AreFilledBelow t classes slots 0
unfolding slot_at
none_filled t classes slots n m e = grind (arith, length-replicate, nothing_there)

pub more_filled : (t : LineTable) (classes : List NamedClass) (old new : List (Option ClassLayout)) (n : ℕ) → AreFilledBelow t classes old n
    → IsMade t classes old new n → AreFilledBelow t classes new (n + 1)
more_filled t classes old new n are made = grind (arith, cases_lt)

there_by : {A : Type 0} (xs : List (Option A)) (o : Option A) → filter_map (λ o. o) (xs ++ (o ∷ [])) ≡ filter_map (λ o. o) xs ++ option_to_list o
there_by [] None = refl
there_by [] (Some x) = refl
there_by (None ∷ xs) o = there_by xs o
there_by (Some y ∷ xs) o = ap (λ ys. y ∷ ys) (there_by xs o)

-- one more slot, filled or empty
pub there_more : {A : Type 0} (xs : List (Option A)) (o : Option A) (x : A) (ys : List A) → o ≡ Some x → ys ≡ filter_map (λ o. o) xs
    → ys ++ (x ∷ []) ≡ filter_map (λ o. o) (xs ++ (o ∷ []))
there_more xs o x ys e h = rw e (ap (λ zs. zs ++ (x ∷ [])) h ∙ sym (there_by xs (Some x)))

pub there_same : {A : Type 0} (xs : List (Option A)) (o : Option A) (ys : List A) → o ≡ None → ys ≡ filter_map (λ o. o) xs
    → ys ≡ filter_map (λ o. o) (xs ++ (o ∷ []))
there_same xs o ys e h = rw e (h ∙ sym (append-nil (filter_map (λ o. o) xs)) ∙ sym (there_by xs None))

pub ruleset slots_read = (there_more, there_same)

-- the items of a list that are there are those that a function gives by number
all_some : {A : Type 0} (f : ℕ → A) (slots : List (Option A)) (a : ℕ)
    → ((c : ℕ) → c < length slots → option_flatten (slice_get slots c) ≡ Some (f (a + c)))
    → filter_map (λ o. o) slots ≡ map f (range_with_len a (length slots))
all_some f [] a h = refl
all_some f (o ∷ os) a h =
    let here : option_flatten (Some o) ≡ Some (f (a + 0)) = h 0 (omega arith) in
    let start : a + 0 ≡ a = omega arith in
    let first : o ≡ Some (f a) = here ∙ ap (λ (n : ℕ). Some (f n)) start in
    let rest = all_some f os (a + 1) (λ c k. shifted c k) in
    rw first (ap (λ xs. f a ∷ xs) rest)
  where
    shifted : (c : ℕ) → c < length os → option_flatten (slice_get os c) ≡ Some (f (a + 1 + c))
    shifted c k = let e : a + suc c ≡ a + 1 + c = omega arith in h (suc c) (omega arith) ∙ ap (λ (n : ℕ). Some (f n)) e

pub all_filled : (t : LineTable) (classes : List NamedClass) (slots : List (Option ClassLayout)) → AreFilledBelow t classes slots (length classes)
    → filter_map (λ o. o) slots ≡ layouts t classes
unfolding slot_at
all_filled t classes slots are = grind (arith, all_some)

pub ruleset filled_in_turn = (none_filled, more_filled, all_filled)
