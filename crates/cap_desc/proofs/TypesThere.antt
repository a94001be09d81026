-- Which types stand at an offset, as a relation and as the word that computes them.
use Rattle.std.proofs.Common.{◌≡◌, ℕ, zero, suc, ◌+◌, ◌-◌, ◌/◌, ◌≤◌, ◌<◌, Bool, cond, List, [], ◌∷◌, length}
use Rattle.std.proofs.Common.{take, Option, Some, None, Ok, Err, IfSome, IfNone, option_map, option_and_then, refl, sym, ◌∙◌, inl, inr, arith}
use Rattle.std.specs.Result.{result_ok}
use Rattle.std.proofs.lemmas.Bool.{cases_lt}
use Rattle.std.proofs.lemmas.Option.{option_and_then_some}
use Rattle.cap_bytes.specs.declared.fault.FormFault.{FormFault}
use Rattle.cap_bytes.specs.Number.{number_at}
use Rattle.cap_bytes.specs.Grammar.{any, piece, give, ◌>>=◌, when}
use Rattle.cap_bytes.specs.Spelling.{Spells, Stands, info_of}
use Rattle.cap_bytes.specs.Reading.{Reading, and_then, number_read, read}
use Rattle.cap_bytes.proofs.Laws.{spelled-read, read-spells}
use Rattle.cap_desc.specs.declared.type_list.TypeItem.{TypeItem}
use Rattle.cap_desc.specs.TypeFormat.{nibbles, class_nibbles, type_item, type_items, nibbles_read, types_in, one_type_in, nibbles_at}
use Rattle.cap_desc.specs.TypeFormat.{descriptor_nibbles, types_at, type_at}
use Rattle.cap_desc.specs.TypeDescriptor.{type_descriptor, TypesAt}
use Rattle.cap_desc.proofs.Counting.{at_place, most, most-more, most-ends, most-fails, with_front}
use Rattle.cap_desc.proofs.OneType.{one_type-none, one_type-alone, one_type-more}

-- a reading's value, where there is one
abbrev value_of : {X : Type 0} → Reading X → Option X
value_of r = option_map (λ p. p.0) (result_ok r)

found : {X : Type 0} (r : Reading X) (x : X) → value_of r ≡ Some x → (after : ℕ) × (r ≡ Ok (x, after))
found (Ok y) x h = let e : y.0 ≡ x = cc in (y.1, rw (← e) refl)
found (Err e) x h = absurd cc

some_then : {X Y : Type 0} (f : X → Option Y) (o : Option X) (x : X) (y : Y) → o ≡ Some x → f x ≡ Some y → option_and_then f o ≡ Some y
some_then f o x y h k = rw (h, k) refl

-- ---- the nibbles that stand at an offset

reached : (b : Bool) (part : List ℕ) (count end : ℕ) (fault : FormFault)
    → value_of (and_then (cond b (Ok (part, end)) (Err fault)) (λ bytes after. Ok (take count (nibbles bytes), after)))
    ≡ cond b (Some (take count (nibbles part))) None
reached x part count end fault = grind (arith)

counted : (o : Option ℕ) (bytes : List ℕ) (at : ℕ)
    → value_of
    (and_then (number_read (info_of 11) any bytes at (at + 1) o)
    (λ count after. read (info_of 11) (piece ((count + 1) / 2) >>= λ part. give (take count (nibbles part))) bytes after)) ≡ option_and_then
    (λ count. nibbles_at bytes (at + 1) count) o
counted x bytes at = grind (arith, reached)

nibbles-there : (bytes : List ℕ) (at : ℕ) → value_of (read (info_of 11) type_descriptor bytes at) ≡ descriptor_nibbles bytes at
nibbles-there bytes at = counted (number_at 1 at bytes) bytes at

pub chained : {X Y Z : Type 0} (f : X → Option Y) (g : Y → Option Z) (o : Option X) → option_and_then (λ x. option_and_then g (f x)) o
    ≡ option_and_then g (option_and_then f o)
chained f g x = grind (arith)

-- ---- the types that they spell

types-spelled : (ns : List ℕ) (ts : List TypeItem) → types_in ns ≡ Some ts → Stands type_items ns ts
unfolding types_in Stands
types-spelled ns ts h = let r = found (nibbles_read type_items ns 0) ts h in (r.0, read-spells (info_of 11) type_items ns 0 ts r.0 r.1)

spelled-types : (ns : List ℕ) (ts : List TypeItem) → Stands type_items ns ts → types_in ns ≡ Some ts
unfolding types_in Stands
spelled-types ns ts h = rw (spelled-read (info_of 11) type_items ns 0 ts h.0 h.1) refl

types-stand : (bytes : List ℕ) (at : ℕ) (ts : List TypeItem) → types_at bytes at ≡ Some ts → TypesAt bytes at ts
types-stand bytes at ts h =
    option_and_then_some (λ n. option_and_then types_in (nibbles_at bytes (at + 1) n)) (number_at 1 at bytes) ts h (λ count has_count has_types.
    option_and_then_some types_in (nibbles_at bytes (at + 1) count) ts has_types (λ ns has_nibbles spelled.
    let r = found (read (info_of 11) type_descriptor bytes at) ns
    (nibbles-there bytes at ∙ some_then (λ n. nibbles_at bytes (at + 1) n) (number_at 1 at bytes) count ns has_count has_nibbles) in
    record {
      nibbles = ns;
      after = r.0;
      there = read-spells (info_of 11) type_descriptor bytes at ns r.0 r.1;
      spelled = types-spelled ns ts spelled;
    }))

types-found : (bytes : List ℕ) (at : ℕ) (ts : List TypeItem) → TypesAt bytes at ts → types_at bytes at ≡ Some ts
types-found bytes at ts h =
    let r = spelled-read (info_of 11) type_descriptor bytes at h.nibbles h.after h.there in
    let ns : descriptor_nibbles bytes at ≡ Some h.nibbles = sym (nibbles-there bytes at) ∙ rw r refl in
    chained (λ count. nibbles_at bytes (at + 1) count) types_in (number_at 1 at bytes) ∙ rw ns (spelled-types h.nibbles ts h.spelled)

-- ---- one type alone

-- the type of a list of one
abbrev only : List TypeItem → Option TypeItem
only [] = None
only (t ∷ []) = Some t
only (t ∷ u ∷ ts) = None

farther : (b : Bool) (ns : List ℕ) (at c after : ℕ) → Spells (when b 0 class_nibbles) ns at c after → at ≤ after
unfolding Spells
farther x ns at c after h = grind (arith)

type-rises : (ns : List ℕ) (at : ℕ) (t : TypeItem) (after : ℕ) → nibbles_read type_item ns at ≡ Ok (t, after) → at < after
unfolding Spells
type-rises ns at t after e = grind (arith, read-spells, farther)

none_more : (t : TypeItem) (r : Reading (List TypeItem)) → result_ok r ≡ None → option_and_then only (value_of (with_front (t ∷ []) r)) ≡ None
none_more t x h = grind (arith)

two : (t u : TypeItem) (r : Reading (List TypeItem)) → option_and_then only (value_of (with_front (t ∷ []) (with_front (u ∷ []) r))) ≡ None
two t u x = grind (arith)

more_follow : (t : TypeItem) (ns : List ℕ) (n at : ℕ) (r : Reading TypeItem) → at_place type_item ns at ≡ r → at < length ns
    → option_and_then only (value_of (with_front (t ∷ []) (most type_item (suc n) ns at))) ≡ None
more_follow t ns n at x e lt = grind (arith, most-more, two, none_more, suc, most-fails)

first_of : (ns : List ℕ) (n : ℕ) (r : Reading TypeItem) → nibbles_read type_item ns 0 ≡ r → suc n ≡ length ns
    → one_type_in ns ≡ option_and_then only (value_of (most type_item (suc n) ns 0))
first_of ns n (Err fault) e len = grind (arith, most-fails, one_type-none)
first_of ns n (Ok x) e len =
    let step = most-more type_item ns n 0 x.1 x.0 (omega (arith, len)) e in
    elim (cases_lt x.1 (length ns)) [
      | inl lt ↦ one_type-more ns x.0 x.1 (rw e refl) lt ∙ rw step (sym (others n ns x.0 x.1 (omega (arith, len, lt, type-rises ns 0 x.0 x.1 e)) lt))
      | inr le ↦ one_type-alone ns x.0 x.1 (rw e refl) le ∙ rw (step, most-ends type_item ns n x.1 le) refl
    ]
  where
    others : (n : ℕ) (ns : List ℕ) (t : TypeItem) (at : ℕ) → 0 < n → at < length ns
        → option_and_then only (value_of (with_front (t ∷ []) (most type_item n ns at))) ≡ None
    others zero ns t at more lt = absurd (omega (arith, more))
    others (suc n) ns t at more lt = more_follow t ns n at _ refl lt

by_length : (ns : List ℕ) (n : ℕ) → n ≡ length ns → one_type_in ns ≡ option_and_then only (value_of (most type_item n ns 0))
by_length ns (suc n) e = first_of ns n _ refl e
by_length [] zero e = one_type-none [] refl
by_length (m ∷ ns) zero e = absurd (omega (arith, e))

one-only : (ns : List ℕ) → one_type_in ns ≡ option_and_then only (types_in ns)
unfolding types_in
one-only ns = by_length ns (length ns - 0) (omega arith)

one_there : (bytes : List ℕ) (at : ℕ) (o : Option ℕ) → option_and_then (λ count. option_and_then one_type_in (nibbles_at bytes (at + 1) count)) o
    ≡ option_and_then only (option_and_then (λ count. option_and_then types_in (nibbles_at bytes (at + 1) count)) o)
one_there bytes at None = refl
one_there bytes at (Some count) = of_nibbles (nibbles_at bytes (at + 1) count)
  where
    of_nibbles : (o : Option (List ℕ)) → option_and_then one_type_in o ≡ option_and_then only (option_and_then types_in o)
    of_nibbles None = refl
    of_nibbles (Some ns) = one-only ns

type-only : (bytes : List ℕ) (at : ℕ) → type_at bytes at ≡ option_and_then only (types_at bytes at)
type-only bytes at = one_there bytes at (number_at 1 at bytes)

alone : (ts : List TypeItem) (t : TypeItem) → only ts ≡ Some t → ts ≡ t ∷ []
alone x t h = grind (arith)

type-found : (bytes : List ℕ) (at : ℕ) (t : TypeItem) → TypesAt bytes at (t ∷ []) → type_at bytes at ≡ Some t
type-found bytes at t h = type-only bytes at ∙ rw (types-found bytes at (t ∷ []) h) refl

-- ---- what a reader promises

pub found_types : {R : Type 0} (seen : R → List TypeItem) (bytes : List ℕ) (at : ℕ) (r : Option R) → option_map seen r ≡ types_at bytes at
    → IfSome r (λ x. TypesAt bytes at (seen x))
found_types seen bytes at x h = grind (arith, types-stand)

pub no_types : {R : Type 0} (seen : R → List TypeItem) (bytes : List ℕ) (at : ℕ) (r : Option R) → option_map seen r ≡ types_at bytes at
    → IfNone r ((ts : List TypeItem) → TypesAt bytes at ts → ⊥)
no_types seen bytes at (Some x) h = tt
no_types seen bytes at None h = λ ts there. let e : None ≡ Some ts = h ∙ types-found bytes at ts there in absurd cc

pub one_list : (bytes : List ℕ) (at : ℕ) (ts us : List TypeItem) → TypesAt bytes at ts → TypesAt bytes at us → ts ≡ us
one_list bytes at ts us h k = let e : Some ts ≡ Some us = sym (types-found bytes at ts h) ∙ types-found bytes at us k in cc

pub found_type : (bytes : List ℕ) (at : ℕ) (r : Option TypeItem) → r ≡ type_at bytes at → IfSome r (λ t. TypesAt bytes at (t ∷ []))
found_type bytes at x h = grind (arith, option_and_then_some, type-only, alone, types-stand)

pub no_type : (bytes : List ℕ) (at : ℕ) (r : Option TypeItem) → r ≡ type_at bytes at
    → IfNone r ((t : TypeItem) → TypesAt bytes at (t ∷ []) → ⊥)
no_type bytes at (Some t) h = tt
no_type bytes at None h = λ t there. let e : None ≡ Some t = h ∙ type-found bytes at t there in absurd cc
