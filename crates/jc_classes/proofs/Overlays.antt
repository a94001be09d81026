-- What a table makes of an inherited list.
use Rattle.std.proofs.Common.{◌≡◌, ℕ, ◌≤◌, ◌<◌, max, Bool, ltb, List, [], ◌∷◌, length, map, Some, None}
use Rattle.std.proofs.Common.{refl, ap, ◌∙◌, arith}
use Rattle.std.specs.Prelude.{slice_get}
use Rattle.std.specs.Option.{option_or, option_flatten}
use Rattle.std.specs.List.{range_with_len}
use Rattle.std.proofs.lemmas.Bool.{cases_lt, ltb-false}
use Rattle.std.proofs.lemmas.Option.{slice_get-get_or, slice_get_past}
use Rattle.std.proofs.lemmas.List.FromFn.{length-map-range_with_len, get_or-map-range_with_len}
use Rattle.jc_resolve.specs.declared.naming.DispatchTable.{DispatchTable}
use Rattle.jc_classes.specs.Entries.{reach, reach_of, named_by, method_named, dispatch_list, overlaid, overlaid_at}

pub map-same : {A B : Type 0} (f g : A → B) → ((x : A) → f x ≡ g x) → (xs : List A) → map f xs ≡ map g xs
map-same f g h [] = refl
map-same f g h (x ∷ xs) = ap (λ y. y ∷ map f xs) (h x) ∙ ap (λ ys. g x ∷ ys) (map-same f g h xs)

-- a list by number, at a number
pub slice_get-range : {A : Type 0} (f : ℕ → A) (n k : ℕ) → k < n → slice_get (map f (range_with_len 0 n)) k ≡ Some (f k)
slice_get-range f n k h =
    grind (arith, length-map-range_with_len f 0 n, get_or-map-range_with_len f 0 n k k (f k) h (omega arith), slice_get-get_or)

named_past_by : (table : DispatchTable) (token : ℕ) (b : Bool) → ltb token table.base ≡ b → reach table ≤ token → named_by table token ≡ None
unfolding named_by reach
named_past_by table token z e h = grind (arith, ltb-false, slice_get_past)

pub named_past : (table : DispatchTable) (token : ℕ) → reach table ≤ token → named_by table token ≡ None
named_past table token h = named_past_by table token (ltb token table.base) refl h

method_past : (tables : List DispatchTable) (token : ℕ) → reach_of tables ≤ token → method_named tables token ≡ None
method_past [] token h = refl
method_past (table ∷ tables) token h =
    let here : reach table ≤ token = omega arith in
    let rest : reach_of tables ≤ token = omega arith in
    ap (λ o. option_or o (method_named tables token)) (named_past table token here) ∙ method_past tables token rest

-- the method that a dispatch list has at a token
pub entry_is : (tables : List DispatchTable) (token : ℕ) → option_flatten (slice_get (dispatch_list tables) token) ≡ method_named tables token
unfolding dispatch_list
entry_is tables token = grind (arith, cases_lt, slice_get-range, method_past, slice_get_past, map, length-map-range_with_len)

pub length-entries : (tables : List DispatchTable) → length (dispatch_list tables) ≡ reach_of tables
unfolding dispatch_list
length-entries tables = length-map-range_with_len (method_named tables) 0 (reach_of tables)

overlaid_is : (table : DispatchTable) (tables : List DispatchTable) (token : ℕ) → overlaid_at table (dispatch_list tables) token
    ≡ method_named (table ∷ tables) token
unfolding overlaid_at
overlaid_is table tables token = ap (λ o. option_or (named_by table token) o) (entry_is tables token)

-- a class's list is that of its superclass, overwritten and extended by its own table
pub overlaid-is : (table : DispatchTable) (tables : List DispatchTable) → overlaid table (dispatch_list tables) ≡ dispatch_list (table ∷ tables)
unfolding dispatch_list
overlaid-is table tables = grind (arith, max, length-entries, map-same, overlaid_is)
