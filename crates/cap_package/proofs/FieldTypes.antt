-- The type that a field names is one of a field.
use Rattle.std.proofs.Common.{◌≡◌, ℕ, ◌≤◌, true, false, leb, eqb, List, Option, Some, Ok, Err, refl}
use Rattle.std.proofs.Common.{arith}
use Rattle.std.specs.Prelude.{option_and_then, option_map}
use Rattle.std.specs.Result.{result_ok}
use Rattle.std.proofs.lemmas.Bool.{leb-true, le-leb, ne_eqb}
use Rattle.cap_bytes.specs.Grammar.{◌>>=◌}
use Rattle.cap_bytes.specs.Reading.{Reading}
use Rattle.cap_bytes.specs.Spelling.{Spells}
use Rattle.cap_bytes.proofs.Laws.{read-spells}
use Rattle.cap_desc.specs.declared.type_list.TypeItem.{TypeItem}
use Rattle.cap_desc.specs.TypeFormat.{is_type, one_type_in}
use Rattle.cap_components.specs.Descriptions.{Description, no_void, field_type}

if_some : {X Y : Type 0} (f : X → Option Y) (o : Option X) (y : Y) → option_and_then f o ≡ Some y → (x : X) × (f x ≡ Some y)
if_some f x y h = grind (arith)

read_some : (r : Reading TypeItem) (t : TypeItem) → option_map (λ p. p.0) (result_ok r) ≡ Some t → (after : ℕ) × (r ≡ Ok (t, after))
read_some (Ok x) t h = let e : x.0 ≡ t = cc in (x.1, rw (← e) refl)
read_some (Err e) t h = absurd cc

one_typed : (ns : List ℕ) (t : TypeItem) → one_type_in ns ≡ Some t → is_type t.nibble ≡ true
unfolding one_type_in Spells
one_typed ns t h = grind (arith, read_some, read-spells)

-- a type that a field may have: one of the table of types, and no void
pub record IsFieldType (t : TypeItem) : Type 0 where
  pub typed : is_type t.nibble ≡ true
  pub no_void : eqb t.nibble 1 ≡ false

by_number : (n : ℕ) (t : TypeItem) → 2 ≤ n → n ≤ 5 → Some (record { nibble = n; class_ref = 0 }) ≡ Some t → IsFieldType t
by_number n t low high h = grind (arith, ne_eqb, le-leb)

pub field_typed : (d : Description) (ty : ℕ) (t : TypeItem) → field_type d ty ≡ Some t → IsFieldType t
unfolding field_type
field_typed d ty t h = grind (arith, leb, leb-true, by_number, if_some, one_typed, eqb)
