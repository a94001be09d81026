-- The initial arrays lie in the component, so they are short.
use Rattle.std.proofs.Common.{◌≡◌, ℕ, zero, suc, ◌+◌, ◌≤◌, List, [], ◌∷◌, length, drop, Ok, Err, IsTrue, refl, ap, ◌∙◌, arith}
use Rattle.std.proofs.Common.{length-take-le, length-drop}
use Rattle.std.proofs.lemmas.List.Sums.{sum_by-cons}
use Rattle.cap_bytes.specs.Grammar.{give, ◌>>=◌, repeat}
use Rattle.cap_bytes.specs.Spelling.{Origin, Spells}
use Rattle.cap_bytes.specs.Reading.{Reading, read, is_read, value_or}
use Rattle.cap_bytes.specs.Taking.{gives, given}
use Rattle.cap_bytes.proofs.Laws.{then_ok, read-spells, pair_ok}
use Rattle.cap_method.specs.declared.static_part.ArrayInits.{ArrayInits}
use Rattle.cap_method.specs.StaticFormat.{Array, array_init_info}
use Rattle.cap_method.specs.StaticPart.{arrays_left}
use Rattle.cap_package.specs.CountChecks.{array_bytes}

-- an array lies between its place and the next
pub record LiesWithin (bytes : List ℕ) (at n after : ℕ) : Type 0 where
  pub room : n + at ≤ after
  pub reach : after ≤ length bytes

array_within : (bytes : List ℕ) (at : ℕ) (a : Array) (after : ℕ) → Spells array_init_info bytes at a after
    → LiesWithin bytes at (length a.values) after
unfolding Spells
array_within bytes at a after h = grind (arith, length, drop, length-drop, length-take-le)

abbrev front : Array → List Array → ℕ → Reading (List Array)
front a ys p = Ok (a ∷ ys, p)

one_more : (a : Array) (others : List Array) → array_bytes (a ∷ others) ≡ length a.values + array_bytes others
one_more a others = sum_by-cons (λ (x : Array). length x.values) a others

arrays_within : (n : ℕ) (from : Origin) (bytes : List ℕ) (at : ℕ) (xs : List Array) (after : ℕ) → at ≤ length bytes
    → read from (repeat n array_init_info) bytes at ≡ Ok (xs, after) → LiesWithin bytes at (array_bytes xs) after
arrays_within zero from bytes at xs after le h = grind (arith, pair_ok)
arrays_within (suc n) from bytes at xs after le h =
    let t = then_ok (read from array_init_info bytes at) (λ x middle. read from (repeat n array_init_info >>= λ ys. give (x ∷ ys)) bytes middle) xs
    after h in
    let u = then_ok (read from (repeat n array_init_info) bytes t.1) (λ ys p. front t.0 ys p) xs after t.3 in
    let e = pair_ok (t.0 ∷ u.0) xs u.1 after u.3 in
    let w = array_within bytes at t.0 t.1 (read-spells from array_init_info bytes at t.0 t.1 t.2) in
    let v = arrays_within n from bytes t.1 u.0 u.1 w.reach u.2 in
    let sum : array_bytes xs ≡ length t.0.values + array_bytes u.0 = ap array_bytes e.0 ∙ one_more t.0 u.0 in
    record { room = omega (arith, w.room, v.room, sum, e.1); reach = omega (arith, v.reach, e.1) }

value_short : (bytes : List ℕ) (at : ℕ) (r : Reading (List Array))
    → ((xs : List Array) (after : ℕ) → r ≡ Ok (xs, after) → LiesWithin bytes at (array_bytes xs) after) → IsTrue (is_read r)
    → array_bytes (value_or [] r) ≤ length bytes
value_short bytes at (Ok x) known h = let w = known x.0 x.1 refl in omega (arith, w.room, w.reach)
value_short bytes at (Err e) known h = absurd cc

pub arrays_short : (x : ArrayInits) → array_bytes (arrays_left x) ≤ 65535
unfolding gives given
arrays_short x = grind (arith, value_short, arrays_within)
