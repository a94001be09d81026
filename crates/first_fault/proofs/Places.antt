-- The order of places.
use Rattle.std.proofs.Common.{◌≡◌, Bool, true, false, ltb, eqb, refl, inr, arith}
use Rattle.std.specs.Prelude.{◌||◌, ◌&&◌}
use Rattle.std.proofs.lemmas.Bool.{ltb-true, ltb-false, eqb-true, eqb-false}
use Rattle.first_fault.specs.declared.place.Place.{Place}
use Rattle.first_fault.specs.Order.{IsBefore, IsUpTo, comes_before}

pub up_to-refl : (a : Place) → IsUpTo a a
up_to-refl a = inr (refl, omega arith)

pub up_to-before : (a b c : Place) → IsUpTo a b → IsBefore b c → IsBefore a c
up_to-before a b c x x2 = grind (arith)

pub before-then : (a b c : Place) → IsBefore a b → IsUpTo b c → IsBefore a c
before-then a b c x x2 = grind (arith)

pub before-up_to : (a b : Place) → IsBefore a b → IsUpTo a b
before-up_to a b x = grind (arith)

by_cases : (a b : Place) (l e s : Bool) → ltb a.first b.first ≡ l → eqb a.first b.first ≡ e → ltb a.second b.second ≡ s
    → (l || (e && s)) ≡ true → IsBefore a b
by_cases a b x e s p q r h = grind (arith, ltb-true, eqb-true)

pub before-true : (a b : Place) → comes_before a b ≡ true → IsBefore a b
before-true a b h = by_cases a b _ _ _ refl refl refl h

pub before-false : (a b : Place) → comes_before a b ≡ false → IsUpTo b a
before-false a b h = grind (arith, eqb-true, ltb-false, eqb-false)
