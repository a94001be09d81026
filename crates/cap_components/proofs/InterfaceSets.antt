-- The set of the offsets at which records of interfaces stand, record by record.
use Rattle.std.proofs.Common.{arith}
use Rattle.std.proofs.Common.{◌≡◌, ℕ, Bool, true, false, ◌||◌, ◌&&◌, eqb, List, [], ◌∷◌}
use mathlib.Core.Path.{fun_ext}
use Rattle.std.proofs.Math.Bool.{or-false}
use Rattle.cap_class.specs.ClassFormat.{Class, is_interface}
use Rattle.offset_set.specs.Sets.{also, either}
use Rattle.cap_components.specs.PackageRecord.{names_interface}

pub no_class : (set : ℕ → Bool) → either set (names_interface []) ≡ set
unfolding names_interface
no_class set = fun_ext (λ offset. or-false (set offset))

turned : (a b c : Bool) → ((a || b) || c) ≡ (b || ((a && true) || c))
turned x x2 c = grind (arith)

pub one_interface : (set : ℕ → Bool) (c : Class) (cs : List Class) → is_interface c.flags ≡ true → either (also c.offset set) (names_interface cs)
    ≡ either set (names_interface (c ∷ cs))
unfolding names_interface
one_interface set c cs e = fun_ext (λ offset. rw e (turned (eqb c.offset offset) (set offset) (names_interface cs offset)))

passed : (a b c : Bool) → (b || c) ≡ (b || ((a && false) || c))
passed x b c = grind (arith)

pub one_class : (set : ℕ → Bool) (c : Class) (cs : List Class) → is_interface c.flags ≡ false
    → either set (names_interface cs) ≡ either set (names_interface (c ∷ cs))
unfolding names_interface
one_class set c cs e = fun_ext (λ offset. rw e (passed (eqb c.offset offset) (set offset) (names_interface cs offset)))
