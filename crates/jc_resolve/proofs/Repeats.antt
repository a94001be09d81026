-- Several items of one kind: what holds of each, and how many bytes they take.
use Rattle.std.proofs.Common.{◌≡◌, ℕ, zero, suc, ◌+◌, ◌≤◌, List, [], ◌∷◌, length, Ok, Err}
use Rattle.std.proofs.Common.{refl, sym, ap, subst, arith}
use Rattle.std.proofs.lemmas.Bool.{leb-true}
use Rattle.std.proofs.lemmas.List.Elements.{All-nil}
use Rattle.std.proofs.lemmas.List.Sums.{sum_by-cons}
use Rattle.std.specs.Prelude.{All, IsTrue, sum_by}
use Rattle.cap_bytes.specs.declared.cursor.Cursor.{Cursor}
use Rattle.cap_bytes.specs.Grammar.{Grammar, give, number, piece, remaining, place, finish, ◌>>=◌, repeat}
use Rattle.cap_bytes.specs.Spelling.{info_of, Spells}
use Rattle.cap_bytes.specs.Reading.{Reading, is_read, value_or}
use Rattle.cap_bytes.specs.Taking.{next, gives, given}
use Rattle.cap_bytes.proofs.Laws.{read-spells}

-- what holds of each item that a grammar spells
abbrev pub OfEach : {X : Type 0} → (X → Type 0) → Grammar X → Type 0
OfEach {X = X} P g = (bytes : List ℕ) (at : ℕ) (x : X) (after : ℕ) → Spells g bytes at x after → P x

pub spelled_all : {X : Type 0} (P : X → Type 0) (g : Grammar X) → OfEach P g → (n : ℕ) (bytes : List ℕ) (at : ℕ) (xs : List X) (after : ℕ)
    → Spells (repeat n g) bytes at xs after → All P xs
unfolding Spells
spelled_all P g each zero bytes at xs after h = subst (λ ys. All P ys) (sym h.0) (All-nil P)
spelled_all P g each (suc n) bytes at xs after h = grind (arith, spelled_all P g each n bytes h.1 h.3.0 h.3.1 h.3.2)

value_all : {X : Type 0} (P : X → Type 0) (r : Reading (List X)) → ((xs : List X) (after : ℕ) → r ≡ Ok (xs, after) → All P xs)
    → IsTrue (is_read r) → All P (value_or [] r)
value_all P (Ok x) known h = known x.0 x.1 refl
value_all P (Err e) known h = absurd cc

pub given_all : {X : Type 0} (P : X → Type 0) (g : Grammar X) → OfEach P g → (n : ℕ) (items : Cursor) → IsTrue (gives (repeat n g) items)
    → All P (given [] (repeat n g) items)
unfolding gives given
given_all P g each n items h =
    value_all P (next (repeat n g) items)
    (λ xs after e. spelled_all P g each n items.info.bytes.now items.at xs after
    (read-spells (info_of items.part) (repeat n g) items.info.bytes.now items.at xs after e)) h

-- n bytes lie between a place and another
pub record LiesWithin (bytes : List ℕ) (at n after : ℕ) : Type 0 where
  pub room : n + at ≤ after
  pub reach : after ≤ length bytes

-- the place after what is spelled does not lie before it
pub goes_on : {X : Type 0} (g : Grammar X) (bytes : List ℕ) (at : ℕ) (x : X) (after : ℕ) → at ≤ length bytes → Spells g bytes at x after
    → LiesWithin bytes at 0 after
unfolding Spells
goes_on (give y) bytes at x after le h = record { room = omega (arith, h.1); reach = omega (arith, h.1) }
goes_on (number w wrong) bytes at n after le h = grind (arith, leb-true)
goes_on (piece n) bytes at x after le h = record { room = omega (arith, h.2); reach = omega (arith, h.2, h.0) }
goes_on remaining bytes at x after le h = record { room = omega (arith, h.1); reach = omega (arith, h.1) }
goes_on place bytes at x after le h = record { room = omega (arith, h.1); reach = omega (arith, h.1) }
goes_on finish bytes at x after le h = record { room = omega (arith, h.1); reach = omega (arith, h.1) }
goes_on (g >>= next) bytes at x after le h =
    let a = goes_on g bytes at h.0 h.1 le h.2 in
    let b = goes_on (next h.0) bytes h.1 x after a.reach h.3 in
    record { room = omega (arith, a.room, b.room); reach = b.reach }

-- each item takes as many bytes as a measure tells, at least
abbrev pub TakesEach : {X : Type 0} → (X → ℕ) → Grammar X → Type 0
TakesEach {X = X} f g =
    (bytes : List ℕ) (at : ℕ) (x : X) (after : ℕ) → at ≤ length bytes → Spells g bytes at x after → LiesWithin bytes at (f x) after

pub spelled_within : {X : Type 0} (f : X → ℕ) (g : Grammar X) → TakesEach f g → (n : ℕ) (bytes : List ℕ) (at : ℕ) (xs : List X) (after : ℕ)
    → at ≤ length bytes → Spells (repeat n g) bytes at xs after → LiesWithin bytes at (sum_by f xs) after
unfolding Spells
spelled_within f g each zero bytes at xs after le h = grind (arith)
spelled_within f g each (suc n) bytes at xs after le h =
    let a = each bytes at h.0 h.1 le h.2 in
    let b = spelled_within f g each n bytes h.1 h.3.0 h.3.1 a.reach h.3.2 in
    let e : sum_by f xs ≡ sum_by f (h.0 ∷ h.3.0) = ap (λ ys. sum_by f ys) h.3.3.0 in
    let s = sum_by-cons f h.0 h.3.0 in
    record { room = omega (arith, a.room, b.room, e, s, h.3.3.1); reach = omega (arith, b.reach, h.3.3.1) }

value_within : {X : Type 0} (f : X → ℕ) (bytes : List ℕ) (at : ℕ) (r : Reading (List X))
    → ((xs : List X) (after : ℕ) → r ≡ Ok (xs, after) → LiesWithin bytes at (sum_by f xs) after) → sum_by f (value_or [] r) ≤ length bytes
value_within f bytes at (Ok x) known = let w = known x.0 x.1 refl in omega (arith, w.room, w.reach)
value_within f bytes at (Err e) known = omega arith

pub given_within : {X : Type 0} (f : X → ℕ) (g : Grammar X) → TakesEach f g → (n : ℕ) (items : Cursor)
    → sum_by f (given [] (repeat n g) items) ≤ length items.info.bytes.now
unfolding given
given_within f g each n items =
    value_within f items.info.bytes.now items.at (next (repeat n g) items)
    (λ xs after e. spelled_within f g each n items.info.bytes.now items.at xs after items.within
    (read-spells (info_of items.part) (repeat n g) items.info.bytes.now items.at xs after e))
