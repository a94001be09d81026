-- What is spelled is read, what breaks is answered, and a reading is one of both.
use Rattle.std.proofs.Common.{arith}
use Rattle.std.proofs.Common.{◌≡◌, ℕ, ◌+◌, ◌-◌, ◌<◌, ◌⊎◌, List, length, take, drop, Option, Ok, Err}
use Rattle.std.proofs.Common.{refl, sym, ap, ◌∙◌, inl, inr}
use Rattle.std.proofs.lemmas.Bool.{le-leb, lt-leb, leb-true, leb-false}
use Rattle.cap_bytes.specs.declared.fault.FormFault.{FormFault}
use Rattle.cap_bytes.specs.declared.fault.FormKind.{FormKind}
use Rattle.cap_bytes.specs.Number.{number_at}
use Rattle.cap_bytes.specs.Grammar.{Grammar, give, number, piece, remaining, place, finish, ◌>>=◌}
use Rattle.cap_bytes.specs.Spelling.{Spells, Stands, Origin, cut, Breaks, info_of}
use Rattle.cap_bytes.specs.Reading.{Reading, and_then, number_read, read, reading, outcome}
use Rattle.cap_bytes.specs.Exact.{IsExact}

-- ---- what is spelled is read

pub spelled-read : {X : Type 0} (from : Origin) (g : Grammar X) (bytes : List ℕ) (at : ℕ) (x : X) (after : ℕ) → Spells g bytes at x after
    → read from g bytes at ≡ Ok (x, after)
unfolding Spells
spelled-read from (give y) bytes at x after h = cc
spelled-read from (number w wrong) bytes at n after h = rw (h.0, h.1, h.2) refl
spelled-read from (piece n) bytes at part after h = rw (le-leb (at + n) (length bytes) h.0, h.1, h.2) refl
spelled-read from remaining bytes at n after h = cc
spelled-read from place bytes at n after h = cc
spelled-read from finish bytes at x after h = rw (le-leb (length bytes) at h.0, h.1) refl
spelled-read from (g >>= next) bytes at y after h =
    rw (spelled-read from g bytes at h.0 h.1 h.2) (spelled-read from (next h.0) bytes h.1 y after h.3)

-- ---- what breaks is answered

short : (from : Origin) (wrong : ℕ → Option FormKind) (w : ℕ) (bytes : List ℕ) (at : ℕ) → length bytes < at + w
    → number_read from wrong bytes at (at + w) (number_at w at bytes) ≡ Err (cut from bytes)
short from wrong w bytes at h = rw (lt-leb (at + w) (length bytes) h) refl

pub breaks-read : {X : Type 0} (from : Origin) (g : Grammar X) (bytes : List ℕ) (at : ℕ) (fault : FormFault) → Breaks from g bytes at fault
    → read from g bytes at ≡ Err fault
unfolding Breaks Spells
breaks-read from (give y) bytes at fault h = absurd h
breaks-read from (number w wrong) bytes at fault (inl h) = rw h.1 (short from wrong w bytes at h.0)
breaks-read from (number w wrong) bytes at fault (inr h) = rw (h.2, h.3, h.4) refl
breaks-read from (piece n) bytes at fault h = rw (lt-leb (at + n) (length bytes) h.0, h.1) refl
breaks-read from remaining bytes at fault h = absurd h
breaks-read from place bytes at fault h = absurd h
breaks-read from finish bytes at fault h = rw (lt-leb (length bytes) at h.0, h.1) refl
breaks-read from (g >>= next) bytes at fault (inl h) = rw (breaks-read from g bytes at fault h) refl
breaks-read from (g >>= next) bytes at fault (inr h) = grind (arith, spelled-read, breaks-read from (next h.0) bytes h.1 fault h.3)

abbrev pub read_ok : {X : Type 0} → X → ℕ → Reading X
read_ok x after = Ok (x, after)

-- ---- what is read is spelled

-- the first half of a reading that went well
pub then_ok : {X Y : Type 0} (r : Reading X) (next : X → ℕ → Reading Y) (y : Y) (after : ℕ) → and_then r next ≡ Ok (y, after) → (x : X)
    × (middle : ℕ) × (r ≡ Ok (x, middle)) × (next x middle ≡ Ok (y, after))
then_ok x next y after h = grind (arith)

-- which half failed
then_err : {X Y : Type 0} (r : Reading X) (next : X → ℕ → Reading Y) (fault : FormFault) → and_then r next ≡ Err fault → (r ≡ Err fault)
    ⊎ ((x : X) × (middle : ℕ) × (r ≡ Ok (x, middle)) × (next x middle ≡ Err fault))
then_err x next fault h = grind (arith)

pub pair_ok : {X : Type 0} (x y : X) (a b : ℕ) → read_ok x a ≡ read_ok y b → (y ≡ x) × (b ≡ a)
pair_ok x y a b h = let e : (x, a) ≡ (y, b) = cc in (sym (ap (λ (p : _ × ℕ). p.0) e), sym (ap (λ (p : _ × ℕ). p.1) e))

pub read-spells : {X : Type 0} (from : Origin) (g : Grammar X) (bytes : List ℕ) (at : ℕ) (x : X) (after : ℕ)
    → read from g bytes at ≡ Ok (x, after) → Spells g bytes at x after
unfolding Spells
read-spells from (give y) bytes at x after h = pair_ok y x at after h
read-spells from (number w wrong) bytes at n after h = grind (arith)
read-spells from (piece n) bytes at part after h = grind (arith, pair_ok, take, drop, leb-true)
read-spells from remaining bytes at n after h = pair_ok (length bytes - at) n at after h
read-spells from place bytes at n after h = pair_ok at n at after h
read-spells from finish bytes at x after h = grind (arith, leb-true, pair_ok)
read-spells from (g >>= next) bytes at y after h =
    let t = then_ok (read from g bytes at) (λ x middle. read from (next x) bytes middle) y after h in
    (t.0, t.1, read-spells from g bytes at t.0 t.1 t.2, read-spells from (next t.0) bytes t.1 y after t.3)

-- ---- what is answered breaks

pub read-breaks : {X : Type 0} (from : Origin) (g : Grammar X) (bytes : List ℕ) (at : ℕ) (fault : FormFault) → read from g bytes at ≡ Err fault
    → Breaks from g bytes at fault
unfolding Breaks Spells
read-breaks from (give y) bytes at fault h = absurd cc
read-breaks from (number w wrong) bytes at fault h = grind (arith, leb-false, drop)
read-breaks from (piece n) bytes at fault h = grind (arith, leb-false)
read-breaks from remaining bytes at fault h = absurd cc
read-breaks from place bytes at fault h = absurd cc
read-breaks from finish bytes at fault h = grind (arith, leb-false)
read-breaks from (g >>= next) bytes at fault h =
    elim (then_err (read from g bytes at) (λ x middle. read from (next x) bytes middle) fault h) [
      | inl e ↦ inl (read-breaks from g bytes at fault e)
      | inr t ↦ inr (t.0, t.1, read-spells from g bytes at t.0 t.1 t.2, read-breaks from (next t.0) bytes t.1 fault t.3)
    ]

-- ---- one answer

pub Spells-one : {X : Type 0} (g : Grammar X) (bytes : List ℕ) (at : ℕ) (x y : X) (a b : ℕ) → Spells g bytes at x a → Spells g bytes at y b
    → (y ≡ x) × (b ≡ a)
Spells-one g bytes at x y a b p q =
    pair_ok x y a b (sym (spelled-read (info_of 0) g bytes at x a p) ∙ spelled-read (info_of 0) g bytes at y b q)

-- ---- whole bytes

outcome_ok : {X : Type 0} (r : Reading X) (x : X) → outcome r ≡ Ok x → (after : ℕ) × (r ≡ Ok (x, after))
outcome_ok (Ok y) x h = let e : y.0 ≡ x = cc in (y.1, rw (← e) refl)
outcome_ok (Err e) x h = absurd cc

pub stands : {X : Type 0} (from : Origin) (g : Grammar X) (bytes : List ℕ) (x : X) → reading from g bytes ≡ Ok x → Stands g bytes x
unfolding Stands reading
stands from g bytes x h = let o = outcome_ok (read from g bytes 0) x h in (o.0, read-spells from g bytes 0 x o.0 o.1)

pub breaks : {X : Type 0} (from : Origin) (g : Grammar X) (bytes : List ℕ) (fault : FormFault) → reading from g bytes ≡ Err fault
    → Breaks from g bytes 0 fault
unfolding reading
breaks from g bytes fault h = grind (arith, read-breaks)

-- the converse
pub reading_where : {X : Type 0} (from : Origin) (g : Grammar X) (bytes : List ℕ) (x : X) → Stands g bytes x → reading from g bytes ≡ Ok x
unfolding Stands reading
reading_where from g bytes x h = rw (spelled-read from g bytes 0 x h.0 h.1) refl

pub refused_where : {X : Type 0} (from : Origin) (g : Grammar X) (bytes : List ℕ) (fault : FormFault) → Breaks from g bytes 0 fault
    → reading from g bytes ≡ Err fault
unfolding reading
refused_where from g bytes fault h = rw (breaks-read from g bytes 0 fault h) refl

pub is_exact : {X : Type 0} (from : Origin) (g : Grammar X) (bytes : List ℕ) → IsExact from g bytes
unfolding Stands
is_exact from g bytes = record {
  one_value = λ x y p q. sym (Spells-one g bytes 0 x y p.0 q.0 p.1 q.1).0;
  one_fault = λ a b p q. let e = sym (breaks-read from g bytes 0 a p) ∙ breaks-read from g bytes 0 b q in cc;
  apart = λ x a p q. let e = sym (spelled-read from g bytes 0 x p.0 p.1) ∙ breaks-read from g bytes 0 a q in cc;
  value = λ x. (λ h. stands from g bytes x h, λ h. reading_where from g bytes x h);
  fault = λ a. (λ h. breaks from g bytes a h, λ h. refused_where from g bytes a h);
}

-- what the reader of a whole component needs
pub ruleset whole = (stands, breaks, is_exact)

-- the same of a reading that is written out
pub broken : {X : Type 0} (from : Origin) (g : Grammar X) (bytes : List ℕ) (fault : FormFault) → outcome (read from g bytes 0) ≡ Err fault
    → Breaks from g bytes 0 fault
unfolding reading
broken from g bytes fault h = breaks from g bytes fault h

pub stood : {X : Type 0} (from : Origin) (g : Grammar X) (bytes : List ℕ) (x : X) → outcome (read from g bytes 0) ≡ Ok x → Stands g bytes x
unfolding reading
stood from g bytes x h = stands from g bytes x h
