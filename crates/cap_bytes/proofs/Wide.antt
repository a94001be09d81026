-- Items of one width, which stand at known places.
use Rattle.std.proofs.Common.{◌≡◌, ℕ, zero, suc, ◌+◌, ◌*◌, ◌≤◌, ◌<◌, List, [], ◌∷◌, length, Option, Some, None, Ok, Err, Bool}
use Rattle.std.proofs.Common.{cond, leb, drop, refl, sym, arith}
use Rattle.std.specs.Prelude.{IsTrue, slice_get}
use Rattle.std.proofs.lemmas.Option.{slice_get_past}
use Rattle.cap_bytes.specs.declared.fault.FormFault.{FormFault}
use Rattle.cap_bytes.specs.declared.fault.FormKind.{FormKind}
use Rattle.cap_bytes.specs.declared.cursor.Cursor.{Cursor}
use Rattle.std.proofs.lemmas.Bool.{leb-true}
use Rattle.std.proofs.Math.Nat.{mul-le-mul_right}
use Rattle.byteorder.specs.Endian.{big_number}
use Rattle.cap_bytes.specs.Grammar.{Grammar, give, number, piece, remaining, place, finish, ◌>>=◌, repeat}
use Rattle.cap_bytes.specs.Spelling.{Spells, Origin, info_of}
use Rattle.cap_bytes.specs.Reading.{Reading, read, is_read, value_or}
use Rattle.cap_bytes.specs.Taking.{next, Taken, TakingFails, gives, Gives, given, IsAhead}
use Rattle.cap_bytes.proofs.Laws.{then_ok, pair_ok, read_ok, read-spells}
use Rattle.cap_bytes.proofs.Loops.{length_given}

-- an item of the grammar has so many bytes
pub record IsWide {X : Type 0} (w : ℕ) (g : Grammar X) : Type 0 where
  pub ends : (from : Origin) (bytes : List ℕ) (at : ℕ) (x : X) (after : ℕ) → read from g bytes at ≡ Ok (x, after) → after ≡ at + w

pub wide_give : {X : Type 0} (x : X) → IsWide 0 (give x)
wide_give x = record { ends = λ from bytes at y after h. let p = pair_ok x y at after h in omega (arith, p.1) }

pub wide_number : (w : ℕ) (wrong : ℕ → Option FormKind) → IsWide w (number w wrong)
unfolding Spells
wide_number w wrong = record { ends = λ from bytes at n after h. (read-spells from (number w wrong) bytes at n after h).2 }

pub wide_piece : (n : ℕ) → IsWide n (piece n)
unfolding Spells
wide_piece n = record { ends = λ from bytes at part after h. (read-spells from (piece n) bytes at part after h).2 }

pub wide_then : {X Y : Type 0} (v w : ℕ) (g : Grammar X) (next : X → Grammar Y) → IsWide v g → ((x : X) → IsWide w (next x))
    → IsWide (v + w) (g >>= next)
wide_then v w g next p q = grind (arith, then_ok)

pub reaches : (w : ℕ) (bytes : List ℕ) (at n : ℕ) (b : Bool) → leb (at + w) (length bytes) ≡ b → cond b (Some (big_number w (drop at bytes))) None
    ≡ Some n → at + w ≤ length bytes
reaches w bytes at n x e h = grind (arith, leb-true)

-- what is read from a place within the bytes ends within them
pub read_within : {X : Type 0} (from : Origin) (g : Grammar X) (bytes : List ℕ) (at : ℕ) (x : X) (after : ℕ) → at ≤ length bytes
    → Spells g bytes at x after → after ≤ length bytes
unfolding Spells
read_within from (give y) bytes at x after le h = omega (arith, h.1)
read_within from (number w wrong) bytes at n after le h = omega (arith, reaches w bytes at n _ refl h.0, h.2)
read_within from (piece n) bytes at part after le h = omega (arith, h.0, h.2)
read_within from remaining bytes at n after le h = omega (arith, h.1)
read_within from place bytes at n after le h = omega (arith, h.1)
read_within from finish bytes at x after le h = omega (arith, h.1)
read_within from (g >>= next) bytes at y after le h = read_within from (next h.0) bytes h.1 y after (read_within from g bytes at h.0 h.1 le h.2) h.3

wide_repeat : {X : Type 0} (w : ℕ) (g : Grammar X) → IsWide w g → (n : ℕ) (from : Origin) (bytes : List ℕ) (at : ℕ) (xs : List X) (after : ℕ)
    → read from (repeat n g) bytes at ≡ Ok (xs, after) → after ≡ at + n * w
wide_repeat w g wide zero from bytes at xs after e = let p = pair_ok [] xs at after e in omega (arith, p.1)
wide_repeat w g wide (suc n) from bytes at xs after e =
    let t = then_ok (read from g bytes at) (λ x middle. read from (repeat n g >>= λ ys. give (x ∷ ys)) bytes middle) xs after e in
    let u = then_ok (read from (repeat n g) bytes t.1) (λ ys p. read_ok (t.0 ∷ ys) p) xs after t.3 in
    let p = pair_ok (t.0 ∷ u.0) xs u.1 after u.3 in
    let a = wide.ends from bytes at t.0 t.1 t.2 in
    let b = wide_repeat w g wide n from bytes t.1 u.0 u.1 u.2 in
    omega (arith, a, b, p.1)

nth_here : {X : Type 0} (w : ℕ) (g : Grammar X) (n k : ℕ) → k < suc n → (from : Origin) (bytes : List ℕ) (at : ℕ) (xs : List X) (x : X)
    (middle : ℕ) (ys : List X) → read from g bytes at ≡ Ok (x, middle) → middle ≡ at + w → xs ≡ x ∷ ys
    → ((j : ℕ) → j < n → (y : X) × (read from g bytes (middle + j * w) ≡ Ok (y, middle + j * w + w)) × (slice_get ys j ≡ Some y))
    → (y : X) × (read from g bytes (at + k * w) ≡ Ok (y, at + k * w + w)) × (slice_get xs k ≡ Some y)
nth_here w g n zero lt from bytes at xs x middle ys h m e others =
    let a : at + 0 * w ≡ at = omega arith in
    (x, rw (a, ← m) h, rw e refl)
nth_here w g n (suc k) lt from bytes at xs x middle ys h m e others =
    let o = others k (omega arith) in
    let a : middle + k * w ≡ at + suc k * w = omega (arith, m) in
    (o.0, rw (← a) o.1, rw e o.2)

-- the item at a place of a list of them
pub nth-read : {X : Type 0} (w : ℕ) (g : Grammar X) → IsWide w g → (n k : ℕ) → k < n
    → (from : Origin) (bytes : List ℕ) (at : ℕ) (xs : List X) (after : ℕ) → read from (repeat n g) bytes at ≡ Ok (xs, after)
    → (x : X) × (read from g bytes (at + k * w) ≡ Ok (x, at + k * w + w)) × (slice_get xs k ≡ Some x)
nth-read w g wide zero k lt from bytes at xs after e = absurd (omega arith)
nth-read w g wide (suc n) k lt from bytes at xs after e =
    let t = then_ok (read from g bytes at) (λ x middle. read from (repeat n g >>= λ ys. give (x ∷ ys)) bytes middle) xs after e in
    let u = then_ok (read from (repeat n g) bytes t.1) (λ ys p. read_ok (t.0 ∷ ys) p) xs after t.3 in
    let whole = (pair_ok (t.0 ∷ u.0) xs u.1 after u.3).0 in
    let step = wide.ends from bytes at t.0 t.1 t.2 in
    nth_here w g n k lt from bytes at xs t.0 t.1 u.0 t.2 step whole (λ j h. nth-read w g wide n j h from bytes t.1 u.0 u.1 u.2)

-- ---- numbered readers of items that are known to be next

known : {X : Type 0} (r : Reading X) (otherwise : X) → IsTrue (is_read r) → (after : ℕ) × (r ≡ Ok (value_or otherwise r, after))
known (Ok x) otherwise h = (x.1, refl)
known (Err e) otherwise h = absurd cc

pub nth_within : {X : Type 0} (w : ℕ) (g : Grammar X) (left k : ℕ) (now : Cursor) → IsWide w g → Gives (repeat left g) now → k < left
    → now.at + k * w ≤ length now.info.bytes.now
unfolding gives
nth_within w g left k now wide h lt =
    let r = next (repeat left g) now in
    let o = known r [] h in
    let a = wide_repeat w g wide left (info_of now.part) now.info.bytes.now now.at (value_or [] r) o.0 o.1 in
    let b = read_within (info_of now.part) (repeat left g) now.info.bytes.now now.at (value_or [] r) o.0 now.within
    (read-spells (info_of now.part) (repeat left g) now.info.bytes.now now.at (value_or [] r) o.0 o.1) in
    let c : k * w ≤ left * w = mul-le-mul_right w (omega arith) in
    omega (arith, a, b, c)

nth_known : {X : Type 0} (w : ℕ) (g : Grammar X) (left k : ℕ) (now there : Cursor) → IsWide w g → Gives (repeat left g) now → k < left
    → IsAhead now k w there → (x : X) × (next g there ≡ Ok (x, there.at + w)) × (slice_get (given [] (repeat left g) now) k ≡ Some x)
unfolding gives given
nth_known w g left k now there wide h lt a =
    let r = next (repeat left g) now in
    let o = known r [] h in
    let n = nth-read w g wide left k lt (info_of now.part) now.info.bytes.now now.at (value_or [] r) o.0 o.1 in
    (n.0, rw (a.at, a.info, a.part) n.1, n.2)

pub nth_given : {X : Type 0} (w : ℕ) (g : Grammar X) (left k : ℕ) (now there : Cursor) (x : X) (after : Cursor) → IsWide w g
    → Gives (repeat left g) now → k < left → IsAhead now k w there → Taken g there x after → Some x ≡ slice_get (given [] (repeat left g) now) k
nth_given w g left k now there x after wide h lt a t = grind (arith, nth_known w g left k now there wide h lt a, pair_ok)

not_both : {X : Type 0} (x : X) (after : ℕ) (fault : FormFault) → read_ok x after ≡ Err fault → ⊥
not_both x after fault e = cc

pub nth_not : {X : Type 0} (other : Option X) (w : ℕ) (g : Grammar X) (left k : ℕ) (now there : Cursor) (fault : FormFault) → IsWide w g
    → Gives (repeat left g) now → k < left → IsAhead now k w there → TakingFails g there fault
    → other ≡ slice_get (given [] (repeat left g) now) k
nth_not other w g left k now there fault wide h lt a f = grind (arith, nth_known w g left k now there wide h lt a, not_both)

pub nth_none : {X : Type 0} (g : Grammar X) (left k : ℕ) (now : Cursor) → Gives (repeat left g) now → left ≤ k
    → None ≡ slice_get (given [] (repeat left g) now) k
nth_none g left k now h le = sym (slice_get_past (given [] (repeat left g) now) k (omega (arith, length_given g left now h)))

-- what a numbered reader of items of one width needs, beside the fact that they are wide
pub ruleset numbered = (nth_within, nth_given, nth_not, nth_none)
