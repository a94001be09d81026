-- Items of one width: so many of them are read where so many times as many bytes reach, and the n-th
-- stands n widths after the first.
use Rattle.std.proofs.Common.{◌≡◌, ℕ, zero, suc, ◌+◌, ◌*◌, ◌≤◌, ◌<◌, List, [], ◌∷◌, Ok, Err, Bool, true, false, leb, length}
use Rattle.std.proofs.Common.{take, drop, refl, subst, arith}
use Rattle.std.proofs.lemmas.Bool.{le-leb, lt-leb, leb-true, leb-false}
use Rattle.byteorder.specs.Endian.{big_number}
use Rattle.cap_bytes.specs.declared.fault.FormFault.{FormFault}
use Rattle.cap_bytes.specs.declared.cursor.Cursor.{Cursor}
use Rattle.cap_bytes.specs.Grammar.{Grammar, give, number, piece, ◌>>=◌, any, repeat}
use Rattle.cap_bytes.specs.Spelling.{Origin, cut, info_of}
use Rattle.cap_bytes.specs.Reading.{Reading, read, value_or}
use Rattle.cap_bytes.specs.Taking.{next, Taken, TakingFails, Gives, gives, given}
use Rattle.cap_bytes.specs.Spelling.{Spells, Breaks}
use Rattle.cap_bytes.proofs.Laws.{read-spells, read-breaks}

-- the items of a grammar take w bytes, and any w bytes spell them
pub record HasWidth {X : Type 0} (w : ℕ) (g : Grammar X) : Type 0 where
  pub reach : (from : Origin) (bytes : List ℕ) (at : ℕ) → at + w ≤ length bytes → (x : X) × (read from g bytes at ≡ Ok (x, at + w))
  pub short : (from : Origin) (bytes : List ℕ) (at : ℕ) → at ≤ length bytes → length bytes < at + w → read from g bytes at ≡ Err (cut from bytes)

pub width-number : (w : ℕ) → HasWidth w (number w any)
width-number w = record {
  reach = λ from bytes at h. (big_number w (drop at bytes), rw (le-leb (at + w) (length bytes) h) refl);
  short = λ from bytes at h k. rw (lt-leb (at + w) (length bytes) k) refl;
}

pub width-piece : (w : ℕ) → HasWidth w (piece w)
width-piece w = record {
  reach = λ from bytes at h. (take w (drop at bytes), rw (le-leb (at + w) (length bytes) h) refl);
  short = λ from bytes at h k. rw (lt-leb (at + w) (length bytes) k) refl;
}

pub width-give : {X : Type 0} (x : X) → HasWidth 0 (give x)
width-give x = record {
  reach = λ from bytes at h. let e : at + 0 ≡ at = omega arith in (x, rw e refl);
  short = λ from bytes at h k. absurd (omega arith);
}

then_reach : {X Y : Type 0} (a b : ℕ) (g : Grammar X) (next : X → Grammar Y) → HasWidth a g → ((x : X) → HasWidth b (next x))
    → (from : Origin) (bytes : List ℕ) (at : ℕ) → at + (a + b) ≤ length bytes → (y : Y)
    × (read from (g >>= next) bytes at ≡ Ok (y, at + (a + b)))
then_reach a b g next first second from bytes at h =
    let p : at + a ≤ length bytes = omega arith in
    let x = first.reach from bytes at p in
    let q : (at + a) + b ≤ length bytes = omega arith in
    let y = (second x.0).reach from bytes (at + a) q in
    let e : (at + a) + b ≡ at + (a + b) = omega arith in
    (y.0, rw (x.1, y.1, e) refl)

then_short : {X Y : Type 0} (a b : ℕ) (g : Grammar X) (next : X → Grammar Y) → HasWidth a g → ((x : X) → HasWidth b (next x))
    → (from : Origin) (bytes : List ℕ) (at : ℕ) → at ≤ length bytes → length bytes < at + (a + b) → (t : Bool)
    → leb (at + a) (length bytes) ≡ t → read from (g >>= next) bytes at ≡ Err (cut from bytes)
then_short a b g next first second from bytes at h k true e =
    let p : at + a ≤ length bytes = leb-true _ _ e in
    let x = first.reach from bytes at p in
    let q : length bytes < (at + a) + b = omega arith in
    rw (x.1, (second x.0).short from bytes (at + a) p q) refl
then_short a b g next first second from bytes at h k false e = rw (first.short from bytes at h (leb-false _ _ e)) refl

pub width-then : {X Y : Type 0} (a b : ℕ) (g : Grammar X) (next : X → Grammar Y) → HasWidth a g → ((x : X) → HasWidth b (next x))
    → HasWidth (a + b) (g >>= next)
width-then a b g next first second = record {
  reach = then_reach a b g next first second;
  short = λ from bytes at h k. then_short a b g next first second from bytes at h k (leb (at + a) (length bytes)) refl;
}

pub width-repeat : {X : Type 0} (w n m : ℕ) (g : Grammar X) → HasWidth w g → m ≡ n * w → HasWidth m (repeat n g)
width-repeat w zero m g h e = let z : 0 ≡ m = omega arith in subst (λ k. HasWidth k (repeat 0 g)) z (width-give [])
width-repeat w (suc n) m g h e =
    let z : w + (n * w + 0) ≡ m = omega arith in
    subst (λ k. HasWidth k (repeat (suc n) g)) z
    (width-then w (n * w + 0) g (λ x. repeat n g >>= λ xs. give (x ∷ xs)) h
    (λ x. width-then (n * w) 0 (repeat n g) (λ xs. give (x ∷ xs)) (width-repeat w n (n * w) g h refl) (λ xs. width-give (x ∷ xs))))

-- ---- what is taken in one piece

value_is : {X : Type 0} (r : Reading X) (otherwise x : X) (a b : ℕ) → r ≡ Ok (x, a) → b ≡ a → r ≡ Ok (value_or otherwise r, b)
value_is r otherwise x a b e f = rw (e, f) refl

-- items of one width are taken where a piece of their width is, and have a value
pub taken-width : {X : Type 0} (m : ℕ) (g : Grammar X) (otherwise : X) (part : List ℕ) (before after : Cursor) → HasWidth m g
    → Taken (piece m) before part after
    → Taken g before (given otherwise g before) after × Gives g before
unfolding Spells given gives
taken-width m g otherwise part before after h t =
    let s = read-spells (info_of before.part) (piece m) before.info.bytes.now before.at part after.at t.value in
    let x = h.reach (info_of before.part) before.info.bytes.now before.at s.0 in
    (record { value = value_is (next g before) otherwise x.0 (before.at + m) after.at x.1 s.2; info = t.info; part = t.part }, rw x.1 refl)

pub fails-width : {X : Type 0} (m : ℕ) (g : Grammar X) (before : Cursor) (fault : FormFault) → HasWidth m g → TakingFails (piece m) before fault
    → TakingFails g before fault
unfolding Breaks
fails-width m g before fault h f = grind (arith, read-breaks)
