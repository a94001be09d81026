-- Loops that pass over items up to the end of the bytes.
use Rattle.std.proofs.Common.{◌≡◌, ℕ, zero, suc, ◌+◌, ◌-◌, ◌≤◌, ◌<◌, List, [], ◌∷◌, length, Option, Result, Ok, Err, Bool, true}
use Rattle.std.proofs.Common.{false, nat_lt, refl, sym, ap, ◌∙◌, arith}
use Rattle.std.proofs.lemmas.Bool.{lt-ltb, le-ltb}
use Rattle.cap_bytes.specs.declared.fault.FormFault.{FormFault}
use Rattle.cap_bytes.specs.declared.cursor.Cursor.{Cursor}
use Rattle.cap_bytes.specs.Grammar.{Grammar, at_most, until_end, repeat, give, number, piece, remaining, place, finish, when, ◌>>=◌}
use Rattle.cap_bytes.specs.declared.fault.FormKind.{FormKind}
use Rattle.cap_bytes.specs.Spelling.{Origin, info_of, Spells}
use Rattle.cap_bytes.specs.Reading.{Reading, and_then, read}
use Rattle.cap_bytes.specs.Taking.{next, Taken, TakingFails}
use Rattle.cap_bytes.proofs.Laws.{then_ok, pair_ok, read_ok, read-spells}
use Rattle.cap_bytes.proofs.EachLoops.{ReadsAll}

-- how many items a reading has, and the place after them
abbrev pub size_of : {X : Type 0} → Reading (List X) → Result (ℕ × ℕ) FormFault
size_of (Ok x) = Ok (length x.0, x.1)
size_of (Err fault) = Err fault

abbrev pub plus : ℕ → Result (ℕ × ℕ) FormFault → Result (ℕ × ℕ) FormFault
plus i (Ok x) = Ok (i + x.0, x.1)
plus i (Err fault) = Err fault

plus_one : {X : Type 0} (i : ℕ) (x : X) (r : Reading (List X)) → plus i (size_of (and_then r (λ xs p. Ok (x ∷ xs, p)))) ≡ plus (i + 1) (size_of r)
plus_one i x x2 = grind (arith, suc, length)

-- i items from `start` on are passed, which changed the state from `first` to `s`, and `now` is after them
pub record HasPassedUntil {X S : Type 0} (g : S → Grammar X) (step : S → X → S) (start : Cursor) (first : S) (i : ℕ) (now : Cursor) (s : S) : Type 0
  where
    pub fuel : ℕ
    pub enough : length now.info.bytes.now - now.at ≤ fuel
    pub goes_on : plus i (size_of (next (at_most fuel g step s) now)) ≡ size_of (next (until_end g step first) start)
    pub info : now.info ≡ start.info
    pub part : now.part ≡ start.part

pub until_none : {X S : Type 0} (g : S → Grammar X) (step : S → X → S) (start : Cursor) (first : S) → HasPassedUntil g step start first 0 start first
until_none g step start first = grind (arith, length)

when_true : {X : Type 0} (b : Bool) (otherwise : X) (g : Grammar X) (now : Cursor) → b ≡ true → next (when b otherwise g) now ≡ next g now
when_true x otherwise g now e = grind (arith)

when_false : {X : Type 0} (b : Bool) (otherwise : X) (g : Grammar X) (now : Cursor) → b ≡ false → next (when b otherwise g) now ≡ Ok (otherwise, now.at)
when_false x otherwise g now e = grind (arith)

one_item : {X S : Type 0} (g : S → Grammar X) (step : S → X → S) (n : ℕ) (now : Cursor) (s : S) → now.at < length now.info.bytes.now
    → next (at_most (suc n) g step s) now ≡ next (g s >>= λ x. at_most n g step (step s x) >>= λ xs. give (x ∷ xs)) now
one_item g step n now s lt = grind (arith, nat_lt, length, lt-ltb, when_true)

pub until_more : {X S : Type 0} (g : S → Grammar X) (step : S → X → S) (start : Cursor) (first : S) (i : ℕ) (now : Cursor) (s : S) (x : X)
    (after : Cursor) → HasPassedUntil g step start first i now s → now.at < length now.info.bytes.now → Taken (g s) now x after → now.at < after.at
    → HasPassedUntil g step start first (i + 1) after (step s x)
until_more g step start first i now s x after so_far lt h moved =
    let enough = so_far.enough in
    let k : so_far.fuel ≡ suc (so_far.fuel - 1) = omega arith in
    let n = so_far.fuel - 1 in
    let one : plus i (size_of (next (at_most (suc n) g step s) now)) ≡ plus (i + 1) (size_of (next (at_most n g step (step s x)) after)) =
    rw (one_item g step n now s lt, h.value, h.info, h.part)
    (plus_one i x (read (info_of now.part) (at_most n g step (step s x)) now.info.bytes.now after.at)) in
    record {
      fuel = n;
      enough = rw h.info (omega arith);
      goes_on = sym one ∙ ap (λ m. plus i (size_of (next (at_most m g step s) now))) (sym k) ∙ so_far.goes_on;
      info = h.info ∙ so_far.info;
      part = h.part ∙ so_far.part;
    }

one_fault : {X S : Type 0} (g : S → Grammar X) (step : S → X → S) (i n : ℕ) (now : Cursor) (s : S) (fault : FormFault)
    → now.at < length now.info.bytes.now → TakingFails (g s) now fault → plus i (size_of (next (at_most (suc n) g step s) now)) ≡ Err fault
one_fault g step i n now s fault lt h = rw (one_item g step n now s lt, h.answer) refl

pub until_fault : {X S : Type 0} (g : S → Grammar X) (step : S → X → S) (start : Cursor) (first : S) (i : ℕ) (now : Cursor) (s : S)
    (fault : FormFault) → HasPassedUntil g step start first i now s → now.at < length now.info.bytes.now → TakingFails (g s) now fault
    → TakingFails (until_end g step first) start fault
until_fault g step start first i now s fault so_far lt h = grind (arith, suc, one_fault)

no_item : {X S : Type 0} (g : S → Grammar X) (step : S → X → S) (n : ℕ) (now : Cursor) (s : S) → length now.info.bytes.now ≤ now.at
    → next (at_most n g step s) now ≡ Ok ([], now.at)
no_item g step zero now s le = refl
no_item g step (suc n) now s le = grind (arith, nat_lt, length, le-ltb, when_false)

pub until_all : {X S : Type 0} (g : S → Grammar X) (step : S → X → S) (start : Cursor) (first : S) (i : ℕ) (now : Cursor) (s : S)
    → HasPassedUntil g step start first i now s → length now.info.bytes.now ≤ now.at → (xs : List X) × Taken (until_end g step first) start xs now
    × (length xs ≡ i)
until_all g step start first i now s so_far le = grind (arith, no_item, length)

-- what a loop up to the end needs
pub ruleset passing_until = (until_none, until_more, until_fault, until_all)

pair_is : {X : Type 0} (x y : X) (a b : ℕ) → y ≡ x → b ≡ a → ◌≡◌ {A = X × ℕ} (x, a) (y, b)
pair_is x y a b e d = rw (e, d) refl

-- ---- the same items without what the state asks

no_more : {X : Type 0} (h : Grammar X) (from : Origin) (bytes : List ℕ) (at : ℕ) (xs : List X) (after : ℕ) → read_ok [] at ≡ Ok (xs, after)
    → read from (repeat (length xs) h) bytes at ≡ Ok (xs, after)
no_more h from bytes at xs after e = let p = pair_ok [] xs at after e in rw (p.0, p.1) refl

one_more : {X S : Type 0} (g : S → Grammar X) (step : S → X → S) (h : Grammar X) → ReadsAll g h
    → (n : ℕ) (s : S) (from : Origin) (bytes : List ℕ) (at : ℕ) (xs : List X) (after : ℕ) (b : Bool)
    → ((s' : S) (at' : ℕ) (ys : List X) (end : ℕ) → read from (at_most n g step s') bytes at' ≡ Ok (ys, end)
    → read from (repeat (length ys) h) bytes at' ≡ Ok (ys, end))
    → read from (when b [] (g s >>= λ x. at_most n g step (step s x) >>= λ ys. give (x ∷ ys))) bytes at ≡ Ok (xs, after)
    → read from (repeat (length xs) h) bytes at ≡ Ok (xs, after)
one_more g step h all n s from bytes at xs after x others e = grind (arith, no_more, then_ok, pair_ok, suc, length, pair_is)

pub most-repeat : {X S : Type 0} (g : S → Grammar X) (step : S → X → S) (h : Grammar X) → ReadsAll g h
    → (n : ℕ) (s : S) (from : Origin) (bytes : List ℕ) (at : ℕ) (xs : List X) (after : ℕ) → read from (at_most n g step s) bytes at
    ≡ Ok (xs, after) → read from (repeat (length xs) h) bytes at ≡ Ok (xs, after)
most-repeat g step h all zero s from bytes at xs after e = no_more h from bytes at xs after e
most-repeat g step h all (suc n) s from bytes at xs after e =
    one_more g step h all n s from bytes at xs after (nat_lt 0 (length bytes - at))
    (λ s' at' ys end d. most-repeat g step h all n s' from bytes at' ys end d) e

pub until_taken : {X S : Type 0} (g : S → Grammar X) (step : S → X → S) (h : Grammar X) → ReadsAll g h
    → (s : S) (now : Cursor) (xs : List X) (after : Cursor) → Taken (until_end g step s) now xs after → Taken (repeat (length xs) h) now xs after
until_taken g step h all s now xs after t = grind (arith, most-repeat, length)

-- ---- items move on

pub moves_on : {X : Type 0} (g : Grammar X) (bytes : List ℕ) (at : ℕ) (x : X) (after : ℕ) → Spells g bytes at x after → at ≤ after
unfolding Spells
moves_on (give y) bytes at x after h = omega (arith, h.1)
moves_on (number w wrong) bytes at n after h = omega (arith, h.2)
moves_on (piece n) bytes at part after h = omega (arith, h.2)
moves_on remaining bytes at n after h = omega (arith, h.1)
moves_on place bytes at n after h = omega (arith, h.1)
moves_on finish bytes at x after h = omega (arith, h.1)
moves_on (g >>= next) bytes at y after h = grind (arith, moves_on g bytes at h.0 h.1 h.2, moves_on (next h.0) bytes h.1 y after h.3)

-- what begins with a number has the bytes of that number at least
pub moves : {X : Type 0} (w : ℕ) (wrong : ℕ → Option FormKind) (then : ℕ → Grammar X) (now : Cursor) (x : X) (after : Cursor)
    → Taken (number w wrong >>= then) now x after → now.at + w ≤ after.at
unfolding Spells
moves w wrong then now x after t =
    let h = read-spells (info_of now.part) (number w wrong >>= then) now.info.bytes.now now.at x after.at t.value in
    let a : h.1 ≡ now.at + w = h.2.2 in
    let b = moves_on (then h.0) now.info.bytes.now h.1 x after.at h.3 in
    omega (arith, a, b)
