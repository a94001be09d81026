-- Loops that pass over so many items, each of which may depend on a state that they change.
use Rattle.std.proofs.Common.{◌≡◌, ℕ, suc, ◌+◌, ◌-◌, ◌≤◌, ◌<◌, List, ◌∷◌, Option, Some, None, zero, Ok, Err, refl, sym, ap}
use Rattle.std.proofs.Common.{◌∙◌, arith}
use Rattle.cap_bytes.specs.declared.fault.FormFault.{FormFault}
use Rattle.cap_bytes.specs.declared.fault.FormKind.{FormKind}
use Rattle.cap_bytes.specs.declared.cursor.Cursor.{Cursor}
use Rattle.cap_bytes.specs.Grammar.{Grammar, each, repeat, give, number, ◌>>=◌}
use Rattle.cap_bytes.specs.Spelling.{Origin, info_of}
use Rattle.cap_bytes.specs.Reading.{read, number_read, tested}
use Rattle.cap_bytes.specs.Taking.{next, Taken, TakingFails}
use Rattle.cap_bytes.proofs.Laws.{then_ok, read_ok}
use Rattle.cap_bytes.proofs.Loops.{end_of, err_of, ok_of, forget}

-- i of so many items from `start` on are passed, which changed the state from `first` to `s`, and `now` is after them
pub record HasPassedEach {X S : Type 0} (g : S → Grammar X) (step : S → X → S) (count : ℕ) (start : Cursor) (first : S) (i : ℕ) (now : Cursor)
    (s : S) : Type 0 where
  pub goes_on : end_of (next (each (count - i) g step s) now) ≡ end_of (next (each count g step first) start)
  pub info : now.info ≡ start.info
  pub part : now.part ≡ start.part

pub each_none : {X S : Type 0} (g : S → Grammar X) (step : S → X → S) (count : ℕ) (start : Cursor) (first : S)
    → HasPassedEach g step count start first 0 start first
each_none g step count start first = record { goes_on = let e : count - 0 ≡ count = omega arith in rw e refl; info = refl; part = refl }

end_one : {X S : Type 0} (g : S → Grammar X) (step : S → X → S) (n : ℕ) (now : Cursor) (s : S) (x : X) (after : Cursor) → Taken (g s) now x after
    → end_of (next (each (suc n) g step s) now) ≡ end_of (next (each n g step (step s x)) after)
end_one g step n now s x after h = rw (h.value, h.info, h.part) (forget x (read (info_of now.part) (each n g step (step s x)) now.info.bytes.now after.at))

pub each_more : {X S : Type 0} (g : S → Grammar X) (step : S → X → S) (count : ℕ) (start : Cursor) (first : S) (i : ℕ) (now : Cursor) (s : S)
    (x : X) (after : Cursor) → HasPassedEach g step count start first i now s → i < count → Taken (g s) now x after
    → HasPassedEach g step count start first (i + 1) after (step s x)
each_more g step count start first i now s x after so_far lt h =
    let k : count - i ≡ suc (count - (i + 1)) = omega arith in
    record {
      goes_on = sym (end_one g step (count - (i + 1)) now s x after h) ∙ ap (λ n. end_of (next (each n g step s) now)) (sym k) ∙ so_far.goes_on;
      info = h.info ∙ so_far.info;
      part = h.part ∙ so_far.part;
    }

end_fault : {X S : Type 0} (g : S → Grammar X) (step : S → X → S) (n : ℕ) (now : Cursor) (s : S) (fault : FormFault) → TakingFails (g s) now fault
    → end_of (next (each (suc n) g step s) now) ≡ Err fault
end_fault g step n now s fault h = rw h.answer refl

pub each_fault : {X S : Type 0} (g : S → Grammar X) (step : S → X → S) (count : ℕ) (start : Cursor) (first : S) (i : ℕ) (now : Cursor) (s : S)
    (fault : FormFault) → HasPassedEach g step count start first i now s → i < count → TakingFails (g s) now fault
    → TakingFails (each count g step first) start fault
each_fault g step count start first i now s fault so_far lt h = grind (arith, suc, end_fault, err_of)

pub each_all : {X S : Type 0} (g : S → Grammar X) (step : S → X → S) (count : ℕ) (start : Cursor) (first : S) (i : ℕ) (now : Cursor) (s : S)
    → HasPassedEach g step count start first i now s → count ≤ i → (xs : List X) × Taken (each count g step first) start xs now
each_all g step count start first i now s so_far le = grind (arith, ok_of)

-- what a loop over so many items with a state needs
pub ruleset passing_each = (each_none, each_more, each_fault, each_all)

-- ---- the same items without what the state asks

-- what one grammar reads, whatever the state, the other reads too
abbrev pub ReadsAll : {X S : Type 0} → (S → Grammar X) → Grammar X → Type 0
ReadsAll {X} {S} g h =
    (s : S) (from : Origin) (bytes : List ℕ) (at : ℕ) (x : X) (after : ℕ) → read from (g s) bytes at ≡ Ok (x, after)
    → read from h bytes at ≡ Ok (x, after)

pub each-repeat : {X S : Type 0} (g : S → Grammar X) (step : S → X → S) (h : Grammar X) → ReadsAll g h
    → (n : ℕ) (s : S) (from : Origin) (bytes : List ℕ) (at : ℕ) (xs : List X) (after : ℕ) → read from (each n g step s) bytes at
    ≡ Ok (xs, after) → read from (repeat n h) bytes at ≡ Ok (xs, after)
each-repeat g step h all zero s from bytes at xs after e = e
each-repeat g step h all (suc n) s from bytes at xs after e =
    let t = then_ok (read from (g s) bytes at) (λ x middle. read from (each n g step (step s x) >>= λ ys. give (x ∷ ys)) bytes middle) xs after e in
    let u = then_ok (read from (each n g step (step s t.0)) bytes t.1) (λ ys p. read_ok (t.0 ∷ ys) p) xs after t.3 in
    rw (all s from bytes at t.0 t.1 t.2, each-repeat g step h all n (step s t.0) from bytes t.1 u.0 u.1 u.2) u.3

pub each_taken : {X S : Type 0} (g : S → Grammar X) (step : S → X → S) (h : Grammar X) → ReadsAll g h
    → (n : ℕ) (s : S) (now : Cursor) (xs : List X) (after : Cursor) → Taken (each n g step s) now xs after → Taken (repeat n h) now xs after
each_taken g step h all n s now xs after t = grind (arith, each-repeat)

-- a number that passes a stricter test passes this one
number_loose : (from : Origin) (wrong loose : ℕ → Option FormKind) (bytes : List ℕ) (at end : ℕ) (found : Option ℕ) (n after : ℕ)
    → ((m : ℕ) → wrong m ≡ None → loose m ≡ None) → number_read from wrong bytes at end found ≡ Ok (n, after)
    → number_read from loose bytes at end found ≡ Ok (n, after)
number_loose from wrong loose bytes at end None n after all e = absurd cc
number_loose from wrong loose bytes at end (Some m) n after all e = tested_loose (wrong m) refl e
  where
    tested_loose : (k : Option FormKind) → wrong m ≡ k → tested from at k m end ≡ Ok (n, after) → tested from at (loose m) m end ≡ Ok (n, after)
    tested_loose None h d = rw (all m h) d
    tested_loose (Some kind) h d = absurd cc

-- items that differ in the test of their first number alone
pub loose_first : {X S : Type 0} (w : ℕ) (wrong : S → ℕ → Option FormKind) (loose : ℕ → Option FormKind) (rest : ℕ → Grammar X)
    → ((s : S) (m : ℕ) → wrong s m ≡ None → loose m ≡ None) → ReadsAll (λ s. number w (wrong s) >>= rest) (number w loose >>= rest)
loose_first w wrong loose rest all s from bytes at x after e = grind (arith, then_ok, number_loose)
