-- Loops that pass over so many items of one kind.
use Rattle.std.proofs.Common.{◌≡◌, ℕ, zero, suc, ◌+◌, ◌-◌, ◌≤◌, ◌<◌, List, [], ◌∷◌, length, Result, Ok, Err, refl, sym, ap}
use Rattle.std.proofs.Common.{◌∙◌, arith}
use Rattle.std.specs.Prelude.{IsTrue}
use Rattle.cap_bytes.specs.declared.fault.FormFault.{FormFault}
use Rattle.cap_bytes.specs.declared.cursor.Cursor.{Cursor}
use Rattle.cap_bytes.specs.Grammar.{Grammar, give, ◌>>=◌, repeat}
use Rattle.cap_bytes.specs.Spelling.{Origin, info_of}
use Rattle.cap_bytes.specs.Reading.{Reading, and_then, read, is_read, value_or}
use Rattle.cap_bytes.proofs.Laws.{then_ok, pair_ok, read_ok}
use Rattle.cap_bytes.specs.Taking.{next, Taken, TakingFails, gives, Gives, given}

-- the place after the items of a reading, without their value
abbrev pub end_of : {X : Type 0} → Reading X → Result ℕ FormFault
end_of (Ok x) = Ok x.1
end_of (Err fault) = Err fault

pub err_of : {X : Type 0} (r : Reading X) (fault : FormFault) → end_of r ≡ Err fault → r ≡ Err fault
err_of x fault h = grind (arith)

pub ok_of : {X : Type 0} (r : Reading X) (at : ℕ) → end_of r ≡ Ok at → (x : X) × (r ≡ Ok (x, at))
ok_of (Ok x) at h = let e : x.1 ≡ at = cc in (x.0, rw (← e) refl)
ok_of (Err e) at h = absurd cc

-- i of so many items from `start` on are passed, and `now` is after them
pub record HasPassed {X : Type 0} (g : Grammar X) (count : ℕ) (start : Cursor) (i : ℕ) (now : Cursor) : Type 0 where
  pub goes_on : end_of (next (repeat (count - i) g) now) ≡ end_of (next (repeat count g) start)
  pub info : now.info ≡ start.info
  pub part : now.part ≡ start.part

pub passed_none : {X : Type 0} (g : Grammar X) (count : ℕ) (start : Cursor) → HasPassed g count start 0 start
passed_none g count start = record { goes_on = let e : count - 0 ≡ count = omega arith in rw e refl; info = refl; part = refl }

pub forget : {X : Type 0} (x : X) (r : Reading (List X)) → end_of (and_then r (λ xs p. Ok (x ∷ xs, p))) ≡ end_of r
forget x x2 = grind (arith)

end_one : {X : Type 0} (g : Grammar X) (n : ℕ) (now : Cursor) (x : X) (after : Cursor) → Taken g now x after → end_of (next (repeat (suc n) g) now)
    ≡ end_of (next (repeat n g) after)
end_one g n now x after h = rw (h.value, h.info, h.part) (forget x (read (info_of now.part) (repeat n g) now.info.bytes.now after.at))

pub passed_more : {X : Type 0} (g : Grammar X) (count : ℕ) (start : Cursor) (i : ℕ) (now : Cursor) (x : X) (after : Cursor)
    → HasPassed g count start i now → i < count → Taken g now x after → HasPassed g count start (i + 1) after
passed_more g count start i now x after so_far lt h =
    let k : count - i ≡ suc (count - (i + 1)) = omega arith in
    record {
      goes_on = sym (end_one g (count - (i + 1)) now x after h) ∙ ap (λ n. end_of (next (repeat n g) now)) (sym k) ∙ so_far.goes_on;
      info = h.info ∙ so_far.info;
      part = h.part ∙ so_far.part;
    }

end_fault : {X : Type 0} (g : Grammar X) (n : ℕ) (now : Cursor) (fault : FormFault) → TakingFails g now fault → end_of (next (repeat (suc n) g) now)
    ≡ Err fault
end_fault g n now fault h = rw h.answer refl

pub passed_fault : {X : Type 0} (g : Grammar X) (count : ℕ) (start : Cursor) (i : ℕ) (now : Cursor) (fault : FormFault)
    → HasPassed g count start i now → i < count → TakingFails g now fault → TakingFails (repeat count g) start fault
passed_fault g count start i now fault so_far lt h = grind (arith, suc, end_fault, err_of)

pub passed_all : {X : Type 0} (g : Grammar X) (count : ℕ) (start : Cursor) (i : ℕ) (now : Cursor) → HasPassed g count start i now → count ≤ i
    → (xs : List X) × Taken (repeat count g) start xs now
passed_all g count start i now so_far le = grind (arith, ok_of)

-- what a loop over so many items needs
pub ruleset passing = (passed_none, passed_more, passed_fault, passed_all)

-- ---- iterators over what is known to be so many items of one kind

read_first : {X : Type 0} (x : X) (r : Reading (List X)) → is_read (and_then r (λ xs p. Ok (x ∷ xs, p))) ≡ is_read r
read_first x x2 = grind (arith)

one_less : (left : ℕ) → 0 < left → left ≡ suc (left - 1)
one_less left h = omega arith

pub gives_rest : {X : Type 0} (g : Grammar X) (left : ℕ) (now : Cursor) (x : X) (after : Cursor) → Gives (repeat left g) now → 0 < left
    → Taken g now x after → Gives (repeat (left - 1) g) after
unfolding gives given
gives_rest g left now x after h lt t = grind (arith, suc, one_less, read_first)

pub gives_first : {X : Type 0} (g : Grammar X) (left : ℕ) (now : Cursor) (x : X) (after : Cursor) → Gives (repeat left g) now → 0 < left
    → Taken g now x after → given [] (repeat left g) now ≡ x ∷ given [] (repeat (left - 1) g) after
unfolding gives given
gives_first g left now x after h lt t = grind (arith, one_less, gives_rest, suc)

pub length-repeat : {X : Type 0} (from : Origin) (g : Grammar X) (n : ℕ) (bytes : List ℕ) (at : ℕ) (xs : List X) (after : ℕ)
    → read from (repeat n g) bytes at ≡ Ok (xs, after) → length xs ≡ n
length-repeat from g zero bytes at xs after h = rw ((pair_ok [] xs at after h).0) refl
length-repeat from g (suc n) bytes at xs after h =
    let t = then_ok (read from g bytes at) (λ x middle. read from (repeat n g >>= λ ys. give (x ∷ ys)) bytes middle) xs after h in
    let u = then_ok (read from (repeat n g) bytes t.1) (λ ys p. read_ok (t.0 ∷ ys) p) xs after t.3 in
    rw ((pair_ok (t.0 ∷ u.0) xs u.1 after u.3).0) (ap suc (length-repeat from g n bytes t.1 u.0 u.1 u.2))

length-value : {X : Type 0} (n : ℕ) (r : Reading (List X)) → ((xs : List X) (after : ℕ) → r ≡ Ok (xs, after) → length xs ≡ n)
    → IsTrue (is_read r) → length (value_or [] r) ≡ n
length-value n (Ok x) h k = h x.0 x.1 refl
length-value n (Err e) h k = absurd cc

pub length_given : {X : Type 0} (g : Grammar X) (left : ℕ) (now : Cursor) → Gives (repeat left g) now → length (given [] (repeat left g) now) ≡ left
unfolding gives given
length_given g left now h = length-value left (next (repeat left g) now) (length-repeat (info_of now.part) g left now.info.bytes.now now.at) h

pub count_given : {X : Type 0} (g : Grammar X) (left : ℕ) (now : Cursor) → Gives (repeat left g) now → left ≡ length (given [] (repeat left g) now)
count_given g left now h = sym (length_given g left now h)

-- items that were taken were known to be next
pub gives_taken : {X : Type 0} (g : Grammar X) (now : Cursor) (x : X) (after : Cursor) → Taken g now x after → Gives g now
unfolding gives
gives_taken g now x after t = rw t.value refl

pub given_taken : {X : Type 0} (otherwise : X) (g : Grammar X) (now : Cursor) (x : X) (after : Cursor) → Taken g now x after → given otherwise g now ≡ x
unfolding given
given_taken otherwise g now x after t = rw t.value refl

pub gives_none : {X : Type 0} (g : Grammar X) (left : ℕ) (now : Cursor) → left ≡ 0 → given [] (repeat left g) now ≡ []
unfolding gives given
gives_none g left now h = rw h refl

pub gives_not : {X : Type 0} (g : Grammar X) (left : ℕ) (now : Cursor) (fault : FormFault) → Gives (repeat left g) now → 0 < left
    → TakingFails g now fault → ⊥
unfolding gives given
gives_not g left now fault h lt f = grind (arith, suc, one_less)

-- what such an iterator needs
pub ruleset yielding = (count_given, length_given, gives_taken, given_taken, gives_rest, gives_first, gives_none, gives_not)
