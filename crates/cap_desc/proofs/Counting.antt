-- Items of one kind are counted one after the other, to the end of a list.
use Rattle.std.proofs.Common.{◌≡◌, ℕ, zero, suc, ◌+◌, ◌-◌, ◌≤◌, ◌<◌, List, [], ◌∷◌, ◌++◌, length, Some, None, Ok, Err}
use Rattle.std.proofs.Common.{IsTrue, refl, sym, ap, subst, ◌∙◌, arith, append_assoc, append-nil}
use Rattle.std.specs.Result.{result_ok}
use Rattle.std.specs.Option.{option_map}
use Rattle.std.proofs.lemmas.Bool.{lt-ltb, le-ltb}
use Rattle.cap_bytes.specs.Grammar.{Grammar, give, ◌>>=◌, repeat, at_most, when}
use Rattle.cap_bytes.specs.Spelling.{info_of}
use Rattle.cap_bytes.specs.Reading.{Reading, and_then, read, is_read, value_or}
use Rattle.cap_bytes.proofs.Laws.{then_ok}

-- a reading of nibbles
abbrev pub at_place : {X : Type 0} → Grammar X → List ℕ → ℕ → Reading X
at_place = read (info_of 11)

-- at most so many items, from a place on
abbrev pub most : {X : Type 0} → Grammar X → ℕ → List ℕ → ℕ → Reading (List X)
most g n ns at = at_place (at_most n (λ (s : Unit {0}). g) (λ s x. s) (tt {0})) ns at

abbrev first_of_most : {X : Type 0} → Grammar X → ℕ → Grammar (List X)
first_of_most g n = g >>= λ x. at_most n (λ (s : Unit {0}). g) (λ s x. s) (tt {0}) >>= λ xs. give (x ∷ xs)

-- a reading with items in front
abbrev pub with_front : {X : Type 0} → List X → Reading (List X) → Reading (List X)
with_front front r = and_then r (λ xs after. Ok (front ++ xs, after))

fronts : {X : Type 0} (xs ys : List X) (r : Reading (List X)) → with_front xs (with_front ys r) ≡ with_front (xs ++ ys) r
fronts xs ys x = grind (arith, append_assoc)

pub most-more : {X : Type 0} (g : Grammar X) (ns : List ℕ) (n at after : ℕ) (x : X) → at < length ns → at_place g ns at ≡ Ok (x, after)
    → most g (suc n) ns at ≡ with_front (x ∷ []) (most g n ns after)
most-more g ns n at after x lt k = grind (arith, lt-ltb, length)

pub most-fails : {X : Type 0} (g : Grammar X) (ns : List ℕ) (n at : ℕ) → at < length ns → result_ok (at_place g ns at) ≡ None
    → result_ok (most g (suc n) ns at) ≡ None
most-fails {X = X} g ns n at lt k =
    subst (λ t. result_ok (at_place (when t [] (first_of_most g n)) ns at) ≡ None) (sym (lt-ltb 0 (length ns - at) (omega arith)))
    (no_first (at_place g ns at) k)
  where
    no_first : (r : Reading X) → result_ok r ≡ None
        → result_ok (and_then r (λ x middle. at_place (at_most n (λ (s : Unit {0}). g) (λ s x. s) (tt {0}) >>= λ xs. give (x ∷ xs)) ns middle))
        ≡ None
    no_first (Ok x) h = absurd cc
    no_first (Err e) h = refl

pub most-ends : {X : Type 0} (g : Grammar X) (ns : List ℕ) (n at : ℕ) → length ns ≤ at → most g n ns at ≡ Ok ([], at)
most-ends g ns zero at le = refl
most-ends {X = X} g ns (suc n) at le = grind (arith, le-ltb, length)

abbrev front_ok : {X : Type 0} → X → List X → ℕ → Reading (List X)
front_ok y ys p = Ok (y ∷ ys, p)

same_front : {X : Type 0} (y : X) (ys xs : List X) (p at : ℕ) → front_ok y ys p ≡ Ok (xs, at) → (xs ≡ y ∷ ys) × (p ≡ at)
same_front {X = X} y ys xs p at h = let e : (y ∷ ys, p) ≡ (xs, at) = cc in (sym (ap (λ (q : List X × ℕ). q.0) e), ap (λ (q : List X × ℕ). q.1) e)

abbrev ok_with : {X : Type 0} → List X → ℕ → Reading (List X)
ok_with xs p = Ok (xs, p)

chain : {X Y : Type 0} (r : Reading X) (next : X → ℕ → Reading Y) (x : X) (middle : ℕ) (out : Reading Y) → r ≡ Ok (x, middle)
    → next x middle ≡ out → and_then r next ≡ out
chain r next x middle out e k = rw (e, k) refl

-- one more item, after those that were read
pub repeat-more : {X : Type 0} (g : Grammar X) (ns : List ℕ) (n start at after : ℕ) (xs : List X) (x : X)
    → at_place (repeat n g) ns start ≡ Ok (xs, at) → at_place g ns at ≡ Ok (x, after) → at_place (repeat (suc n) g) ns start
    ≡ Ok (xs ++ x ∷ [], after)
repeat-more {X = X} g ns zero start at after xs x h k = grind (arith)
repeat-more {X = X} g ns (suc n) start at after xs x h k =
    let first = then_ok (at_place g ns start) (λ y middle. and_then (at_place (repeat n g) ns middle) (λ ys p. Ok (y ∷ ys, p))) xs at h in
    let others = then_ok (at_place (repeat n g) ns first.1) (λ ys p. Ok (first.0 ∷ ys, p)) xs at first.3 in
    let same = same_front first.0 others.0 xs others.1 at others.3 in
    let more = repeat-more g ns n first.1 at after others.0 x (others.2 ∙ ap (ok_with others.0) same.1) k in
    let f : Reading (List X) → Reading (List X) = λ r. and_then r (λ ys p. Ok (first.0 ∷ ys, p)) in
    let ends : List X → Reading (List X) = λ zs. Ok (zs ++ x ∷ [], after) in
    chain (at_place g ns start) (λ y middle. and_then (at_place (repeat (suc n) g) ns middle) (λ ys p. Ok (y ∷ ys, p))) first.0 first.1 _ first.2
    (ap f more ∙ ap ends (sym same.0))

-- n items were counted, up to a place
pub record HasCounted {X : Type 0} (g : Grammar X) (ns : List ℕ) (n at : ℕ) : Type 0 where
  pub few : n ≤ at
  pub near : at ≤ 255
  pub items : List X
  pub front : at_place (repeat n g) ns 0 ≡ Ok (items, at)
  pub others : most g (length ns) ns 0 ≡ with_front items (most g (length ns - n) ns at)

pub counted-more : {X : Type 0} (g : Grammar X) (ns : List ℕ) (n at after : ℕ) (x : X) → HasCounted g ns n at → at < length ns → at < after
    → after ≤ 255 → at_place g ns at ≡ Ok (x, after) → HasCounted g ns (n + 1) after
counted-more g ns n at after x h lt rise near k =
    let few : n ≤ at = h.few in
    let one : length ns - n ≡ suc (length ns - (n + 1)) = omega arith in
    let step : most g (length ns - n) ns at ≡ with_front (x ∷ []) (most g (length ns - (n + 1)) ns after) = rw one
    (most-more g ns (length ns - (n + 1)) at after x lt k) in
    let e : n + 1 ≡ suc n = omega arith in
    record {
      few = omega arith;
      near = near;
      items = h.items ++ x ∷ [];
      front = rw e (repeat-more g ns n 0 at after h.items x h.front k);
      others = h.others ∙ ap (with_front h.items) step ∙ fronts h.items (x ∷ []) (most g (length ns - (n + 1)) ns after);
    }

-- what at most as many items as there are nibbles come to, at the end and where no item stands next
pub record ReadsAll {X : Type 0} (g : Grammar X) (ns : List ℕ) (n : ℕ) : Type 0 where
  pub whole : IsTrue (is_read (at_place (repeat n g) ns 0))
  pub items : option_map (λ (p : List X × ℕ). p.0) (result_ok (most g (length ns - 0) ns 0)) ≡ Some (value_or [] (at_place (repeat n g) ns 0))

pub counted-all : {X : Type 0} (g : Grammar X) (ns : List ℕ) (n at : ℕ) → HasCounted g ns n at → length ns ≤ at → ReadsAll g ns n
counted-all g ns n at h le = grind (arith, length, most-ends, append-nil)

failed : {X : Type 0} (front : List X) (r : Reading (List X)) → result_ok r ≡ None → result_ok (with_front front r) ≡ None
failed front x h = grind (arith)

pub counted-fails : {X : Type 0} (g : Grammar X) (ns : List ℕ) (n at : ℕ) → HasCounted g ns n at → at < length ns
    → result_ok (at_place g ns at) ≡ None → option_map (λ (p : List X × ℕ). p.0) (result_ok (most g (length ns - 0) ns 0)) ≡ None
counted-fails g ns n at h lt k = grind (arith, length, suc, failed, most-fails)

pub read_where : {X : Type 0} (r : Reading X) (x : X × ℕ) → Some x ≡ result_ok r → r ≡ Ok x
read_where x x2 h = grind (arith)
