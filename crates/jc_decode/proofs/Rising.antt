-- The keys of a switch that is decoded rise, and its high is not below its low.
use Rattle.std.proofs.Common.{inl, inr, subst, ◌≡◌, ◌<◌, ◌≤◌, ◌+◌, ◌*◌, ◌-◌, ℕ, zero, suc, Bool, true, false, cond, Option, Some}
use Rattle.std.proofs.Common.{None, Result, Ok, Err, List, length, refl, sym, ap, ◌∙◌, arith, rules}
use Rattle.std.specs.Prelude.{ℤ, pos, ◌+ℤ◌, ◌<ℤ◌, ◌≤ℤ◌, int_lt, unsigned_abs, map, not, slice_get, IsTrue, IfOk}
use Rattle.std.specs.List.{find, range_with_len}
use Rattle.std.proofs.lemmas.Int.{ints}
use Rattle.std.proofs.lemmas.Bool.{cases_lt, not-false}
use Rattle.std.proofs.lemmas.Option.{slice_get_within, same_Some}
use Rattle.std.proofs.lemmas.List.FromFn.{length-map-range_with_len}
use Rattle.jc_decode.specs.declared.layout.Operand.{Operand}
use Rattle.jc_decode.specs.declared.layout.Cases.{Cases}
use Rattle.jc_decode.specs.declared.layout.Cases.TheVariants.{Range, Pairs}
use Rattle.jc_decode.specs.declared.layout.Cases.TheVariants.{Absent as NoCases}
use Rattle.jc_decode.specs.declared.layout.Layout.{Layout}
use Rattle.jc_decode.specs.declared.insn.CodeEnd.{CodeEnd}
use Rattle.jc_decode.specs.declared.insn.Insn.{Insn}
use Rattle.jc_decode.specs.declared.insn.Case.{Case}
use Rattle.jc_decode.specs.Layout.{total_width}
use Rattle.jc_decode.specs.Decoding.{within_bytes, key_at, rises, pair_width, pairs_end, keys_rise, range_end, range_count, decoded, Begins}
use Rattle.jc_decode.specs.Cases.{cases, range_case, pair_case, is_range, has_range, is_table_switch, KeysRise}
use Rattle.jc_decode.proofs.Decoded.{Begins-decoded, from_bind}
use Rattle.jc_decode.proofs.Tables.{cases-by, slice_get-map-range, range_order}

-- an element of what f gives of the numbers below count
map-range-some : (f : ℕ → Case) (count n : ℕ) (c : Case) → slice_get (map f (range_with_len 0 count)) n ≡ Some c → (n < count) × (c ≡ f n)
map-range-some f count n c h = grind (arith, slice_get_within, length-map-range_with_len, same_Some, slice_get-map-range)

-- a search that finds nothing
first-none : (p : ℕ → Bool) (a k : ℕ) → find p (range_with_len a (suc k)) ≡ None → (p a ≡ false) × (find p (range_with_len (a + 1) k) ≡ None)
first-none p a k h = by_first (p a) refl h
  where
    by_first : (b : Bool) → p a ≡ b → cond b (Some a) (find p (range_with_len (a + 1) k)) ≡ None → (p a ≡ false)
        × (find p (range_with_len (a + 1) k) ≡ None)
    by_first true e h = absurd (cc)
    by_first false e h = (e, h)

find-none : (p : ℕ → Bool) (a k n : ℕ) → find p (range_with_len a k) ≡ None → a ≤ n → n < a + k → p n ≡ false
find-none p a zero n h low high = absurd (omega arith)
find-none p a (suc k) n h low high =
    let parts = first-none p a k h in
    elim (cases_lt a n) [
      | inl later ↦ find-none p (a + 1) k n parts.1 (omega arith) (omega arith)
      | inr here ↦ let same : n ≡ a = omega arith in rw same parts.0
    ]

pub keys_rise-none : (key : Operand) (xs : List ℕ) (t end : ℕ) (o : Option ℕ) (e : ℕ) → keys_rise key xs t end o ≡ Ok e → o ≡ None
keys_rise-none key xs t end v e h = grind (arith)

-- the keys of a table of pairs rise
pair-rises : (key : Operand) (xs : List ℕ) (t count e n : ℕ) → pairs_end key xs t count ≡ Ok e → n + 1 < count
    → key_at key xs t n <ℤ key_at key xs t (n + 1)
pair-rises key xs t count e n h below =
    from_bind (within_bytes xs (t + pair_width key * count)) _ e h (λ end end_is h1.
    let none = keys_rise-none key xs t end _ e h1 in
    let risen = not-false (rises key xs t (n + 1)) (find-none (λ k. not (rises key xs t k)) 1 (count - 1) (n + 1) none (omega arith) (omega arith)) in
    let before : n + 1 - 1 ≡ n = omega arith in
    let test : int_lt (key_at key xs t n) (key_at key xs t (n + 1)) ≡ true = ap (λ (k : ℕ). int_lt (key_at key xs t k) (key_at key xs t (n + 1)))
    (sym before) ∙ risen in
    record { lt = search (rules, test) })

range-rises : (low : ℤ) (n : ℕ) (c d : ℤ) → c ≡ low +ℤ pos n → d ≡ low +ℤ pos (n + 1) → c <ℤ d
range-rises low n c d e f = omega (arith, ints)

pub KeysRise-Begins : (xs : List ℕ) (at : ℕ) (i : Insn) → Begins xs at i → KeysRise (cases xs at i)
KeysRise-Begins xs at i b = by_cases b.layout.cases refl
  where
    by_cases : (k : Cases) → b.layout.cases ≡ k → KeysRise (cases xs at i)
    by_cases NoCases is n c d here after =
        let e = cases-by xs at i b.layout NoCases b.is_layout is in
        let inside = slice_get_within (cases xs at i) n c here in
        absurd (omega (arith, inside, ap length e))
    by_cases Range is n c d here after =
        let t = at + 1 + total_width b.layout in
        let e = cases-by xs at i b.layout Range b.is_layout is in
        let this = map-range-some (range_case xs t i.y) (range_count i.y i.z) n c (ap (λ (cs : List Case). slice_get cs n) (sym e) ∙ here) in
        let one = map-range-some (range_case xs t i.y) (range_count i.y i.z) (n + 1) d (ap (λ (cs : List Case). slice_get cs (n + 1)) (sym e) ∙ after) in
        range-rises i.y n c.key d.key (ap (λ (x : Case). x.key) this.1) (ap (λ (x : Case). x.key) one.1)
    by_cases (Pairs key) is n c d here after =
        let t = at + 1 + total_width b.layout in
        let e = cases-by xs at i b.layout (Pairs key) b.is_layout is in
        let this = map-range-some (pair_case xs t key) (unsigned_abs i.y) n c (ap (λ (cs : List Case). slice_get cs n) (sym e) ∙ here) in
        let one = map-range-some (pair_case xs t key) (unsigned_abs i.y) (n + 1) d (ap (λ (cs : List Case). slice_get cs (n + 1)) (sym e) ∙ after) in
        let ends : pairs_end key xs t (unsigned_abs i.y) ≡ Ok (at + i.len) = rw is at b.ends in
        rw (ap (λ (x : Case). x.key) this.1, ap (λ (x : Case). x.key) one.1) (pair-rises key xs t (unsigned_abs i.y) (at + i.len) n ends one.0)

not_range : (j k : Cases) → j ≡ k → is_range k ≡ false → IsTrue (is_range j) → ⊥
not_range j k is none yes_range = let h : IsTrue false = subst (λ (t : Bool). IsTrue t) (ap is_range is ∙ none) yes_range in search rules

-- high is not below low
range-order : (xs : List ℕ) (at : ℕ) (i : Insn) → Begins xs at i → IsTrue (is_table_switch i.op) → i.y ≤ℤ i.z
range-order xs at i b table = by_cases b.layout.cases refl (subst (λ (r : Result Layout CodeEnd). IsTrue (has_range r)) b.is_layout table)
  where
    by_cases : (k : Cases) → b.layout.cases ≡ k → IsTrue (is_range b.layout.cases) → i.y ≤ℤ i.z
    by_cases Range is yes_range =
        let ends : range_end b.layout.z xs (at + 1 + total_width b.layout) i.y i.z ≡ Ok (at + i.len) = rw is at b.ends in
        range_order b.layout.z xs (at + 1 + total_width b.layout) i.y i.z (at + i.len) ends
    by_cases NoCases is yes_range = absurd (not_range b.layout.cases NoCases is refl yes_range)
    by_cases (Pairs key) is yes_range = absurd (not_range b.layout.cases (Pairs key) is refl yes_range)

pub rising-answer : (xs : List ℕ) (at : ℕ) (r : Result Insn CodeEnd) → r ≡ decoded xs at → IfOk r (λ i. KeysRise (cases xs at i))
rising-answer xs at (Ok i) h = KeysRise-Begins xs at i (Begins-decoded xs at i (sym h))
rising-answer xs at (Err e) h = search rules

pub order-answer : (xs : List ℕ) (at : ℕ) (r : Result Insn CodeEnd) → r ≡ decoded xs at
    → IfOk r (λ i. IsTrue (is_table_switch i.op) → i.y ≤ℤ i.z)
order-answer xs at (Ok i) h = range-order xs at i (Begins-decoded xs at i (sym h))
order-answer xs at (Err e) h = search rules
