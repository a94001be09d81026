-- Each entry of the handler table of a package belongs to one method, so that the handlers of all methods are no more than the table has.
use Rattle.std.proofs.Common.{◌≡◌, ℕ, zero, suc, ◌+◌, ◌-◌, ◌≤◌, Bool, true, false, ◌&&◌, ltb, leb, min, List, [], ◌∷◌}
use Rattle.std.proofs.Common.{length, filter, cond, refl, arith}
use Rattle.std.proofs.lemmas.Bool.{ltb-true, ltb-false, leb-true, leb-false}
use Rattle.cap_desc.specs.DescriptorFormat.{MethodDescriptor}
use Rattle.cap_package.specs.HandlerChecks.{claims}
use Rattle.cap_package.specs.PackageRecord.{PackageRecord, described_methods}
use Rattle.cap_package.specs.StandsFor.{StandsFor}
use Rattle.cap_package.proofs.Agreed.{agrees}
use Rattle.law_package.proofs.Handlers.{OwnedOnce, owned_once}

-- how many entries of a table of so many a method has, and how many several methods have
abbrev pub entry_count : ℕ → MethodDescriptor → ℕ
entry_count many m = min m.handler_count (many - m.handler_index)

abbrev pub entry_sum : ℕ → List MethodDescriptor → ℕ
entry_sum many [] = 0
entry_sum many (m ∷ ms) = entry_count many m + entry_sum many ms

one_if : Bool → ℕ
one_if true = 1
one_if false = 0

-- one more entry belongs to a method if this claims it
one-more : (many : ℕ) (m : MethodDescriptor) → entry_count (suc many) m ≡ one_if (claims many m) + entry_count many m
unfolding one_if
one-more many m = by (leb m.handler_index many) (ltb many (m.handler_index + m.handler_count)) refl refl
  where
    by : (a b : Bool) → leb m.handler_index many ≡ a → ltb many (m.handler_index + m.handler_count) ≡ b
        → entry_count (suc many) m ≡ one_if (a && b) + entry_count many m
    by true true e f = let le = leb-true m.handler_index many e in let lt = ltb-true many (m.handler_index + m.handler_count) f in omega (arith, le, lt)
    by true false e f = let le = leb-true m.handler_index many e in let ge = ltb-false many (m.handler_index + m.handler_count) f in omega (arith, le, ge)
    by false b e f = let gt = leb-false m.handler_index many e in omega (arith, gt)

filter-count : (n : ℕ) (m : MethodDescriptor) (ms : List MethodDescriptor) → length (filter (claims n) (m ∷ ms)) ≡ one_if (claims n m) + length
    (filter (claims n) ms)
unfolding one_if
filter-count n m ms = by (claims n m)
  where
    by : (b : Bool) → length (cond b (m ∷ filter (claims n) ms) (filter (claims n) ms)) ≡ one_if b + length (filter (claims n) ms)
    by true = omega arith
    by false = omega arith

sum-more : (many : ℕ) (ms : List MethodDescriptor) → entry_sum (suc many) ms ≡ length (filter (claims many) ms) + entry_sum many ms
sum-more many [] = refl
sum-more many (m ∷ ms) = grind (arith, one-more, filter-count, sum-more many ms)

sum-none : (ms : List MethodDescriptor) → entry_sum 0 ms ≡ 0
sum-none [] = refl
sum-none (m ∷ ms) = let others = sum-none ms in omega (arith, others)

-- where each entry belongs to at most one method
sum-within : (many : ℕ) (ms : List MethodDescriptor) → OwnedOnce many ms → entry_sum many ms ≤ many
sum-within zero ms one = let none = sum-none ms in omega (arith, none)
sum-within (suc many) ms one =
    let more = sum-more many ms in
    let last = one many (omega arith) in
    let others = sum-within many ms (λ n lt. one n (omega (arith, lt))) in
    omega (arith, more, last, others)

-- ---- a package

pub entries-within : (p : PackageRecord) → StandsFor p.parts p → entry_sum (length p.methods.handlers) (described_methods p) ≤ length p.methods.handlers
entries-within p agreed = sum-within (length p.methods.handlers) (described_methods p) (owned_once p.parts p (agrees p.parts p agreed.agree))
