-- The cells of the fields of a class in the order of the fields' tokens.
use Rattle.std.proofs.Common.{◌≡◌, ℕ, zero, suc, ◌+◌, ◌-◌, ◌<◌, cond, List, [], ◌∷◌, ◌++◌, length, append_assoc, refl, sym, ap}
use Rattle.std.proofs.Common.{ap₂, ◌∙◌, arith, nat_lt, flat_map}
use Rattle.std.specs.Prelude.{◌==◌}
use Rattle.std.specs.List.{range_with_len}
use Rattle.std.proofs.lemmas.Bool.Decides.{nat_tests}
use Rattle.std.proofs.lemmas.List.{append-nil, length-append}
use Rattle.std.proofs.lemmas.List.Sums.{sum_by-cons}
use Rattle.std.proofs.lemmas.List.Concat.{flat_map-append}
use Rattle.jc_base.specs.declared.ty.Ty.{Ty}
use Rattle.jc_base.specs.Cell.{width}
use Rattle.jc_resolve.specs.declared.field_records.OwnField.{OwnField}
use Rattle.jc_resolve.specs.OwnFields.{cells_of_own, own_with_token, cells_over}
use Rattle.jc_link.specs.Fields.{cells_in_all, cells_before}
use Rattle.jc_link.proofs.Rooms.{taken_before, counted}

-- ---- how many cells there are

taken : (fs : List OwnField) → length (flat_map cells_of_own fs) ≡ cells_in_all fs
taken [] = refl
taken (f ∷ fs) =
    length-append (cells_of_own f) (flat_map cells_of_own fs)
    ∙ ap₂ ◌+◌ (grind (arith)) (taken fs)
    ∙ sym (sum_by-cons (λ (g : OwnField). width g.kind) f fs)

one_more : (w n a : ℕ) → cond (nat_lt n (a + 1)) w 0 ≡ cond (nat_lt n a) w 0 + cond (n == a) w 0
one_more w n a = grind (arith, nat_tests)

-- before the next token stand the cells of the fields with this one too
before_next : (own : List OwnField) (a : ℕ) → cells_before own (a + 1) ≡ cells_before own a + cells_in_all (own_with_token own a)
before_next [] a = refl
before_next (f ∷ own) a =
    let next = taken_before f own (a + 1) in
    let now = taken_before f own a in
    let here = counted (f.token == a) f (own_with_token own a) in
    let more = one_more (width f.kind) f.token a in
    let others = before_next own a in
    omega (arith, next, now, here, more, others)

no_less : (w n : ℕ) → cond (nat_lt n 0) w 0 ≡ 0
no_less w n = grind (arith, nat_tests)

none_before : (own : List OwnField) → cells_before own 0 ≡ 0
none_before [] = refl
none_before (f ∷ own) = grind (arith, taken_before, no_less, none_before own)

pub cells_many : (own : List OwnField) (n a : ℕ) → cells_before own a + length (cells_over own a n) ≡ cells_before own (a + n)
cells_many own zero a = let e : a ≡ a + 0 = omega arith in rw (← e) (omega arith)
cells_many own (suc n) a =
    let split : length (cells_over own a (suc n)) ≡ cells_in_all (own_with_token own a) + length (cells_over own (a + 1) n) =
    ap length (flat_map-append cells_of_own (own_with_token own a) (flat_map (own_with_token own) (range_with_len (a + 1) n)))
    ∙ length-append (flat_map cells_of_own (own_with_token own a)) (cells_over own (a + 1) n)
    ∙ ap (λ k. k + length (cells_over own (a + 1) n)) (taken (own_with_token own a)) in
    let same : a + suc n ≡ (a + 1) + n = omega arith in
    let others = cells_many own n (a + 1) in
    rw same (omega (arith, split, others, before_next own a))

pub cells_first : (own : List OwnField) (n : ℕ) → length (cells_over own 0 n) ≡ cells_before own n
cells_first own n = grind (arith, cells_many, none_before)

-- ---- where they stand

cells_step : (own : List OwnField) (a n : ℕ) → cells_over own a (suc n) ≡ flat_map cells_of_own (own_with_token own a) ++ cells_over own (a + 1) n
cells_step own a n = flat_map-append cells_of_own (own_with_token own a) (flat_map (own_with_token own) (range_with_len (a + 1) n))

cells_split : (own : List OwnField) (m a n k : ℕ) → k ≡ m + n → cells_over own a k ≡ cells_over own a m ++ cells_over own (a + m) n
cells_split own zero a n k e = grind (arith, ap₂)
cells_split own (suc m) a n zero e = absurd (omega arith)
cells_split own (suc m) a n (suc k) e =
    let less : k ≡ m + n = omega arith in
    let from : (a + 1) + m ≡ a + suc m = omega arith in
    cells_step own a k
    ∙ ap (λ (xs : List Ty). flat_map cells_of_own (own_with_token own a) ++ xs) (cells_split own m (a + 1) n k less)
    ∙ sym (append_assoc (flat_map cells_of_own (own_with_token own a)) (cells_over own (a + 1) m) (cells_over own ((a + 1) + m) n))
    ∙ ap₂ (λ (xs : List Ty) (i : ℕ). xs ++ cells_over own i n) (sym (cells_step own a m)) from

-- the cells of a field stand in a list from a place on
pub record Stands (cells : List Ty) (at : ℕ) (f : OwnField) : Type 0 where
  pub front : List Ty
  pub farther : List Ty
  pub many : length front ≡ at
  pub whole : cells ≡ front ++ (cells_of_own f ++ farther)

alone : (own : List OwnField) (token : ℕ) (f : OwnField) → own_with_token own token ≡ f ∷ [] → flat_map cells_of_own (own_with_token own token)
    ≡ cells_of_own f
alone own token f one = ap (λ (fs : List OwnField). flat_map cells_of_own fs) one ∙ append-nil (cells_of_own f)

-- the cells of the only field with a token stand after those of the fields of lesser tokens
pub only_stands : (own : List OwnField) (n token : ℕ) (f : OwnField) → token < n → own_with_token own token ≡ f ∷ []
    → Stands (cells_over own 0 n) (cells_before own token) f
only_stands own n token f lt one =
    let rest : n ≡ token + suc (n - (token + 1)) = omega arith in
    let from : 0 + token ≡ token = omega arith in
    record {
      front = cells_over own 0 token;
      farther = cells_over own (token + 1) (n - (token + 1));
      many = cells_first own token;
      whole = grind (arith, cells_split own token 0 (suc (n - (token + 1))) n rest, cells_step own token (n - (token + 1)));
    }
