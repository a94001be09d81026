-- How many methods are accepted over their indexes.
use Rattle.std.proofs.Common.{◌≡◌, ℕ, zero, suc, ◌+◌, ◌<◌, ◌≤◌, ◌⊎◌, inl, inr, ⊎_elim, Bool, List, [], ◌∷◌}
use Rattle.std.proofs.Common.{◌++◌, length, Contains, MatchBool, Some, None, Result, OnOk, OnErr, IsSomeAnd, IsTrue, slice_get, refl, sym, ap}
use Rattle.std.proofs.Common.{subst, ◌∙◌, arith}
use Rattle.std.specs.Prelude.{is_ok}
use Rattle.std.specs.Int.{from_bool}
use Rattle.std.proofs.lemmas.Bool.{cases_lt}
use Rattle.std.proofs.lemmas.List.{length-append}
use Rattle.std.proofs.lemmas.List.Elements.{Contains-append_left, Contains-push, Contains-push_cases}
use Rattle.std.proofs.lemmas.Option.{slice_get_within, same_Some}
use Rattle.jc_base.specs.Index.{IsAscending}
use Rattle.jc_base.specs.declared.ty.Ty.{Ty}
use Rattle.jc_base.specs.declared.record.MethodRec.{MethodRec}
use Rattle.jc_base.specs.World.{Linked, index_of}
use Rattle.jc_decode.proofs.Elements.{Contains-slice_get}
use Rattle.jc_control.specs.Method.{method_in, IsMethodOf}
use Rattle.card_typing.specs.declared.fault.CardFault.{CardFault}
use Rattle.card_typing.specs.Typing.{IsLeastCardTyping}
use Rattle.card_typing.specs.Laws.{CardIsFlow}
use Rattle.card_verify.specs.Answers.{IsAcceptedAt}
use Rattle.card_verify.proofs.Answering.{on-method}
use Rattle.card_verify.specs.Counting.{IsByIndex, CountsByIndex}
use Rattle.card_verify.specs.IndexTyping.{HasIndexTyping}

-- what stands in a list with one more at its end: an element of the list, or the last one
pushed : (xs : List ℕ) (x k y : ℕ) → slice_get (xs ++ x ∷ []) k ≡ Some y → (k < length xs) × (slice_get xs k ≡ Some y) ⊎ (k ≡ length xs)
    × (x ≡ y)
pushed [] x zero y e = inr (refl, same_Some x y e)
pushed [] x (suc k) y e = absurd cc
pushed (z ∷ xs) x zero y e = inl (omega arith, e)
pushed (z ∷ xs) x (suc k) y e = ⊎_elim (λ old. inl (omega (arith, old.0), old.1)) (λ last. inr (ap suc last.0, last.1)) (pushed xs x k y e)

ascending-push : (xs : List ℕ) (x : ℕ) → IsAscending xs → ((j y : ℕ) → slice_get xs j ≡ Some y → y < x) → IsAscending (xs ++ x ∷ [])
ascending-push xs x up below k p q at next = by (pushed xs x k p at) (pushed xs x (k + 1) q next)
  where
    by : (k < length xs) × (slice_get xs k ≡ Some p) ⊎ (k ≡ length xs) × (x ≡ p) → (k + 1 < length xs) × (slice_get xs (k + 1) ≡ Some q)
        ⊎ (k + 1 ≡ length xs) × (x ≡ q) → p < q
    by (inl a) (inl b) = up k p q a.1 b.1
    by (inl a) (inr b) = subst (λ n. p < n) b.1 (below k p a.1)
    by (inr a) (inl b) = absurd (omega (arith, a.0, b.0))
    by (inr a) (inr b) = absurd (omega (arith, a.0, b.0))

pub counts-none : (w : Linked) → CountsByIndex w 0 0
counts-none w = grind (arith, slice_get_within)

module _ (w : Linked) (n count : ℕ) (c : CountsByIndex w n count) where
  -- a method that is not accepted so
  pub counts-without : ¬ (IsByIndex w n) → CountsByIndex w (n + 1) count
  counts-without other = record {
    numbers = c.numbers;
    ascending = c.ascending;
    exactly =
        λ k. (
          λ here. let old = (c.exactly k).0 here in (omega (arith, old.0), old.1),
          λ h. ⊎_elim (λ lt. (c.exactly k).1 (lt, h.1))
              (λ ge. absurd (other (subst (IsByIndex w) (omega (arith, h.0, ge)) h.1))) (cases_lt k n),
        );
    count_is = c.count_is;
  }

  -- or one that is
  pub counts-with : IsByIndex w n → CountsByIndex w (n + 1) (count + 1)
  counts-with this = record {
    numbers = c.numbers ++ n ∷ [];
    ascending = rises;
    exactly = λ k. (
      λ here. ⊎_elim (λ old. let known = (c.exactly k).0 old in (omega (arith, known.0), known.1))
          (λ same. (omega (arith, same), subst (IsByIndex w) same this)) (Contains-push_cases c.numbers n k here),
      λ h. ⊎_elim (λ lt. Contains-append_left c.numbers (n ∷ []) k ((c.exactly k).1 (lt, h.1))) (λ ge.
          let same : n ≡ k = omega (arith, h.0, ge) in
          subst (Contains (c.numbers ++ n ∷ [])) same (Contains-push c.numbers n)) (cases_lt k n),
    );
    count_is = let more = length-append c.numbers (n ∷ []) in omega (arith, more, c.count_is);
  }
    where
      rises : IsAscending (c.numbers ++ n ∷ [])
      rises k p q at next = ascending-push c.numbers n c.ascending (λ j r there. ((c.exactly r).0 (Contains-slice_get c.numbers j r there)).0) k p q at next

-- the count after a method
pub counts-by : (w : Linked) (n count : ℕ) → CountsByIndex w n count → (by : Bool) (one : ℕ) → one ≡ from_bool by
    → MatchBool by (IsByIndex w n) (¬ (IsByIndex w n)) → CountsByIndex w (n + 1) (count + one)
counts-by w n count c x one e this = grind (arith, counts-with, counts-without)

pub count-most : (n count : ℕ) → count ≤ n → (by : Bool) (one : ℕ) → one ≡ from_bool by → count + one ≤ n + 1
count-most n count le x one e = grind (arith)

-- ---- one method

-- a method without code is none of them
pub bare-not : (w : Linked) (n : ℕ) (rec : MethodRec) → slice_get w.methods n ≡ Some rec → rec.code_len ≡ 0 → ¬ (IsByIndex w n)
bare-not w n rec here none by = grind (arith, same_Some)

-- one without an index
pub unindexed-not : (w : Linked) (n : ℕ) → index_of w n ≡ None → ¬ (IsByIndex w n)
unindexed-not w n none by = let e : Some by.index ≡ None = sym by.indexed ∙ none in cc

module _ (w : Linked) (n : ℕ) (rec : MethodRec) (here : slice_get w.methods n ≡ Some rec) (code : 0 < rec.code_len) (index : List ℕ)
    (has : index_of w n ≡ Some index) where
  -- one with an index is one of them exactly where the verifier over it is content
  pub served : (r : Result (Unit {0}) CardFault) (b : Bool) → b ≡ is_ok r → IsSomeAnd (method_in w n) (λ m. OnOk r (HasIndexTyping w m index))
      → IsSomeAnd (method_in w n) (λ m. OnErr r (¬ (HasIndexTyping w m index)))
      → MatchBool b (IsByIndex w n) (¬ (IsByIndex w n))
  served x b e typing none = grind (arith, on-method, same_Some)

-- a method that is accepted over its index is accepted
pub accepted-by : (w : Linked) (n : ℕ) (rec : MethodRec) (regs : List Ty) → slice_get w.methods n ≡ Some rec → CardIsFlow w
    → (r : Result (Unit {0}) CardFault) (b : Bool) → b ≡ is_ok r → IsSomeAnd (method_in w n) (λ m. IsMethodOf w m)
    → IsSomeAnd (method_in w n) (λ m. OnOk r (IsLeastCardTyping w m regs)) → IsTrue b → IsAcceptedAt w n
accepted-by w n rec regs here flow x b e known least t other is code = grind (arith, on-method, same_Some)
