-- Blocks that cover positions.
use Rattle.std.proofs.Common.{◌≡◌, ℕ, ◌+◌, ◌-◌, ◌*◌, ◌/◌, ◌%◌, ◌<◌, ◌≤◌, ◌⊎◌, inl}
use Rattle.std.proofs.Common.{inr, ⊎_elim, List, [], ◌∷◌, ◌++◌, refl, sym, subst, arith}
use Rattle.std.specs.Prelude.{Option, Some, None, Contains}
use Rattle.std.proofs.lemmas.Bool.{cases_lt, cases_eq, eq-eqb, ne_eqb}
use Rattle.std.proofs.lemmas.List.Elements.{Contains-append_left, Contains-push, Contains-push_cases}
use Rattle.jc_decode.proofs.Elements.{nothing-in}
use Rattle.vm_bound.specs.declared.spread.Block.{Block}
use Rattle.vm_bound.specs.Blocks.{IsHalf, Under, under_one, under_half, IsPart, IsInPart, AddsRun, with_if}
use Rattle.vm_bound.specs.Runs.{IsRun, AreRuns}

-- the nodes from one to before another are still to be taken
pub record IsCovering (count from to by : ℕ) (old new : List Block) (low high : ℕ) : Type 0 where
  pub kept : (b : Block) → Contains old b → Contains new b
  pub only : (b : Block) → Contains new b → Contains old b ⊎ IsPart count from to by b
  pub inner : (x p : ℕ) → low ≤ x → x < high → Under count x p → (from ≤ p) × (p < to)
  pub all : (p : ℕ) → from ≤ p → p < to → IsInPart count by new p ⊎ ((x : ℕ) × (low ≤ x) × (x < high) × Under count x p)
  pub pos : 0 < low
  pub most : high ≤ count * 2

under-leaf : {count x p : ℕ} → count ≤ x → Under count x p → x ≡ count + p
under-leaf l y = grind (arith)

-- half of a number, with what is left
halved : (x : ℕ) → IsHalf (x / 2) x
halved x = grind (arith, cases_eq)

module _ (count from to by : ℕ) (old : List Block) where
  pub covering-begins : from < to → to ≤ count → IsCovering count from to by old old (count + from) (count + to)
  covering-begins l inside = record {
    kept = λ b h. h;
    only = λ b h. inl h;
    inner = λ x p low high under. let e = under-leaf (omega (arith, low)) under in (omega (arith, e, low), omega (arith, e, high));
    all = λ p low high. inr (count + p, omega (arith, low), omega (arith, high), under_one refl);
    pos = omega (arith, l, inside);
    most = omega (arith, inside);
  }

  in-more : (new : List Block) (b : Block) (p : ℕ) → IsInPart count by new p → IsInPart count by (new ++ b ∷ []) p
  in-more new b p has =
      record { block = has.block; among = Contains-append_left new (b ∷ []) has.block has.among; by_is = has.by_is; under = has.under }

  -- a node is taken
  taken-only : (new : List Block) (low high x : ℕ) → low ≤ x → x < high → IsCovering count from to by old new low high
      → (b : Block) → Contains (new ++ record { node = x; by = by } ∷ []) b → Contains old b ⊎ IsPart count from to by b
  taken-only new low high x l h before b c = ⊎_elim (λ was. before.only b was)
      (λ is. inr (subst (IsPart count from to by) is (record {
        by_is = refl;
        node = (let pos = before.pos in omega (arith, pos, l));
        inside = λ p under. before.inner x p l h under;
      }))) (Contains-push_cases new (record { node = x; by = by }) b c)

  taken-first : (new : List Block) (low high : ℕ) → low < high → IsCovering count from to by old new low high
      → IsCovering count from to by old (new ++ record { node = low; by = by } ∷ []) (low + 1) high
  taken-first new low high l before = record {
    kept = λ b h. Contains-append_left new (record { node = low; by = by } ∷ []) b (before.kept b h);
    only = taken-only new low high low (omega arith) l before;
    inner = λ x p a b under. before.inner x p (omega (arith, a)) b under;
    all = λ p a b. ⊎_elim (λ has. inl (in-more new (record { node = low; by = by }) p has))
        (λ has. elim (cases_eq has.0 low) [
          | inl e ↦ inl (record {
            block = record { node = low; by = by };
            among = Contains-push new (record { node = low; by = by });
            by_is = refl;
            under = subst (λ (x : ℕ). Under count x p) e has.3;
          })
          | inr not ↦ inr (has.0, (let k = has.1 in omega (arith, k, not)), has.2, has.3)
        ]) (before.all p a b);
    pos = omega arith;
    most = before.most;
  }

  taken-last : (new : List Block) (low high : ℕ) → low < high → IsCovering count from to by old new low high
      → IsCovering count from to by old (new ++ record { node = high - 1; by = by } ∷ []) low (high - 1)
  taken-last new low high l before = record {
    kept = λ b h. Contains-append_left new (record { node = high - 1; by = by } ∷ []) b (before.kept b h);
    only = taken-only new low high (high - 1) (omega (arith, l)) (omega (arith, l)) before;
    inner = λ x p a b under. before.inner x p a (omega (arith, b)) under;
    all = λ p a b. ⊎_elim (λ has. inl (in-more new (record { node = high - 1; by = by }) p has))
        (λ has. elim (cases_eq has.0 (high - 1)) [
          | inl e ↦ inl (record {
            block = record { node = high - 1; by = by };
            among = Contains-push new (record { node = high - 1; by = by });
            by_is = refl;
            under = subst (λ (x : ℕ). Under count x p) e has.3;
          })
          | inr not ↦ inr (has.0, has.1, (let k = has.2 in omega (arith, k, not, l)), has.3)
        ]) (before.all p a b);
    pos = before.pos;
    most = (let m = before.most in omega (arith, m));
  }

  -- the nodes above those that are left
  raised : (new : List Block) (low high : ℕ) → low % 2 ≡ 0 → high % 2 ≡ 0 → IsCovering count from to by old new low high
      → IsCovering count from to by old new (low / 2) (high / 2)
  raised new low high even other before = record {
    kept = before.kept;
    only = before.only;
    inner = inner;
    all = λ p a b. ⊎_elim (λ has. inl has) (λ has. inr (up p has.0 has.1 has.2 has.3)) (before.all p a b);
    pos = (let l = before.pos in omega (arith, l, even));
    most = (let m = before.most in omega (arith, m));
  }
    where
      inner : (x p : ℕ) → low / 2 ≤ x → x < high / 2 → Under count x p → (from ≤ p) × (p < to)
      inner x p l h (under_one e) = let m = before.most in absurd (omega (arith, m, e, h))
      inner x p l h (under_half {y = y} inside half more) = elim half [
        | inl e ↦ before.inner y p (omega (arith, e, l, even)) (omega (arith, e, h, other)) more
        | inr e ↦ before.inner y p (omega (arith, e, l, even)) (omega (arith, e, h, other)) more
      ]

      up : (p x : ℕ) → low ≤ x → x < high → Under count x p → (y : ℕ) × (low / 2 ≤ y) × (y < high / 2) × Under count y p
      up p x l h under =
          let m = before.most in
          (x / 2, omega (arith, l), omega (arith, h, other), under_half (omega (arith, m, h)) (halved x) under)

  odd-one : (x : ℕ) → (x % 2 ≡ 0 → ⊥) → x % 2 ≡ 1
  odd-one x not = omega (arith, not)

  with-if-odd : (xs : List Block) (odd : ℕ) (b : Block) → odd ≡ 1 → with_if xs odd b ≡ xs ++ b ∷ []
  with-if-odd xs odd b e = rw (eq-eqb odd 1 e) refl

  with-if-even : (xs : List Block) (odd : ℕ) (b : Block) → odd ≡ 0 → with_if xs odd b ≡ xs
  with-if-even xs odd b e = rw (ne_eqb odd 1 (λ f. absurd (omega (arith, e, f)))) refl

  -- the first node is taken where it is odd, and the last one where it is even
  low-taken : (new : List Block) (low high : ℕ) → low < high → IsCovering count from to by old new low high
      → IsCovering count from to by old (with_if new (low % 2) (record { node = low; by = by })) (low + low % 2) high
  low-taken new low high l before = elim (cases_eq (low % 2) 0) [
    | inl even ↦
        subst (λ (n : ℕ). IsCovering count from to by old (with_if new (low % 2) (record { node = low; by = by })) n high)
        (omega (arith, even))
        (subst (λ (bs : List Block). IsCovering count from to by old bs low high)
        (sym (with-if-even new (low % 2) (record { node = low; by = by }) even)) before)
    | inr not ↦
        let odd = odd-one low not in
        subst (λ (n : ℕ). IsCovering count from to by old (with_if new (low % 2) (record { node = low; by = by })) n high)
        (omega (arith, odd))
        (subst (λ (bs : List Block). IsCovering count from to by old bs (low + 1) high)
        (sym (with-if-odd new (low % 2) (record { node = low; by = by }) odd)) (taken-first new low high l before))
  ]

  high-taken : (new : List Block) (low high : ℕ) → low % 2 ≡ 0 → low ≤ high → IsCovering count from to by old new low high
      → IsCovering count from to by old (with_if new (high % 2) (record { node = high - 1; by = by })) low (high - high % 2)
  high-taken new low high first l before = elim (cases_eq (high % 2) 0) [
    | inl even ↦
        subst (λ (n : ℕ). IsCovering count from to by old (with_if new (high % 2) (record { node = high - 1; by = by })) low n)
        (omega (arith, even))
        (subst (λ (bs : List Block). IsCovering count from to by old bs low high)
        (sym (with-if-even new (high % 2) (record { node = high - 1; by = by }) even)) before)
    | inr not ↦
        let odd = odd-one high not in
        let more : low < high = omega (arith, first, odd, l) in
        subst (λ (n : ℕ). IsCovering count from to by old (with_if new (high % 2) (record { node = high - 1; by = by })) low n)
        (omega (arith, odd))
        (subst (λ (bs : List Block). IsCovering count from to by old bs low (high - 1))
        (sym (with-if-odd new (high % 2) (record { node = high - 1; by = by }) odd)) (taken-last new low high more before))
  ]

  -- a level
  pub covering-on : (new : List Block) (low high : ℕ) → low < high → IsCovering count from to by old new low high
      → IsCovering count from to by old
      (with_if (with_if new (low % 2) (record { node = low; by = by })) (high % 2) (record { node = high - 1; by = by })) ((low + 1) / 2) (high / 2)
  covering-on new low high l before =
      let next : ℕ = low + low % 2 in
      let even : (low + low % 2) % 2 ≡ 0 = omega arith in
      let first = low-taken new low high l before in
      let bounds : low + low % 2 ≤ high = omega (arith, l) in
      let second = high-taken (with_if new (low % 2) (record { node = low; by = by })) (low + low % 2) high even bounds first in
      let other : (high - high % 2) % 2 ≡ 0 = omega arith in
      let third = raised (with_if (with_if new (low % 2) (record { node = low; by = by })) (high % 2) (record { node = high - 1; by = by }))
      (low + low % 2) (high - high % 2) even other second in
      let down : (low + low % 2) / 2 ≡ (low + 1) / 2 = omega arith in
      let up : (high - high % 2) / 2 ≡ high / 2 = omega arith in
      subst
      (λ (n : ℕ).
      IsCovering count from to by old
      (with_if (with_if new (low % 2) (record { node = low; by = by })) (high % 2) (record { node = high - 1; by = by })) ((low + 1) / 2) n) up
      (subst
      (λ (n : ℕ).
      IsCovering count from to by old
      (with_if (with_if new (low % 2) (record { node = low; by = by })) (high % 2) (record { node = high - 1; by = by })) n ((high - high % 2) / 2)) down
      third)

-- ---- runs of positions

module _ (count : ℕ) (IsBy : ℕ → Option ℕ → Type 0) where
  pub runs-none : AreRuns count IsBy 0 []
  runs-none = record { only = λ b c. absurd (nothing-in b c); all = λ p l. absurd (omega (arith, l)) }

  -- positions at which no class is the one
  pub runs-skip : (from to : ℕ) (blocks : List Block) → ((p : ℕ) → from ≤ p → p < to → IsBy p None) → AreRuns count IsBy from blocks
      → AreRuns count IsBy to blocks
  runs-skip from to blocks none before = grind (arith, cases_lt)

  pub runs-more : (from to : ℕ) (o : Option ℕ) (old new : List Block) → ((p : ℕ) → from ≤ p → p < to → IsBy p o)
      → AddsRun count from to o old new → AreRuns count IsBy from old → AreRuns count IsBy to new
  runs-more from to None old new is adds before = subst (AreRuns count IsBy to) (sym adds) (runs-skip from to old is before)
  runs-more from to (Some by) old new is adds before = record {
    only = λ b c. ⊎_elim (λ was. before.only b was) (λ part. run b part) (adds.only b c);
    all = λ p l. elim (cases_lt p from) [
      | inl lower ↦
          ⊎_elim (λ none. inl none)
          (λ has. inr (record { block = has.block; among = adds.kept has.block has.among; under = has.under })) (before.all p lower)
      | inr past ↦ let has = adds.all p past l in inr (record { block = has.block; among = has.among; under = has.under })
    ];
  }
    where
      run : (b : Block) → IsPart count from to by b → IsRun count IsBy b
      run b part = record {
        node = part.node;
        same = grind (arith);
      }

-- the same by what else is known of a class that is the one
pub runs-carried : (count : ℕ) (IsBy IsOther : ℕ → Option ℕ → Type 0) (bound : ℕ) (blocks : List Block)
    → ((p : ℕ) (o : Option ℕ) → IsBy p o → IsOther p o) → AreRuns count IsBy bound blocks → AreRuns count IsOther bound blocks
runs-carried count IsBy IsOther bound blocks carry runs = record {
  only = λ b c. let run = runs.only b c in record { node = run.node; same = λ p under. carry p (Some b.by) (run.same p under) };
  all = λ p l. ⊎_elim (λ none. inl (carry p None none)) (λ has. inr has) (runs.all p l);
}
