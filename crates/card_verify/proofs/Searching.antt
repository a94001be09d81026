-- At an instruction there is one search at most: where it is fallen into, ahead of it, and else where a handler begins.
use Rattle.std.proofs.Common.{◌≡◌, ℕ, ◌+◌, ◌≤◌, Bool, true, false, if◌then◌else◌, refl, ◌∙◌, ap, arith}
use Rattle.card_verify.specs.declared.pass.Arrival.{Arrival}
use Rattle.card_verify.specs.Walk.{left}

module _ (arrival : Arrival) (start sought landed : ℕ) where
  searched-once : (most cells : ℕ) → cells ≡ left arrival → (cells ≡ 0 → sought ≡ start) → sought ≤ start + most
      → (arrival.may_fall ≡ true → landed ≡ sought) → landed ≤ sought + most → landed ≤ start + most
  searched-once most cells is still first kept second = by arrival.may_fall refl
    where
      by : (b : Bool) → arrival.may_fall ≡ b → landed ≤ start + most
      by true e = omega (arith, kept e, first)
      by false e =
          let none : cells ≡ 0 = is ∙ ap (λ (b : Bool). if b then arrival.depth else 0) e in
          omega (arith, still none, second)

  pub stop-paid : (most cells : ℕ) → cells ≡ left arrival → (cells ≡ 0 → sought ≡ start) → sought ≤ start + most
      → (arrival.may_fall ≡ true → landed ≡ sought) → landed ≤ sought + most → landed ≤ start + (most + 1)
  stop-paid most cells is still first kept second = let once = searched-once most cells is still first kept second in omega (arith, once)

  pub visit-paid : (done most cells : ℕ) → cells ≡ left arrival → (cells ≡ 0 → sought ≡ start) → sought ≤ start + most
      → (arrival.may_fall ≡ true → landed ≡ sought) → landed ≤ sought + most → done ≡ landed + 1 → done ≤ start + (most + 1)
  visit-paid done most cells is still first kept second one = let once = searched-once most cells is still first kept second in omega (arith, once, one)
