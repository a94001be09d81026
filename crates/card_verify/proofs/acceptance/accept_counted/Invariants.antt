use Rattle.std.specs.Prelude.{ℕ, ◌+◌, ◌<◌, ◌≤◌, length}
use Rattle.card_verify.specs.Answers.{AreAcceptedBefore}
use Rattle.card_verify.specs.Bound.{IsShortAt, bounds_before}
use Rattle.card_verify.specs.Counting.{CountsByIndex}
use Rattle.card_verify.proofs.acceptance.accept_counted.Given as goal

abbrev pub invariant-methods : goal.invariant-methods
invariant-methods g l = record {
  accepted : AreAcceptedBefore l.world l.method;
  counted : CountsByIndex l.world l.method l.by_index;
  most : l.by_index ≤ l.method;
  inside : l.method ≤ length l.world.methods;
  cost :
      (digits : ℕ)
      → ((number : ℕ) → number < length l.world.methods → IsShortAt l.world digits number)
      → l.steps ≤ l.fn.steps + bounds_before l.world digits l.method;
}
