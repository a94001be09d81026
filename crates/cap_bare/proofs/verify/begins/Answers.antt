use Rattle.std.proofs.Common.{◌<◌, ◌∙◌, sym, arith}
use Rattle.std.proofs.lemmas.Bool.{eqb-true}
use Rattle.cap_bare.proofs.Instructions.{here, is-here, reached-after}
use Rattle.cap_bare.proofs.Places.{place-ahead, place-none, place-here}
use Rattle.cap_bare.proofs.verify.begins.Goals as goal

pub walk-preserved : goal.walk-preserved
walk-preserved c =
    let code = c.args.code.bytes.now in
    let found = sym c.in-Ok.ensures.value in
    record {
      reached = reached-after code c.walk.at (here c.walk.at c.in-Ok.insn) c.walk.invariant.reached (is-here code c.walk.at c.in-Ok.insn found);
      ahead = place-ahead code c.walk.at c.args.place c.in-Ok.insn c.walk.invariant.reached found
          (omega (arith, c.walk-test.true, c.from.ensures));
    }

pub returns-in-Err : goal.returns-in-Err
returns-in-Err c = (
  (λ h. absurd (cc)),
  (λ p. absurd (place-none c.args.code.bytes.now c.walk.at c.args.place c.in-Err.field-0 c.walk.invariant.reached (sym c.in-Err.ensures.value)
      (omega (arith, c.walk-test.true, c.from.ensures)) p)),
)

pub returns-then-from-place : goal.returns-then-from-place
returns-then-from-place c =
    place-here c.args.code.bytes.now c.walk.at c.args.place c.fetch-then-from-place.result c.is_ok.result c.walk.invariant.reached
    (sym c.fetch-then-from-place.ensures.value) c.is_ok.ensures.value (sym c.from-2.ensures ∙ c.if-from-place.true)

pub returns-else-from-place : goal.returns-else-from-place
returns-else-from-place c =
    let past : c.args.place < c.walk.at = omega (arith, c.walk-test.false, c.from.ensures, c.from-2.ensures, c.if-from-place.false) in (
      (λ h. absurd (c.if-from-place.false (eqb-true _ _ h))),
      (λ p. let le = c.walk.invariant.ahead p in absurd (omega arith)),
    )
