use Rattle.std.proofs.Common.{rules, ◌≡◌, ◌≤◌, ◌+◌, ◌*◌, ◌++◌, ◌||◌, ◌∷◌, [], suc, length, Bool, true, refl, sym, ◌∙◌}
use Rattle.std.proofs.Common.{ap, subst, arith}
use Rattle.jc_decode.specs.Instructions.{rest_of}
use Rattle.jc_decode.specs.Listing.{listing, end_from}
use Rattle.jc_decode.proofs.InstructionLists.{end-after}
use Rattle.jc_control.proofs.Elements.{at-next, at-last}
use Rattle.jc_rules.specs.Stack.{cells}
use Rattle.card_verify.specs.declared.pass.Arrival.{Arrival}
use Rattle.card_verify.specs.Walk.{IsComing, IsProgress}
use Rattle.card_verify.proofs.Costs.{one-more, one-more-cost, cost-within}
use Rattle.card_verify.proofs.Landing.{no-cells}
use Rattle.card_verify.proofs.Nearest.{next-whole}
use Rattle.card_verify.proofs.Walking.{coming-first, coming-next, refused-here, progress-first, progress-next, pass-done, passed-over, passed-begins}
use Rattle.card_verify.proofs.Walking.{next-place, next-stands}
use Rattle.card_verify.proofs.verify.Verifier.pass.Goals as goal

pub walk-init : goal.walk-init
walk-init g c =
    let marked = g.M.Marks.marks c.args.marks.now in
    record {
      whole = search rules;
      coming = λ visits begun.
          let start : Arrival = record { may_fall = true; depth = 0 } in
          let none : visits ≡ visits + 0 = omega arith in
          subst (λ n. IsComing c.args.self.now marked n 0 start c.args.regs.now c.args.stack.now) none
          (coming-first c.args.self.now marked c.requires.verifier visits start c.args.regs.now c.args.stack.now refl refl (no-cells c.args.stack.now) begun);
      ahead = c.of-ahead.ensures.is;
      low = omega (arith, c.of-ahead.ensures.from);
      progress = progress-first c.args.self.now marked c.requires.verifier c.args.regs.now (cells c.args.stack.now 0) (no-cells c.args.stack.now);
      counted = omega arith;
      cost = λ most takes. omega arith;
    }

pub visit-requires-clause-up : goal.visit-requires-clause-up
visit-requires-clause-up g c =
    let place = next-place c.args.self.now (g.M.Marks.marks c.args.marks.now) c.requires.verifier c.walk.yielded (rest_of c.walk.placed-iterator)
    c.in-Some.placed (rest_of c.next.new.self) c.walk.invariant.whole c.in-Some.ensures.steps in
    subst (λ n. c.walk.ahead.from ≤ n) (sym place) c.walk.invariant.low

pub visit-requires-clause-stands : goal.visit-requires-clause-stands
visit-requires-clause-stands g c =
    next-stands c.args.self.now (g.M.Marks.marks c.args.marks.now) c.requires.verifier c.walk.yielded (rest_of c.walk.placed-iterator) c.in-Some.placed
    (rest_of c.next.new.self) c.walk.invariant.whole c.in-Some.ensures.steps

pub visit-requires-clause-coming : goal.visit-requires-clause-coming
visit-requires-clause-coming g c =
    let marked = g.M.Marks.marks c.args.marks.now in
    let place = next-place c.args.self.now marked c.requires.verifier c.walk.yielded (rest_of c.walk.placed-iterator) c.in-Some.placed
    (rest_of c.next.new.self) c.walk.invariant.whole c.in-Some.ensures.steps in
    let visits = c.requires.begun.0 + length c.walk.yielded in (
      visits,
      subst (λ n. IsComing c.args.self.now marked visits n c.walk.arrival c.walk.regs c.walk.stack) (sym place)
          (c.walk.invariant.coming c.requires.begun.0 c.requires.begun.1),
    )

pub returns-in-Err-clause-refused : goal.returns-in-Err-clause-refused
returns-in-Err-clause-refused g c = λ visits begun.
    let v = c.args.self.now in
    let marked = g.M.Marks.marks c.args.marks.now in
    let place = next-place v marked c.requires.verifier c.walk.yielded (rest_of c.walk.placed-iterator) c.in-Some.placed (rest_of c.next.new.self)
    c.walk.invariant.whole c.in-Some.ensures.steps in
    let there = next-stands v marked c.requires.verifier c.walk.yielded (rest_of c.walk.placed-iterator) c.in-Some.placed (rest_of c.next.new.self)
    c.walk.invariant.whole c.in-Some.ensures.steps in
    record {
      more = length c.walk.yielded;
      refused =
          refused-here v marked c.requires.verifier c.in-Some.placed there (visits + length c.walk.yielded) c.walk.arrival c.walk.regs c.walk.stack
          c.visit.new.regs c.visit.new.stack c.in-Err.fault
          (subst (λ n. IsComing v marked (visits + length c.walk.yielded) n c.walk.arrival c.walk.regs c.walk.stack) (sym place)
          (c.walk.invariant.coming visits begun)) c.in-Err.ensures.stopped;
      counted = omega (arith, c.walk.invariant.counted, c.visit.ensures.forward);
    }

pub returns-in-Err-clause-forward : goal.returns-in-Err-clause-forward
returns-in-Err-clause-forward g c = omega (arith, c.walk.invariant.counted, c.visit.ensures.forward)

pub returns-in-Err-clause-cost : goal.returns-in-Err-clause-cost
returns-in-Err-clause-cost g c = λ most takes.
    let code = listing c.args.self.now.subject.code.bytes.now in
    let whole = at-next c.walk.yielded (rest_of c.walk.placed-iterator) c.in-Some.placed (rest_of c.next.new.self) code c.walk.invariant.whole
    c.in-Some.ensures.steps in
    omega (
      arith,
      c.walk.invariant.cost most takes,
      c.visit.ensures.cost most takes,
      cost-within c.walk.yielded c.in-Some.placed (rest_of c.next.new.self)
          code (most + 1) whole,
    )

pub walk-preserved : goal.walk-preserved
walk-preserved g c =
    let v = c.args.self.now in
    let marked = g.M.Marks.marks c.args.marks.now in
    let i = c.in-Some.placed in
    let o = c.in-Ok.outcome in
    let place = next-place v marked c.requires.verifier c.walk.yielded (rest_of c.walk.placed-iterator) i (rest_of c.next.new.self) c.walk.invariant.whole
    c.in-Some.ensures.steps in
    let there = next-stands v marked c.requires.verifier c.walk.yielded (rest_of c.walk.placed-iterator) i (rest_of c.next.new.self) c.walk.invariant.whole
    c.in-Some.ensures.steps in
    let next : i.place + i.insn.len ≡ end_from 0 (c.walk.yielded ++ i ∷ []) = ap (λ n. n + i.insn.len) place ∙ sym (end-after 0 c.walk.yielded i) in
    let arrival : Arrival = record { may_fall = c.falls.result; depth = o.depth } in
    record {
      whole =
          next-whole c.walk.yielded (rest_of c.walk.placed-iterator) i (rest_of c.next.new.self) (listing v.subject.code.bytes.now) c.walk.invariant.whole
          c.in-Some.ensures.steps;
      coming = λ visits begun.
          let here = subst (λ n. IsComing v marked (visits + length c.walk.yielded) n c.walk.arrival c.walk.regs c.walk.stack) (sym place)
          (c.walk.invariant.coming visits begun) in
          let count : suc (visits + length c.walk.yielded) ≡ visits + length (c.walk.yielded ++ i ∷ []) = omega (arith, one-more c.walk.yielded i) in
          subst (λ k. IsComing v marked k (end_from 0 (c.walk.yielded ++ i ∷ [])) arrival c.visit.new.regs c.visit.new.stack) count
          (subst (λ n. IsComing v marked (suc (visits + length c.walk.yielded)) n arrival c.visit.new.regs c.visit.new.stack) next
          (coming-next v marked c.requires.verifier i there (visits + length c.walk.yielded) c.walk.arrival arrival c.walk.regs c.walk.stack
          c.visit.new.regs c.visit.new.stack o c.falls.ensures refl here c.in-Ok.ensures.passed));
      ahead = c.visit.ensures.ahead;
      low = omega (arith, c.visit.ensures.here, next);
      progress =
          subst (λ (b : Bool). IsProgress v marked c.args.regs.now (c.walk.rose || o.rose) c.visit.new.regs b (cells c.visit.new.stack o.depth)
          (c.walk.yielded ++ i ∷ [])) (sym c.falls.ensures)
          (progress-next v marked c.requires.verifier c.args.regs.now c.walk.rose i c.walk.yielded c.walk.arrival c.walk.regs c.walk.stack c.visit.new.regs
          c.visit.new.stack o c.walk.invariant.progress c.in-Ok.ensures.passed);
      counted = omega (arith, c.walk.invariant.counted, c.in-Ok.ensures.counted, one-more c.walk.yielded i);
      cost = λ most takes. omega (arith, c.walk.invariant.cost most takes, c.visit.ensures.cost most takes, one-more-cost c.walk.yielded i (most + 1));
    }

pub returns-clause-done : goal.returns-clause-done
returns-clause-done g c =
    pass-done c.args.self.now (g.M.Marks.marks c.args.marks.now) c.requires.verifier c.args.regs.now c.walk.rose c.walk.yielded c.walk.arrival.may_fall
    c.walk.regs (cells c.walk.stack c.walk.arrival.depth)
    (at-last c.walk.yielded (rest_of c.walk.placed-iterator) (listing c.args.self.now.subject.code.bytes.now) c.walk.invariant.whole c.in-None.ensures.steps.0)
    c.walk.invariant.progress

pub returns-clause-again : goal.returns-clause-again
returns-clause-again g c =
    passed-over c.args.self.now (g.M.Marks.marks c.args.marks.now) c.requires.verifier c.args.regs.now c.args.stack.now c.walk.yielded c.walk.arrival
    c.walk.regs c.walk.stack
    (at-last c.walk.yielded (rest_of c.walk.placed-iterator) (listing c.args.self.now.subject.code.bytes.now) c.walk.invariant.whole c.in-None.ensures.steps.0)
    c.walk.invariant.coming

pub returns-clause-begins : goal.returns-clause-begins
returns-clause-begins g c =
    passed-begins c.args.self.now (g.M.Marks.marks c.args.marks.now) c.requires.verifier c.args.regs.now c.args.stack.now c.walk.yielded c.walk.arrival
    c.walk.regs c.walk.stack
    (at-last c.walk.yielded (rest_of c.walk.placed-iterator) (listing c.args.self.now.subject.code.bytes.now) c.walk.invariant.whole c.in-None.ensures.steps.0)
    c.requires.begun c.walk.invariant.coming

pub returns-clause-counted : goal.returns-clause-counted
returns-clause-counted g c =
    let whole = at-last c.walk.yielded (rest_of c.walk.placed-iterator) (listing c.args.self.now.subject.code.bytes.now) c.walk.invariant.whole
    c.in-None.ensures.steps.0 in
    subst (λ xs. c.args.steps.now + length xs ≤ c.walk.steps) whole c.walk.invariant.counted

pub returns-clause-forward : goal.returns-clause-forward
returns-clause-forward g c = omega (arith, c.walk.invariant.counted)

pub returns-clause-cost : goal.returns-clause-cost
returns-clause-cost g c = λ most takes.
    let whole = at-last c.walk.yielded (rest_of c.walk.placed-iterator) (listing c.args.self.now.subject.code.bytes.now) c.walk.invariant.whole
    c.in-None.ensures.steps.0 in
    subst (λ xs. c.walk.steps ≤ c.args.steps.now + length xs * (most + 1)) whole (c.walk.invariant.cost most takes)
