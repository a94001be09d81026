use Rattle.std.proofs.Common.{sym, refl, true, false, arith}
use Rattle.cap_bare.proofs.Instructions.{here, is-here, reached-after, stands-at}
use Rattle.cap_bare.proofs.Near.{target-near, target-trails}
use Rattle.cap_bare.proofs.Places.{target-is, target-ahead, target-none}
use Rattle.cap_bare.proofs.verify.is_target.Goals as goal

pub walk-init : goal.walk-init
walk-init c =
    let bytes = c.are_bytes.ensures in
    record { reached = c.requires.trailing.reached; ahead = target-trails c.args.code.bytes.now bytes c.args.farther c.args.place c.requires.trailing }

pub branches_to-requires-clause-stands : goal.branches_to-requires-clause-stands
branches_to-requires-clause-stands c =
    let code = c.args.code.bytes.now in
    stands-at code c.walk.at (here c.walk.at c.in-Ok.insn) c.walk.invariant.reached (is-here code c.walk.at c.in-Ok.insn (sym c.in-Ok.ensures.value))

pub returns-then-branches_to : goal.returns-then-branches_to
returns-then-branches_to c =
    let code = c.args.code.bytes.now in
    target-is code c.args.place true
    (λ e. record {
      from = here c.walk.at c.in-Ok.insn;
      stands = stands-at code c.walk.at (here c.walk.at c.in-Ok.insn) c.walk.invariant.reached
          (is-here code c.walk.at c.in-Ok.insn (sym c.in-Ok.ensures.value));
      leads = c.branches_to.ensures.0 c.if-branches_to.true;
    })
    (λ t. refl)

pub returns-then-from : goal.returns-then-from
returns-then-from c =
    let code = c.args.code.bytes.now in
    let bytes = c.are_bytes.ensures in
    target-is code c.args.place false (λ e. absurd (cc))
    (λ t.
    let ahead = c.walk.invariant.ahead t in
    let near = target-near code bytes c.args.place t in
    absurd (omega (arith, c.if-from.true, c.from.ensures, c.from-in-Ok.ensures, near.1)))

pub walk-preserved : goal.walk-preserved
walk-preserved c =
    let code = c.args.code.bytes.now in
    let found = sym c.in-Ok.ensures.value in
    record {
      reached = reached-after code c.walk.at (here c.walk.at c.in-Ok.insn) c.walk.invariant.reached (is-here code c.walk.at c.in-Ok.insn found);
      ahead = λ t.
          target-ahead code c.walk.at c.args.place c.in-Ok.insn c.walk.invariant.reached found
          (λ k. let led = c.branches_to.ensures.1 k in let no = c.if-branches_to.false in absurd (cc)) t (c.walk.invariant.ahead t);
    }

pub returns : goal.returns
returns c =
    let code = c.args.code.bytes.now in
    target-is code c.args.place false (λ e. absurd (cc))
    (λ t. absurd (target-none code c.walk.at c.args.place _ c.walk.invariant.reached (sym c.in_default.ensures.value) t (c.walk.invariant.ahead t)))
