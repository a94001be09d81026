-- one run after the other
use Rattle.std.proofs.Common.{◌≡◌, ◌+◌, ℤ, arith, rules, subst, sym, SFits, to_z, of_z, w32}
use Rattle.std.proofs.lemmas.Int.{to_z-of_z}
use Rattle.capcheck_core.specs.Generate.{IsSumOfShorts}
use Rattle.capcheck_core.specs.Outside.{card_words}
use Rattle.capcheck_core.proofs.Generates.{HaveRun, none_run, one_run_more, all_run, some_run, begun_unless}
use Rattle.capcheck_core.proofs.generating.run_all.Goals as goal

pub methods-init : goal.methods-init
methods-init c = record {
  run = none_run c.args.accepted.now (card_words c.args.ram.now c.args.heap.now c.args.statics.now);
  sized = c.requires.sized;
  sum = record { least = search rules; most = search rules };
}

pub run_method-ending-requires-clause-entry : goal.run_method-ending-requires-clause-entry
run_method-ending-requires-clause-entry c = c.requires.entries c.methods.number (omega arith)

pub methods-preserved : goal.methods-preserved
methods-preserved c =
    let w = c.args.accepted.now in
    let more = c.with_short-sum.result in
    let fits : SFits w32 more = search rules in
    let same : more ≡ to_z w32 (of_z w32 more) = sym (to_z-of_z w32 more fits) in
    let begun = card_words c.args.ram.now c.args.heap.now c.args.statics.now in
    let now = card_words c.run_method-ending.new.ram c.run_method-ending.new.heap c.run_method-ending.new.statics in
    record {
      run = subst (HaveRun w (c.methods.number + 1) begun now) same
          (one_run_more w c.methods.number begun (card_words c.methods.ram c.methods.heap c.methods.statics) now _ more c.run_method-ending.result
          c.methods.invariant.run c.run_method-ending.ensures.run c.with_short-sum.ensures.adds);
      sized = c.run_method-ending.ensures.sized;
      sum = subst (IsSumOfShorts (c.methods.number + 1)) same c.with_short-sum.ensures.sum;
    }

pub returns-clause-runs : goal.returns-clause-runs
returns-clause-runs c =
    let w = c.args.accepted.now in
    let now = card_words c.methods.ram c.methods.heap c.methods.statics in
    let sum : ℤ = to_z w32 c.methods.sum-bits in
    let begun = card_words c.args.ram.now c.args.heap.now c.args.statics.now in
    all_run w begun now sum (subst (λ n. HaveRun w n begun now sum) (omega arith) c.methods.invariant.run)

pub returns-in_err-args-clause-begun : goal.returns-in_err-args-clause-begun
returns-in_err-args-clause-begun c =
    let w = c.args.accepted.now in
    let begun = card_words c.args.ram.now c.args.heap.now c.args.statics.now in
    let now = card_words c.methods.ram c.methods.heap c.methods.statics in
    begun_unless w begun now c.from_residual.result (some_run w c.methods.number begun now _ (omega arith) c.methods.invariant.run)
