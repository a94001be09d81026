-- the methods with code so far; the text says how many are accepted
use Rattle.std.proofs.Common.{◌≡◌, Some, option_map, slice_get, arith, rules, ap}
use Rattle.std.specs.Prelude.{string_bytes}
use Rattle.cap_index.specs.Indexes.{has_code}
use Rattle.capcheck_core.specs.declared.verdict.Verdict.TheVariants.{Done}
use Rattle.capcheck_core.specs.Verify.{AcceptsWorld}
use Rattle.capcheck_core.proofs.Cardings.{one_counted, all_counted, carded}
use Rattle.capcheck_core.proofs.Verdicts.{said}
use Rattle.capcheck_core.proofs.carding.counted.Goals as goal

pub methods-preserved : goal.methods-preserved
methods-preserved c =
    let most = c.methods.invariant.most in
    record {
      counts =
          one_counted c.args.world.now c.methods.number c.methods.count c.from-count.result _ (ap (option_map has_code) c.method.ensures.is)
          c.from-count.ensures c.methods.invariant.counts;
      most = search rules;
    }

pub returns : goal.returns
returns c =
    let w = c.args.world.now in
    let count = all_counted w c.methods.number c.methods.count (omega (arith, c.method_count-number-end.ensures.is)) c.methods.invariant.counts in
    said string_bytes Done (AcceptsWorld w) c.accepted.result _ c.done.result (tt {0})
    (λ text prints. carded w c.methods.count (string_bytes text) c.requires c.typed_code_never_fails.ensures.fault_free count prints)
    c.accepted.ensures c.done.ensures
