-- the methods that are typed so far, and their count
use Rattle.std.proofs.Common.{◌≡◌, subst, sym, arith, rules}
use Rattle.std.specs.Prelude.{Result, Ok, Err, IfOk, MatchResult, string_bytes, List, ℕ}
use Rattle.jc_base.specs.World.{Linked}
use Rattle.capcheck_core.specs.declared.verdict.Verdict.{Verdict}
use Rattle.capcheck_core.specs.declared.verdict.Verdict.TheVariants.{Done, Memory}
use Rattle.capcheck_core.specs.Typed.{TellsTyped}
use Rattle.capcheck_core.specs.Check.{TypesWorld}
use Rattle.capcheck_core.proofs.Typings.{one_more, one_counted, all_typed}
use Rattle.capcheck_core.proofs.typing.type_methods.Goals as goal

pub methods-preserved : goal.methods-preserved
methods-preserved c =
    let most = c.methods.invariant.most in
    record {
      typed = one_more c.args.world.now c.methods.number c.methods.invariant.typed c.in-Ok.ensures.typed;
      counts =
          one_counted c.args.world.now c.methods.number c.methods.count c.from-count.result c.in-Ok.asked c.in-Ok.ensures.counts c.from-count.ensures
          c.methods.invariant.counts;
      most = search rules;
    }

done : {E : Type 0} (w : Linked) (text : Result _ E) (line : List ℕ) (verdict : Verdict) → ((said : List ℕ) → said ≡ line → TellsTyped w said)
    → IfOk text (λ t. string_bytes t ≡ line) → MatchResult text (λ t. verdict ≡ Done t) (λ _. verdict ≡ Memory) → TypesWorld w verdict
done w (Ok t) line verdict all says is = subst (TypesWorld w) (sym is) (all (string_bytes t) says)
done w (Err e) line verdict all says is = subst (TypesWorld w) (sym is) (tt {0})

pub returns : goal.returns
returns c =
    done c.args.world.now c.typed.result _ c.done.result
    (λ said prints. all_typed c.args.world.now c.methods.number c.methods.count said c.methods.invariant.typed
    (omega (arith, c.method_count-number-end.ensures.is)) c.methods.invariant.counts prints)
    c.typed.ensures c.done.ensures
