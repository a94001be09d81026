-- the method that was not typed is the first
use Rattle.std.proofs.Common.{◌≡◌, subst, sym}
use Rattle.std.specs.Prelude.{Result, Ok, Err, IfOk, MatchResult, string_bytes, List, ℕ}
use Rattle.jc_base.specs.World.{Linked}
use Rattle.capcheck_core.specs.declared.verdict.Verdict.{Verdict}
use Rattle.capcheck_core.specs.declared.verdict.Verdict.TheVariants.{Refused, Memory}
use Rattle.capcheck_core.specs.Typed.{TellsUntyped}
use Rattle.capcheck_core.specs.Check.{TypesWorld}
use Rattle.capcheck_core.proofs.Typings.{first_untyped}
use Rattle.capcheck_core.proofs.typing.untyped.Goals as goal

refused : {E : Type 0} (w : Linked) (text : Result _ E) (line : List ℕ) (verdict : Verdict) → ((said : List ℕ) → said ≡ line → TellsUntyped w said)
    → IfOk text (λ t. string_bytes t ≡ line) → MatchResult text (λ t. verdict ≡ Refused t) (λ _. verdict ≡ Memory) → TypesWorld w verdict
refused w (Ok t) line verdict first says is = subst (TypesWorld w) (sym is) (first (string_bytes t) says)
refused w (Err e) line verdict first says is = subst (TypesWorld w) (sym is) (tt {0})

pub returns-in_default : goal.returns-in_default
returns-in_default c =
    refused c.args.world.now c.refused_flow.result _ c.refused.result
    (λ said prints. first_untyped c.args.world.now c.args.number c.args.end c.number_of.result said c.requires.earlier c.requires.fails
    c.in_default.not-Memory c.number_of.ensures prints)
    c.refused_flow.ensures c.refused.ensures
