-- the method that is refused is the first
use Rattle.std.proofs.Common.{◌≡◌, subst, sym}
use Rattle.std.specs.Prelude.{Result, Ok, Err, IfOk, MatchResult, string_bytes, List, ℕ}
use Rattle.jc_base.specs.World.{Linked}
use Rattle.capcheck_core.specs.declared.verdict.Verdict.{Verdict}
use Rattle.capcheck_core.specs.declared.verdict.Verdict.TheVariants.{Refused, Memory}
use Rattle.capcheck_core.specs.Verify.{TellsRefused, StopsAtRefused}
use Rattle.capcheck_core.proofs.Cardings.{first_uncarded}
use Rattle.capcheck_core.proofs.carding.uncarded.Goals as goal

refused : {E : Type 0} (w : Linked) (text : Result _ E) (line : List ℕ) (verdict : Verdict) → ((said : List ℕ) → said ≡ line → TellsRefused w said)
    → IfOk text (λ t. string_bytes t ≡ line) → MatchResult text (λ t. verdict ≡ Refused t) (λ _. verdict ≡ Memory) → StopsAtRefused w verdict
refused w (Ok t) line verdict first says is = subst (StopsAtRefused w) (sym is) (first (string_bytes t) says)
refused w (Err e) line verdict first says is = subst (StopsAtRefused w) (sym is) (tt {0})

pub returns : goal.returns
returns c =
    refused c.args.world.now c.refused_card.result _ c.refused.result
    (λ said prints. first_uncarded c.args.world.now c.args.number c.args.fault c.code-code.result.now c.number_of.result said c.requires
    c.code-code.ensures.is c.code-code.ensures.len c.number_of.ensures prints)
    c.refused_card.ensures c.refused.ensures
