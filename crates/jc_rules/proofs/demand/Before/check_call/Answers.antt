use Rattle.std.proofs.Common.{[], ◌∷◌, length, reverse, MatchResult, subst, sym}
use Rattle.std.proofs.lemmas.Result.{err_from_is_err_and}
use Rattle.jc_rules.specs.declared.demand.Demand.TheVariants.{Cell}
use Rattle.jc_rules.specs.Demand.{frame, SatisfiesAll, IsFirstUnmet}
use Rattle.jc_rules.specs.Rule.{cells_wanted, call_demands, receiver_wanted}
use Rattle.jc_rules.proofs.Demands.{IsFirstUnmet-front, judged-farther}
use Rattle.jc_rules.proofs.demand.Before.check_call.Goals as goal

pub returns-in_err-check_arguments : goal.returns-in_err-check_arguments
returns-in_err-check_arguments c =
    let p = err_from_is_err_and c.from_residual.result c.from_residual.ensures.1 in
    rw (p.1, p.2)
    (IsFirstUnmet-front c.args.self.now.world.now.classes (frame c.args.self.now) (cells_wanted 0 (reverse c.args.sig.now.args))
    (receiver_wanted (length c.args.sig.now.args) c.args.receiver) _
    (subst
    (λ args. IsFirstUnmet c.args.self.now.world.now.classes (frame c.args.self.now) (cells_wanted 0 (reverse args)) c.in_err-check_arguments.field-0.0)
    c.as_slice.ensures c.in_err-check_arguments.ensures))

pub returns-in-Some : goal.returns-in-Some
returns-in-Some c =
    let t = c.args.self.now.world.now.classes in
    let f = frame c.args.self.now in
    let args = c.args.sig.now.args in
    subst (λ o. MatchResult c.check.result (λ _. SatisfiesAll t f (call_demands args o)) (IsFirstUnmet t f (call_demands args o))) (sym c.in-Some.is)
    (judged-farther t f (cells_wanted 0 (reverse args)) (Cell (length args) c.in-Some.want ∷ []) c.check.result
    (subst (λ tys. SatisfiesAll t f (cells_wanted 0 (reverse tys))) c.as_slice.ensures c.in_ok-check_arguments.ensures)
    (subst (λ n. MatchResult c.check.result (λ _. SatisfiesAll t f (Cell n c.in-Some.want ∷ [])) (IsFirstUnmet t f (Cell n c.in-Some.want ∷ [])))
    c.len.ensures c.check.ensures))
