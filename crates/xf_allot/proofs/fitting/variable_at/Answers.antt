use Rattle.std.proofs.Common.{◌≡◌, ℕ, MatchBool, get_or, drop, sym, ◌∙◌, subst}
use Rattle.std.proofs.lemmas.Bool.{false≢true}
use Rattle.jc_base.specs.declared.ty.Ty.TheVariants.{Bottom, IntHigh}
use Rattle.law_share.specs.Variable.{IsWhole}
use Rattle.xf_allot.specs.Variable.{IsFirstOf}
use Rattle.xf_allot.proofs.Variables.{unwhole-there, whole-there}
use Rattle.xf_allot.proofs.fitting.variable_at.Goals as goal

pub returns-then-not-is_whole-clause-none : goal.returns-then-not-is_whole-clause-none
returns-then-not-is_whole-clause-none c =
    let types = c.args.types.now in
    let at = c.from.result in
    unwhole-there types c.args.register Bottom c.requires
    (subst (λ (n : ℕ). ¬ (IsWhole (get_or types n Bottom))) c.from.ensures
    (subst (λ b. MatchBool b (IsWhole (get_or types at Bottom)) (¬ (IsWhole (get_or types at Bottom)))) c.if-not-is_whole.true c.is_whole.ensures))
    (subst (λ (n : ℕ). ¬ (get_or types n Bottom ≡ IntHigh)) c.from.ensures
    (λ e. false≢true (sym c.if-same_type.false ∙ c.same_type.ensures.is.1 e)))

pub returns-clause-some : goal.returns-clause-some
returns-clause-some c =
    let types = c.args.types.now in
    let x = c.args.register in
    let at = c.from.result in
    let whole = subst (λ (n : ℕ). IsWhole (get_or types n Bottom)) c.from.ensures
    (subst (λ b. MatchBool b (IsWhole (get_or types at Bottom)) (¬ (IsWhole (get_or types at Bottom)))) c.if-not-is_whole.false c.is_whole.ensures) in
    subst (λ (n : ℕ). IsFirstOf x (drop x types) (record { register = x; width = 1; ty = get_or types n Bottom })) (sym c.from.ensures)
    (whole-there types x Bottom c.requires whole)
