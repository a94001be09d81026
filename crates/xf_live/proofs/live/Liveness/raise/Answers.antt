use Rattle.std.proofs.Common.{◌≡◌, MatchBool, refl, subst}
use Rattle.xf_live.proofs.Carrying.{raises-by}
use Rattle.xf_live.proofs.live.Liveness.raise.Goals as goal

pub returns : goal.returns
returns c =
    let set = c.union-new.result in
    let old = c.at-old.result in
    raises-by c.args.number c.args.more set old c.args.self.now _ c.at-old.ensures refl c.in_ok-push.ensures.items c.union-new.ensures.is
    c.union-new.ensures.rises (subst (λ b. MatchBool b (set ≡ old) (¬ (set ≡ old))) c.if-is.false c.is.ensures) c.union-new.ensures.small
