use Rattle.std.proofs.Common.{None, arith, subst}
use Rattle.card_typing.specs.Place.{IsEntry}
use Rattle.card_verify.specs.Ahead.{IsLeastFrom}
use Rattle.card_verify.specs.Verifier.{method}
use Rattle.card_verify.proofs.ahead.Ahead.entry_at.Goals as goal

pub returns-in-None : goal.returns-in-None
returns-in-None c = λ q there.
    let none : IsLeastFrom (IsEntry (method c.args.verifier)) c.args.self.from None = subst
    (IsLeastFrom (IsEntry (method c.args.verifier)) c.args.self.from) c.in-None.is c.requires.ahead in
    omega (arith, none q there, c.requires.up)
