use Rattle.std.proofs.Common.{◌≡◌}
use Rattle.cap_listing.specs.Words.{joined}
use Rattle.cap_listing.specs.Text.{IsHandler, handler_words}
use Rattle.cap_listing.proofs.Added.{some-of, handler-read}
use Rattle.cap_listing.proofs.open_method.OpenMethod.read.Goals as goal

pub returns-in_ok-push-in-Some-clause-cases : goal.returns-in_ok-push-in-Some-clause-cases
returns-in_ok-push-in-Some-clause-cases c done =
    let o = c.args.self.now in
    let found = some-of c.in_ok-found.found c.in-Some.handler c.in-Some.is
    (λ h. IsHandler h × (c.args.line.now ≡ joined (handler_words h))) c.in_ok-found.ensures.found in
    handler-read done o.heading o.code.items o.handlers.items o.closed c.in-Some.handler _ c.args.line.now found.0 found.1
    c.in_ok-push-in-Some.ensures.items
