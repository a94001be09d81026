use Rattle.std.proofs.Common.{ap, rules, ℕ}
use Rattle.cap_listing.specs.declared.fault.AsmFault.TheVariants.{NotListing}
use Rattle.cap_listing.specs.Text.{Lists}
use Rattle.cap_listing.specs.Fault.{IsNotListing}
use Rattle.cap_listing.proofs.Final.{one-list}
use Rattle.cap_listing.proofs.OneFault.{one-line, no-listing}
use Rattle.cap_listing.proofs.assembling.assemble.Goals as goal

pub returns-in-Ok-None-clause-given : goal.returns-in-Ok-None-clause-given
returns-in-Ok-None-clause-given c ms l =
    let listed : Lists c.of.result c.args.text.now = search rules in
    one-list c.args.text.now c.of.result ms listed l

pub returns-in-Ok-None-clause-told : goal.returns-in-Ok-None-clause-told
returns-in-Ok-None-clause-told c line h =
    let listed : Lists c.of.result c.args.text.now = search rules in
    no-listing c.args.text.now line c.of.result h listed

pub returns-in-Ok-Some-clause-given : goal.returns-in-Ok-Some-clause-given
returns-in-Ok-Some-clause-given c ms l =
    let here : IsNotListing c.args.text.now c.in-Ok-Some.line = search rules in
    no-listing c.args.text.now c.in-Ok-Some.line ms here l

pub returns-in-Ok-Some-clause-told : goal.returns-in-Ok-Some-clause-told
returns-in-Ok-Some-clause-told c line h =
    let here : IsNotListing c.args.text.now c.in-Ok-Some.line = search rules in
    ap (λ (n : ℕ). NotListing n) (one-line c.args.text.now c.in-Ok-Some.line line here h)
