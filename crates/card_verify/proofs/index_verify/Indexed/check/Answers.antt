use Rattle.std.proofs.Common.{◌≡◌, Err, length, arith, rules}
use Rattle.card_verify.specs.Indexed.{subject, world_in, listed}
use Rattle.card_verify.specs.Refusal.{over_entry}
use Rattle.card_verify.proofs.Verified.{formed-by, over-flawed, over-of-flaw, over-of-lacking, lacking-number, form-of-lacking, reads-of-lacking}
use Rattle.card_verify.proofs.index_verify.Indexed.check.Goals as goal

pub returns-in_err-check_form-clause-refused : goal.returns-in_err-check_form-clause-refused
returns-in_err-check_form-clause-refused g c =
    let x = c.args.self.now in
    let h = over-of-flaw (world_in x) (subject x) (listed x) c.in_err-check_form.field-0.0 c.in_err-check_form.ensures.flawed in
    search (rules, h)

pub returns-in-Some-clause-refused : goal.returns-in-Some-clause-refused
returns-in-Some-clause-refused g c = λ kept. over_entry c.in-Some.entry kept c.in_ok-check_form.ensures.formed c.in-Some.ensures.bad

pub returns-in_err-check_form-2-clause-refused : goal.returns-in_err-check_form-2-clause-refused
returns-in_err-check_form-2-clause-refused g c =
    let x = c.args.self.now in
    let h = over-of-flaw (world_in x) (subject x) (listed x) c.in_err-check_form-2.field-0.0 c.in_err-check_form-2.ensures.flawed in
    let e : c.from_residual-in_err-check_form-2.result ≡ Err c.in_err-check_form-2.field-0.0 = first_of (cc, grind arith, search rules) in
    rw e h

pub not_indexed-requires : goal.not_indexed-requires
not_indexed-requires g c =
    let x = c.args.self.now in
    lacking-number (world_in x) (subject x) (listed x) c.in-Some-first_lacking.lacks c.instructions_are_listed.ensures x.verifier.subject.short
    c.in_ok-check_form-2.ensures.formed c.in-Some-first_lacking.ensures.some

pub returns-in-Some-first_lacking-clause-refused : goal.returns-in-Some-first_lacking-clause-refused
returns-in-Some-first_lacking-clause-refused g c =
    let x = c.args.self.now in
    over-of-lacking (world_in x) (subject x) (listed x) c.in-Some-first_lacking.lacks c.not_indexed.result c.in_ok-check_form-2.ensures.formed
    c.in_default.ensures.ascending c.in_default.ensures.places c.in-Some-first_lacking.ensures.some c.not_indexed.ensures

pub returns-in-Some-first_lacking-clause-form : goal.returns-in-Some-first_lacking-clause-form
returns-in-Some-first_lacking-clause-form g c =
    let x = c.args.self.now in
    form-of-lacking (world_in x) (subject x) (listed x) c.in-Some-first_lacking.lacks c.not_indexed.result c.in_ok-check_form-2.ensures.formed
    c.in-Some-first_lacking.ensures.some c.not_indexed.ensures

pub returns-in-Some-first_lacking-clause-read_to : goal.returns-in-Some-first_lacking-clause-read_to
returns-in-Some-first_lacking-clause-read_to g c =
    let x = c.args.self.now in
    let most = reads-of-lacking (world_in x) (subject x) (listed x) c.in-Some-first_lacking.lacks c.not_indexed.result (length (listed x))
    c.in_ok-check_form-2.ensures.formed c.in-Some-first_lacking.ensures.some c.not_indexed.ensures in
    omega (arith, most, c.in_default.ensures.read, c.first_lacking.ensures.forward)

pub returns-then-is_rest_formed-clause-formed : goal.returns-then-is_rest_formed-clause-formed
returns-then-is_rest_formed-clause-formed g c =
    let x = c.args.self.now in
    formed-by (subject x) (listed x) (c.is_rest_formed.ensures.ends c.if-is_rest_formed.true) (c.is_rest_formed.ensures.handlers c.if-is_rest_formed.true)
    c.in_default.ensures.places c.in_default-first_lacking.ensures.none

pub returns-clause-refused : goal.returns-clause-refused
returns-clause-refused g c =
    let x = c.args.self.now in
    over-flawed (world_in x) (subject x) (listed x) c.check_form-2.result c.check_form-2.ensures.flawed
