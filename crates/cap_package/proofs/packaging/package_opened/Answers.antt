-- The parts are those that were given, and the answer is what they stand for.
use Rattle.std.proofs.Common.{ap, ◌∙◌, subst, sym}
use Rattle.cap_package.specs.Agreement.{package_from}
use Rattle.cap_package.specs.FirstFault.{Tells}
use Rattle.cap_package.proofs.FirstTold.{first_told}
use Rattle.cap_package.proofs.OneRecord.{answer_is, stands_only}
use Rattle.cap_package.proofs.packaging.package_opened.Goals as goal

pub invariant_of-result : goal.invariant_of-result
invariant_of-result c = (ap package_from c.in-Ok.ensures.parts ∙ c.in-Ok.ensures.value, c.in-Ok.ensures.infos)

pub returns-in-Ok-clause-stands : goal.returns-in-Ok-clause-stands
returns-in-Ok-clause-stands c = answer_is c.args.parts.now _ c.in-Ok.ensures.value

pub returns-in-Ok-clause-only : goal.returns-in-Ok-clause-only
returns-in-Ok-clause-only c = λ p s. sym c.in-Ok.ensures.value ∙ stands_only c.args.parts.now p s

pub returns-in-Err-clause-only : goal.returns-in-Err-clause-only
returns-in-Err-clause-only c = λ p s. sym c.in-Err.ensures.value ∙ stands_only c.args.parts.now p s

pub returns-in-Err-clause-tells : goal.returns-in-Err-clause-tells
returns-in-Err-clause-tells c = subst (Tells c.args.parts.now) c.in-Err.ensures.value (first_told c.args.parts.now)
