use Rattle.std.proofs.Common.{◌*◌, ◌∙◌}
use Rattle.law_shared_world.proofs.shared_world.in_step_keeps_alike.Goals as goal

pub returns : goal.returns
returns c = λ factor u v w alike step. record {
  begins = λ entry args. step.begins entry args ∙ alike.begins entry args;
  ends = λ entry args n left ended. (step.ends entry args (factor * n) left).0 (alike.ends entry args n left ended);
  goes_on = λ entry args n on. (step.goes_on entry args n).0 (alike.goes_on entry args n on);
}
