use Rattle.std.proofs.Common.{◌∙◌, sym}
use Rattle.card_verify.proofs.Landing.{put-one}
use Rattle.card_verify.proofs.pass.put_alone.Goals as goal

pub returns : goal.returns
returns c = put-one c.args.stack.now c.args.ty (sym c.is_empty.ensures ∙ c.if-is_empty.false)
