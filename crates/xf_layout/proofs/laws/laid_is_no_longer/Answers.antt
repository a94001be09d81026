use Rattle.xf_layout.proofs.Sizes.{forms-no-longer}
use Rattle.xf_layout.proofs.laws.laid_is_no_longer.Goals as goal

pub returns : goal.returns
returns c = forms-no-longer c.short_is_no_longer.ensures
