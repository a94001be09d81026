use Rattle.cap_laying.proofs.Components.{components_stand}
use Rattle.cap_laying.proofs.writing.components_stand.Goals as goal

pub returns : goal.returns
returns c = components_stand
