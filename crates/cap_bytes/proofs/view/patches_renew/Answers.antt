use Rattle.cap_bytes.proofs.Patches.{patches_renew}
use Rattle.cap_bytes.proofs.view.patches_renew.Goals as goal

pub returns : goal.returns
returns c = patches_renew
