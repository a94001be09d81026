use Rattle.cap_load.proofs.Cuts.{packed_loads}
use Rattle.cap_load.proofs.laws.packed_is_load_file.Goals as goal

pub returns : goal.returns
returns c = packed_loads
