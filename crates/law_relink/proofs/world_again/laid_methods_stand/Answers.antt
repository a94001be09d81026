use Rattle.law_relink.proofs.Standing.{stands}
use Rattle.law_relink.proofs.world_again.laid_methods_stand.Goals as goal

pub returns : goal.returns
returns c = λ parts new_parts ps p q laid roles w new before own s t r l n parted may. stands parts new_parts ps p q laid roles s t
    r w new before own l n parted may
