use Rattle.law_relink.proofs.Linking.{may_twins, links}
use Rattle.law_relink.proofs.world_again.links_again.Goals as goal

pub returns : goal.returns
returns c = λ parts new_parts ps p q laid roles w before own s t r l parted may. links parts new_parts ps p q laid roles s t r w l
    (may_twins ps p q laid roles w before own r l parted may)
