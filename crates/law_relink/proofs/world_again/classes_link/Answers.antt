use Rattle.cap_package.proofs.InfoLaws.{info-short}
use Rattle.law_relink.proofs.Classes.{classes_link}
use Rattle.law_relink.proofs.world_again.classes_link.Goals as goal

pub returns : goal.returns
returns c = λ parts new_parts ps p q laid s t r object. classes_link parts ps p q laid object s r
    (info-short 7 t.said.methods.file q.methods.info t.said.methods.framed)
