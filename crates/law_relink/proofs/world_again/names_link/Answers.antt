use Rattle.law_relink.proofs.Names.{met_same, named_same}
use Rattle.law_relink.proofs.world_again.names_link.Goals as goal

pub returns : goal.returns
returns c = λ ps p q laid r. record {
  imports = λ k token. met_same ps p q k token r.header r.imports;
  classes = λ k reference. named_same ps p q laid k reference r;
}
