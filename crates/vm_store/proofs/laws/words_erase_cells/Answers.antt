use Rattle.vm_store.proofs.CellTypes.{words-erase}
use Rattle.vm_store.proofs.laws.words_erase_cells.Goals as goal

pub returns : goal.returns
returns c = words-erase
