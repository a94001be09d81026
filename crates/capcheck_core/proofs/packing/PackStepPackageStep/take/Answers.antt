-- the parts of a folder are the files of components
use Rattle.capcheck_core.proofs.Packs.{all_framed}
use Rattle.capcheck_core.proofs.packing.PackStepPackageStep.take.Goals as goal

pub blocks-requires : goal.blocks-requires
blocks-requires g c = all_framed c.args.parts.now c.args._read.now c.requires.stands c.requires.loaded
