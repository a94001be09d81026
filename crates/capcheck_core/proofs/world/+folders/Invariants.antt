-- each call leaves fewer folders, or comes further with one
use Rattle.std.proofs.Common.{◌+◌, ◌*◌, length}
use Rattle.cap_files.specs.WordsLeft.{words_left}
use Rattle.capcheck_core.proofs.world.+folders.Given as goal

abbrev pub decreases-over_rest : goal.decreases-over_rest
decreases-over_rest g l = 2 * length (words_left l.rest.others) + 1

abbrev pub decreases-over_parts : goal.decreases-over_parts
decreases-over_parts g l = 2 * length (words_left l.rest.others)
