use Rattle.std.proofs.Common.{◌≡◌, map, take, All, FitsSigned, w16}
use Rattle.vm_step.specs.Arguments.{number}
use Rattle.cap_text.specs.Word.{argument_read}
use Rattle.capcheck_core.proofs.running.shorts.Given as goal

abbrev pub invariant-loop-n : goal.invariant-loop-n
invariant-loop-n l = record {
  first : map argument_read (take l.n l.args) ≡ map number l.shorts.items;
  fit : All (FitsSigned w16) l.shorts.items;
}
