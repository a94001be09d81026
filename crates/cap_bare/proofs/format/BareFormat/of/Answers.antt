use Rattle.std.proofs.Common.{None, sym, ◌∙◌}
use Rattle.std.proofs.lemmas.List.{get_or_past}
use Rattle.cap_bare.specs.declared.format.TheConstants.{FORMATS}
use Rattle.cap_bare.proofs.Formats.{entry-is}
use Rattle.cap_bare.proofs.format.BareFormat.of.Goals as goal

pub returns-then-opcode-lt121 : goal.returns-then-opcode-lt121
returns-then-opcode-lt121 c = entry-is c.args.opcode c.ranges.opcode.fits

pub returns-else-opcode-lt121 : goal.returns-else-opcode-lt121
returns-else-opcode-lt121 c =
    sym (get_or_past FORMATS c.args.opcode None c.if-opcode-lt121.false) ∙ entry-is c.args.opcode c.ranges.opcode.fits
