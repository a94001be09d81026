use Rattle.std.proofs.Common.{sym}
use Rattle.jc_control.proofs.listing.Listing.insn.Goals as goal

pub returns-in-Some : goal.returns-in-Some
returns-in-Some c = record { value = sym (c.requires.reads c.args.place c.in-Some.insn (sym c.in-Some.ensures)) }
