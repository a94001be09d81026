use Rattle.cap_bytes.proofs.Loops.{HasPassed}
use Rattle.cap_frame.specs.AppletFormat.{applet_info}
use Rattle.cap_frame.proofs.readers.read_applets.Given as goal

abbrev pub invariant-applets : goal.invariant-applets
invariant-applets l = HasPassed applet_info l.left l.initial.items l.counter l.items
