use Rattle.std.proofs.Common.{take}
use Rattle.xf_layout.specs.Places.{FormsFit}
use Rattle.xf_layout.proofs.places.room.Given as goal

abbrev pub invariant-forms : goal.invariant-forms
invariant-forms l = FormsFit l.room (take l.form-index l.forms)
