use Rattle.std.proofs.Common.{◌≡◌, ◌+◌, length, drop}
use Rattle.xf_layout.specs.Form.{length_of_forms}
use Rattle.xf_layout.specs.Places.{noted}
use Rattle.xf_layout.proofs.places.LabelPlaces.note.Given as goal

abbrev pub invariant-forms : goal.invariant-forms
invariant-forms l = record {
  places : noted (drop l.form-index l.forms) l.at l.self ≡ noted l.forms 0 l.fn.self;
  room : length l.self ≡ length l.fn.self;
  end : l.at + length_of_forms (drop l.form-index l.forms) ≡ length_of_forms l.forms;
}
