use Rattle.std.proofs.Common.{◌≡◌, ◌+◌, ◌++◌, take, drop}
use Rattle.std.specs.Prelude.{count_by, slice_index}
use Rattle.xf_layout.specs.Form.{length_of_forms}
use Rattle.xf_layout.specs.Widening.{is_short_jump, widened}
use Rattle.xf_layout.proofs.settling.widen.Given as goal

abbrev pub invariant-forms : goal.invariant-forms
invariant-forms l = record {
  forms : take l.form-index l.form-items ++ widened (slice_index l.places) l.at (drop l.form-index l.form-items) ≡ widened (slice_index l.places) 0
      l.fn.forms.items;
  end : l.at + length_of_forms (drop l.form-index l.form-items) ≡ length_of_forms l.fn.forms.items;
  risen : l.risen + count_by is_short_jump l.form-items ≡ count_by is_short_jump l.fn.forms.items;
}
