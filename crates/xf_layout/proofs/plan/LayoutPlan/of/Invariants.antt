use Rattle.std.proofs.Common.{List, length}
use Rattle.std.specs.Prelude.{count_by}
use Rattle.xf_layout.specs.declared.form.Form.{Form}
use Rattle.xf_layout.specs.Form.{AreForms}
use Rattle.xf_layout.specs.Shortest.{Fit, NoWider}
use Rattle.xf_layout.specs.Places.{FormsFit}
use Rattle.xf_layout.specs.Widening.{is_short_jump}
use Rattle.xf_layout.proofs.plan.LayoutPlan.of.Given as goal

abbrev pub invariant-turns : goal.invariant-turns
invariant-turns l = record {
  forms : AreForms l.items l.forms.items;
  least : (others : List Form) → AreForms l.items others → Fit others → NoWider l.forms.items others;
  room : FormsFit (length l.places) l.forms.items;
}

abbrev pub decreases-turns : goal.decreases-turns
decreases-turns l = count_by is_short_jump l.forms.items
