-- what the run leaves, in a world whose methods are all accepted, or why it does not begin: the first words of those for static fields are
-- the words of the fields, and the others do not count
use Rattle.std.proofs.Common.{◌≡◌, length, ap, sym, ◌∙◌, rules}
use Rattle.std.specs.Prelude.{Ok, Err}
use Rattle.vm_offend.specs.Sized.{static_cells}
use Rattle.vm_step.specs.Start.{start_fault}
use Rattle.capcheck_core.specs.declared.running.RunStop.TheVariants.{NotStarted}
use Rattle.capcheck_core.specs.Run.{bounded_request}
use Rattle.capcheck_core.specs.Defend.{fault_of}
use Rattle.xf_last.proofs.Passing.{all-carded}
use Rattle.capcheck_core.proofs.Ran.{card_same, kept_end, whole_end}
use Rattle.capcheck_core.proofs.running.run_entry.Goals as goal

pub returns-in-Ok-clause-runs : goal.returns-in-Ok-clause-runs
returns-in-Ok-clause-runs c =
    let same : length c.go_on.new.statics ≡ length c.split_at_mut-fields.result.0.now = search rules in
    let long = same ∙ c.split_at_mut-fields.ensures.front_len ∙ c.field_words-count.ensures.fields ∙ ap static_cells c.world.ensures.is in
    whole_end c.args.accepted.now (bounded_request c.args.run.now) c.go_on.new.ram c.go_on.new.heap c.go_on.new.statics c.split_at_mut-fields.result.1.now
    c.go_on.new.text.text (Ok (tt {0})) long
    (record { carded = all-carded c.args.accepted.now c.requires.accepted; fault_free = c.start.ensures.fault_free; left = c.go_on.ensures })

pub returns-in-Err-clause-runs : goal.returns-in-Err-clause-runs
returns-in-Err-clause-runs c = (
  c.requires.accepted,
  ap (fault_of c.args.accepted.now (bounded_request c.args.run.now).args) c.requires.entered
      ∙ ap (start_fault c.args.accepted.now c.args.number) (sym c.requires.handed) ∙ c.in-Err.ensures.refused,
)

pub returns-in-Err-clause-kept : goal.returns-in-Err-clause-kept
returns-in-Err-clause-kept c =
    kept_end {U = Unit {0}} c.args.ram.now c.args.heap.now c.split_at_mut-fields.result.0.now c.start.new.ram c.start.new.heap c.start.new.statics
    c.split_at_mut-fields.result.1.now c.args.statics.now (Err (NotStarted c.in-Err.fault)) (sym c.split_at_mut-fields.ensures.value)
    (card_same _ _ _ _ _ _ c.in-Err.ensures.ram_as_before c.in-Err.ensures.heap_as_before c.in-Err.ensures.statics_as_before)
