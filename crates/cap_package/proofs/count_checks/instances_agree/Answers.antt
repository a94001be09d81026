use Rattle.std.proofs.Common.{ap, sym, ◌∙◌}
use Rattle.cap_class.specs.ClassPart.{records}
use Rattle.cap_desc.specs.ClassRecords.{described_left}
use Rattle.cap_components.specs.Order.{least_from, lesser}
use Rattle.cap_components.specs.Descriptions.{description}
use Rattle.cap_package.specs.ClassSearch.{record_at}
use Rattle.cap_package.specs.CountChecks.{instance_fault}
use Rattle.cap_package.proofs.SizeLaws.{fault_found}
use Rattle.cap_package.proofs.count_checks.instances_agree.Goals as goal

pub classes-preserved : goal.classes-preserved
classes-preserved c =
    let same = c.classes.invariant.2 in
    let fault = fault_found (records c.args.classes.now) (description c.args.descriptor.now) _ _ _ c.instance_fault.result c.class_ref.ensures
    (c.at-entry.ensures.found ∙ ap (λ part. record_at c.class_ref.result (records part)) same) c.instance_fault.ensures in (
      ap (λ least. least_from least (instance_fault (records c.args.classes.now) (description c.args.descriptor.now)) (described_left c.next.new.self))
          (c.keep_lesser.ensures ∙ ap (lesser c.classes.least) fault)
          ∙ ap (least_from c.classes.least (instance_fault (records c.args.classes.now) (description c.args.descriptor.now))) (sym c.in-Some.ensures.steps)
          ∙ c.classes.invariant.0,
      c.at-entry.ensures.serves,
      c.at-entry.ensures.same ∙ same,
    )
