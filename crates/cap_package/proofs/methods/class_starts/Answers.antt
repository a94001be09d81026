-- The flags that are set are those of the class records so far.
use Rattle.std.proofs.Common.{ℕ, Bool, List, ap, sym, ◌∙◌}
use Rattle.offset_set.specs.Bits.{holds}
use Rattle.offset_set.specs.Sets.{also, either}
use Rattle.cap_class.specs.ClassFormat.{Class}
use Rattle.cap_class.specs.ClassPart.{class_seen, classes_left}
use Rattle.cap_package.specs.NameChecks.{is_class_at}
use Rattle.cap_package.proofs.OffsetLaws.{all_classes, more_classes}
use Rattle.cap_package.proofs.methods.class_starts.Goals as goal

pub classes-preserved : goal.classes-preserved
classes-preserved c =
    ap (λ (these : ℕ → Bool). either these (is_class_at (classes_left c.next.new.self)))
    (c.insert.ensures ∙ ap (λ (n : ℕ). also n (holds c.classes.starts)) c.offset.ensures)
    ∙ more_classes (holds c.classes.starts) (class_seen c.in-Some.class) (classes_left c.next.new.self)
    ∙ ap (λ (cs : List Class). either (holds c.classes.starts) (is_class_at cs)) (sym c.in-Some.ensures.steps)
    ∙ c.classes.invariant

pub returns : goal.returns
returns c =
    sym (all_classes (holds c.classes.starts))
    ∙ ap (λ (cs : List Class). either (holds c.classes.starts) (is_class_at cs)) (sym c.in-None.ensures.steps.0)
    ∙ c.classes.invariant
