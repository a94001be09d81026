-- The offsets that are held are those of the interfaces so far.
use Rattle.std.proofs.Common.{◌≡◌, ℕ, Bool, true, false, List, ap, sym, ◌∙◌, rules}
use Rattle.cap_class.specs.ClassFormat.{Class, is_interface}
use Rattle.cap_class.specs.ClassPart.{class_seen, classes_left}
use Rattle.offset_set.specs.Bits.{holds}
use Rattle.offset_set.specs.Sets.{also, either}
use Rattle.cap_components.specs.PackageRecord.{names_interface}
use Rattle.cap_components.proofs.InterfaceSets.{no_class, one_interface, one_class}
use Rattle.cap_components.proofs.reading.interface_offsets.Goals as goal

pub classes-preserved-then-is_interface : goal.classes-preserved-then-is_interface
classes-preserved-then-is_interface c =
    let interface : is_interface (class_seen c.in-Some.class).flags ≡ true = search rules in
    ap (λ (set : ℕ → Bool). either set (names_interface (classes_left c.next.new.self)))
    (c.insert.ensures ∙ ap (λ (n : ℕ). also n (holds c.classes.offsets)) c.offset.ensures)
    ∙ one_interface (holds c.classes.offsets) (class_seen c.in-Some.class) (classes_left c.next.new.self) interface
    ∙ ap (λ (cs : List Class). either (holds c.classes.offsets) (names_interface cs)) (sym c.in-Some.ensures.steps)
    ∙ c.classes.invariant

pub classes-preserved : goal.classes-preserved
classes-preserved c =
    let class : is_interface (class_seen c.in-Some.class).flags ≡ false = search rules in
    one_class (holds c.classes.offsets) (class_seen c.in-Some.class) (classes_left c.next.new.self) class
    ∙ ap (λ (cs : List Class). either (holds c.classes.offsets) (names_interface cs)) (sym c.in-Some.ensures.steps)
    ∙ c.classes.invariant

pub returns : goal.returns
returns c =
    sym (no_class (holds c.classes.offsets))
    ∙ ap (λ (cs : List Class). either (holds c.classes.offsets) (names_interface cs)) (sym c.in-None.ensures.steps.0)
    ∙ c.classes.invariant
