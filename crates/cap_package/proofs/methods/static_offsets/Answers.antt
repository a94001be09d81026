-- The flags that are set are those of the static fields so far.
use Rattle.std.proofs.Common.{ℕ, Bool, List, ap, sym, ◌∙◌, rules}
use Rattle.offset_set.specs.Bits.{holds}
use Rattle.cap_desc.specs.declared.records.FieldsOf.{FieldsOf}
use Rattle.cap_desc.specs.DescriptorFormat.{FieldDescriptor}
use Rattle.cap_desc.specs.MemberRecords.{field_seen}
use Rattle.cap_desc.specs.MembersLeft.{fields_of_left}
use Rattle.cap_package.specs.StaticChecks.{is_static_at}
use Rattle.offset_set.specs.Sets.{also, either}
use Rattle.cap_package.proofs.OffsetLaws.{all_statics, more_statics}
use Rattle.cap_package.proofs.methods.static_offsets.Goals as goal

pub fields-init : goal.fields-init
fields-init c =
    ap (λ (these : ℕ → Bool). either these (is_static_at (fields_of_left c.into_iter-field-iterator.result))) c.none-offsets.ensures
    ∙ ap (λ (x : FieldsOf). is_static_at (fields_of_left x)) c.into_iter-field-iterator.ensures.into_iter_gives

pub fields-preserved-then-is_static : goal.fields-preserved-then-is_static
fields-preserved-then-is_static c =
    ap (λ (these : ℕ → Bool). either these (is_static_at (fields_of_left c.next.new.self)))
    (c.insert.ensures ∙ ap (λ (n : ℕ). also n (holds c.fields.offsets)) c.image_offset.ensures)
    ∙ more_statics (holds c.fields.offsets) (field_seen c.in-Some.field) (fields_of_left c.next.new.self) (search rules)
    ∙ ap (λ (fs : List FieldDescriptor). either (holds c.fields.offsets) (is_static_at fs)) (sym c.in-Some.ensures.steps)
    ∙ c.fields.invariant

pub returns : goal.returns
returns c =
    sym (all_statics (holds c.fields.offsets))
    ∙ ap (λ (fs : List FieldDescriptor). either (holds c.fields.offsets) (is_static_at fs)) (sym c.in-None.ensures.steps.0)
    ∙ c.fields.invariant
