-- How many fields a Descriptor can describe: it has no more bytes than a component can have.
use Rattle.std.proofs.Common.{◌≡◌, ℕ, ◌≤◌, List, [], ◌∷◌, length, length-append, refl, ap, arith}
use Rattle.std.specs.Prelude.{sum_by}
use Rattle.std.proofs.lemmas.List.Sums.{sum_by-cons}
use Rattle.cap_bytes.specs.Grammar.{Grammar, u1, u2, table, repeat, give, ◌>>=◌}
use Rattle.cap_bytes.specs.Spelling.{Spells}
use Rattle.cap_desc.specs.declared.records.DescClasses.{DescClasses}
use Rattle.cap_desc.specs.declared.records.DescFields.{DescFields}
use Rattle.cap_desc.specs.ClassRecords.{described_left}
use Rattle.cap_desc.specs.MemberLists.{fields_left}
use Rattle.cap_desc.specs.DescriptorFormat.{ClassDescriptor, FieldDescriptor, field_descriptor_info}
use Rattle.cap_desc.specs.DescriptorFormat.{method_descriptor_info, class_descriptor_info}
use Rattle.cap_desc.specs.Members.{fields_of}
use Rattle.jc_resolve.proofs.Repeats.{TakesEach, goes_on, spelled_within, given_within}

one_each : {X : Type 0} (xs : List X) → sum_by (λ x. 1) xs ≡ length xs
one_each [] = refl
one_each (x ∷ xs) = omega (arith, sum_by-cons (λ y. 1) x xs, one_each xs)

first_takes : {X Y : Type 0} (n : ℕ) (g : Grammar X) (next : X → Grammar Y) → TakesEach (λ x. n) g → TakesEach (λ y. n) (g >>= next)
unfolding Spells
first_takes n g next each bytes at y after le h =
    let a = each bytes at h.0 h.1 le h.2 in
    let b = goes_on (next h.0) bytes h.1 y after a.reach h.3 in
    record { room = omega (arith, a.room, b.room); reach = b.reach }

later_takes : {X Y : Type 0} (f : Y → ℕ) (g : Grammar X) (next : X → Grammar Y) → ((x : X) → TakesEach f (next x)) → TakesEach f (g >>= next)
unfolding Spells
later_takes f g next each bytes at y after le h =
    let a = goes_on g bytes at h.0 h.1 le h.2 in
    let b = each h.0 bytes h.1 y after a.reach h.3 in
    record { room = omega (arith, a.room, b.room); reach = b.reach }

byte_takes : TakesEach (λ n. 1) u1
unfolding Spells
byte_takes bytes at n after le h = grind (arith)

field_takes : TakesEach (λ (f : FieldDescriptor). 1) field_descriptor_info
field_takes = first_takes 1 u1 _ byte_takes

fields_then : (count methods token class_ref : ℕ) (interfaces : List ℕ)
    → TakesEach (λ (c : ClassDescriptor). length c.fields)
    (repeat count field_descriptor_info >>= λ fs. repeat methods method_descriptor_info >>= λ ms. give
    (record { token = token; class_ref = class_ref; interfaces = interfaces; fields = fs; methods = ms }))
unfolding Spells
fields_then count methods token class_ref interfaces bytes at c after le h =
    let a = spelled_within (λ (f : FieldDescriptor). 1) field_descriptor_info field_takes count bytes at h.0 h.1 le h.2 in
    let b = goes_on (repeat methods method_descriptor_info) bytes h.1 h.3.0 h.3.1 a.reach h.3.2 in
    let e : length c.fields ≡ length h.0 = ap (λ (d : ClassDescriptor). length d.fields) h.3.3.0 in
    record { room = omega (arith, a.room, b.room, e, one_each h.0, h.3.3.1); reach = omega (arith, b.reach, h.3.3.1) }

class_takes : TakesEach (λ (c : ClassDescriptor). length c.fields) class_descriptor_info
class_takes =
    let f = λ (c : ClassDescriptor). length c.fields in
    later_takes f u1 _ (λ token. later_takes f u1 _ (λ flags. later_takes f u2 _ (λ class_ref. later_takes f u1 _ (λ interface_count.
    later_takes f u2 _ (λ field_count. later_takes f u2 _ (λ method_count. later_takes f (table interface_count) _ (λ interfaces.
    fields_then field_count method_count token class_ref interfaces)))))))

all_fields : (cs : List ClassDescriptor) → length (fields_of cs) ≡ sum_by (λ (c : ClassDescriptor). length c.fields) cs
all_fields [] = refl
all_fields (c ∷ cs) = omega (arith, length-append c.fields (fields_of cs), sum_by-cons (λ (d : ClassDescriptor). length d.fields) c cs, all_fields cs)

-- the fields of several classes, and those of one
pub fields_of-few : (x : DescClasses) → length (fields_of (described_left x)) ≤ 65535
fields_of-few x = grind (arith, all_fields, given_within, class_takes)

pub fields_left-few : (x : DescFields) → length (fields_left x) ≤ 65535
fields_left-few x =
    omega (arith, one_each (fields_left x), given_within (λ (f : FieldDescriptor). 1) field_descriptor_info field_takes x.left x.items, x.items.few)
