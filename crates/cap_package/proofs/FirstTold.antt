-- Conditions that are asked one after the other tell the first that is broken.
use Rattle.std.proofs.Common.{arith}
use Rattle.std.proofs.Common.{◌≡◌, List, [], ◌++◌, length, map, Option, None, Result, Ok, Err, sym, ap, ◌∙◌, inl, inr}
use Rattle.cap_frame.specs.DirectoryFormat.{DirectoryItems}
use Rattle.cap_components.specs.declared.fault.PackFault.{PackFault}
use Rattle.cap_components.specs.Parts.{Lent}
use Rattle.cap_components.specs.Order.{pack_place, refused, least_of}
use Rattle.cap_components.specs.Components.{◌>>=◌, read_directory}
use Rattle.cap_components.specs.PackageRecord.{PackageRecord}
use Rattle.cap_components.specs.ReadPackage.{read_package, read_whole}
use Rattle.cap_components.proofs.Saying.{read-said, read-fails}
use Rattle.cap_frame.specs.AppletFormat.{Applet}
use Rattle.cap_pool.specs.ExportFormat.{Exported}
use Rattle.cap_desc.specs.DescriptorFormat as described
use Rattle.cap_desc.specs.Members.{methods_of}
use Rattle.cap_package.specs.Pairs.{pairs}
use Rattle.cap_components.specs.PackageRecord.{described_methods, interface_methods, fields}
use Rattle.cap_components.specs.PartChecks.{missing, form_fault, custom_tags, size_fault, components, absent_fault, sized_fault, required, optional}
use Rattle.cap_package.specs.MethodChecks.{overlap_pair, outside_fault}
use Rattle.cap_package.specs.HeaderChecks.{registers_fault, length_fault}
use Rattle.cap_package.specs.HandlerChecks.{numbered_fault, claim_fault}
use Rattle.std.specs.List.{enumerate_from}
use Rattle.cap_package.specs.StaticChecks.{share_pair, image_fault, array_kinds, filled_fault, is_static_at, no_static_fault}
use Rattle.cap_package.specs.NameChecks.{is_method_at, no_method_fault, no_entry_fault, table_entries, exported_methods, exported_fields, undescribed_fault}
use Rattle.cap_package.specs.NameChecks.{undescribed_class_fault, not_own_fault}
use Rattle.cap_package.specs.TypeChecks.{field_type_fault, method_type_fault}
use Rattle.cap_package.specs.Agreement.{or_none}
use Rattle.cap_package.specs.Agreement.{places_agree, counts_agree, members_agree, package_from}
use Rattle.cap_package.specs.FirstFault.{place_lists, count_lists, member_lists, conditions, conditions_of, missing_parts, Tells}
use Rattle.first_fault.proofs.LeastFaults.{least_in, least-at_fault, least-three, least-found, least-none}
use Rattle.first_fault.proofs.FirstTold.{first_refused, IsTold, things-told, both-told, three-told, one-told, step, last, groups-told, refused-first}
use Rattle.first_fault.proofs.FirstTold.{accepted-empty}

-- ---- the three groups of conditions

places-told : (p : PackageRecord) → IsTold pack_place (places_agree p) (place_lists p)
unfolding places_agree
places-told p =
    step pack_place (both-told pack_place (size_fault p.parts p.directory) components (size_fault p.parts p.directory) (custom_tags p.directory))
    (step pack_place (things-told pack_place (overlap_pair p.methods.info) (pairs (described_methods p)))
    (last pack_place (things-told pack_place (outside_fault p.methods.info (length p.methods.handlers)) (described_methods p))))

counts-told : (p : PackageRecord) → IsTold pack_place (counts_agree p) (count_lists p)
unfolding counts_agree
counts-told p = grind (arith, step, one-told, length, things-told, last)

members-told : (p : PackageRecord) → IsTold pack_place (members_agree p) (member_lists p)
unfolding members_agree
members-told p =
    step pack_place (both-told pack_place (numbered_fault p.methods.info (described_methods p)) (enumerate_from 0 p.methods.handlers)
    (claim_fault (length p.methods.handlers)) (described_methods p))
    (step pack_place (things-told pack_place (share_pair p.description) (pairs (fields p)))
    (step pack_place
    (three-told pack_place (no_entry_fault (is_method_at (described_methods p))) (table_entries p.classes)
    (no_method_fault (is_method_at (described_methods p))) (exported_methods (or_none p.export)) (no_method_fault (is_method_at (described_methods p)))
    (map (λ (a : Applet). a.install) (or_none p.applets)))
    (step pack_place
    (three-told pack_place (undescribed_fault p.description.items.classes) p.classes (not_own_fault p.classes)
    (map (λ (d : described.ClassDescriptor). d.class_ref) p.description.items.classes) (undescribed_class_fault p.classes)
    (map (λ (c : Exported). c.class_offset) (or_none p.export)))
    (step pack_place (things-told pack_place (registers_fault p.methods.info) (described_methods p))
    (step pack_place
    (three-told pack_place (field_type_fault p.description) (fields p) (method_type_fault p.description 510) (methods_of p.description.items.classes)
    (method_type_fault p.description 254) (interface_methods p))
    (step pack_place (both-told pack_place (image_fault p.statics p.description) (fields p) (filled_fault (array_kinds p.statics.arrays) p.description)
    (fields p))
    (step pack_place (things-told pack_place (length_fault p.methods.info) (described_methods p))
    (last pack_place (things-told pack_place (no_static_fault (is_static_at (fields p))) (exported_fields (or_none p.export)))))))))))

all-told : (p : PackageRecord) → IsTold pack_place (places_agree p >>= λ _. (counts_agree p >>= λ _. members_agree p)) (conditions p)
all-told p =
    groups-told pack_place (places_agree p) (counts_agree p >>= λ _. members_agree p) (place_lists p) (count_lists p ++ member_lists p) (places-told p)
    (groups-told pack_place (counts_agree p) (members_agree p) (count_lists p) (member_lists p) (counts-told p) (members-told p))

-- ---- the whole

-- the answer of the conditions, and then the package
package_by : (r s t u : Result (Unit {0}) PackFault) (p : PackageRecord) → (r >>= λ _. (s >>= λ _. (t >>= λ _. (u >>= λ _. Ok p))))
    ≡ ((r >>= λ _. (s >>= λ _. (t >>= λ _. u))) >>= λ _. Ok p)
package_by x s t u p = grind (arith)

-- what is asked once the components are read
abbrev then_agree : List Lent → PackageRecord → Result PackageRecord PackFault
then_agree parts p =
    refused (least_of (form_fault parts) (custom_tags p.directory)) >>= λ _.
    (places_agree p >>= λ _. (counts_agree p >>= λ _. (members_agree p >>= λ _. Ok p)))

-- the conditions one after the other
asked : (parts : List Lent) (p : PackageRecord)
    → IsTold pack_place
    (refused (least_of (form_fault parts) (custom_tags p.directory)) >>= λ _. (places_agree p >>= λ _. (counts_agree p >>= λ _. members_agree p)))
    (conditions_of parts p)
asked parts p = step pack_place (things-told pack_place (form_fault parts) (custom_tags p.directory)) (all-told p)

agree-told : (parts : List Lent) (p : PackageRecord) → then_agree parts p ≡ (first_refused pack_place (conditions_of parts p) >>= λ _. Ok p)
agree-told parts p =
    package_by (refused (least_of (form_fault parts) (custom_tags p.directory))) (places_agree p) (counts_agree p) (members_agree p) p
    ∙ ap (λ (r : Result (Unit {0}) PackFault). r >>= λ _. Ok p) (asked parts p).same

missing-told : (parts : List Lent) (d : Result DirectoryItems PackFault) → missing parts d ≡ least_in pack_place None (missing_parts parts d)
missing-told parts (Err fault) = least-at_fault pack_place (absent_fault parts) required None
missing-told parts (Ok d) = least-three pack_place (absent_fault parts) required (sized_fault parts d) optional (sized_fault parts d) (custom_tags d)

agreement_tells : (parts : List Lent) (p : PackageRecord) (s : Result (Unit {0}) PackFault) → first_refused pack_place (conditions_of parts p) ≡ s
    → missing_parts parts (read_directory parts) ≡ [] → read_package parts ≡ Ok p → Tells parts (s >>= λ _. Ok p)
agreement_tells parts p (Ok x) e none read = (none, read-said parts p read, accepted-empty pack_place (conditions_of parts p) e)
agreement_tells parts p (Err f) e none read = inr (none, inr (p, read-said parts p read, refused-first pack_place (conditions_of parts p) f e))

reading_tells : (parts : List Lent) (r : Result PackageRecord PackFault) → read_package parts ≡ r → missing_parts parts (read_directory parts) ≡ []
    → Tells parts (r >>= λ p. then_agree parts p)
reading_tells parts (Err f) e none = inr (none, inl (read-fails parts f e))
reading_tells parts (Ok p) e none = grind (arith, agree-told, agreement_tells)

missing_tells : (parts : List Lent) (m : Option PackFault) → least_in pack_place None (missing_parts parts (read_directory parts)) ≡ m
    → Tells parts ((refused m >>= λ _. read_package parts) >>= λ p. then_agree parts p)
missing_tells parts x e = grind (arith, least-found, reading_tells, least-none)

-- the answer tells the first fault, or that nothing is at fault
pub first_told : (parts : List Lent) → Tells parts (package_from parts)
unfolding package_from read_whole
first_told parts =
    let m = missing parts (read_directory parts) in
    missing_tells parts m (sym (missing-told parts (read_directory parts)))
