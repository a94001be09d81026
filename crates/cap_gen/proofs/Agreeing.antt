-- The components of the generated package agree: what each condition asks is computed, for every seed at once.
use Rattle.std.specs.Prelude.{◌≡◌, refl, ℕ, true, length, [], ◌++◌}
use Rattle.cap_bytes.specs.Reading.{reading}
use Rattle.first_fault.specs.First.{at_fault}
use Rattle.cap_desc.specs.TypeFormat.{types_in}
use Rattle.cap_components.specs.Descriptions.{argument_words}
use Rattle.cap_components.specs.MethodPlaces.{code_start, code_end}
use Rattle.cap_components.specs.PackageRecord.{described_methods, names_interface}
use Rattle.cap_components.specs.Components.{info_in}
use Rattle.cap_components.specs.PartChecks.{size_fault, components, custom_tags}
use Rattle.cap_package.specs.MethodChecks.{overlap_pair, outside_fault}
use Rattle.cap_package.specs.HeaderChecks.{header_in, registers_fault, length_fault, arguments_fault, abstract_fault}
use Rattle.cap_package.specs.HandlerChecks.{numbered_fault, claim_fault, owners, handler_fault}
use Rattle.std.specs.List.{enumerate_from}
use Rattle.cap_gen.proofs.Apart.{follow, none_overlap}
use Rattle.cap_package.specs.Pairs.{pairs}
use Rattle.cap_gen.specs.Methods.{each_method, method_bytes, entry_table, method_info}
use Rattle.cap_gen.specs.Handlers.{entries}
use Rattle.cap_gen.specs.Described.{methods, described_bytes, descriptor_bytes, location_bytes}
use Rattle.cap_gen.specs.Generated.{generated_parts}
use Rattle.cap_gen.specs.Record.{package_record}

pub sizes_agree : (seed : ℕ) → at_fault (size_fault (generated_parts seed) (package_record seed).directory) components
    ++ at_fault (size_fault (generated_parts seed) (package_record seed).directory) (custom_tags (package_record seed).directory) ≡ []
unfolding each_method method_bytes entry_table entries method_info methods described_bytes descriptor_bytes location_bytes info_in
    reading size_fault
sizes_agree seed = refl

pub inside : (seed : ℕ) → at_fault (outside_fault (method_info seed) (length entries)) (described_methods (package_record seed)) ≡ []
unfolding each_method method_bytes entry_table entries method_info methods names_interface outside_fault code_start code_end
inside seed = refl

pub arguments_agree : (seed : ℕ) → at_fault (arguments_fault (method_info seed) (package_record seed).description)
    (described_methods (package_record seed)) ≡ []
unfolding each_method method_bytes entry_table entries method_info methods names_interface arguments_fault described_bytes descriptor_bytes
    header_in argument_words types_in
arguments_agree seed = refl

pub registers_few : (seed : ℕ) → at_fault (registers_fault (method_info seed)) (described_methods (package_record seed)) ≡ []
unfolding each_method method_bytes entry_table entries method_info methods names_interface registers_fault header_in
registers_few seed = refl

pub lengths_fit : (seed : ℕ) → at_fault (length_fault (method_info seed)) (described_methods (package_record seed)) ≡ []
unfolding each_method method_bytes entry_table entries method_info methods names_interface length_fault header_in
lengths_fit seed = refl

pub none_abstract : (seed : ℕ) → at_fault (abstract_fault (method_info seed)) (described_methods (package_record seed)) ≡ []
unfolding each_method method_bytes entry_table entries method_info methods names_interface abstract_fault header_in
none_abstract seed = refl

pub handlers_home : (seed : ℕ) → at_fault (numbered_fault (method_info seed) (described_methods (package_record seed))) (enumerate_from 0 entries)
    ++ at_fault (claim_fault (length entries)) (described_methods (package_record seed)) ≡ []
unfolding each_method method_bytes entry_table entries method_info methods names_interface owners handler_fault claim_fault code_start code_end
handlers_home seed = refl

in_order : (seed : ℕ) → follow (method_info seed) 801 (described_methods (package_record seed)) ≡ true
unfolding each_method method_bytes entry_table entries method_info methods names_interface code_start code_end
in_order seed = refl

pub apart : (seed : ℕ) → at_fault (overlap_pair (method_info seed)) (pairs (described_methods (package_record seed))) ≡ []
apart seed = none_overlap (method_info seed) 801 (described_methods (package_record seed)) (in_order seed)
