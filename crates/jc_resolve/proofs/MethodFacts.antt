-- What holds of the methods that the Descriptor of a package describes, since its parts agree.
use Rattle.std.proofs.Common.{◌≡◌, ℕ, ◌+◌, ◌≤◌, Bool, ltb, eqb, List, [], length}
use Rattle.std.proofs.Common.{Option, Some, None, refl, sym, ap, arith}
use Rattle.std.specs.Prelude.{All, MatchBool}
use Rattle.std.specs.List.{enumerate_from, filter_map}
use Rattle.std.proofs.lemmas.Bool.{ltb-false, eqb-true, eqb-false}
use Rattle.cap_method.specs.MethodFormat.{Header}
use Rattle.cap_desc.specs.DescriptorFormat.{MethodDescriptor}
use Rattle.cap_desc.specs.Members.{methods_of}
use Rattle.cap_package.specs.Descriptions.{Description, argument_words}
use Rattle.cap_package.specs.HandlerChecks.{numbered_fault}
use Rattle.cap_package.specs.HeaderChecks.{header_in, is_abstract, registers_fault, length_fault}
use Rattle.cap_package.specs.HeaderChecks.{this_words, arguments_fault, abstract_fault}
use Rattle.cap_package.specs.MethodChecks.{code_start, code_end, outside_fault}
use Rattle.cap_package.specs.TypeChecks.{method_type_by, method_type_fault, field_type_fault}
use Rattle.cap_package.specs.PackageRecord.{PackageRecord, described_methods, interface_methods, handlers_of, fields}
use Rattle.cap_package.specs.StandsFor.{StandsFor}
use Rattle.cap_package.proofs.HeaderLaws.{HasHeader, has-header, ends-within, few_registers}
use Rattle.cap_package.proofs.InfoLaws.{info-short}
use Rattle.cap_package.proofs.Agreed.{Agrees, agrees}
use Rattle.cap_package.proofs.StaticsKnown.{both_empty, three_empty}
use Rattle.jc_base.specs.Linked.{IsCodeLength}
use Rattle.jc_resolve.proofs.Faultless.{IsOneOf, faultless}
use Rattle.jc_resolve.proofs.OwnedHandlers.{LiesIn, handlers-lie}

-- ---- tests of one method

-- the number of a method's bytes, by whether it is abstract
abbrev pub HasLength : Bool → ℕ → Type 0
HasLength abstract count = MatchBool abstract (count ≡ 0) (IsCodeLength count)

-- ---- words

-- the argument words that a method's descriptor tells, and that they are no more than some
pub record HasWords (d : Description) (m : MethodDescriptor) (most : ℕ) : Type 0 where
  pub words : ℕ
  pub told : argument_words d m.type_offset ≡ Some words
  pub few : words ≤ most

words_by : (d : Description) (m : MethodDescriptor) (most : ℕ) (o : Option ℕ) → argument_words d m.type_offset ≡ o
    → method_type_by most m.type_offset o ≡ None → HasWords d m most
words_by d m most u e none = grind (arith, ltb, ltb-false)

words_told : (d : Description) (m : MethodDescriptor) (most : ℕ) → method_type_fault d most m ≡ None → HasWords d m most
unfolding method_type_fault
words_told d m most none = words_by d m most (argument_words d m.type_offset) refl none

-- ---- a method of a class

-- a method that stands in the info
pub record IsPlaced (p : PackageRecord) (m : MethodDescriptor) : Type 0 where
  pub header : Header
  pub there : header_in p.methods.info m.method_offset ≡ Some header
  pub begins : code_start p.methods.info m ≡ m.method_offset + header.size
  pub ends : code_end p.methods.info m ≤ length p.methods.info
  pub short : length p.methods.info ≤ 65535
  pub words : ℕ
  pub told : argument_words p.description m.type_offset ≡ Some words
  pub nargs : header.nargs ≡ words + this_words m
  pub registers : header.nargs + header.max_locals ≤ 255
  pub length : HasLength (is_abstract header) m.bytecode_count
  pub handlers : All (LiesIn p.methods.info m) (handlers_of p m)

length_of : (info : List ℕ) (m : MethodDescriptor) (h : Header) → header_in info m.method_offset ≡ Some h → abstract_fault info m ≡ None
    → length_fault info m ≡ None → HasLength (is_abstract h) m.bytecode_count
unfolding abstract_fault length_fault
length_of info m h at none some = grind (arith, eqb, ltb, eqb-false, ltb-false, eqb-true)

nargs_of : (info : List ℕ) (d : Description) (m : MethodDescriptor) (h : Header) (words : ℕ) → header_in info m.method_offset ≡ Some h
    → argument_words d m.type_offset ≡ Some words → arguments_fault info d m ≡ None → h.nargs ≡ words + this_words m
unfolding arguments_fault
nargs_of info d m h words at told none = grind (arith, eqb, eqb-true)

begins_at : (info : List ℕ) (m : MethodDescriptor) (x : HasHeader info m.method_offset) → code_start info m ≡ m.method_offset + x.header.size
unfolding code_start
begins_at info m x = ap (λ n. m.method_offset + n) (sym x.size)

module _ (p : PackageRecord) (stands : StandsFor p.parts p) where
  agreed : Agrees p.parts p
  agreed = agrees p.parts p stands.agree

  -- the types of fields are types, and those of methods, of interfaces too, have the shape of a method's
  typed : (filter_map (field_type_fault p.description) (fields p) ≡ [])
      × (filter_map (method_type_fault p.description 510) (methods_of p.description.items.classes) ≡ [])
      × (filter_map (method_type_fault p.description 254) (interface_methods p) ≡ [])
  typed = three_empty _ _ _ agreed.types

  types : filter_map (method_type_fault p.description 510) (methods_of p.description.items.classes) ≡ []
  types = let (of_fields, of_methods, of_interfaces) = typed in of_methods

  interface_types : filter_map (method_type_fault p.description 254) (interface_methods p) ≡ []
  interface_types = let (of_fields, of_methods, of_interfaces) = typed in of_interfaces

  entries_owned : filter_map (numbered_fault p.methods.info (described_methods p)) (enumerate_from 0 p.methods.handlers) ≡ []
  entries_owned = let (owned, claimed) = both_empty _ _ agreed.handlers in owned

  pub interface-words : (m : MethodDescriptor) → IsOneOf (interface_methods p) m → HasWords p.description m 254
  interface-words m one = words_told p.description m 254 (faultless (method_type_fault p.description 254) _ m interface_types one)

  pub is-placed : (m : MethodDescriptor) → IsOneOf (described_methods p) m → IsOneOf (methods_of p.description.items.classes) m → IsPlaced p m
  is-placed m one any =
      let info = p.methods.info in
      let outside = faultless (outside_fault info (length p.methods.handlers)) (described_methods p) m agreed.outside one in
      let arguments = faultless (arguments_fault info p.description) (described_methods p) m agreed.arguments one in
      let abstract = faultless (abstract_fault info) (described_methods p) m agreed.bare one in
      let registers = faultless (registers_fault info) (described_methods p) m agreed.registers one in
      let lengths = faultless (length_fault info) (described_methods p) m agreed.lengths one in
      let words = words_told p.description m 510 (faultless (method_type_fault p.description 510) (methods_of p.description.items.classes) m types any) in
      let ends = ends-within info (length p.methods.handlers) m outside in
      let h = has-header info m ends in
      record {
        header = h.header;
        there = h.there;
        begins = begins_at info m h;
        ends = ends;
        short = info-short 7 stands.said.methods.file info stands.said.methods.framed;
        words = words.words;
        told = words.told;
        nargs = nargs_of info p.description m h.header words.words h.there words.told arguments;
        registers = few_registers info m h.header h.there registers;
        length = length_of info m h.header h.there abstract lengths;
        handlers = handlers-lie info (described_methods p) p.methods.handlers m entries_owned one;
      }
