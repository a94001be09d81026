-- The methods of a package that have code, as they are listed: in the order of the Descriptor, with their numbers in it
-- (JCVM 2.2, sections 6.9 and 6.13).
use Rattle.std.specs.Prelude.{ℕ, ◌+◌, ◌-◌, ◌<◌, ◌≤◌, ◌^◌, Bool, List, [], ◌∷◌, ◌++◌, All, length, take, drop, map, Option, Some, None}
use Rattle.std.specs.Prelude.{if◌then◌else◌}
use Rattle.cap_method.specs.MethodFormat.{Header}
use Rattle.cap_method.specs.declared.read_methods.HandlerInfo.{HandlerInfo}
use Rattle.cap_desc.specs.DescriptorFormat.{MethodDescriptor, ClassDescriptor}
use Rattle.cap_components.specs.Components.{Methods}
use Rattle.cap_components.specs.MethodPlaces.{code_start}
use Rattle.cap_components.specs.PackageRecord.{PackageRecord, names_interface}
use Rattle.cap_package.specs.HeaderChecks.{header_in, is_abstract}
use Rattle.cap_bytes.specs.Bytes.{AreBytes}
use Rattle.jc_decode.specs.declared.symbols.Laid.{Laid}
use Rattle.jc_decode.specs.declared.symbols.LaidHandler.{LaidHandler}
use Rattle.cap_listing.specs.declared.method.ListedMethod.{ListedMethod}

-- a handler with its places counted from the start of its method's code
abbrev pub laid_handler : ℕ → HandlerInfo → LaidHandler
laid_handler start h = record { start = h.start - start; length = h.length; entry = h.entry - start; pool = h.index }

-- the code of a method with its handlers, and the numbers in its header
abbrev pub laid_of : Methods → MethodDescriptor → Header → Laid
laid_of methods m h = record {
  code = take m.bytecode_count (drop (code_start methods.info m) methods.info);
  handlers = map (laid_handler (code_start methods.info m)) (take m.handler_count (drop m.handler_index methods.handlers));
  max_stack = h.max_stack;
  nargs = h.nargs;
  max_locals = h.max_locals;
}

-- a method has code where its header does not call it abstract
abbrev pub listed_by : Methods → ℕ → ℕ → MethodDescriptor → Option Header → List ListedMethod
listed_by methods class_no method_no m None = []
listed_by methods class_no method_no m (Some h) =
    if is_abstract h then [] else record { class_no = class_no; method_no = method_no; laid = laid_of methods m h } ∷ []

abbrev pub listed_from : Methods → ℕ → ℕ → List MethodDescriptor → List ListedMethod
listed_from methods class_no method_no [] = []
listed_from methods class_no method_no (m ∷ ms) =
    listed_by methods class_no method_no m (header_in methods.info m.method_offset)
    ++ listed_from methods class_no (method_no + 1) ms

-- the methods of a class; those of an interface have no code
abbrev pub listed_unless : (ℕ → Bool) → Methods → ℕ → ClassDescriptor → List ListedMethod
listed_unless interfaces methods class_no c = if interfaces c.class_ref then [] else listed_from methods class_no 0 c.methods

abbrev pub listed_in : (ℕ → Bool) → Methods → ℕ → List ClassDescriptor → List ListedMethod
listed_in interfaces methods class_no [] = []
listed_in interfaces methods class_no (c ∷ cs) =
    listed_unless interfaces methods class_no c ++ listed_in interfaces methods (class_no + 1) cs

abbrev pub methods_of : PackageRecord → List ListedMethod
methods_of p = listed_in (names_interface p.classes) p.methods 0 p.description.items.classes

-- ---- what is known of each number by itself

-- the places and the index of a handler are of two bytes
pub record HasPlaces (h : LaidHandler) : Type 0 where
  pub start : h.start < 2 ^ 16
  pub entry : h.entry < 2 ^ 16
  pub pool : h.pool < 2 ^ 16

pub record IsCountedLaid (l : Laid) : Type 0 where
  pub max_stack : l.max_stack < 2 ^ 8
  pub nargs : l.nargs < 2 ^ 8
  pub max_locals : l.max_locals < 2 ^ 8
  pub bytes : AreBytes l.code
  pub few : length l.code ≤ 65535
  pub handlers : All HasPlaces l.handlers

pub record IsCounted (m : ListedMethod) : Type 0 where
  pub class_no : m.class_no < 2 ^ 16
  pub method_no : m.method_no < 2 ^ 16
  pub laid : IsCountedLaid m.laid
