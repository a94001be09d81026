-- What the described methods of a package are written as.
use Rattle.std.specs.Prelude.{ℕ, Bool, List, [], ◌∷◌, ◌++◌, length, drop, Option, Some, None, if◌then◌else◌}
use Rattle.cap_desc.specs.DescriptorFormat.{MethodDescriptor, ClassDescriptor}
use Rattle.cap_components.specs.PackageRecord.{PackageRecord, names_interface}
use Rattle.jc_decode.specs.declared.symbols.Laid.{Laid}
use Rattle.cap_laying.specs.declared.member.Body.{Body}
use Rattle.cap_laying.specs.declared.member.Body.TheVariants.{Code, Header}
use Rattle.cap_laying.specs.declared.member.WrittenMember.{WrittenMember}
use Rattle.law_package.specs.Written.{lead_bytes}
use Rattle.law_package.specs.Writing.{first_handler}

-- code, or the header of a method without code as it stood
pub data SeenBody : Type 0 where
  code : Laid → SeenBody
  lead : List ℕ → SeenBody

-- a method with the offset at which it stood, and the number of its first handler, where it had one
pub record SeenMember : Type 0 where
  pub offset : ℕ
  pub handlers_from : Option ℕ
  pub body : SeenBody

abbrev pub body_seen : Body → SeenBody
body_seen (Code laid) = code laid.now
body_seen (Header header) = lead header.now

abbrev pub member_seen : WrittenMember → SeenMember
member_seen m = record { offset = m.offset; handlers_from = m.handlers_from; body = body_seen m.body }

abbrev pub seen_body : List ℕ → ℕ → Option Laid → SeenBody
seen_body info offset None = lead (lead_bytes info offset)
seen_body info offset (Some laid) = code laid

-- a method as it is written with this code, or without code
abbrev pub seen_method : List ℕ → MethodDescriptor → Option Laid → SeenMember
seen_method info m laid = record { offset = m.method_offset; handlers_from = first_handler m; body = seen_body info m.method_offset laid }

abbrev pub first_of_them : List (Option Laid) → Option Laid
first_of_them [] = None
first_of_them (l ∷ ls) = l

abbrev pub others_of_them : List (Option Laid) → List (Option Laid)
others_of_them [] = []
others_of_them (l ∷ ls) = ls

-- the methods of a class, each with its element of the list
abbrev pub seen_methods : List ℕ → List MethodDescriptor → List (Option Laid) → List SeenMember
seen_methods info [] laid = []
seen_methods info (m ∷ ms) laid = seen_method info m (first_of_them laid) ∷ seen_methods info ms (others_of_them laid)

-- those of a class that is no interface; the references of the interfaces are in a set
abbrev pub seen_class : (ℕ → Bool) → List ℕ → ClassDescriptor → List (Option Laid) → List SeenMember
seen_class interfaces info c laid = if interfaces c.class_ref then [] else seen_methods info c.methods laid

-- those of several classes; the methods of interfaces have an element too, and are not written
abbrev pub seen_classes : (ℕ → Bool) → List ℕ → List ClassDescriptor → List (Option Laid) → List SeenMember
seen_classes interfaces info [] laid = []
seen_classes interfaces info (c ∷ cs) laid =
    seen_class interfaces info c laid ++ seen_classes interfaces info cs (drop (length c.methods) laid)

-- the methods of a package
abbrev pub seen_package : PackageRecord → List (Option Laid) → List SeenMember
seen_package p laid = seen_classes (names_interface p.classes) p.methods.info p.description.items.classes laid
