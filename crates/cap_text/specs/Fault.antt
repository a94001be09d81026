-- Faults as capcheck prints them: the variant's name and then its numbers and names in the order of its fields, each after one space;
-- a fault inside another stands in its place without the outer name, but Form keeps its name.
use Rattle.std.specs.Prelude.{ℕ, List, [], ◌∷◌, codes, decimal}
use Rattle.std.specs.List.{concat}
use Rattle.cap_bytes.specs.declared.fault.FormKind.{FormKind}
use Rattle.cap_bytes.specs.declared.fault.FormKind.TheVariants.{Cut, WrongTag, BadMagic, BadVersion, Trailing, BadValue, Remote}
use Rattle.cap_bytes.specs.declared.fault.FormFault.{FormFault}
use Rattle.cap_components.specs.CountKind.{number_of_kind}
use Rattle.cap_components.specs.declared.fault.PackFault.{PackFault}
use Rattle.cap_components.specs.declared.fault.PackFault.TheVariants.{Form, MissingPart, SizeDisagrees, MethodOverlaps, MethodOutside}
use Rattle.cap_components.specs.declared.fault.PackFault.TheVariants.{CountDisagrees, HandlerOutside, StaticOverlaps, NoMethodAt}
use Rattle.cap_components.specs.declared.fault.PackFault.TheVariants.{ClassUndescribed, TooManyRegisters, BadType, StaticOutside}
use Rattle.cap_components.specs.declared.fault.PackFault.TheVariants.{MethodLength, NoStaticAt, PartTooLong}
use Rattle.cap_load.specs.declared.fault.StreamFault.{StreamFault}
use Rattle.cap_load.specs.declared.fault.StreamFault.TheVariants.{NoTag, Order, Full, AfterEnd, Unfinished}

-- a name and one, two or three numbers
abbrev pub name_1 : List ℕ → ℕ → List ℕ
name_1 name a = concat (name ∷ codes " " ∷ decimal a ∷ [])

abbrev pub name_2 : List ℕ → ℕ → ℕ → List ℕ
name_2 name a b = concat (name ∷ codes " " ∷ decimal a ∷ codes " " ∷ decimal b ∷ [])

abbrev pub name_3 : List ℕ → ℕ → ℕ → ℕ → List ℕ
name_3 name a b c = concat (name ∷ codes " " ∷ decimal a ∷ codes " " ∷ decimal b ∷ codes " " ∷ decimal c ∷ [])

abbrev pub form_kind_name : FormKind → List ℕ
form_kind_name Cut = codes "Cut"
form_kind_name WrongTag = codes "WrongTag"
form_kind_name BadMagic = codes "BadMagic"
form_kind_name BadVersion = codes "BadVersion"
form_kind_name Trailing = codes "Trailing"
form_kind_name BadValue = codes "BadValue"
form_kind_name Remote = codes "Remote"

abbrev pub form_fault_text : FormFault → List ℕ
form_fault_text f = concat (codes "Form " ∷ decimal f.part ∷ codes " " ∷ decimal f.at ∷ codes " " ∷ form_kind_name f.kind ∷ [])

abbrev pub pack_fault_text : PackFault → List ℕ
pack_fault_text (Form f) = form_fault_text f
pack_fault_text (MissingPart part) = name_1 (codes "MissingPart") part
pack_fault_text (SizeDisagrees part said found) = name_3 (codes "SizeDisagrees") part said found
pack_fault_text (MethodOverlaps first second) = name_2 (codes "MethodOverlaps") first second
pack_fault_text (MethodOutside at) = name_1 (codes "MethodOutside") at
pack_fault_text (CountDisagrees what said found) = name_3 (codes "CountDisagrees") (number_of_kind what) said found
pack_fault_text (HandlerOutside number) = name_1 (codes "HandlerOutside") number
pack_fault_text (StaticOverlaps first second) = name_2 (codes "StaticOverlaps") first second
pack_fault_text (NoMethodAt at) = name_1 (codes "NoMethodAt") at
pack_fault_text (ClassUndescribed at) = name_1 (codes "ClassUndescribed") at
pack_fault_text (TooManyRegisters at n) = name_2 (codes "TooManyRegisters") at n
pack_fault_text (BadType at) = name_1 (codes "BadType") at
pack_fault_text (StaticOutside at) = name_1 (codes "StaticOutside") at
pack_fault_text (MethodLength at n) = name_2 (codes "MethodLength") at n
pack_fault_text (NoStaticAt at) = name_1 (codes "NoStaticAt") at
pack_fault_text (PartTooLong part) = name_1 (codes "PartTooLong") part

abbrev pub stream_fault_text : StreamFault → List ℕ
stream_fault_text (NoTag tag) = name_1 (codes "NoTag") tag
stream_fault_text (Order first second) = name_2 (codes "Order") first second
stream_fault_text (Full room) = name_1 (codes "Full") room
stream_fault_text AfterEnd = codes "AfterEnd"
stream_fault_text Unfinished = codes "Unfinished"
