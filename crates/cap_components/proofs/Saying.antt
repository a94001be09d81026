-- The computed reading of the components answers what they say, and else the first of them that fails.
use Rattle.std.proofs.Common.{arith}
use Rattle.std.proofs.Common.{◌≡◌, ℕ, List, Option, Some, None, Result, Ok, Err, refl, sym, ap, ◌∙◌, inl, inr}
use Rattle.cap_bytes.specs.declared.fault.FormFault.{FormFault}
use Rattle.cap_bytes.specs.Grammar.{Grammar}
use Rattle.cap_bytes.specs.Spelling.{info_of, file_of, Stands}
use Rattle.cap_bytes.specs.Reading.{reading}
use Rattle.cap_bytes.proofs.Laws.{reading_where, refused_where, stands, breaks}
use Rattle.cap_frame.specs.Frame.{component}
use Rattle.cap_frame.specs.HeaderFormat.{HeaderItems, header_info}
use Rattle.cap_frame.specs.DirectoryFormat.{directory_info}
use Rattle.cap_frame.specs.ImportFormat.{imports_info}
use Rattle.cap_frame.specs.AppletFormat.{applets_info}
use Rattle.cap_pool.specs.PoolFormat.{pool_info}
use Rattle.cap_pool.specs.ExportFormat.{export_info}
use Rattle.cap_pool.specs.LocationFormat.{locations_info}
use Rattle.cap_class.specs.ClassFormat.{classes_info}
use Rattle.cap_method.specs.MethodFormat.{methods_info}
use Rattle.cap_method.specs.StaticFormat.{statics_info}
use Rattle.cap_desc.specs.DescriptorFormat.{descriptor_info}
use Rattle.cap_components.specs.declared.fault.PackFault.{PackFault}
use Rattle.cap_components.specs.declared.fault.PackFault.TheVariants.{Form}
use Rattle.cap_components.specs.Parts.{Lent, held}
use Rattle.cap_components.specs.Components.{◌>>=◌, formed, framed, there, info_in, read_part, read_directory, read_if_held, read_methods, read_description}
use Rattle.cap_components.specs.Components.{Methods}
use Rattle.cap_components.specs.Descriptions.{Description}
use Rattle.cap_components.specs.PackageRecord.{PackageRecord}
use Rattle.cap_components.specs.ReadPackage.{read_after, read_package}
use Rattle.cap_components.specs.Saying.{HoldsComponent, Says, SaysIf, AreSaid, IsBroken, in_file, in_info, PartFails, absent, broken, FailsOr, BreaksOr}
use Rattle.cap_components.specs.Saying.{IsFirstAfter, IsFirstFailingPart}

-- ---- what is said is read

pub info-read : {X : Type 0} (parts : List Lent) (tag : ℕ) (g : Grammar X) (info : List ℕ) (items : X) → HoldsComponent parts tag g info items
    → info_in parts tag ≡ Ok info
unfolding info_in
info-read parts tag g info items h = rw (h.there, reading_where (file_of tag) (component tag) h.file info h.framed) refl

items_read : {X : Type 0} (parts : List Lent) (tag : ℕ) (g : Grammar X) (info : List ℕ) (items : X) → HoldsComponent parts tag g info items
    → formed (reading (info_of tag) g info) ≡ Ok items
items_read parts tag g info items h = ap formed (reading_where (info_of tag) g info items h.said)

pub part_read : {X : Type 0} (parts : List Lent) (tag : ℕ) (g : Grammar X) (items : X) → Says parts tag g items → read_part g tag parts ≡ Ok items
unfolding read_part
part_read parts tag g items h = rw (info-read parts tag g h.0 items h.1) (items_read parts tag g h.0 items h.1)

held_read : {X : Type 0} (parts : List Lent) (tag : ℕ) (g : Grammar X) (items : Option X) → SaysIf parts tag g items
    → read_if_held g tag parts ≡ Ok items
unfolding read_if_held
held_read parts tag g None h = rw h refl
held_read parts tag g (Some items) h = rw (h.1.there, part_read parts tag g items h) refl

methods_read : (parts : List Lent) (m : Methods) → HoldsComponent parts 7 methods_info m.info m.handlers → read_methods parts ≡ Ok m
unfolding read_methods
methods_read parts m h =
    rw (info-read parts 7 methods_info m.info m.handlers h)
    (ap (λ (r : Result (List _) PackFault). r >>= λ handlers. Ok (record { info = m.info; handlers = handlers }))
    (items_read parts 7 methods_info m.info m.handlers h))

description_read : (parts : List Lent) (d : Description) → HoldsComponent parts 11 descriptor_info d.info d.items → read_description parts ≡ Ok d
unfolding read_description
description_read parts d h =
    rw (info-read parts 11 descriptor_info d.info d.items h)
    (ap (λ (r : Result _ PackFault). r >>= λ items. Ok (record { info = d.info; items = items })) (items_read parts 11 descriptor_info d.info d.items h))

pub said-read : (parts : List Lent) (p : PackageRecord) → AreSaid parts p → read_package parts ≡ Ok p
unfolding read_package read_after
said-read parts p s =
    rw (
      part_read parts 1 header_info p.header s.header,
      part_read parts 2 (directory_info p.header.format) p.directory s.directory,
      held_read parts 3 applets_info p.applets s.applets,
      part_read parts 4 imports_info p.imports s.imports,
      part_read parts 5 pool_info p.pool s.pool,
      part_read parts 6 (classes_info p.header.format) p.classes s.classes,
      methods_read parts p.methods s.methods,
      part_read parts 8 statics_info p.statics s.statics,
      part_read parts 9 locations_info p.locations s.locations,
      held_read parts 10 export_info p.export s.export,
      description_read parts p.description s.description,
    )
    (ap (λ (ps : List Lent). with_parts p ps) (sym s.same))
  where
    with_parts : PackageRecord → List Lent → Result PackageRecord PackFault
    with_parts p ps = Ok (record p { parts = ps })

-- ---- what is read is said

then_ok : {A B : Type 0} (r : Result A PackFault) (next : A → Result B PackFault) (y : B) → (r >>= next) ≡ Ok y → (x : A) × (r ≡ Ok x)
    × (next x ≡ Ok y)
then_ok x next y h = grind (arith)

pub formed_ok : {X : Type 0} (r : Result X FormFault) (x : X) → formed r ≡ Ok x → r ≡ Ok x
formed_ok x x2 h = grind (arith)

pub record HasInfo (parts : List Lent) (tag : ℕ) (info : List ℕ) : Type 0 where
  pub file : List ℕ
  pub there : held parts tag ≡ Some file
  pub framed : Stands (component tag) file info

has_info : (parts : List Lent) (tag : ℕ) (info : List ℕ) → info_in parts tag ≡ Ok info → HasInfo parts tag info
unfolding info_in
has_info parts tag info h = grind (arith, stands, formed_ok)

holds : {X : Type 0} (parts : List Lent) (tag : ℕ) (g : Grammar X) (info : List ℕ) (items : X) → info_in parts tag ≡ Ok info
    → formed (reading (info_of tag) g info) ≡ Ok items → HoldsComponent parts tag g info items
holds parts tag g info items e h =
    let i = has_info parts tag info e in
    record { file = i.file; there = i.there; framed = i.framed; said = stands (info_of tag) g info items (formed_ok (reading (info_of tag) g info) items h) }

part_says : {X : Type 0} (parts : List Lent) (tag : ℕ) (g : Grammar X) (items : X) → read_part g tag parts ≡ Ok items → Says parts tag g items
unfolding read_part
part_says parts tag g items h = grind (arith, then_ok, holds)

pub record IsThere {X : Type 0} (parts : List Lent) (tag : ℕ) (g : Grammar X) (items : Option X) : Type 0 where
  pub said : SaysIf parts tag g items

said_if : {X : Type 0} (parts : List Lent) (tag : ℕ) (g : Grammar X) (items : Option X) (o : Option (List ℕ)) → held parts tag ≡ o
    → read_if_held g tag parts ≡ Ok items → IsThere parts tag g items
unfolding read_if_held
said_if parts tag g items x e h = grind (arith, part_says)

methods_say : (parts : List Lent) (m : Methods) → read_methods parts ≡ Ok m → HoldsComponent parts 7 methods_info m.info m.handlers
unfolding read_methods
methods_say parts m h = grind (arith, then_ok, holds)

description_says : (parts : List Lent) (d : Description) → read_description parts ≡ Ok d → HoldsComponent parts 11 descriptor_info d.info d.items
unfolding read_description
description_says parts d h = grind (arith, then_ok, holds)

abbrev answer : {A : Type 0} → A → Result A PackFault
answer x = Ok x

-- what the components say, once they are read
pub record AreRead (parts : List Lent) (p : PackageRecord) : Type 0 where
  pub same : p.parts ≡ parts
  pub header : read_part header_info 1 parts ≡ Ok p.header
  pub directory : read_part (directory_info p.header.format) 2 parts ≡ Ok p.directory
  pub applets : read_if_held applets_info 3 parts ≡ Ok p.applets
  pub imports : read_part imports_info 4 parts ≡ Ok p.imports
  pub pool : read_part pool_info 5 parts ≡ Ok p.pool
  pub classes : read_part (classes_info p.header.format) 6 parts ≡ Ok p.classes
  pub methods : read_methods parts ≡ Ok p.methods
  pub statics : read_part statics_info 8 parts ≡ Ok p.statics
  pub locations : read_part locations_info 9 parts ≡ Ok p.locations
  pub export : read_if_held export_info 10 parts ≡ Ok p.export
  pub description : read_description parts ≡ Ok p.description

read_beyond : (parts : List Lent) (header : HeaderItems) (p : PackageRecord) → read_part header_info 1 parts ≡ Ok header
    → read_after parts header ≡ Ok p → AreRead parts p
unfolding read_after
read_beyond parts header p there h = grind (arith, then_ok)

are_read : (parts : List Lent) (p : PackageRecord) → read_package parts ≡ Ok p → AreRead parts p
unfolding read_package
are_read parts p h =
    let a = then_ok (read_part header_info 1 parts) (read_after parts) p h in
    read_beyond parts a.0 p a.1 a.2

-- what the components of parts that are read say
pub read-said : (parts : List Lent) (p : PackageRecord) → read_package parts ≡ Ok p → AreSaid parts p
read-said parts p h = grind (arith, are_read parts p h, part_says, said_if, methods_say, description_says)

-- ---- what is refused fails

-- one answer after the other is refused: the first, or the second after it
pub data IsRefused {A B : Type 0} (r : Result A PackFault) (next : A → Result B PackFault) (fault : PackFault) : Type 0 where
  by_first : r ≡ Err fault → IsRefused r next fault
  by_next : (x : A) → r ≡ Ok x → next x ≡ Err fault → IsRefused r next fault

then_err : {A B : Type 0} (r : Result A PackFault) (next : A → Result B PackFault) (fault : PackFault) → (r >>= next) ≡ Err fault
    → IsRefused r next fault
then_err (Ok x) next fault h = by_next x refl h
then_err (Err e) next fault h = by_first (let same : e ≡ fault = cc in ap Err same)

no_answer : {A B : Type 0} (x : A) (fault : PackFault) → answer x ≡ Err fault → B
no_answer x fault h = absurd cc

formed_err : {X : Type 0} (r : Result X FormFault) (fault : PackFault) → formed r ≡ Err fault → (form : FormFault) × (r ≡ Err form)
    × (fault ≡ Form form)
formed_err x fault h = grind (arith)

framed_fails : {X : Type 0} (parts : List Lent) (tag : ℕ) (g : Grammar X) (fault : PackFault) (o : Option (List ℕ)) → held parts tag ≡ o
    → framed tag o ≡ Err fault → PartFails parts tag g fault
framed_fails parts tag g fault None e h = grind (arith)
framed_fails parts tag g fault (Some file) e h =
    let f = formed_err (reading (file_of tag) (component tag) file) fault h in
    broken f.0 f.2 (in_file file e (breaks (file_of tag) (component tag) file f.0 f.1))

info_fails : {X : Type 0} (parts : List Lent) (tag : ℕ) (g : Grammar X) (fault : PackFault) → info_in parts tag ≡ Err fault
    → PartFails parts tag g fault
unfolding info_in
info_fails parts tag g fault h = framed_fails parts tag g fault (held parts tag) refl h

items_fail : {X : Type 0} (parts : List Lent) (tag : ℕ) (g : Grammar X) (fault : PackFault) (info : List ℕ) → info_in parts tag ≡ Ok info
    → formed (reading (info_of tag) g info) ≡ Err fault → PartFails parts tag g fault
items_fail parts tag g fault info e h =
    let i = has_info parts tag info e in
    let f = formed_err (reading (info_of tag) g info) fault h in
    broken f.0 f.2 (in_info i.file info i.there i.framed (breaks (info_of tag) g info f.0 f.1))

part_by : {X : Type 0} (parts : List Lent) (tag : ℕ) (g : Grammar X) (fault : PackFault)
    → IsRefused (info_in parts tag) (λ info. formed (reading (info_of tag) g info)) fault → PartFails parts tag g fault
part_by parts tag g fault (by_first e) = info_fails parts tag g fault e
part_by parts tag g fault (by_next info e h) = items_fail parts tag g fault info e h

part_fails : {X : Type 0} (parts : List Lent) (tag : ℕ) (g : Grammar X) (fault : PackFault) → read_part g tag parts ≡ Err fault
    → PartFails parts tag g fault
unfolding read_part
part_fails parts tag g fault h = part_by parts tag g fault (then_err (info_in parts tag) (λ info. formed (reading (info_of tag) g info)) fault h)

methods_by : (parts : List Lent) (fault : PackFault)
    → IsRefused (info_in parts 7)
    (λ info. formed (reading (info_of 7) methods_info info) >>= λ handlers. answer {A = Methods} (record { info = info; handlers = handlers })) fault
    → PartFails parts 7 methods_info fault
methods_by parts fault (by_first e) = info_fails parts 7 methods_info fault e
methods_by parts fault (by_next info e h) =
    items_by (then_err (formed (reading (info_of 7) methods_info info)) (λ handlers. answer {A = Methods} (record { info = info; handlers = handlers }))
    fault h)
  where
    items_by : IsRefused (formed (reading (info_of 7) methods_info info)) (λ handlers. answer {A = Methods} (record { info = info; handlers = handlers }))
        fault → PartFails parts 7 methods_info fault
    items_by (by_first k) = items_fail parts 7 methods_info fault info e k
    items_by (by_next handlers k l) = no_answer {A = Methods} (record { info = info; handlers = handlers }) fault l

methods_fail : (parts : List Lent) (fault : PackFault) → read_methods parts ≡ Err fault → PartFails parts 7 methods_info fault
unfolding read_methods
methods_fail parts fault h = methods_by parts fault (then_err (info_in parts 7) _ fault h)

description_by : (parts : List Lent) (fault : PackFault)
    → IsRefused (info_in parts 11)
    (λ info. formed (reading (info_of 11) descriptor_info info) >>= λ items. answer {A = Description} (record { info = info; items = items })) fault
    → PartFails parts 11 descriptor_info fault
description_by parts fault (by_first e) = info_fails parts 11 descriptor_info fault e
description_by parts fault (by_next info e h) =
    items_by (then_err (formed (reading (info_of 11) descriptor_info info)) (λ items. answer {A = Description} (record { info = info; items = items }))
    fault h)
  where
    items_by : IsRefused (formed (reading (info_of 11) descriptor_info info)) (λ items. answer {A = Description} (record { info = info; items = items }))
        fault → PartFails parts 11 descriptor_info fault
    items_by (by_first k) = items_fail parts 11 descriptor_info fault info e k
    items_by (by_next items k l) = no_answer {A = Description} (record { info = info; items = items }) fault l

description_fails : (parts : List Lent) (fault : PackFault) → read_description parts ≡ Err fault → PartFails parts 11 descriptor_info fault
unfolding read_description
description_fails parts fault h = description_by parts fault (then_err (info_in parts 11) _ fault h)

-- a part that may be absent is refused only where it is there and breaks its format
some_fails : {X : Type 0} (parts : List Lent) (tag : ℕ) (g : Grammar X) (fault : PackFault) (file : List ℕ) → held parts tag ≡ Some file
    → PartFails parts tag g fault → (form : FormFault) × (fault ≡ Form form) × IsBroken parts tag g form
some_fails parts tag g fault file e (absent none same) = absurd (let both : None ≡ Some file = sym none ∙ e in cc)
some_fails parts tag g fault file e (broken form same b) = (form, same, b)

held_breaks : {X : Type 0} (parts : List Lent) (tag : ℕ) (g : Grammar X) (fault : PackFault) (o : Option (List ℕ)) → held parts tag ≡ o
    → read_if_held g tag parts ≡ Err fault → (form : FormFault) × (fault ≡ Form form) × IsBroken parts tag g form
unfolding read_if_held
held_breaks parts tag g fault None e h = no_answer None fault (rw e at h)
held_breaks parts tag g fault (Some file) e h =
    some_fails parts tag g fault file e (part_fails parts tag g fault (grind (arith)))

-- ---- component by component

part_step : {X B : Type 0} (parts : List Lent) (tag : ℕ) (g : Grammar X) (fault : PackFault) (next : X → Result B PackFault) (others : Type 0)
    → IsRefused (read_part g tag parts) next fault → ((x : X) → next x ≡ Err fault → others) → FailsOr parts tag g fault others
part_step parts tag g fault next others (by_first e) known = inl (part_fails parts tag g fault e)
part_step parts tag g fault next others (by_next x e h) known = inr ((x, part_says parts tag g x e), known x h)

header_step : {B : Type 0} (parts : List Lent) (fault : PackFault) (next : HeaderItems → Result B PackFault)
    → IsRefused (read_part header_info 1 parts) next fault → ((x : HeaderItems) → next x ≡ Err fault → IsFirstAfter x.format parts fault)
    → IsFirstFailingPart parts fault
header_step parts fault next (by_first e) known = inl (part_fails parts 1 header_info fault e)
header_step parts fault next (by_next x e h) known = inr (x, part_says parts 1 header_info x e, known x h)

held_step : {X B : Type 0} (parts : List Lent) (tag : ℕ) (g : Grammar X) (fault : PackFault) (next : Option X → Result B PackFault) (others : Type 0)
    → IsRefused (read_if_held g tag parts) next fault → ((x : Option X) → next x ≡ Err fault → others) → BreaksOr parts tag g fault others
held_step parts tag g fault next others (by_first e) known = inl (held_breaks parts tag g fault (held parts tag) refl e)
held_step parts tag g fault next others (by_next x e h) known = inr ((x, (said_if parts tag g x (held parts tag) refl e).said), known x h)

methods_step : {B : Type 0} (parts : List Lent) (fault : PackFault) (next : Methods → Result B PackFault) (others : Type 0)
    → IsRefused (read_methods parts) next fault → ((m : Methods) → next m ≡ Err fault → others) → FailsOr parts 7 methods_info fault others
methods_step parts fault next others (by_first e) known = inl (methods_fail parts fault e)
methods_step parts fault next others (by_next m e h) known = inr ((m.handlers, (m.info, methods_say parts m e)), known m h)

last_step : {B : Type 0} (parts : List Lent) (fault : PackFault) (next : Description → B) → IsRefused (read_description parts) (λ d. answer (next d))
    fault → PartFails parts 11 descriptor_info fault
last_step parts fault next (by_first e) = description_fails parts fault e
last_step parts fault next (by_next d e h) = no_answer (next d) fault h

after_fails : (parts : List Lent) (header : HeaderItems) (fault : PackFault) → read_after parts header ≡ Err fault
    → IsFirstAfter header.format parts fault
unfolding read_after
after_fails parts header fault h1 =
    part_step parts 2 (directory_info header.format) fault _ _ (then_err _ _ fault h1) (λ b h2.
    held_step parts 3 applets_info fault _ _ (then_err _ _ fault h2) (λ c h3.
    part_step parts 4 imports_info fault _ _ (then_err _ _ fault h3) (λ d h4.
    part_step parts 5 pool_info fault _ _ (then_err _ _ fault h4) (λ e h5.
    part_step parts 6 (classes_info header.format) fault _ _ (then_err _ _ fault h5) (λ f h6.
    methods_step parts fault _ _ (then_err _ _ fault h6) (λ g h7.
    part_step parts 8 statics_info fault _ _ (then_err _ _ fault h7) (λ i h8.
    part_step parts 9 locations_info fault _ _ (then_err _ _ fault h8) (λ j h9.
    held_step parts 10 export_info fault _ _ (then_err _ _ fault h9) (λ k h10.
    last_step parts fault _ (then_err _ _ fault h10))))))))))

-- of parts that are refused the first component by tag fails so
pub read-fails : (parts : List Lent) (fault : PackFault) → read_package parts ≡ Err fault → IsFirstFailingPart parts fault
unfolding read_package
read-fails parts fault h = header_step parts fault (read_after parts) (then_err _ _ fault h) (λ header k. after_fails parts header fault k)

-- ---- what fails is refused

part_refused : {X : Type 0} (parts : List Lent) (tag : ℕ) (g : Grammar X) (fault : PackFault) → PartFails parts tag g fault
    → read_part g tag parts ≡ Err fault
unfolding read_part info_in
part_refused parts tag g fault x = grind (arith, refused_where, reading_where)

broken_there : {X : Type 0} (parts : List Lent) (tag : ℕ) (g : Grammar X) (form : FormFault) → IsBroken parts tag g form → (file : List ℕ)
    × (held parts tag ≡ Some file)
broken_there parts tag g form x = grind (arith)

held_refused : {X : Type 0} (parts : List Lent) (tag : ℕ) (g : Grammar X) (fault : PackFault) (form : FormFault) → fault ≡ Form form
    → IsBroken parts tag g form → read_if_held g tag parts ≡ Err fault
unfolding read_if_held
held_refused parts tag g fault form same b =
    let file = broken_there parts tag g form b in
    rw (file.1, part_refused parts tag g fault (broken form same b)) refl

methods_refused : (parts : List Lent) (fault : PackFault) → PartFails parts 7 methods_info fault → read_methods parts ≡ Err fault
unfolding read_methods info_in
methods_refused parts fault x = grind (arith, refused_where, reading_where)

description_refused : (parts : List Lent) (fault : PackFault) → PartFails parts 11 descriptor_info fault → read_description parts ≡ Err fault
unfolding read_description info_in
description_refused parts fault x = grind (arith, refused_where, reading_where)

part_back : {X B : Type 0} (parts : List Lent) (tag : ℕ) (g : Grammar X) (fault : PackFault) (next : X → Result B PackFault) (others : Type 0)
    → FailsOr parts tag g fault others → ((x : X) → others → next x ≡ Err fault) → (read_part g tag parts >>= next) ≡ Err fault
part_back parts tag g fault next others (inl f) known = rw (part_refused parts tag g fault f) refl
part_back parts tag g fault next others (inr h) known = rw (part_read parts tag g h.0.0 h.0.1) (known h.0.0 h.1)

header_back : {B : Type 0} (parts : List Lent) (fault : PackFault) (next : HeaderItems → Result B PackFault) → IsFirstFailingPart parts fault
    → ((x : HeaderItems) → IsFirstAfter x.format parts fault → next x ≡ Err fault) → (read_part header_info 1 parts >>= next) ≡ Err fault
header_back parts fault next (inl f) known = rw (part_refused parts 1 header_info fault f) refl
header_back parts fault next (inr h) known = rw (part_read parts 1 header_info h.0 h.1) (known h.0 h.2)

held_back : {X B : Type 0} (parts : List Lent) (tag : ℕ) (g : Grammar X) (fault : PackFault) (next : Option X → Result B PackFault) (others : Type 0)
    → BreaksOr parts tag g fault others → ((x : Option X) → others → next x ≡ Err fault) → (read_if_held g tag parts >>= next) ≡ Err fault
held_back parts tag g fault next others (inl f) known = rw (held_refused parts tag g fault f.0 f.1 f.2) refl
held_back parts tag g fault next others (inr h) known = rw (held_read parts tag g h.0.0 h.0.1) (known h.0.0 h.1)

methods_back : {B : Type 0} (parts : List Lent) (fault : PackFault) (next : Methods → Result B PackFault) (others : Type 0)
    → FailsOr parts 7 methods_info fault others → ((m : Methods) → others → next m ≡ Err fault) → (read_methods parts >>= next) ≡ Err fault
methods_back parts fault next others (inl f) known = rw (methods_refused parts fault f) refl
methods_back parts fault next others (inr h) known =
    let m : Methods = record { info = h.0.1.0; handlers = h.0.0 } in
    rw (methods_read parts m h.0.1.1) (known m h.1)

last_back : {B : Type 0} (parts : List Lent) (fault : PackFault) (next : Description → Result B PackFault) → PartFails parts 11 descriptor_info fault
    → (read_description parts >>= next) ≡ Err fault
last_back parts fault next f = rw (description_refused parts fault f) refl

after_refused : (parts : List Lent) (header : HeaderItems) (fault : PackFault) → IsFirstAfter header.format parts fault
    → read_after parts header ≡ Err fault
unfolding read_after
after_refused parts header fault h1 =
    part_back parts 2 (directory_info header.format) fault _ _ h1 (λ b h2.
    held_back parts 3 applets_info fault _ _ h2 (λ c h3.
    part_back parts 4 imports_info fault _ _ h3 (λ d h4.
    part_back parts 5 pool_info fault _ _ h4 (λ e h5.
    part_back parts 6 (classes_info header.format) fault _ _ h5 (λ f h6.
    methods_back parts fault _ _ h6 (λ g h7.
    part_back parts 8 statics_info fault _ _ h7 (λ i h8.
    part_back parts 9 locations_info fault _ _ h8 (λ j h9.
    held_back parts 10 export_info fault _ _ h9 (λ k h10.
    last_back parts fault _ h10)))))))))

-- parts of which a component fails are refused so
pub fails-read : (parts : List Lent) (fault : PackFault) → IsFirstFailingPart parts fault → read_package parts ≡ Err fault
unfolding read_package
fails-read parts fault h = header_back parts fault (read_after parts) h (λ header k. after_refused parts header fault k)

-- ---- where the Header or the Directory is refused, so is the package

opening_refused : (parts : List Lent) (fault : PackFault)
    → IsRefused (read_part header_info 1 parts) (λ (header : HeaderItems). read_part (directory_info header.format) 2 parts) fault
    → read_package parts ≡ Err fault
unfolding read_package read_after
opening_refused parts fault x = grind (arith)

pub unopened : (parts : List Lent) (fault : PackFault) → read_directory parts ≡ Err fault → read_package parts ≡ Err fault
unfolding read_directory
unopened parts fault h =
    opening_refused parts fault (then_err (read_part header_info 1 parts) (λ (header : HeaderItems). read_part (directory_info header.format) 2 parts)
    fault h)
