-- The parts of a folder's package are framed, so that they can be packed, and how many blocks that makes.
use Rattle.std.proofs.Common.{◌≡◌, ◌<◌, ◌≤◌, ◌+◌, ◌*◌, ◌/◌, ℕ, zero, suc, List, [], ◌∷◌, Option, Some, None, IsNone, Bool, true}
use Rattle.std.proofs.Common.{length, length-append, map, refl, sym, ap, subst, ◌∙◌, arith, eqb, leb, find, option_map, cond}
use Rattle.std.specs.Prelude.{Result, Ok, ◌&&◌, ◌||◌}
use Rattle.std.specs.List.{AllByRecursion, cons_option}
use Rattle.std.proofs.lemmas.Bool.{ne_eqb, eq-eqb, eqb-true, lt-leb, false≢true}
use Rattle.std.proofs.Math.Bool.{and-false}
use Rattle.cap_bytes.specs.Grammar.{Grammar}
use Rattle.cap_bytes.specs.Spelling.{Stands, file_of}
use Rattle.cap_bytes.specs.Reading.{reading}
use Rattle.cap_bytes.proofs.Laws as laws
use Rattle.cap_files.specs.Folder.{Folders}
use Rattle.cap_frame.specs.Frame.{component}
use Rattle.cap_frame.specs.DirectoryFormat.{Custom, directory_info}
use Rattle.cap_frame.specs.Directory.{size_in, custom_size_in}
use Rattle.cap_components.specs.declared.fault.PackFault.{PackFault}
use Rattle.cap_components.specs.Components.{framed, info_in, read_part, read_directory, ◌>>=◌}
use Rattle.cap_components.specs.Parts.{Lent, held}
use Rattle.cap_components.specs.PartChecks.{form_by, form_fault}
use Rattle.cap_components.specs.Saying.{HoldsComponent, Says, SaysIf}
use Rattle.cap_components.proofs.PartsLemmas.{held-other, held-same}
use Rattle.cap_components.proofs.Saying.{part_read, formed_ok}
use Rattle.cap_load.specs.LoadFile.{stream_of}
use Rattle.cap_load.specs.Packing.{AreFull, IsFramed}
use Rattle.cap_package.specs.PackageRecord.{PackageRecord}
use Rattle.cap_package.specs.StandsFor.{StandsFor}
use Rattle.first_fault.specs.First.{at_fault}
use Rattle.capcheck_core.specs.Loads.{is_optional, is_some_size, is_sized, is_asked, AreParts, Rise}
use Rattle.capcheck_core.specs.Pack.{IsOfFolder}
use Rattle.capcheck_core.proofs.Loads.{unrequired}

-- ---- each part is held

-- a part with its bytes among all parts
abbrev IsHeld : List Lent → Lent → Type 0
IsHeld parts l = (l.part < 256) × (held parts l.part ≡ Some l.bytes)

each_held : (all xs : List Lent) (low : ℕ) → Rise low 256 xs → ((tag : ℕ) → low ≤ tag → held xs tag ≡ held all tag)
    → AllByRecursion (IsHeld all) xs
each_held all [] low rise same = tt {0}
each_held all (x ∷ xs) low rise same =
    let least = rise.0 in (
      (rise.1, sym (same x.part least) ∙ held-same x.part x xs (eq-eqb x.part x.part refl)),
      each_held all xs (suc x.part) rise.2
          (λ tag le. sym (held-other tag x xs (ne_eqb x.part tag (λ e. absurd (omega (arith, le, e))))) ∙ same tag (omega (arith, le, least))),
    )

all_by : (P Q : Lent → Type 0) (xs : List Lent) → ((l : Lent) → P l → Q l) → AllByRecursion P xs → AllByRecursion Q xs
all_by P Q [] to all = tt {0}
all_by P Q (x ∷ xs) to all = (to x all.0, all_by P Q xs to all.1)

-- ---- each part has a component's file

-- the bytes are the file of a component with this tag
abbrev IsComponent : ℕ → List ℕ → Type 0
IsComponent tag bytes = (info : List ℕ) × Stands (component tag) bytes info

none_some : (o : Option (List ℕ)) (bytes : List ℕ) → o ≡ None → o ≡ Some bytes → ⊥
none_some o bytes none some = absurd cc

same_bytes : (o : Option (List ℕ)) (xs ys : List ℕ) → o ≡ Some xs → o ≡ Some ys → xs ≡ ys
same_bytes o xs ys a b = cc

module _ (parts : List Lent) (p : PackageRecord) (stands : StandsFor parts p) where
  of_component : {X : Type 0} (tag : ℕ) (g : Grammar X) (info : List ℕ) (items : X) (bytes : List ℕ) → HoldsComponent parts tag g info items
      → held parts tag ≡ Some bytes → IsComponent tag bytes
  of_component tag g info items bytes h is = grind (arith, same_bytes)

  of_said : {X : Type 0} (tag : ℕ) (g : Grammar X) (items : X) (bytes : List ℕ) → Says parts tag g items → held parts tag ≡ Some bytes
      → IsComponent tag bytes
  of_said tag g items bytes says is = of_component tag g says.0 items bytes says.1 is

  of_said_if : {X : Type 0} (tag : ℕ) (g : Grammar X) (items : Option X) (bytes : List ℕ) → SaysIf parts tag g items
      → held parts tag ≡ Some bytes → IsComponent tag bytes
  of_said_if tag g x bytes none is = grind (arith, none_some, of_said)

  -- ---- custom components

  directory_is : read_directory parts ≡ Ok p.directory
  unfolding read_directory
  directory_is =
      ap (λ h. h >>= λ items. read_part (directory_info items.format) 2 parts) (part_read parts 1 _ p.header stands.said.header)
      ∙ part_read parts 2 (directory_info p.header.format) p.directory stands.said.directory

  -- a custom component that the Directory names has its format
  of_named : (customs : List Custom) (tag : ℕ) → is_some_size (custom_size_in customs tag) ≡ true
      → at_fault (form_fault parts) (map (λ (c : Custom). c.tag) customs) ≡ [] → form_fault parts tag ≡ None
  of_named [] tag sized none = absurd (false≢true sized)
  of_named (c ∷ customs) tag sized none = by (eqb c.tag tag) refl (form_fault parts c.tag) none refl (of_named customs tag)
    where
      others : List PackFault
      others = at_fault (form_fault parts) (map (λ (d : Custom). d.tag) customs)

      size_by : Bool → Bool
      size_by b = is_some_size (option_map (λ (d : Custom). d.size) (cond b (Some c) (find (λ (d : Custom). eqb d.tag tag) customs)))

      by : (b : Bool) → eqb c.tag tag ≡ b → (o : Option PackFault) → cons_option o others ≡ [] → form_fault parts c.tag ≡ o
          → (is_some_size (custom_size_in customs tag) ≡ true → others ≡ [] → form_fault parts tag ≡ None) → form_fault parts tag ≡ None
      by b e x empty f rest = grind (arith, eqb-true, size_by, sized)

  formed_by : (tag : ℕ) (bytes : List ℕ) (r : Result (List ℕ) PackFault) → form_by (Some bytes) r ≡ None → (info : List ℕ) × (r ≡ Ok info)
  formed_by tag bytes x none = grind (arith)

  of_formed : (tag : ℕ) (bytes : List ℕ) → held parts tag ≡ Some bytes → form_fault parts tag ≡ None → IsComponent tag bytes
  unfolding form_fault info_in
  of_formed tag bytes is none =
      let here : form_by (Some bytes) (framed tag (Some bytes)) ≡ None = subst (λ o. form_by o (framed tag o) ≡ None) is none in
      let read = formed_by tag bytes (framed tag (Some bytes)) here in
      (read.0, laws.stands (file_of tag) (component tag) bytes read.0 (formed_ok (reading (file_of tag) (component tag) bytes) read.0 read.1))

  -- from the first tag after Debug's on only custom components are asked for
  of_custom : (tag : ℕ) (bytes : List ℕ) → 13 ≤ tag → is_asked parts tag ≡ true → held parts tag ≡ Some bytes → IsComponent tag bytes
  of_custom tag bytes from asked is = of_formed tag bytes is (of_named p.directory.customs tag (sized (is_optional tag) asked_optional) stands.agree.0)
    where
      asked_optional : (is_optional tag && is_some_size (size_in p.directory tag)) ≡ true
      asked_optional = subst (λ d. (is_optional tag && is_sized d tag) ≡ true) directory_is
          (subst (λ b. (b || (is_optional tag && is_sized (read_directory parts) tag)) ≡ true) (unrequired tag from) asked)

      sized : (b : Bool) → (b && is_some_size (size_in p.directory tag)) ≡ true → is_some_size (custom_size_in p.directory.customs tag) ≡ true
      sized x e = grind (arith, leb, lt-leb, and-false, false≢true)

  -- ---- by the tag

  of_asked : (tag : ℕ) (bytes : List ℕ) → is_asked parts tag ≡ true → held parts tag ≡ Some bytes → IsComponent tag bytes
  of_asked zero bytes asked is = absurd (false≢true asked)
  of_asked (suc zero) bytes asked is = of_said 1 _ p.header bytes stands.said.header is
  of_asked (suc (suc zero)) bytes asked is = of_said 2 _ p.directory bytes stands.said.directory is
  of_asked (suc (suc (suc zero))) bytes asked is = of_said_if 3 _ p.applets bytes stands.said.applets is
  of_asked (suc (suc (suc (suc zero)))) bytes asked is = of_said 4 _ p.imports bytes stands.said.imports is
  of_asked (suc (suc (suc (suc (suc zero))))) bytes asked is = of_said 5 _ p.pool bytes stands.said.pool is
  of_asked (suc (suc (suc (suc (suc (suc zero)))))) bytes asked is = of_said 6 _ p.classes bytes stands.said.classes is
  of_asked (suc (suc (suc (suc (suc (suc (suc zero))))))) bytes asked is = of_component 7 _ p.methods.info p.methods.handlers bytes stands.said.methods is
  of_asked (suc (suc (suc (suc (suc (suc (suc (suc zero)))))))) bytes asked is = of_said 8 _ p.statics bytes stands.said.statics is
  of_asked (suc (suc (suc (suc (suc (suc (suc (suc (suc zero))))))))) bytes asked is = of_said 9 _ p.locations bytes stands.said.locations is
  of_asked (suc (suc (suc (suc (suc (suc (suc (suc (suc (suc zero)))))))))) bytes asked is = of_said_if 10 _ p.export bytes stands.said.export is
  of_asked (suc (suc (suc (suc (suc (suc (suc (suc (suc (suc (suc zero))))))))))) bytes asked is = grind (arith, of_component)
  of_asked (suc (suc (suc (suc (suc (suc (suc (suc (suc (suc (suc (suc zero)))))))))))) bytes asked is = absurd (false≢true asked)
  of_asked (suc (suc (suc (suc (suc (suc (suc (suc (suc (suc (suc (suc (suc n))))))))))))) bytes asked is = grind (arith, of_custom, suc)

  -- each part of a folder is one
  of_held : (before : Folders) (dir : List ℕ) → AreParts before dir parts → (l : Lent) → IsHeld parts l → IsFramed l
  of_held before dir loaded l is = λ placed. by (is_asked parts l.part) refl
    where
      some_none : (o : Option (List ℕ)) (bytes : List ℕ) → o ≡ Some bytes → IsNone o → ⊥
      some_none None bytes e none = absurd cc
      some_none (Some x) bytes e none = absurd cc

      by : (b : Bool) → is_asked parts l.part ≡ b → IsComponent l.part l.bytes
      by x asked = grind (arith, of_asked)

pub all_framed : (parts : List Lent) (p : PackageRecord) → StandsFor parts p → IsOfFolder parts → AllByRecursion IsFramed parts
all_framed parts p stands of =
    all_by (IsHeld parts) IsFramed parts (of_held parts p stands of.before of.dir of.loaded)
    (each_held parts parts 0 of.loaded.rising (λ tag le. refl))

-- ---- blocks

record FitsBlocks (count length : ℕ) : Type 0 where
  low : 256 * count ≤ length + 254
  high : length + 254 < 256 * count + 256

stream_more : (content : List ℕ) (blocks : List (List ℕ)) → length (stream_of (content ∷ blocks)) ≡ suc (length content) + length (stream_of blocks)
stream_more content blocks = grind (arith, length-append)

fits_blocks : (blocks : List (List ℕ)) → AreFull blocks → FitsBlocks (length blocks) (length (stream_of blocks))
fits_blocks [] full = record { low = omega arith; high = omega arith }
fits_blocks (content ∷ []) full = grind (arith, stream_more content [])
fits_blocks (content ∷ next ∷ blocks) full = grind (arith, fits_blocks (next ∷ blocks) full.1, stream_more content (next ∷ blocks))

pub counts_blocks : (stream : List ℕ) (blocks : List (List ℕ)) → AreFull blocks → stream ≡ stream_of blocks
    → (length stream + 254) / 256 ≡ length blocks
counts_blocks stream blocks full is = grind (arith, fits_blocks, length)
