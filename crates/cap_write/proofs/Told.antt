-- The sizes that the Directory of a package tells are those of its parts.
use Rattle.std.proofs.Common.{◌≡◌, ◌≤◌, ◌<◌, ◌+◌, ◌-◌, ℕ, zero, suc, Bool, true, false, cond, List, [], ◌∷◌, length}
use Rattle.std.proofs.Common.{map, find, Option, Some, None, Result, Ok, Err, ◌⊎◌, inl, inr, refl, sym, ap, subst, ◌∙◌, arith}
use Rattle.std.specs.Prelude.{◌==◌, ◌&&◌, nat_le, slice_index}
use Rattle.std.proofs.lemmas.Bool.{cases_eq, eqb-true}
use Rattle.std.proofs.lemmas.Bool.Decides.{nat_tests}
use Rattle.std.proofs.lemmas.List.{get_or_past}
use Rattle.cap_bytes.specs.declared.fault.Format.{Format}
use Rattle.cap_bytes.specs.declared.fault.Format.TheVariants.{V21, V22}
use Rattle.cap_bytes.specs.Grammar.{Grammar}
use Rattle.cap_bytes.specs.Spelling.{Stands}
use Rattle.cap_bytes.proofs.Laws.{stands}
use Rattle.cap_frame.specs.Frame.{component}
use Rattle.cap_frame.specs.HeaderFormat.{header_info}
use Rattle.cap_frame.specs.DirectoryFormat.{Custom, DirectoryItems, size_count}
use Rattle.cap_frame.specs.Directory.{size_in}
use Rattle.cap_components.specs.declared.fault.PackFault.{PackFault}
use Rattle.cap_components.specs.Parts.{Lent, held}
use Rattle.cap_components.specs.Components.{info_in}
use Rattle.cap_components.specs.PackageRecord.{PackageRecord}
use Rattle.cap_components.specs.PartChecks.{optional, components, custom_tags, absent_fault, sized_fault, form_fault, form_by, size_fault}
use Rattle.cap_components.specs.Saying.{HoldsComponent, SaysIf}
use Rattle.cap_components.proofs.Saying.{info-read, formed_ok}
use Rattle.cap_package.specs.FirstFault.{missing_parts}
use Rattle.cap_package.specs.StandsFor.{StandsFor}
use Rattle.cap_package.proofs.StaticsKnown.{both_empty, three_empty}
use Rattle.law_package.specs.RewrittenPackage.{IsSizeOf}
use Rattle.law_package.proofs.Lists.{Each, Has, each_at, none_each}
use Rattle.cap_package.proofs.Agreed.{agrees}
use Rattle.law_package.proofs.Sized.{directory_read}
use Rattle.cap_laying.specs.NewDirectory.{new_size, sizes_from}
use Rattle.cap_laying.specs.declared.writing.ComponentSizes.{ComponentSizes}
use Rattle.cap_laying.proofs.Kept.{size_known}
use Rattle.cap_laying.proofs.NewStands.{sizes_counted}
use Rattle.cap_write.proofs.Customs.{has_tag}

-- ---- a part and its size

info_framed : (parts : List Lent) (tag : ℕ) (file info : List ℕ) → held parts tag ≡ Some file → info_in parts tag ≡ Ok info
    → Stands (component tag) file info
unfolding info_in
info_framed parts tag file info e h = grind (arith, stands, formed_ok)

told_absent : (parts : List Lent) (d : DirectoryItems) (tag size : ℕ) → held parts tag ≡ None → size_in d tag ≡ Some size
    → sized_fault parts d tag ≡ None → size ≡ 0
unfolding sized_fault absent_fault
told_absent parts d tag size e s h = grind (arith, nat_tests)

told_size : (parts : List Lent) (d : DirectoryItems) (tag size : ℕ) (info : List ℕ) → info_in parts tag ≡ Ok info → size_in d tag ≡ Some size
    → size_fault parts d tag ≡ None → length info ≡ size
unfolding size_fault
told_size parts d tag size info e s h = grind (arith, eqb-true)

told_there : (parts : List Lent) (d : DirectoryItems) (tag size : ℕ) (file : List ℕ) → held parts tag ≡ Some file → size_in d tag ≡ Some size
    → form_fault parts tag ≡ None → size_fault parts d tag ≡ None → IsSizeOf tag size (Some file)
unfolding form_fault
told_there parts d tag size file e s f h = by (info_in parts tag) refl (ap (λ o. form_by o (info_in parts tag)) (sym e) ∙ f)
  where
    by : (r : Result (List ℕ) PackFault) → info_in parts tag ≡ r → form_by (Some file) r ≡ None → IsSizeOf tag size (Some file)
    by (Ok info) k n = (info, info_framed parts tag file info e k, told_size parts d tag size info k s h)
    by (Err fault) k n = absurd (cc)

told : (parts : List Lent) (d : DirectoryItems) (tag size : ℕ) (o : Option (List ℕ)) → held parts tag ≡ o → size_in d tag ≡ Some size
    → sized_fault parts d tag ≡ None → form_fault parts tag ≡ None → size_fault parts d tag ≡ None → IsSizeOf tag size o
told parts d tag size v e s a f h = grind (arith, told_absent, told_there)

told_said : {X : Type 0} (parts : List Lent) (d : DirectoryItems) (tag size : ℕ) (g : Grammar X) (info : List ℕ) (items : X)
    → HoldsComponent parts tag g info items → size_in d tag ≡ Some size → size_fault parts d tag ≡ None → IsSizeOf tag size (held parts tag)
told_said parts d tag size g info items h s f = grind (arith, told_size parts d tag size info (info-read parts tag g info items h) s f)

-- ---- what the Directory of a package tells

-- the faults of no component
record HasTold (parts : List Lent) (p : PackageRecord) : Type 0 where
  optional_sized : Each (λ tag. sized_fault parts p.directory tag ≡ None) optional
  customs_sized : Each (λ tag. sized_fault parts p.directory tag ≡ None) (custom_tags p.directory)
  forms : Each (λ tag. form_fault parts tag ≡ None) (custom_tags p.directory)
  sizes : Each (λ tag. size_fault parts p.directory tag ≡ None) components
  custom_sizes : Each (λ tag. size_fault parts p.directory tag ≡ None) (custom_tags p.directory)

has_told : (p : PackageRecord) → StandsFor p.parts p → HasTold p.parts p
has_told p s =
    let parts = p.parts in
    let d = p.directory in
    let a = agrees parts p s.agree in
    let m : missing_parts parts (Ok d) ≡ [] = ap (missing_parts parts) (sym (directory_read parts p s.said)) ∙ s.missing in
    let (required_there, optional_sized, customs_sized) = three_empty _ _ _ m in
    let (sizes, custom_sizes) = both_empty _ _ a.sizes in
    record {
      optional_sized = none_each (sized_fault parts d) optional optional_sized;
      customs_sized = none_each (sized_fault parts d) (custom_tags d) customs_sized;
      forms = none_each (form_fault parts) (custom_tags d) a.forms;
      sizes = none_each (size_fault parts d) components sizes;
      custom_sizes = none_each (size_fault parts d) (custom_tags d) custom_sizes;
    }

-- of a component, its size is told
abbrev pub Tells : PackageRecord → ℕ → Type 0
Tells p tag = (size : ℕ) → size_in p.directory tag ≡ Some size → IsSizeOf tag size (held p.parts tag)

told_if : {X : Type 0} (p : PackageRecord) (tag : ℕ) (g : Grammar X) (items : Option X) → SaysIf p.parts tag g items
    → sized_fault p.parts p.directory tag ≡ None → size_fault p.parts p.directory tag ≡ None → Tells p tag
told_if p tag g None h a f size s = subst (IsSizeOf tag size) (sym h) (told_absent p.parts p.directory tag size h s a)
told_if p tag g (Some items) h a f size s = told_said p.parts p.directory tag size g h.0 items h.1 s f

-- each component but those that are written anew, and Debug
pub record TellsSizes (p : PackageRecord) : Type 0 where
  pub header : Tells p 1
  pub applets : Tells p 3
  pub imports : Tells p 4
  pub pool : Tells p 5
  pub classes : Tells p 6
  pub statics : Tells p 8
  pub export : Tells p 10
  pub description : Tells p 11

pub tells_sizes : (p : PackageRecord) → StandsFor p.parts p → TellsSizes p
tells_sizes p s = told_each t.sizes
  where
    t : HasTold p.parts p
    t = has_told p s

    d : DirectoryItems
    d = p.directory

    told_each : Each (λ tag. size_fault p.parts p.directory tag ≡ None) components → TellsSizes p
    told_each (header, (directory, (applets, (imports, (pool, (classes, (methods, (statics, (references, (export, (description, done))))))))))) =
        record {
          header = λ size e. told_said p.parts d 1 size header_info s.said.header.0 p.header s.said.header.1 e header;
          applets = told_if p 3 _ p.applets s.said.applets t.optional_sized.0 applets;
          imports = λ size e. told_said p.parts d 4 size _ s.said.imports.0 p.imports s.said.imports.1 e imports;
          pool = λ size e. told_said p.parts d 5 size _ s.said.pool.0 p.pool s.said.pool.1 e pool;
          classes = λ size e. told_said p.parts d 6 size _ s.said.classes.0 p.classes s.said.classes.1 e classes;
          statics = λ size e. told_said p.parts d 8 size _ s.said.statics.0 p.statics s.said.statics.1 e statics;
          export = told_if p 10 _ p.export s.said.export t.optional_sized.1.0 export;
          description = λ size e. told_said p.parts d 11 size _ p.description.info p.description.items s.said.description e description;
        }

found_has : (cs : List Custom) (tag : ℕ) (c : Custom) → find (has_tag tag) cs ≡ Some c → Has (map (λ (x : Custom). x.tag) cs) tag
found_has [] tag c e = absurd (cc)
found_has (x ∷ xs) tag c e = by (x.tag == tag) refl e (λ k. found_has xs tag c k)
  where
    by : (b : Bool) → (x.tag == tag) ≡ b → cond b (Some x) (find (has_tag tag) xs) ≡ Some c
        → (find (has_tag tag) xs ≡ Some c → Has (map (λ (y : Custom). y.tag) xs) tag) → (tag ≡ x.tag)
        ⊎ Has (map (λ (y : Custom). y.tag) xs) tag
    by true f e rest = inl (sym (eqb-true x.tag tag f))
    by false f e rest = inr (rest e)

pub custom_told : (p : PackageRecord) (tag : ℕ) (c : Custom) → StandsFor p.parts p → find (has_tag tag) p.directory.customs ≡ Some c → Tells p tag
custom_told p tag c s e size k =
    let t = has_told p s in
    let h = found_has p.directory.customs tag c e in
    let tags = custom_tags p.directory in
    told p.parts p.directory tag size (held p.parts tag) refl k (each_at (λ n. sized_fault p.parts p.directory n ≡ None) tags tag t.customs_sized h)
    (each_at (λ n. form_fault p.parts n ≡ None) tags tag t.forms h) (each_at (λ n. size_fault p.parts p.directory n ≡ None) tags tag t.custom_sizes h)

-- ---- the sizes of a Directory that is written anew

sizes_at : (own : ℕ) (new : ComponentSizes) (tag : ℕ) (ss : List ℕ) (k : ℕ) → k < length ss → slice_index (sizes_from own new tag ss) k
    ≡ new_size own new (tag + k) (slice_index ss k)
sizes_at own new tag [] k lt = absurd (omega arith)
sizes_at own new tag (s ∷ ss) zero lt = let e : tag ≡ tag + 0 = omega arith in ap (λ n. new_size own new n s) e
sizes_at own new tag (s ∷ ss) (suc k) lt = grind (arith, suc, sizes_at own new (tag + 1) ss k (omega arith))

count_least : (format : Format) → 11 ≤ size_count format
count_least x = grind (arith)

-- the size of a component
pub size_now : (own : ℕ) (new : ComponentSizes) (d e : DirectoryItems) (format : Format) (tag size : ℕ) → e.sizes ≡ sizes_from own new 1 d.sizes
    → length d.sizes ≡ size_count format → 1 ≤ tag → tag ≤ 11 → size_in e tag ≡ Some size
    → size ≡ new_size own new tag (slice_index d.sizes (tag - 1))
size_now own new d e format tag size are counted low high s =
    let least = count_least format in
    let same : 1 + (tag - 1) ≡ tag = omega arith in
    size_known e tag size low (omega arith) s ∙ ap (λ ss. slice_index ss (tag - 1)) are ∙ sizes_at own new 1 d.sizes (tag - 1) (omega arith)
    ∙ ap (λ n. new_size own new n (slice_index d.sizes (tag - 1))) same

-- and that of Debug
pub debug_now : (own : ℕ) (new : ComponentSizes) (d e : DirectoryItems) (format : Format) (size : ℕ) → e.sizes ≡ sizes_from own new 1 d.sizes
    → length d.sizes ≡ size_count format → size_in e 12 ≡ Some size → size ≡ 0
debug_now own new d e V21 size are counted s =
    size_known e 12 size (omega arith) (omega arith) s ∙ ap (λ ss. slice_index ss 11) are
    ∙ get_or_past (sizes_from own new 1 d.sizes) 11 0 (omega (arith, sizes_counted own new 1 d.sizes))
debug_now own new d e V22 size are counted s =
    size_known e 12 size (omega arith) (omega arith) s ∙ ap (λ ss. slice_index ss 11) are ∙ sizes_at own new 1 d.sizes 11 (omega arith)

-- the size that was told
pub size_was : (d : DirectoryItems) (tag : ℕ) → (nat_le 1 tag && nat_le tag 12) ≡ true → 1 ≤ tag → tag ≤ 12
    → size_in d tag ≡ Some (slice_index d.sizes (tag - 1))
size_was d tag e low high = grind (arith, size_known)

-- ---- tags

abbrev pub tags_from : ℕ → ℕ → List ℕ
tags_from low zero = []
tags_from low (suc n) = low ∷ tags_from (low + 1) n

pub has_tag_from : (low n tag : ℕ) → low ≤ tag → tag < low + n → Has (tags_from low n) tag
has_tag_from low zero tag a b = absurd (omega arith)
has_tag_from low (suc n) tag a b = by (cases_eq tag low) (λ ne. has_tag_from (low + 1) n tag (omega (arith, ne)) (omega arith))
  where
    by : (tag ≡ low) ⊎ (tag ≡ low → ⊥) → ((tag ≡ low → ⊥) → Has (tags_from (low + 1) n) tag) → (tag ≡ low)
        ⊎ Has (tags_from (low + 1) n) tag
    by (inl e) rest = inl e
    by (inr ne) rest = inr (rest ne)
