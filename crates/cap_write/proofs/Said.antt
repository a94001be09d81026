-- What the components of the written parts say.
use Rattle.std.proofs.Common.{◌≡◌, ℕ, Bool, List, length, Option, Some, None, option_map, sym, ap, subst, ◌∙◌, arith}
use Rattle.cap_bytes.specs.Grammar.{Grammar}
use Rattle.cap_bytes.specs.Spelling.{Stands, file_of}
use Rattle.cap_bytes.proofs.Laws.{reading_where}
use Rattle.cap_frame.specs.Frame.{component}
use Rattle.cap_desc.specs.DescriptorFormat.{Descriptor, class_descriptor_info, descriptor_info}
use Rattle.cap_components.specs.Parts.{Lent, held}
use Rattle.cap_components.specs.PackageRecord.{PackageRecord, names_interface}
use Rattle.cap_components.specs.Saying.{HoldsComponent, Says, SaysIf}
use Rattle.cap_components.proofs.Saying.{info-read}
use Rattle.cap_bytes.specs.Edit.{Edit, AreInside}
use Rattle.cap_bytes.specs.Renewal.{AreSame}
use Rattle.cap_bytes.proofs.Patches.{edited_last, inside_from}
use Rattle.cap_renewal.specs.declared.new_methods.NewMethod.{NewMethod}
use Rattle.cap_renewal.specs.Along.{along}
use Rattle.cap_renewal.specs.DescriptorEdits.{class_edits, class_width, renewed_class, renewed_descriptor}
use Rattle.cap_renewal.proofs.DescriptorItems.{class_item, has_classes}
use Rattle.cap_renewal.proofs.Items.{all_inside}
use Rattle.cap_renewal.specs.Files.{IsRenewed, IsRenewedIf}
use Rattle.law_package.specs.RewrittenPackage.{IsSizeOf}
use Rattle.cap_write.specs.Files.{IsPresent, edits_of_methods}

-- a file that is present
pub record IsThere (Is : List ℕ → Type 0) (o : Option (List ℕ)) : Type 0 where
  pub file : List ℕ
  pub there : o ≡ Some file
  pub is : Is file

pub present : (Is : List ℕ → Type 0) (o : Option (List ℕ)) → IsPresent Is o → IsThere Is o
present x y h = grind (arith)

-- ---- items

pub kept_says : {X : Type 0} (old new : List Lent) (tag : ℕ) (g : Grammar X) (x : X) → held new tag ≡ held old tag → Says old tag g x
    → Says new tag g x
kept_says old new tag g x e s = (s.0, record { file = s.1.file; there = e ∙ s.1.there; framed = s.1.framed; said = s.1.said })

pub renewed_says : {X : Type 0} (old new : List Lent) (tag : ℕ) (g : Grammar X) (renew : X → X) (edits : X → List Edit) (x : X)
    → IsPresent (IsRenewed old tag g renew edits x) (held new tag) → Says new tag g (renew x)
renewed_says old new tag g renew edits x h = grind (arith)

pub renewed_if_says : {X : Type 0} (old new : List Lent) (tag : ℕ) (g : Grammar X) (renew : X → X) (edits : X → List Edit) (x : Option X)
    → IsRenewedIf old tag g renew edits x (held new tag) → SaysIf new tag g (option_map renew x)
renewed_if_says old new tag g renew edits x h = grind (arith)

-- ---- sizes

pub same_info : (tag : ℕ) (file a b : List ℕ) → Stands (component tag) file a → Stands (component tag) file b → a ≡ b
same_info tag file a b s t =
    grind (arith, reading_where (file_of tag) (component tag) file a s, reading_where (file_of tag) (component tag) file b t)

renewed_long : {X : Type 0} (old : List Lent) (tag size : ℕ) (g : Grammar X) (renew : X → X) (edits : X → List Edit) (x : X) (file : List ℕ)
    → IsRenewed old tag g renew edits x file → IsSizeOf tag size (held old tag) → IsSizeOf tag size (Some file)
renewed_long old tag size g renew edits x file r z = grind (arith, same_info)

pub renewed_size : {X : Type 0} (old new : List Lent) (tag size : ℕ) (g : Grammar X) (renew : X → X) (edits : X → List Edit) (x : X)
    → IsPresent (IsRenewed old tag g renew edits x) (held new tag) → IsSizeOf tag size (held old tag) → IsSizeOf tag size (held new tag)
renewed_size old new tag size g renew edits x h z =
    let t = present (IsRenewed old tag g renew edits x) (held new tag) h in
    subst (IsSizeOf tag size) (sym t.there) (renewed_long old tag size g renew edits x t.file t.is z)

if_size : {X : Type 0} (old : List Lent) (tag size : ℕ) (g : Grammar X) (renew : X → X) (edits : X → List Edit) (x : Option X) (o : Option (List ℕ))
    → IsRenewedIf old tag g renew edits x o → IsSizeOf tag size (held old tag) → IsSizeOf tag size o
if_size old tag size g renew edits None None h z = subst (IsSizeOf tag size) h z
if_size old tag size g renew edits None (Some file) h z = absurd h
if_size old tag size g renew edits (Some x) None h z = absurd h
if_size old tag size g renew edits (Some x) (Some file) h z = renewed_long old tag size g renew edits x file h z

pub renewed_if_size : {X : Type 0} (old new : List Lent) (tag size : ℕ) (g : Grammar X) (renew : X → X) (edits : X → List Edit) (x : Option X)
    → IsRenewedIf old tag g renew edits x (held new tag) → IsSizeOf tag size (held old tag) → IsSizeOf tag size (held new tag)
renewed_if_size old new tag size g renew edits x h z = if_size old tag size g renew edits x (held new tag) h z

-- ---- the Descriptor

-- its types are as they were, and it is as long
pub record HasSameTypes (p : PackageRecord) (info : List ℕ) : Type 0 where
  pub types : AreSame p.description.items.types_start (length p.description.info) p.description.info info
  pub long : length info ≡ length p.description.info

same_before : (parts : List Lent) (a b : List ℕ) (d : Descriptor) → HoldsComponent parts 11 descriptor_info a d
    → HoldsComponent parts 11 descriptor_info b d → a ≡ b
same_before parts a b d h k = grind (arith, info-read parts 11 descriptor_info a d h, info-read parts 11 descriptor_info b d k)

edits_inside : (set : ℕ → Bool) (news : List (Option NewMethod)) (bytes : List ℕ) (d : Descriptor) → Stands descriptor_info bytes d
    → AreInside (along (class_edits set news) class_width 1 d.classes) 0 d.types_start
edits_inside set news bytes d s =
    let h = has_classes bytes d s in
    inside_from (along (class_edits set news) class_width 1 d.classes) 0 1 d.types_start (omega arith)
    (all_inside class_descriptor_info (class_edits set news) class_width (renewed_class set news) bytes (class_item set news bytes) h.count 1 d.classes
    d.types_start h.items)

pub same_types : (p : PackageRecord) (news : List (Option NewMethod)) (file : List ℕ) → HoldsComponent p.parts 11 descriptor_info p.description.info
    p.description.items
    → (r : IsRenewed p.parts 11 descriptor_info (renewed_descriptor (names_interface p.classes) news) (edits_of_methods p news) p.description.items file)
    → HasSameTypes p r.info
same_types p news file h r =
    let d = p.description.items in
    let same : r.before ≡ p.description.info = same_before p.parts r.before p.description.info d r.was h in
    let start = (has_classes r.before d r.was.said).start in
    let last = edited_last (edits_of_methods p news d) 0 d.types_start (length r.before) r.before r.info
    (edits_inside (names_interface p.classes) news r.before d r.was.said) start r.renews.inside in
    record {
      types = subst (λ bytes. AreSame d.types_start (length bytes) bytes r.info) same last.1;
      long = r.renews.long ∙ ap length same;
    }
