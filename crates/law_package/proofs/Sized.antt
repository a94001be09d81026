-- Parts whose sizes the Directory tells, and which say what every package says.
use Rattle.std.proofs.Common.{◌≡◌, ◌-◌, ℕ, List, [], ◌∷◌, ◌++◌, length, map, filter_map, find, Bool, true, false, cond, Option, Some, arith}
use Rattle.std.proofs.Common.{None, Ok, Err, option_map, inl, inr, refl, ap, subst, ◌∙◌}
use Rattle.std.specs.Prelude.{if◌then◌else◌, ◌==◌, nat_le, ◌&&◌, slice_get, unwrap_or}
use Rattle.std.proofs.lemmas.Bool.{eq-eqb}
use Rattle.cap_bytes.specs.Spelling.{Stands, file_of}
use Rattle.cap_bytes.proofs.Laws.{reading_where}
use Rattle.cap_frame.specs.Frame.{component}
use Rattle.cap_frame.specs.HeaderFormat.{header_info}
use Rattle.cap_frame.specs.DirectoryFormat.{DirectoryItems, Custom, directory_info}
use Rattle.cap_frame.specs.Directory.{size_in, custom_size_in}
use Rattle.cap_components.specs.declared.fault.PackFault.TheVariants.{MissingPart}
use Rattle.cap_components.specs.Parts.{Lent, held}
use Rattle.cap_components.specs.Components.{info_in, read_directory}
use Rattle.cap_components.specs.PackageRecord.{PackageRecord}
use Rattle.cap_components.specs.PartChecks.{required, optional, custom_tags, absent_fault, absent_by}
use Rattle.cap_components.specs.PartChecks.{sized_fault, form_fault, size_fault, size_by}
use Rattle.cap_components.specs.Saying.{AreSaid}
use Rattle.cap_components.proofs.Saying.{part_read}
use Rattle.cap_package.specs.FirstFault.{missing_parts}
use Rattle.law_package.specs.RewrittenPackage.{IsSizeOf, HasSizes}
use Rattle.law_package.proofs.Lists.{Each, Has, each_none, each_of, append_none}

-- ---- what is said is read

pub directory_read : (parts : List Lent) (p : PackageRecord) → AreSaid parts p → read_directory parts ≡ Ok p.directory
unfolding read_directory
directory_read parts p s = rw (part_read parts 1 header_info p.header s.header) (part_read parts 2 (directory_info p.header.format) p.directory s.directory)

file_info : (parts : List Lent) (tag : ℕ) (file info : List ℕ) → held parts tag ≡ Some file → Stands (component tag) file info
    → info_in parts tag ≡ Ok info
unfolding info_in
file_info parts tag file info e s = rw (e, reading_where (file_of tag) (component tag) file info s) refl

no_info : (parts : List Lent) (tag : ℕ) → held parts tag ≡ None → info_in parts tag ≡ Err (MissingPart tag)
unfolding info_in
no_info parts tag e = rw e refl

-- ---- what is there

there_none : (parts : List Lent) (tag : ℕ) (file : List ℕ) → held parts tag ≡ Some file → absent_fault parts tag ≡ None
unfolding absent_fault
there_none parts tag file e = rw e refl

sized_by : (parts : List Lent) (tag : ℕ) (o : Option (List ℕ)) (s : Option ℕ) → held parts tag ≡ o
    → ((size : ℕ) → s ≡ Some size → IsSizeOf tag size o) → absent_by s (absent_fault parts tag) ≡ None
sized_by parts tag o None e h = refl
sized_by parts tag None (Some size) e h = let z : size ≡ 0 = h size refl in rw z refl
sized_by parts tag (Some file) (Some size) e h = grind (arith, there_none)

sized_none : (parts : List Lent) (d : DirectoryItems) (tag : ℕ) → HasSizes parts d → sized_fault parts d tag ≡ None
unfolding sized_fault
sized_none parts d tag h = sized_by parts tag (held parts tag) (size_in d tag) refl (h tag)

required_there : (parts : List Lent) (p : PackageRecord) → AreSaid parts p → Each (λ tag. absent_fault parts tag ≡ None) required
required_there parts p s = grind (arith, there_none)

pub nothing_missing : (parts : List Lent) (p : PackageRecord) → AreSaid parts p → HasSizes parts p.directory
    → missing_parts parts (read_directory parts) ≡ []
nothing_missing parts p s h =
    let d = p.directory in
    let sized : (tags : List ℕ) → filter_map (sized_fault parts d) tags ≡ [] = λ tags.
    each_none (sized_fault parts d) tags (each_of (λ tag. sized_fault parts d tag ≡ None) tags (λ tag k. sized_none parts d tag h)) in
    ap (missing_parts parts) (directory_read parts p s)
    ∙ append_none (filter_map (absent_fault parts) required ++ filter_map (sized_fault parts d) optional) (filter_map (sized_fault parts d) (custom_tags d))
    (append_none (filter_map (absent_fault parts) required) (filter_map (sized_fault parts d) optional)
    (each_none (absent_fault parts) required (required_there parts p s)) (sized optional))
    (sized (custom_tags d))

-- ---- sizes

told_size : (tag size : ℕ) (info : List ℕ) → length info ≡ size → size_by tag (Some size) (Ok info) ≡ None
told_size tag size info e = subst (λ n. size_by tag (Some n) (Ok info) ≡ None) e (rw (eq-eqb (length info) (length info) refl) refl)

size_none_by : (parts : List Lent) (tag : ℕ) (o : Option (List ℕ)) (s : Option ℕ) → held parts tag ≡ o
    → ((size : ℕ) → s ≡ Some size → IsSizeOf tag size o) → size_by tag s (info_in parts tag) ≡ None
size_none_by parts tag o None e h = refl
size_none_by parts tag None (Some size) e h = ap (size_by tag (Some size)) (no_info parts tag e)
size_none_by parts tag (Some file) (Some size) e h =
    let k = h size refl in
    ap (size_by tag (Some size)) (file_info parts tag file k.0 e k.1) ∙ told_size tag size k.0 k.2

pub sizes_told : (parts : List Lent) (d : DirectoryItems) (tags : List ℕ) → HasSizes parts d → filter_map (size_fault parts d) tags ≡ []
unfolding size_fault
sizes_told parts d tags h = grind (arith, each_none, each_of, size_none_by)

-- ---- custom components

found : (cs : List Custom) (n : ℕ) → Has (map (λ (c : Custom). c.tag) cs) n → (x : Custom) × (find (λ (c : Custom). c.tag == n) cs ≡ Some x)
found [] n h = absurd h
found (c ∷ cs) n (inl s) =
    let e : (c.tag == n) ≡ true = ap (λ k. c.tag == k) s ∙ eq-eqb c.tag c.tag refl in
    (c, ap (λ b. cond b (Some c) (find (λ (x : Custom). x.tag == n) cs)) e)
found (c ∷ cs) n (inr h) = by (c.tag == n) (found cs n h)
  where
    by : (b : Bool) → ((x : Custom) × (find (λ (y : Custom). y.tag == n) cs ≡ Some x)) → (x : Custom)
        × (cond b (Some c) (find (λ (y : Custom). y.tag == n) cs) ≡ Some x)
    by true r = (c, refl)
    by false r = r

size_by_tag : (b : Bool) (n : ℕ) (o : Option ℕ) (k : ℕ) → o ≡ Some k → (size : ℕ) × ((if b then Some n else o) ≡ Some size)
size_by_tag true n o k e = (n, refl)
size_by_tag false n o k e = (k, e)

has_size : (d : DirectoryItems) (tag : ℕ) → Has (custom_tags d) tag → (size : ℕ) × (size_in d tag ≡ Some size)
has_size d tag h =
    let f = found d.customs tag h in
    let e : custom_size_in d.customs tag ≡ Some f.0.size = ap (option_map (λ (c : Custom). c.size)) f.1 in
    size_by_tag (nat_le 1 tag && nat_le tag 12) (unwrap_or (slice_get d.sizes (tag - 1)) 0) (custom_size_in d.customs tag) f.0.size e

pub forms_stand : (parts : List Lent) (d : DirectoryItems) → HasSizes parts d → filter_map (form_fault parts) (custom_tags d) ≡ []
unfolding form_fault
forms_stand parts d h = grind (arith, each_none, each_of, has_size, file_info)
