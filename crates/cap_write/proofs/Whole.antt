-- What is written is the package with the code that is laid, and a package again.
use Rattle.std.proofs.Common.{◌≡◌, ◌≤◌, ◌-◌, ◌⊎◌, inl, inr, ℕ, Bool, true, false, List, length, map, find, Option, Some, None, Result}
use Rattle.std.proofs.Common.{option_map, refl, sym, ap, subst, ◌∙◌, arith}
use Rattle.std.specs.Prelude.{◌↔◌, ◌&&◌, nat_le, slice_get, slice_index, unwrap_or, if◌then◌else◌}
use Rattle.std.proofs.lemmas.Bool.{cases_eq, not-false}
use Rattle.std.proofs.lemmas.Bool.Decides.{nat_tests}
use Rattle.std.proofs.lemmas.Slice.Eq.{bytes_eq-Decides}
use Rattle.cap_frame.specs.Tags.{index_aid}
use Rattle.cap_frame.specs.AppletFormat.{applets_info}
use Rattle.cap_frame.specs.DirectoryFormat.{Custom, DirectoryItems, none}
use Rattle.cap_frame.specs.Directory.{size_in, custom_size_in}
use Rattle.cap_frame.specs.HeaderFormat.{header_info}
use Rattle.cap_frame.specs.ImportFormat.{imports_info}
use Rattle.cap_pool.specs.PoolFormat.{pool_info}
use Rattle.cap_pool.specs.ExportFormat.{export_info}
use Rattle.cap_class.specs.ClassFormat.{classes_info}
use Rattle.cap_method.specs.StaticFormat.{statics_info}
use Rattle.cap_desc.specs.DescriptorFormat.{descriptor_info}
use Rattle.cap_components.specs.declared.fault.PackFault.{PackFault}
use Rattle.cap_components.specs.Parts.{Lent, held}
use Rattle.cap_components.specs.Components.{framed, info_in}
use Rattle.cap_components.specs.PackageRecord.{PackageRecord, names_interface}
use Rattle.cap_components.specs.Saying.{AreSaid}
use Rattle.cap_package.specs.Customs.{CustomItems, custom_in, info_or_none}
use Rattle.cap_package.specs.StandsFor.{StandsFor}
use Rattle.cap_renewal.specs.NewMethods.{to}
use Rattle.cap_renewal.specs.AppletEdits.{applets_edits, renewed_applet}
use Rattle.cap_renewal.specs.ClassEdits.{classes_edits, renewed_class}
use Rattle.cap_renewal.specs.DescriptorEdits.{renewed_descriptor}
use Rattle.cap_renewal.specs.ExportEdits.{export_edits, renewed_exported}
use Rattle.cap_renewal.specs.PoolEdits.{pool_edits, renewed_entry}
use Rattle.cap_renewal.specs.Files.{IsRenewed}
use Rattle.cap_renewal.proofs.Frames.{file_stands}
use Rattle.cap_laying.specs.WrittenDirectory.{MayStand}
use Rattle.cap_laying.specs.NewDirectory.{new_directory, new_size, own_size}
use Rattle.cap_laying.specs.declared.member.WrittenMember.{WrittenMember}
use Rattle.cap_laying.specs.Blocks.{blocks, entries_of_blocks}
use Rattle.cap_laying.specs.Members.{written_info}
use Rattle.cap_laying.specs.References.{written_references}
use Rattle.jc_decode.specs.declared.symbols.Laid.{Laid}
use Rattle.law_package.specs.Changes.{sources}
use Rattle.law_package.specs.RewrittenPackage.{IsSizeOf, HasSizes, RewrittenStands, WritingRewrites}
use Rattle.law_package.specs.Rewritten.{IsCustom}
use Rattle.law_package.specs.Writing.{IsWrittenAnew, places}
use Rattle.law_package.proofs.Lists.{Each, each_at}
use Rattle.cap_write.specs.Condition.{MayBeLaid}
use Rattle.cap_write.specs.NewIndex.{Index, IsNewIndex, dropped, keeps_index, stays, written}
use Rattle.cap_write.specs.Files.{IsDirectoryFile, IsFramed, index_file, edits_of_methods, sizes_of}
use Rattle.cap_write.specs.SmallStacks.{HaveSmallStacks}
use Rattle.cap_write.specs.WrittenMethods.{AreMembersFor}
use Rattle.cap_write.specs.WrittenPackage.{ArePartsOf, AreWritten, HaveRewritten, locations_of}
use Rattle.cap_write.proofs.Customs.{found_dropped, found_kept, found_other, found_written, has_tag, tag_found}
use Rattle.cap_write.proofs.Said.{kept_says, present, renewed_if_says, renewed_if_size, renewed_says, renewed_size, same_types}
use Rattle.cap_write.proofs.Sources.{all_stacks, are_laid_for, laid_each}
use Rattle.cap_write.proofs.Told.{custom_told, debug_now, has_tag_from, size_now, size_was, tags_from, tells_sizes}

-- ---- the package that the parts stand for

abbrev pub infos : PackageRecord → List WrittenMember → List ℕ
infos p ms = written_info (length p.methods.info) (length p.methods.handlers) ms

abbrev pub references : PackageRecord → List WrittenMember → List ℕ
references p ms = written_references (length p.methods.info) (length p.methods.handlers) ms

abbrev pub directory_of : PackageRecord → List WrittenMember → Index → DirectoryItems
directory_of p ms index = new_directory (sizes_of (infos p ms) (references p ms) index) p.directory

abbrev pub made : PackageRecord → List WrittenMember → Index → List Lent → List ℕ → PackageRecord
made p ms index parts info = record {
  parts = parts;
  header = p.header;
  directory = directory_of p ms index;
  applets = option_map (map (renewed_applet (to (places p ms)))) p.applets;
  imports = p.imports;
  pool = map (renewed_entry (to (places p ms))) p.pool;
  classes = map (renewed_class (to (places p ms))) p.classes;
  methods = record { info = infos p ms; handlers = entries_of_blocks (places p ms) (blocks (length p.methods.handlers) ms) };
  statics = p.statics;
  locations = locations_of (length p.methods.info) (length p.methods.handlers) ms;
  export = option_map (map (renewed_exported (to (places p ms)))) p.export;
  description = record { info = info; items = renewed_descriptor (names_interface p.classes) (places p ms) p.description.items };
}

-- ---- custom components

same_under : (parts others : List Lent) (tag : ℕ) → held others tag ≡ held parts tag → info_in others tag ≡ info_in parts tag
unfolding info_in
same_under parts others tag e = ap (framed tag) e

abbrev custom_with : Result (List ℕ) PackFault → Custom → CustomItems
custom_with read c = record { aid = c.aid; info = info_or_none read }

custom_by : (parts others : List Lent) (tag : ℕ) (o : Option Custom) → ((c : Custom) → o ≡ Some c → held others tag ≡ held parts tag)
    → option_map (custom_with (info_in others tag)) o ≡ option_map (custom_with (info_in parts tag)) o
custom_by parts others tag u h = grind (arith, same_under)

no_other : (p : PackageRecord) (c : CustomItems) → keeps_index p ≡ false → IsCustom p 128 c → ⊥
no_other p c k h = grind (arith, bytes_eq-Decides, not-false)

no_custom : (o : Option CustomItems) (c : CustomItems) → o ≡ None → o ≡ Some c → ⊥
no_custom o c e f = absurd (cc)

same_aid : (c d : CustomItems) → Some c ≡ Some d → d.aid ≡ c.aid
same_aid c d e = let same : d ≡ c = cc in ap (λ (x : CustomItems). x.aid) same

same_customs : (p q : PackageRecord) (tag : ℕ) (c : CustomItems) → custom_in q tag ≡ custom_in p tag → IsCustom p tag c ↔ IsCustom q tag c
same_customs p q tag c e = (λ h. record { there = e ∙ h.there; other = h.other }, λ h. record { there = sym e ∙ h.there; other = h.other })

-- the component with the tag of a target index
customs_index : (p : PackageRecord) (laid : List (Option Laid)) (ms : List WrittenMember) (index : Index) (parts : List Lent) (info : List ℕ)
    (c : CustomItems) → IsNewIndex p laid index → held parts 128 ≡ index_file p.parts index
    → IsCustom p 128 c ↔ IsCustom (made p ms index parts info) 128 c
customs_index p laid ms stays parts info c i h =
    same_customs p (made p ms stays parts info) 128 c
    (ap (option_map (custom_with (info_in parts 128))) (found_kept 128 p.directory.customs)
    ∙ custom_by p.parts parts 128 (find (has_tag 128) p.directory.customs) (λ d e. h))
customs_index p laid ms dropped parts info c i h = (
  λ k. absurd (no_other p c i.0 k),
  λ k. absurd
      (no_custom (custom_in (made p ms dropped parts info) 128) c (ap (option_map (custom_with (info_in parts 128))) (found_dropped p.directory.customs))
      k.there),
)
customs_index p laid ms (written index) parts info c i h =
    let size = length index in
    let entry : Custom = record { tag = 128; size = size; aid = index_aid } in
    let e : custom_in (made p ms (written index) parts info) 128 ≡ Some (custom_with (info_in parts 128) entry) = ap
    (option_map (custom_with (info_in parts 128))) (found_written size p.directory.customs) in
    (λ k. absurd (no_other p c i.0 k), λ k. absurd (k.other (refl, same_aid (custom_with (info_in parts 128) entry) c (sym e ∙ k.there))))

-- ---- sizes

was_custom : (p : PackageRecord) (parts : List Lent) (tag size : ℕ) (o : Option Custom) → StandsFor p.parts p → size_in p.directory tag ≡ Some size
    → find (has_tag tag) p.directory.customs ≡ o → option_map (λ (c : Custom). c.size) o ≡ Some size
    → ((c : Custom) → find (has_tag tag) p.directory.customs ≡ Some c → held parts tag ≡ held p.parts tag) → IsSizeOf tag size (held parts tag)
was_custom p parts tag size None s k f e h = absurd (cc)
was_custom p parts tag size (Some c) s k f e h = subst (IsSizeOf tag size) (sym (h c f)) (custom_told p tag c s f size k)

size_index : (p : PackageRecord) (laid : List (Option Laid)) (ms : List WrittenMember) (index : Index) (parts : List Lent) (size : ℕ)
    → StandsFor p.parts p → IsNewIndex p laid index → held parts 128 ≡ index_file p.parts index
    → custom_size_in (directory_of p ms index).customs 128 ≡ Some size → IsSizeOf 128 size (held parts 128)
size_index p laid ms stays parts size s i h e =
    let k : custom_size_in p.directory.customs 128 ≡ Some size = sym (ap (option_map (λ (c : Custom). c.size)) (found_kept 128 p.directory.customs)) ∙ e in
    was_custom p parts 128 size (find (has_tag 128) p.directory.customs) s k refl k (λ c f. h)
size_index p laid ms dropped parts size s i h e = grind (arith, found_dropped p.directory.customs, option_map)
size_index p laid ms (written index) parts size s i h e =
    grind (arith, found_written (length index) p.directory.customs, file_stands 128 index (omega arith) i.1.bytes.1, option_map)

module _ (p : PackageRecord) (laid : List (Option Laid)) (ms : List WrittenMember) (index : Index) (parts : List Lent) (stands : StandsFor p.parts p)
    (may : MayStand p.header.format p.directory) (indexed : IsNewIndex p laid index)
    (files : ArePartsOf p (places p ms) (infos p ms) (references p ms) index parts) where
  abbrev d : DirectoryItems
  d = directory_of p ms index

  -- a part with another tag of a custom component is as it was
  file_other : (tag : ℕ) → (tag ≡ 128 → ⊥) → (c : Custom) → find (has_tag tag) p.directory.customs ≡ Some c
      → held parts tag ≡ held p.parts tag
  file_other tag ne c e = grind (arith, tag_found none p.directory.customs tag c may.customs e)

  customs_other : (info : List ℕ) (tag : ℕ) (c : CustomItems) → (tag ≡ 128 → ⊥) → IsCustom p tag c ↔ IsCustom (made p ms index parts info) tag c
  customs_other info tag c ne =
      same_customs p (made p ms index parts info) tag c
      (ap (option_map (custom_with (info_in parts tag))) (found_other _ tag p.directory.customs ne)
      ∙ custom_by p.parts parts tag (find (has_tag tag) p.directory.customs) (file_other tag ne))

  pub customs_kept : (info : List ℕ) (tag : ℕ) (c : CustomItems) → IsCustom p tag c ↔ IsCustom (made p ms index parts info) tag c
  customs_kept info tag c = by (cases_eq tag 128)
    where
      by : (tag ≡ 128) ⊎ (tag ≡ 128 → ⊥) → IsCustom p tag c ↔ IsCustom (made p ms index parts info) tag c
      by (inl e) =
          subst (λ t. IsCustom p t c ↔ IsCustom (made p ms index parts info) t c) (sym e)
          (customs_index p laid ms index parts info c indexed files.target_index)
      by (inr ne) = customs_other info tag c ne

  -- the size of a component
  now_size : (tag size : ℕ) → 1 ≤ tag → tag ≤ 11 → size_in d tag ≡ Some size
      → size ≡ new_size (own_size (sizes_of (infos p ms) (references p ms) index) p.directory) (sizes_of (infos p ms) (references p ms) index) tag
      (slice_index p.directory.sizes (tag - 1))
  now_size tag size low high e =
      size_now (own_size (sizes_of (infos p ms) (references p ms) index) p.directory) (sizes_of (infos p ms) (references p ms) index) p.directory d
      p.header.format tag size refl may.counted low high e

  -- that of one that is as long as it was
  as_before : (tag size : ℕ) → (nat_le 1 tag && nat_le tag 12) ≡ true → 1 ≤ tag → tag ≤ 11
      → new_size (own_size (sizes_of (infos p ms) (references p ms) index) p.directory) (sizes_of (infos p ms) (references p ms) index) tag
      (slice_index p.directory.sizes (tag - 1)) ≡ slice_index p.directory.sizes (tag - 1)
      → size_in d tag ≡ Some size → size_in p.directory tag ≡ Some size
  as_before tag size b low high same e = size_was p.directory tag b low (omega arith) ∙ ap Some (sym (now_size tag size low high e ∙ same))

  abbrev TellsNow : ℕ → Type 0
  TellsNow tag = (size : ℕ) → size_in d tag ≡ Some size → IsSizeOf tag size (held parts tag)

  components_told : Each TellsNow (tags_from 1 12)
  components_told =
      let t = tells_sizes p stands in
      let two = present (IsDirectoryFile p (infos p ms) (references p ms) index) (held parts 2) files.directory in
      let seven = present (IsFramed 7 (infos p ms)) (held parts 7) files.methods_file in
      let nine = present (IsFramed 9 (references p ms)) (held parts 9) files.locations in
      let news = places p ms in (
        λ size e. subst (IsSizeOf 1 size) (sym files.header) (t.header size (as_before 1 size refl (omega arith) (omega arith) refl e)),
        (
          λ size e. subst (IsSizeOf 2 size) (sym two.there) (two.is.info, two.is.framed, two.is.own ∙ sym (now_size 2 size (omega arith) (omega arith) e)),
          (
            λ size e. renewed_if_size p.parts parts 3 size applets_info (map (renewed_applet (to news))) (applets_edits (to news)) p.applets files.applets
                (t.applets size (as_before 3 size refl (omega arith) (omega arith) refl e)),
            (
              λ size e. subst (IsSizeOf 4 size) (sym files.imports) (t.imports size (as_before 4 size refl (omega arith) (omega arith) refl e)),
              (
                λ size e. renewed_size p.parts parts 5 size pool_info (map (renewed_entry (to news))) (pool_edits (to news)) p.pool files.pool
                    (t.pool size (as_before 5 size refl (omega arith) (omega arith) refl e)),
                (
                  λ size e. renewed_size p.parts parts 6 size (classes_info p.header.format) (map (renewed_class (to news))) (classes_edits (to news))
                      p.classes files.classes (t.classes size (as_before 6 size refl (omega arith) (omega arith) refl e)),
                  (
                    λ size e. subst (IsSizeOf 7 size) (sym seven.there) (infos p ms, seven.is.framed, sym (now_size 7 size (omega arith) (omega arith) e)),
                    (
                      λ size e. subst (IsSizeOf 8 size) (sym files.statics) (t.statics size (as_before 8 size refl (omega arith) (omega arith) refl e)),
                      (
                        λ size e. subst (IsSizeOf 9 size) (sym nine.there)
                            (references p ms, nine.is.framed, sym (now_size 9 size (omega arith) (omega arith) e)),
                        (
                          λ size e. renewed_if_size p.parts parts 10 size export_info (map (renewed_exported (to news))) (export_edits (to news)) p.export
                              files.export (t.export size (as_before 10 size refl (omega arith) (omega arith) refl e)),
                          (
                            λ size e. renewed_size p.parts parts 11 size descriptor_info (renewed_descriptor (names_interface p.classes) news)
                                (edits_of_methods p news) p.description.items files.description
                                (t.description size (as_before 11 size refl (omega arith) (omega arith) refl e)),
                            (
                              λ size e. subst (IsSizeOf 12 size) (sym files.debug)
                                  (debug_now (own_size (sizes_of (infos p ms) (references p ms) index) p.directory)
                                  (sizes_of (infos p ms) (references p ms) index) p.directory d p.header.format size refl may.counted e),
                              tt,
                            ),
                          ),
                        ),
                      ),
                    ),
                  ),
                ),
              ),
            ),
          ),
        ),
      )

  custom_now : (tag size : ℕ) → (nat_le 1 tag && nat_le tag 12) ≡ false → custom_size_in d.customs tag ≡ Some size
      → IsSizeOf tag size (held parts tag)
  custom_now tag size b e = by (cases_eq tag 128)
    where
      by : (tag ≡ 128) ⊎ (tag ≡ 128 → ⊥) → IsSizeOf tag size (held parts tag)
      by (inl k) =
          let f : custom_size_in d.customs 128 ≡ Some size = subst (λ t. custom_size_in d.customs t ≡ Some size) k e in
          subst (λ t. IsSizeOf t size (held parts t)) (sym k) (size_index p laid ms index parts size stands indexed files.target_index f)
      by (inr ne) =
          let k : custom_size_in p.directory.customs tag ≡ Some size = sym
          (ap (option_map (λ (c : Custom). c.size)) (found_other _ tag p.directory.customs ne)) ∙ e in
          let was : size_in p.directory tag ≡ Some size = ap
          (λ x. if x then Some (unwrap_or (slice_get p.directory.sizes (tag - 1)) 0) else custom_size_in p.directory.customs tag) b ∙ k in
          was_custom p parts tag size (find (has_tag tag) p.directory.customs) stands was refl k (file_other tag ne)

  pub has_sizes : HasSizes parts d
  has_sizes tag size e = by (nat_le 1 tag && nat_le tag 12) refl e
    where
      by : (b : Bool) → (nat_le 1 tag && nat_le tag 12) ≡ b
          → (if b then Some (unwrap_or (slice_get d.sizes (tag - 1)) 0) else custom_size_in d.customs tag) ≡ Some size
          → IsSizeOf tag size (held parts tag)
      by true b k =
          let low : 1 ≤ tag = grind (arith, nat_tests) in
          let high : tag ≤ 12 = grind (arith, nat_tests) in
          each_at TellsNow (tags_from 1 12) tag components_told (has_tag_from 1 12 tag low (omega arith)) size e
      by false b k = custom_now tag size b k

-- ---- the whole

pub again : RewrittenStands → WritingRewrites → (p : PackageRecord) (laid : List (Option Laid)) (ms : List WrittenMember) (index : Index)
    (parts : List Lent) → StandsFor p.parts p → MayStand p.header.format p.directory → MayBeLaid p laid → HaveSmallStacks ms
    → AreMembersFor p laid ms → IsNewIndex p laid index → AreWritten p (length p.methods.info) (length p.methods.handlers) ms index parts
    → HaveRewritten p laid parts
again stand rewrite p laid ms index parts s may l fit are i w =
    let news = places p ms in
    let set = names_interface p.classes in
    let files = w.files in
    let said = s.said in
    let eleven = present (IsRenewed p.parts 11 descriptor_info (renewed_descriptor set news) (edits_of_methods p news) p.description.items) (held parts 11)
    files.description in
    let types = same_types p news eleven.file said.description eleven.is in
    let two = present (IsDirectoryFile p (infos p ms) (references p ms) index) (held parts 2) files.directory in
    let seven = present (IsFramed 7 (infos p ms)) (held parts 7) files.methods_file in
    let nine = present (IsFramed 9 (references p ms)) (held parts 9) files.locations in
    let q = made p ms index parts eleven.is.info in
    let members = are.are in
    let codes = are_laid_for p laid l in
    let anew : IsWrittenAnew p laid ms q = record {
      each = laid_each p laid l;
      stacks = all_stacks p.methods.info (sources p laid) ms members fit;
      members = members;
      may = are.may;
      info = refl;
      handlers = refl;
      applets = refl;
      pool = refl;
      classes = refl;
      export = refl;
      description = refl;
      types = types.types;
      long = types.long;
      header = refl;
      imports = refl;
      statics = refl;
      directory = refl;
      customs = λ tag c. customs_kept p laid ms index parts s may i files eleven.is.info tag c;
      debug = files.debug;
    } in
    let says : AreSaid parts q = record {
      same = refl;
      header = kept_says p.parts parts 1 header_info p.header files.header said.header;
      directory = (two.is.info, record { file = two.file; there = two.there; framed = two.is.framed; said = two.is.said });
      applets = renewed_if_says p.parts parts 3 applets_info (map (renewed_applet (to news))) (applets_edits (to news)) p.applets files.applets;
      imports = kept_says p.parts parts 4 imports_info p.imports files.imports said.imports;
      pool = renewed_says p.parts parts 5 pool_info (map (renewed_entry (to news))) (pool_edits (to news)) p.pool files.pool;
      classes = renewed_says p.parts parts 6 (classes_info p.header.format) (map (renewed_class (to news))) (classes_edits (to news)) p.classes files.classes;
      methods = record { file = seven.file; there = seven.there; framed = seven.is.framed; said = w.handlers };
      statics = kept_says p.parts parts 8 statics_info p.statics files.statics said.statics;
      locations = (references p ms, record { file = nine.file; there = nine.there; framed = nine.is.framed; said = w.locations });
      export = renewed_if_says p.parts parts 10 export_info (map (renewed_exported (to news))) (export_edits (to news)) p.export files.export;
      description = record { file = eleven.file; there = eleven.there; framed = eleven.is.framed; said = eleven.is.said };
    } in
    let rewritten = rewrite p.parts p q laid ms s codes anew in
    record {
      made = q;
      rewritten = rewritten;
      stands = stand p.parts parts p q laid s codes rewritten says (has_sizes p laid ms index parts s may i files);
    }
