-- Of the parts that are written, none is there but those that their Directory asks for.
use Rattle.std.proofs.Common.{◌≡◌, ◌≤◌, ◌<◌, ◌+◌, ◌-◌, ℕ, suc, Bool, true, false, List, [], ◌∷◌, length, find, Option, Some, None, IsNone}
use Rattle.std.proofs.Common.{Result, Ok, ◌⊎◌, inl, inr, refl, sym, ap, subst, ◌∙◌, arith, true≢false, option_map}
use Rattle.std.specs.Prelude.{◌==◌, ◌&&◌, not, nat_le, slice_get, unwrap_or, if◌then◌else◌}
use Rattle.std.proofs.lemmas.Bool.{cases_eq, eqb-true}
use Rattle.std.proofs.lemmas.Bool.Decides.{nat_tests}
use Rattle.cap_bytes.specs.Grammar.{Grammar}
use Rattle.cap_bytes.specs.Spelling.{Stands, Spells}
use Rattle.cap_frame.specs.AppletFormat.{Applet, applets_info}
use Rattle.cap_frame.specs.Directory.{size_in, custom_size_in}
use Rattle.cap_frame.specs.DirectoryFormat.{Custom, DirectoryItems, directory_info}
use Rattle.cap_pool.specs.ExportFormat.{Exported, export_info}
use Rattle.cap_components.specs.declared.fault.PackFault.{PackFault}
use Rattle.cap_components.specs.Components.{read_directory, read_part}
use Rattle.cap_components.specs.PackageRecord.{PackageRecord}
use Rattle.cap_components.specs.Parts.{Lent, held}
use Rattle.cap_components.specs.Saying.{Says, SaysIf}
use Rattle.cap_components.proofs.Saying.{part_read}
use Rattle.cap_package.specs.StandsFor.{StandsFor}
use Rattle.cap_laying.specs.declared.writing.ComponentSizes.{ComponentSizes}
use Rattle.cap_laying.specs.Members.{new_places, written_info}
use Rattle.cap_laying.specs.NewDirectory.{new_directory, new_customs}
use Rattle.cap_laying.specs.References.{written_references}
use Rattle.jc_decode.specs.declared.symbols.Laid.{Laid}
use Rattle.cap_index.specs.TargetIndex.{index_bytes}
use Rattle.law_package.specs.Rewritten.{IsRewritten}
use Rattle.law_package.specs.RewrittenPackage.{IsSizeOf}
use Rattle.law_package.proofs.Lists.{Each, each_at}
use Rattle.cap_write.specs.Filed.{IsRising}
use Rattle.cap_write.specs.Files.{IsDirectoryFile, IsPresent, index_file, sizes_of}
use Rattle.cap_write.specs.NewIndex.{Index, IsNewIndex, change_of, dropped, stays, written}
use Rattle.cap_write.specs.WrittenPackage.{IsWritten, ArePartsOf}
use Rattle.cap_write.proofs.Customs.{has_tag, found_other, found_kept, found_written}
use Rattle.cap_write.proofs.Told.{tells_sizes, tags_from, has_tag_from}
use Rattle.capcheck_core.specs.Loads.{is_some_size, is_sized, is_asked, Rise}
use Rattle.law_stored.proofs.AskedParts.{directory_is}
use Rattle.cap_write.proofs.Said.{same_info}
use Rattle.std.proofs.lemmas.List.{nil_from_length}

-- ---- parts rise

least_below : (low high : ℕ) (parts : List Lent) → IsRising low parts high → low ≤ high
least_below low high [] h = h
least_below low high (l ∷ ls) h = grind (arith, least_below (l.part + 1) high ls h.1)

pub rises : (low high : ℕ) (parts : List Lent) → IsRising low parts high → Rise low high parts
rises low high [] h = tt {0}
rises low high (l ∷ ls) h = grind (arith, least_below, suc, rises (l.part + 1) high ls h.1)

-- ---- what stands in a file is one

none_is : (o : Option (List ℕ)) → IsNone o → o ≡ None
none_is x h = grind (arith)

one_directory : (r : Result DirectoryItems PackFault) (x y : DirectoryItems) → r ≡ Ok x → r ≡ Ok y → x ≡ y
one_directory r x y a b = let e : ◌≡◌ {A = Result DirectoryItems PackFault} (Ok x) (Ok y) = sym a ∙ b in cc

-- no component without a byte says anything
no_applets : (xs : List Applet) → Stands applets_info [] xs → ⊥
unfolding Stands Spells
no_applets xs s = let e = s.1.2.2.0 in absurd cc

no_exports : (xs : List Exported) → Stands export_info [] xs → ⊥
unfolding Stands Spells
no_exports xs s = let e = s.1.2.2.0 in absurd cc

not_there : {X : Type 0} (parts : List Lent) (tag : ℕ) (g : Grammar X) (items : Option X) → ((x : X) → Stands g [] x → ⊥) → SaysIf parts tag g items
    → IsSizeOf tag 0 (held parts tag) → held parts tag ≡ None
not_there parts tag g x never h size = grind (arith, same_info, nil_from_length)

zero_size : (n : ℕ) → is_some_size (Some n) ≡ false → n ≡ 0
zero_size n e = by (n == 0) refl e
  where
    by : (b : Bool) → (n == 0) ≡ b → not b ≡ false → n ≡ 0
    by true f h = eqb-true n 0 f
    by false f h = absurd (true≢false h)

far_tag : (tag : ℕ) → (nat_le 1 tag && nat_le tag 12) ≡ false → (tag ≡ 0 → ⊥) → 12 < tag
far_tag tag e some = grind (arith, nat_tests, e, some)

-- ---- what is not asked for

module _ (p q : PackageRecord) (laid : List (Option Laid)) (parts : List Lent) (was : StandsFor p.parts p) (now : StandsFor parts q)
    (rewritten : IsRewritten p laid q) (w : IsWritten p laid parts)
    (none : (tag : ℕ) → tag < 256 → is_asked p.parts tag ≡ false → IsNone (held p.parts tag)) where
  abbrev sizes : ComponentSizes
  sizes = sizes_of (written_info (length p.methods.info) (length p.methods.handlers) w.members)
      (written_references (length p.methods.info) (length p.methods.handlers) w.members) w.index

  files : ArePartsOf p (new_places (length p.methods.info) (length p.methods.handlers) w.members)
      (written_info (length p.methods.info) (length p.methods.handlers) w.members)
      (written_references (length p.methods.info) (length p.methods.handlers) w.members) w.index parts
  files = w.written.files

  stands : StandsFor q.parts q
  stands = subst (λ ps. StandsFor ps q) (sym now.said.same) now

  new_is : q.directory ≡ new_directory sizes p.directory
  new_is = by (held parts 2) refl files.directory
    where
      by : (o : Option (List ℕ)) → held parts 2 ≡ o
          → IsPresent (IsDirectoryFile p (written_info (length p.methods.info) (length p.methods.handlers) w.members)
          (written_references (length p.methods.info) (length p.methods.handlers) w.members) w.index) o
          → q.directory ≡ new_directory sizes p.directory
      by None e h = absurd h
      by (Some file) e h =
          let said : Says parts 2 (directory_info p.header.format) (new_directory sizes p.directory) =
          (h.info, record { file = file; there = e; framed = h.framed; said = h.said }) in
          let told : Says parts 2 (directory_info p.header.format) q.directory =
          subst (λ x. Says parts 2 (directory_info x.format) q.directory) rewritten.header now.said.directory in
          one_directory (read_part (directory_info p.header.format) 2 parts) q.directory (new_directory sizes p.directory)
          (part_read parts 2 (directory_info p.header.format) q.directory told)
          (part_read parts 2 (directory_info p.header.format) (new_directory sizes p.directory) said)

  read_new : read_directory parts ≡ Ok q.directory
  read_new = subst (λ ps. read_directory ps ≡ Ok q.directory) now.said.same (directory_is q stands)

  -- ---- a component that the Directory gives never size

  empty_part : {X : Type 0} (tag n : ℕ) (g : Grammar X) (items : Option X) → ((x : X) → Stands g [] x → ⊥) → SaysIf parts tag g items
      → IsSizeOf tag n (held q.parts tag) → is_some_size (Some n) ≡ false → held parts tag ≡ None
  empty_part tag n g items never says size e = grind (arith, not_there, zero_size)

  applets_none : is_asked parts 3 ≡ false → held parts 3 ≡ None
  applets_none e =
      let n = unwrap_or (slice_get q.directory.sizes 2) 0 in
      let zero : is_some_size (Some n) ≡ false = subst (λ d. is_sized d 3 ≡ false) read_new e in
      empty_part 3 n applets_info q.applets no_applets now.said.applets ((tells_sizes q stands).applets n refl) zero

  export_none : is_asked parts 10 ≡ false → held parts 10 ≡ None
  export_none e =
      let n = unwrap_or (slice_get q.directory.sizes 9) 0 in
      let zero : is_some_size (Some n) ≡ false = subst (λ d. is_sized d 10 ≡ false) read_new e in
      empty_part 10 n export_info q.export no_exports now.said.export ((tells_sizes q stands).export n refl) zero

  abbrev Unasked : ℕ → Type 0
  Unasked tag = is_asked parts tag ≡ false → held parts tag ≡ None

  asked : (tag : ℕ) → true ≡ false → held parts tag ≡ None
  asked tag e = absurd (true≢false e)

  unasked_each : Each Unasked (tags_from 1 12)
  unasked_each = grind (arith, asked, applets_none, export_none, files)

  -- ---- custom components, and what is none

  custom_size : (tag : ℕ) (d : DirectoryItems) → (nat_le 1 tag && nat_le tag 12) ≡ false → size_in d tag ≡ custom_size_in d.customs tag
  custom_size tag d out = ap (λ b. if b then Some (unwrap_or (slice_get d.sizes (tag - 1)) 0) else custom_size_in d.customs tag) out

  size_now : (tag : ℕ) → (nat_le 1 tag && nat_le tag 12) ≡ false
      → size_in q.directory tag ≡ custom_size_in (new_customs (change_of w.index) p.directory.customs) tag
  size_now tag out = custom_size tag q.directory out ∙ ap (λ (d : DirectoryItems). custom_size_in d.customs tag) new_is

  asked_as_before : (tag : ℕ) → (nat_le 1 tag && nat_le tag 12) ≡ false
      → find (has_tag tag) (new_customs (change_of w.index) p.directory.customs) ≡ find (has_tag tag) p.directory.customs
      → is_asked parts tag ≡ is_asked p.parts tag
  asked_as_before tag out found = grind (arith, size_now, option_map, custom_size, read_new, directory_is)

  none_before : (tag : ℕ) → tag < 256 → is_asked p.parts tag ≡ false → held p.parts tag ≡ None
  none_before tag lt e = none_is (held p.parts tag) (none tag lt e)

  other_none : (tag : ℕ) → tag < 256 → (tag ≡ 0) ⊎ (12 < tag) → (nat_le 1 tag && nat_le tag 12) ≡ false → (tag ≡ 128 → ⊥)
      → is_asked parts tag ≡ false → held parts tag ≡ None
  other_none tag lt far out ne e = grind (arith, files, none_before, asked_as_before, found_other)

  index_none : is_asked parts 128 ≡ false → held parts 128 ≡ None
  index_none e = by w.index refl w.indexed files.target_index
    where
      kept : w.index ≡ stays → held parts 128 ≡ held p.parts 128 → held parts 128 ≡ None
      kept i h =
          let found = ap (λ x. find (has_tag 128) (new_customs (change_of x) p.directory.customs)) i ∙ found_kept 128 p.directory.customs in
          h ∙ none_before 128 (omega arith) (sym (asked_as_before 128 refl found) ∙ e)

      large : (info : List ℕ) (lists : List (List ℕ)) → w.index ≡ written info → info ≡ index_bytes lists → ⊥
      large info lists i is =
          let size : size_in q.directory 128 ≡ Some (length info) =
          size_now 128 refl ∙ ap (λ x. custom_size_in (new_customs (change_of x) p.directory.customs) 128) i
          ∙ ap (option_map (λ (c : Custom). c.size)) (found_written (length info) p.directory.customs) in
          let none : is_some_size (Some (length info)) ≡ false =
          ap is_some_size (sym size) ∙ subst (λ d. is_sized d 128 ≡ false) read_new e in
          let zero = zero_size (length info) none in
          let long : length info ≡ length (index_bytes lists) = ap length is in
          omega (arith, zero, long)

      by : (x : Index) → w.index ≡ x → IsNewIndex p laid x → held parts 128 ≡ index_file p.parts x → held parts 128 ≡ None
      by stays i n h = kept i h
      by dropped i n h = h
      by (written info) i n h = absurd (large info n.1.lists i n.1.bytes.0)

  pub unasked_none : (tag : ℕ) → tag < 256 → is_asked parts tag ≡ false → held parts tag ≡ None
  unasked_none tag lt e = by (cases_eq tag 128)
    where
      within : (tag ≡ 128 → ⊥) → (b : Bool) → (nat_le 1 tag && nat_le tag 12) ≡ b → held parts tag ≡ None
      within ne true b =
          let low : 1 ≤ tag = grind (arith, nat_tests, b) in
          let high : tag ≤ 12 = grind (arith, nat_tests, b) in
          each_at Unasked (tags_from 1 12) tag unasked_each (has_tag_from 1 12 tag low (omega (arith, high))) e
      within ne false b = far (cases_eq tag 0)
        where
          far : (tag ≡ 0) ⊎ (tag ≡ 0 → ⊥) → held parts tag ≡ None
          far (inl z) = other_none tag lt (inl z) b ne e
          far (inr some) = other_none tag lt (inr (far_tag tag b some)) b ne e

      by : (tag ≡ 128) ⊎ (tag ≡ 128 → ⊥) → held parts tag ≡ None
      by (inl is) = subst (λ t. is_asked parts t ≡ false → held parts t ≡ None) (sym is) index_none e
      by (inr ne) = within ne (nat_le 1 tag && nat_le tag 12) refl
