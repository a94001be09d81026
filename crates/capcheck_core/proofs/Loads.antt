-- The parts that are loaded have rising tags, and a folder that tells what it holds has one list of them.
use Rattle.std.proofs.Common.{◌≡◌, ◌<◌, ◌≤◌, ◌+◌, ℕ, zero, suc, List, [], ◌∷◌, ◌++◌, Option, Some, None, IsNone, Bool, true}
use Rattle.std.proofs.Common.{false, true≢false, eqb, ltb, leb, refl, sym, ap, subst, ◌∙◌, inl, inr, ◌⊎◌, arith, length, drop, append_assoc}
use Rattle.std.specs.Prelude.{Result, slice_get, IsSomeAnd, is_some, Ok, Err, ◌&&◌, ◌||◌}
use Rattle.std.specs.FinMap as fin_map
use Rattle.std.proofs.Math.Bool.{and-false}
use Rattle.std.proofs.lemmas.List.{append-nil}
use Rattle.std.proofs.lemmas.Bool.{ne_eqb, eq-eqb, eqb-true, eqb-false, ltb-true, ltb-false, lt-leb}
use Rattle.std.proofs.Math.Nat.{eq-or-lt_of_le}
use Rattle.cap_bytes.specs.Grammar.{Grammar}
use Rattle.cap_bytes.specs.Spelling.{info_of}
use Rattle.cap_bytes.specs.Reading.{reading}
use Rattle.cap_frame.specs.HeaderFormat.{HeaderItems, header_info}
use Rattle.cap_frame.specs.DirectoryFormat.{Custom, directory_info}
use Rattle.cap_frame.specs.Directory.{directory_items, size_in, custom_size_in}
use Rattle.cap_files.specs.Folder.{Parts, Folders, IsTooLong, Loads}
use Rattle.cap_files.specs.declared.folder.LoadEnd.{LoadEnd}
use Rattle.cap_components.specs.declared.fault.PackFault.{PackFault}
use Rattle.cap_components.specs.declared.components.Opening.{Opening}
use Rattle.cap_components.specs.Components.{framed, formed, info_in, read_part, read_directory, ◌>>=◌}
use Rattle.cap_components.specs.Openings.{IsOpening}
use Rattle.cap_package.specs.Parts.{Lent, held, HasEachOnce}
use Rattle.cap_components.proofs.PartsLemmas.{held-other, held-same}
use Rattle.cap_package.proofs.Given.{drop_here}
use Rattle.capcheck_core.specs.Loads.{is_required, is_optional, is_some_size, is_sized, is_asked, Has, with_file, Rise, AreLoaded, AreParts, IsPartAdded}
use Rattle.capcheck_core.specs.Loads.{IsFirstLong}
use Rattle.capcheck_core.specs.declared.load.LoadStop.{LoadStop}
use Rattle.capcheck_core.specs.LoadEnds.{StopsParts, AreRest, LoadsFile, EndsSized, EndsAsked}

pub none_some : (bytes : List ℕ) → ◌≡◌ {A = Option (List ℕ)} None (Some bytes) → ⊥
none_some bytes e = cc

some_one : {x y : List ℕ} → Some x ≡ Some y → x ≡ y
some_one e = cc

-- ---- tags rise

-- no part of a tag that no part can have
pub above_none : (low top tag : ℕ) (parts : List Lent) → Rise low top parts → top ≤ tag → held parts tag ≡ None
above_none low top tag [] rise le = refl
above_none low top tag (lent ∷ parts) rise le = grind (arith, held-other, ne_eqb, suc, above_none (suc lent.part) top tag parts rise.2 le)

pub below_none : (low top tag : ℕ) (parts : List Lent) → Rise low top parts → tag < low → held parts tag ≡ None
below_none low top tag [] rise lt = refl
below_none low top tag (lent ∷ parts) rise lt =
    let least = rise.0 in
    held-other tag lent parts (ne_eqb lent.part tag (λ e. absurd (omega (arith, least, lt, e))))
    ∙ below_none (suc lent.part) top tag parts rise.2 (omega (arith, least, lt))

pub nothing : (o : Option (List ℕ)) → IsNone o → o ≡ None
nothing x none = grind (arith)

pub rise_wider : (low top : ℕ) (parts : List Lent) → Rise low top parts → Rise low (suc top) parts
rise_wider low top [] rise = tt {0}
rise_wider low top (lent ∷ parts) rise = (rise.0, omega (arith, rise.1), rise_wider (suc lent.part) top parts rise.2)

abbrev pub lent_of : ℕ → List ℕ → Lent
lent_of tag bytes = record { part = tag; bytes = bytes }

pub rise_push : (low top : ℕ) (parts : List Lent) (bytes : List ℕ) → Rise low top parts → low ≤ top
    → Rise low (suc top) (parts ++ lent_of top bytes ∷ [])
rise_push low top [] bytes rise le = (le, omega arith, tt {0})
rise_push low top (lent ∷ parts) bytes rise le =
    let below = rise.1 in
    (rise.0, omega (arith, below), rise_push (suc lent.part) top parts bytes rise.2 (omega (arith, below)))

-- ---- what is held with one more part

push_other : (tag : ℕ) (parts : List Lent) (lent : Lent) → eqb lent.part tag ≡ false → held (parts ++ lent ∷ []) tag ≡ held parts tag
push_other tag [] lent other = held-other tag lent [] other
push_other tag (l ∷ ls) lent other = by (eqb l.part tag) refl (push_other tag ls lent other)
  where
    by : (b : Bool) → eqb l.part tag ≡ b → held (ls ++ lent ∷ []) tag ≡ held ls tag → held (l ∷ (ls ++ lent ∷ [])) tag ≡ held (l ∷ ls) tag
    by true e rest = held-same tag l (ls ++ lent ∷ []) e ∙ sym (held-same tag l ls e)
    by false e rest = held-other tag l (ls ++ lent ∷ []) e ∙ rest ∙ sym (held-other tag l ls e)

push_same : (tag : ℕ) (parts : List Lent) (bytes : List ℕ) → held parts tag ≡ None → held (parts ++ lent_of tag bytes ∷ []) tag ≡ Some bytes
push_same tag [] bytes absent = held-same tag (lent_of tag bytes) [] (eq-eqb tag tag refl)
push_same tag (l ∷ ls) bytes absent = by (eqb l.part tag) refl (push_same tag ls bytes)
  where
    by : (b : Bool) → eqb l.part tag ≡ b → (held ls tag ≡ None → held (ls ++ lent_of tag bytes ∷ []) tag ≡ Some bytes)
        → held (l ∷ (ls ++ lent_of tag bytes ∷ [])) tag ≡ Some bytes
    by true e rest = absurd (none_some l.bytes (sym absent ∙ held-same tag l ls e))
    by false e rest = held-other tag l (ls ++ lent_of tag bytes ∷ []) e ∙ rest (sym (held-other tag l ls e) ∙ absent)

pub file_other : (tag top : ℕ) (parts : List Lent) (file : Option (List ℕ)) → eqb top tag ≡ false → held (with_file parts top file) tag
    ≡ held parts tag
file_other tag top parts x other = grind (arith, push_other)

pub file_same : (tag : ℕ) (parts : List Lent) (file : Option (List ℕ)) → held parts tag ≡ None → held (with_file parts tag file) tag ≡ file
file_same tag parts x absent = grind (arith, push_same)

file_rise : (top : ℕ) (parts : List Lent) (file : Option (List ℕ)) → Rise 0 top parts → Rise 0 (suc top) (with_file parts top file)
file_rise top parts x rise = grind (arith, rise_wider, rise_push)

-- ---- what is asked for goes by the Header and the Directory

part_same : {X : Type 0} (g : Grammar X) (tag : ℕ) (xs ys : List Lent) → held xs tag ≡ held ys tag → read_part g tag xs ≡ read_part g tag ys
unfolding read_part info_in
part_same g tag xs ys same = ap (λ o. framed tag o >>= λ info. formed (reading (info_of tag) g info)) same

directory_same : (xs ys : List Lent) → held xs 1 ≡ held ys 1 → held xs 2 ≡ held ys 2 → read_directory xs ≡ read_directory ys
unfolding read_directory
directory_same xs ys header directory =
    ap (λ h. h >>= λ items. read_part (directory_info items.format) 2 xs) (part_same header_info 1 xs ys header)
    ∙ by (read_part header_info 1 ys)
  where
    by : (h : Result HeaderItems PackFault) → (h >>= λ items. read_part (directory_info items.format) 2 xs)
        ≡ (h >>= λ items. read_part (directory_info items.format) 2 ys)
    by (Ok items) = part_same (directory_info items.format) 2 xs ys directory
    by (Err fault) = refl

-- the Directory that was read is the one of the parts
opening_directory : (parts : List Lent) (o : Opening) → IsOpening parts o → read_directory parts ≡ Ok (directory_items o.directory)
unfolding read_directory
opening_directory parts o is = ap (λ h. h >>= λ items. read_part (directory_info items.format) 2 parts) is.header ∙ is.directory

pub asked_by : (tag : ℕ) (xs ys : List Lent) → held xs 1 ≡ held ys 1 → held xs 2 ≡ held ys 2 → is_asked xs tag ≡ is_asked ys tag
asked_by tag xs ys header directory = ap (λ d. is_required tag || (is_optional tag && is_sized d tag)) (directory_same xs ys header directory)

-- of the first components the same is known whatever is held
asked_first : (tag : ℕ) (xs ys : List Lent) → tag < 3 → is_asked xs tag ≡ is_asked ys tag
asked_first zero xs ys lt = refl
asked_first (suc zero) xs ys lt = refl
asked_first (suc (suc zero)) xs ys lt = refl
asked_first (suc (suc (suc n))) xs ys lt = absurd (omega (arith, lt))

-- one more part after the Directory leaves what is asked for
asked_kept : (tag top : ℕ) (parts : List Lent) (file : Option (List ℕ)) → (tag < 3) ⊎ (3 ≤ top) → is_asked (with_file parts top file) tag
    ≡ is_asked parts tag
asked_kept tag top parts file x = grind (arith, asked_first, asked_by, file_other, ne_eqb)

asked_more : (tag top : ℕ) (parts : List Lent) (file : Option (List ℕ)) → tag ≤ top → is_asked (with_file parts top file) tag ≡ is_asked parts tag
asked_more tag top parts file le = by (ltb tag 3) refl
  where
    by : (b : Bool) → ltb tag 3 ≡ b → is_asked (with_file parts top file) tag ≡ is_asked parts tag
    by true e = asked_kept tag top parts file (inl (ltb-true tag 3 e))
    by false e = let from : 3 ≤ tag = ltb-false tag 3 e in asked_kept tag top parts file (inr (omega (arith, from, le)))

-- ---- the parts with one more

split : (tag top : ℕ) → tag < suc top → (tag ≡ top) ⊎ (tag < top)
split tag top below = eq-or-lt_of_le (omega (arith, below))

loaded_none : (before : Folders) (dir : List ℕ) → AreLoaded before dir 0 []
loaded_none before dir = record { rising = tt {0}; asked = λ tag below is. absurd (omega (arith, below)); unasked = λ tag below is. refl }

module _ (before : Folders) (dir : List ℕ) (top : ℕ) (parts : List Lent) (loaded : AreLoaded before dir top parts) where
  -- the next is not asked for
  loaded_unasked : is_asked parts top ≡ false → AreLoaded before dir (suc top) parts
  loaded_unasked unasked = record {
    rising = rise_wider 0 top parts loaded.rising;
    asked = λ tag below is. elim (split tag top below) [
      | inl same ↦ absurd (true≢false (sym is ∙ ap (is_asked parts) same ∙ unasked))
      | inr less ↦ loaded.asked tag less is
    ];
    unasked = λ tag below is. elim (split tag top below) [
      | inl same ↦ ap is_some (above_none 0 top tag parts loaded.rising (omega (arith, same)))
      | inr less ↦ loaded.unasked tag less is
    ];
  }

  -- the next is asked for, and loaded as the folder has it
  loaded_asked : (file : Option (List ℕ)) → is_asked parts top ≡ true → Has before dir top file
      → AreLoaded before dir (suc top) (with_file parts top file)
  loaded_asked file wanted has = record {
    rising = file_rise top parts file loaded.rising;
    asked = λ tag below is. elim (split tag top below) [
      | inl same ↦ subst (λ t. Has before dir t (held (with_file parts top file) t)) (sym same)
          (subst (λ o. Has before dir top o) (sym (file_same top parts file (above_none 0 top top parts loaded.rising (omega arith)))) has)
      | inr less ↦ subst (λ o. Has before dir tag o) (sym (others tag less))
          (loaded.asked tag less (sym (asked_more tag top parts file (omega (arith, less))) ∙ is))
    ];
    unasked = λ tag below is. elim (split tag top below) [
      | inl same ↦ absurd
          (true≢false (sym wanted ∙ sym (asked_more top top parts file (omega arith)) ∙ ap (is_asked (with_file parts top file)) (sym same) ∙ is))
      | inr less ↦ ap is_some (others tag less) ∙ loaded.unasked tag less (sym (asked_more tag top parts file (omega (arith, less))) ∙ is)
    ];
  }
    where
      others : (tag : ℕ) → tag < top → held (with_file parts top file) tag ≡ held parts tag
      others tag less = file_other tag top parts file (ne_eqb top tag (λ s. absurd (omega (arith, less, s))))

-- ---- one more part

-- what a load read is what the folder has
pub has_read : (before : Folders) (dir to : List ℕ) (tag : ℕ) (r : Result Bool LoadEnd) (there : Bool) → r ≡ Ok there → there ≡ true
    → Loads before.held (tag ∷ dir) to r → Has before dir tag (Some to)
has_read before dir to tag r there is known loads = grind (arith)

-- no part before the first
pub begun : (before : Folders) (dir : List ℕ) (parts : List Lent) → parts ≡ [] → AreLoaded before dir 1 parts
begun before dir parts none = subst (λ ps. AreLoaded before dir 1 ps) (sym none) (loaded_unasked before dir 0 [] (loaded_none before dir) refl)

-- the parts with one more that is asked for
pub one_more : (before now : Folders) (dir : List ℕ) (tag : ℕ) (parts more : List Lent) → AreLoaded before dir tag parts → now ≡ before
    → is_asked parts tag ≡ true → IsPartAdded now dir tag parts more → AreLoaded before dir (tag + 1) more
one_more before now dir tag parts more loaded same asked added =
    let here : IsPartAdded before dir tag parts more = subst (λ f. IsPartAdded f dir tag parts more) same added in
    let step : suc tag ≡ tag + 1 = omega arith in
    subst (λ n. AreLoaded before dir n more) step
    (subst (λ ps. AreLoaded before dir (suc tag) ps) (sym here.adds) (loaded_asked before dir tag parts loaded here.file asked here.has))

-- the parts with one that is not asked for
pub none_more : (before : Folders) (dir : List ℕ) (tag : ℕ) (parts : List Lent) → AreLoaded before dir tag parts → is_asked parts tag ≡ false
    → AreLoaded before dir (tag + 1) parts
none_more before dir tag parts loaded unasked = grind (arith, suc tag, loaded_unasked before dir tag parts loaded unasked)

-- the loads stop at one that is asked for
stopped : (before after : Folders) (dir : List ℕ) (tag : ℕ) (parts old more : List Lent) (stop : LoadStop) → tag < 256 → AreLoaded before dir tag parts
    → is_asked parts tag ≡ true → LoadsFile before after dir tag old more (Err stop) → StopsParts before after dir stop
stopped before after dir tag parts old more x byte loaded asked fails = grind (arith)

pub stopped_there : (before now after : Folders) (dir : List ℕ) (tag : ℕ) (parts old more : List Lent) (stop : LoadStop) → tag < 256
    → AreLoaded before dir tag parts → now ≡ before
    → is_asked parts tag ≡ true → LoadsFile now after dir tag old more (Err stop) → StopsParts before after dir stop
stopped_there before now after dir tag parts old more stop byte loaded same asked loads = grind (arith, stopped)

-- ---- parts after the Header and the Directory

-- a list without a part has none of its tag at its end
pub absent_after : (tag : ℕ) (first rest : List Lent) → held (first ++ rest) tag ≡ None → IsNone (held rest tag)
absent_after tag [] rest none = ap is_some none
absent_after tag (l ∷ ls) rest none = by (eqb l.part tag) refl (absent_after tag ls rest)
  where
    by : (b : Bool) → eqb l.part tag ≡ b → (held (ls ++ rest) tag ≡ None → IsNone (held rest tag)) → IsNone (held rest tag)
    by true e after = absurd (none_some l.bytes (sym none ∙ held-same tag l (ls ++ rest) e))
    by false e after = after (sym (held-other tag l (ls ++ rest) e) ∙ none)

-- what is added to the rest is added to all
pub added_after : (before : Folders) (dir : List ℕ) (tag : ℕ) (first rest more : List Lent) → IsPartAdded before dir tag rest more
    → IsPartAdded before dir tag (first ++ rest) (first ++ more)
added_after before dir tag first rest more added = grind (arith, append_assoc)

-- the Header and the Directory of the first parts
abbrev pub Kept : List Lent → List Lent → Type 0
Kept first all = (held all 1 ≡ held first 1) × (held all 2 ≡ held first 2)

pub kept_none : (first : List Lent) → Kept first (first ++ [])
kept_none first = (ap (λ ps. held ps 1) (append-nil first), ap (λ ps. held ps 2) (append-nil first))

pub kept_more : (before : Folders) (dir : List ℕ) (tag : ℕ) (first parts more : List Lent) → 3 ≤ tag → Kept first parts
    → IsPartAdded before dir tag parts more → Kept first more
kept_more before dir tag first parts more from kept added = grind (arith, file_other, ne_eqb)

pub kept_asked : (tag : ℕ) (first parts : List Lent) → Kept first parts → is_asked parts tag ≡ is_asked first tag
kept_asked tag first parts kept = asked_by tag parts first kept.0 kept.1

-- tags that rise are each once
pub rise_once : (low top : ℕ) (parts : List Lent) → Rise low top parts → HasEachOnce parts
rise_once low top [] rise = tt {0}
rise_once low top (lent ∷ parts) rise = grind (arith, below_none, suc, rise_once (suc lent.part) top parts rise.2)

-- the parts that were loaded one list after the other are each once
pub lent_once : (before : Folders) (dir : List ℕ) (first rest : List Lent) → AreRest before dir first rest → HasEachOnce (first ++ rest)
lent_once before dir first rest loaded = rise_once 0 256 (first ++ rest) loaded.loaded.rising

-- ---- a list after another one

-- a part in a list that has none of a tag is of another tag
another : (tag : ℕ) (parts : List Lent) (lent : Lent) (more : List Lent) → IsNone (held (parts ++ lent ∷ more) tag) → eqb lent.part tag ≡ false
another tag [] lent more absent = by (eqb lent.part tag) refl
  where
    by : (b : Bool) → eqb lent.part tag ≡ b → eqb lent.part tag ≡ false
    by true e = absurd (none_some lent.bytes (sym (nothing (held (lent ∷ more) tag) absent) ∙ held-same tag lent more e))
    by false e = e
another tag (l ∷ ls) lent more absent = by (eqb l.part tag) refl (another tag ls lent more)
  where
    by : (b : Bool) → eqb l.part tag ≡ b → (IsNone (held (ls ++ lent ∷ more) tag) → eqb lent.part tag ≡ false) → eqb lent.part tag ≡ false
    by true e rest = absurd (none_some l.bytes (sym (nothing (held (l ∷ (ls ++ lent ∷ more)) tag) absent) ∙ held-same tag l (ls ++ lent ∷ more) e))
    by false e rest = rest (subst (λ o. IsNone o) (held-other tag l (ls ++ lent ∷ more) e) absent)

-- where each part stands once, those before one are of other tags
absent_before : (parts : List Lent) (lent : Lent) (more : List Lent) → HasEachOnce (parts ++ lent ∷ more) → IsNone (held parts lent.part)
absent_before [] lent more each = refl
absent_before (l ∷ ls) lent more each = grind (arith, eqb, ne_eqb, eqb-false, another, held-other, absent_before ls lent more each.1)

pub next_new : (all parts more : List Lent) (n : ℕ) (lent : Lent) → slice_get more n ≡ Some lent → all ++ drop n more ≡ parts ++ more
    → HasEachOnce (parts ++ more) → IsNone (held all lent.part)
next_new all parts more n lent at whole each = grind (arith, absent_before, drop, drop_here)

pub next_lent : (all parts more new : List Lent) (n : ℕ) (lent : Lent) → slice_get more n ≡ Some lent → new ≡ all ++ lent ∷ []
    → all ++ drop n more ≡ parts ++ more → new ++ drop (n + 1) more ≡ parts ++ more
next_lent all parts more new n lent at pushed whole = grind (arith, drop, append_assoc, drop_here)

-- ---- the end of the loads

rise_up : (low top more : ℕ) (parts : List Lent) → Rise low top parts → top ≤ more → Rise low more parts
rise_up low top more [] rise le = tt {0}
rise_up low top more (lent ∷ parts) rise le = grind (arith, suc, rise_up (suc lent.part) top more parts rise.2 le)

-- all parts are loaded where no other is asked for
pub loaded_all : (before : Folders) (dir : List ℕ) (top : ℕ) (parts : List Lent) → top ≤ 256 → AreLoaded before dir top parts
    → ((tag : ℕ) → top ≤ tag → tag < 256 → is_asked parts tag ≡ false) → AreParts before dir parts
loaded_all before dir top parts high loaded none = record {
  rising = rise_up 0 top 256 parts loaded.rising high;
  asked = λ tag below is. asked_at tag below is (ltb tag top) refl;
  unasked = λ tag below is. unasked_at tag is (ltb tag top) refl;
}
  where
    asked_at : (tag : ℕ) → tag < 256 → is_asked parts tag ≡ true → (b : Bool) → ltb tag top ≡ b → Has before dir tag (held parts tag)
    asked_at tag below is true e = loaded.asked tag (ltb-true tag top e) is
    asked_at tag below is false e = absurd (true≢false (sym is ∙ none tag (ltb-false tag top e) below))

    unasked_at : (tag : ℕ) → is_asked parts tag ≡ false → (b : Bool) → ltb tag top ≡ b → IsNone (held parts tag)
    unasked_at tag is true e = loaded.unasked tag (ltb-true tag top e) is
    unasked_at tag is false e = ap is_some (above_none 0 top tag parts loaded.rising (ltb-false tag top e))

unnamed : (customs : List Custom) (tag : ℕ) → length customs ≡ 0 → custom_size_in customs tag ≡ None
unnamed [] tag none = refl
unnamed (custom ∷ customs) tag none = absurd cc

pub unrequired : (tag : ℕ) → 13 ≤ tag → is_required tag ≡ false
unrequired tag from = grind (arith, leb, lt-leb, eqb, ne_eqb, and-false)

unasked : (parts : List Lent) (tag : ℕ) → 13 ≤ tag → is_sized (read_directory parts) tag ≡ false → is_asked parts tag ≡ false
unasked parts tag from none = rw (unrequired tag from, none, and-false (is_optional tag)) refl

pub ends_read : (parts : List Lent) (o : Opening) (top : ℕ) → IsOpening parts o → EndsSized (directory_items o.directory) top → EndsAsked parts top
ends_read parts o top is = grind (arith, opening_directory, unasked)

pub sized_read : (parts : List Lent) (o : Opening) (tag : ℕ) → IsOpening parts o
    → is_sized (read_directory parts) tag ≡ is_some_size (size_in (directory_items o.directory) tag)
sized_read parts o tag is = ap (λ d. is_sized d tag) (opening_directory parts o is)

-- ---- a folder that tells has one list of parts

told_file : (before : Folders) (parts : Parts) (dir : List ℕ) (tag : ℕ) (file : Option (List ℕ)) → before.held ≡ Some parts
    → Has before dir tag file → fin_map.get parts (tag ∷ dir) ≡ file
told_file before parts dir tag x told has = grind (arith)

-- the lesser of two first tags is held by one list alone
apart : (top : ℕ) (l m : Lent) (ls ms : List Lent) → Rise (suc m.part) top ms → l.part < m.part → held (l ∷ ls) l.part ≡ held (m ∷ ms) l.part
    → ⊥
apart top l m ls ms rise lt one = grind (arith, held-other, ne_eqb, below_none, suc, none_some, held-same, eq-eqb)

module _ (top : ℕ) (x y : Lent) (xs ys : List Lent) (rx : Rise (suc x.part) top xs) (ry : Rise (suc y.part) top ys)
    (same : (tag : ℕ) → held (x ∷ xs) tag ≡ held (y ∷ ys) tag) where
  tails : x.part ≡ y.part → (tag : ℕ) → held xs tag ≡ held ys tag
  tails e tag = of (eqb x.part tag) refl
    where
      of : (b : Bool) → eqb x.part tag ≡ b → held xs tag ≡ held ys tag
      of true here =
          let is = eqb-true x.part tag here in
          below_none (suc x.part) top tag xs rx (omega (arith, is)) ∙ sym (below_none (suc y.part) top tag ys ry (omega (arith, is, e)))
      of false other = sym (held-other tag x xs other) ∙ same tag ∙ held-other tag y ys (subst (λ n. eqb n tag ≡ false) e other)

  first_one : x.part ≡ y.part → x ≡ y
  first_one e =
      let bytes : x.bytes ≡ y.bytes
      = some_one (sym (held-same x.part x xs (eq-eqb x.part x.part refl)) ∙ same x.part ∙ held-same x.part y ys (eq-eqb y.part x.part (sym e))) in
      ap (λ n. lent_of n x.bytes) e ∙ ap (lent_of y.part) bytes

  one_by : (l g : Bool) → ltb x.part y.part ≡ l → ltb y.part x.part ≡ g → (x.part ≡ y.part → xs ≡ ys) → x ∷ xs ≡ y ∷ ys
  one_by true g lt gt rest = absurd (apart top x y xs ys ry (ltb-true x.part y.part lt) (same x.part))
  one_by false true lt gt rest = absurd (apart top y x ys xs rx (ltb-true y.part x.part gt) (sym (same y.part)))
  one_by false false lt gt rest = grind (arith, ltb-false, first_one)

-- tags that rise and hold the same are one list
rise_one : (low top : ℕ) (xs ys : List Lent) → Rise low top xs → Rise low top ys → ((tag : ℕ) → held xs tag ≡ held ys tag) → xs ≡ ys
rise_one low top [] [] rx ry same = refl
rise_one low top [] (y ∷ ys) rx ry same = absurd (none_some y.bytes (same y.part ∙ held-same y.part y ys (eq-eqb y.part y.part refl)))
rise_one low top (x ∷ xs) [] rx ry same = absurd (none_some x.bytes (sym (same x.part) ∙ held-same x.part x xs (eq-eqb x.part x.part refl)))
rise_one low top (x ∷ xs) (y ∷ ys) rx ry same =
    one_by top x y xs ys rx.2 ry.2 same (ltb x.part y.part) (ltb y.part x.part) refl refl
    (λ e. rise_one (suc x.part) top xs ys rx.2 (subst (λ n. Rise (suc n) top ys) (sym e) ry.2) (tails top x y xs ys rx.2 ry.2 same e))

module _ (before : Folders) (parts : Parts) (dir : List ℕ) (told : before.held ≡ Some parts) where
  -- two lists that are loaded have the same for a tag that both ask for
  file_alike : (a b tag : ℕ) (xs ys : List Lent) → AreLoaded before dir a xs → AreLoaded before dir b ys → tag < a → tag < b
      → is_asked xs tag ≡ true → is_asked ys tag ≡ true → held xs tag ≡ held ys tag
  file_alike a b tag xs ys l m below under asked wanted = grind (arith, told_file)

  -- and ask for the same
  asked_alike : (a b tag : ℕ) (xs ys : List Lent) → AreLoaded before dir a xs → AreLoaded before dir b ys → tag ≤ a → tag ≤ b
      → is_asked xs tag ≡ is_asked ys tag
  asked_alike a b tag xs ys l m le less = by (ltb tag 3) refl
    where
      by : (c : Bool) → ltb tag 3 ≡ c → is_asked xs tag ≡ is_asked ys tag
      by true e = asked_first tag xs ys (ltb-true tag 3 e)
      by false e =
          let from : 3 ≤ tag = ltb-false tag 3 e in
          asked_by tag xs ys
          (file_alike a b 1 xs ys l m (omega (arith, from, le)) (omega (arith, from, less)) refl refl)
          (file_alike a b 2 xs ys l m (omega (arith, from, le)) (omega (arith, from, less)) refl refl)

  held_alike : (top tag : ℕ) (xs ys : List Lent) → AreLoaded before dir top xs → AreLoaded before dir top ys → held xs tag ≡ held ys tag
  held_alike top tag xs ys l m = by (ltb tag top) refl
    where
      under : tag < top → (b : Bool) → is_asked xs tag ≡ b → held xs tag ≡ held ys tag
      under below true e =
          file_alike top top tag xs ys l m below below e (sym (asked_alike top top tag xs ys l m (omega (arith, below)) (omega (arith, below))) ∙ e)
      under below false e =
          nothing (held xs tag) (l.unasked tag below e)
          ∙ sym (nothing (held ys tag) (m.unasked tag below (sym (asked_alike top top tag xs ys l m (omega (arith, below)) (omega (arith, below))) ∙ e)))

      by : (b : Bool) → ltb tag top ≡ b → held xs tag ≡ held ys tag
      by true e = under (ltb-true tag top e) (is_asked xs tag) refl
      by false e = grind (arith, ltb-false, above_none)

pub one_list : (before : Folders) (parts : Parts) (dir : List ℕ) (tag : ℕ) (xs ys : List Lent) → before.held ≡ Some parts
    → AreLoaded before dir tag xs → AreLoaded before dir tag ys → xs ≡ ys
one_list before parts dir tag xs ys told l m = rise_one 0 tag xs ys l.rising m.rising (λ n. held_alike before parts dir told tag n xs ys l m)

not_long : (before : Folders) (dir : List ℕ) (tag : ℕ) (file : Option (List ℕ)) → Has before dir tag file
    → IsSomeAnd file (λ bytes. 65538 < length bytes) → ⊥
not_long before dir tag x has beyond = grind (arith)

-- no part is too long where the parts of all tags are loaded
has_no_long : (before : Folders) (parts : Parts) (dir : List ℕ) (tag : ℕ) (file : Option (List ℕ)) → before.held ≡ Some parts
    → Has before dir tag file
    → IsTooLong before (tag ∷ dir) → ⊥
has_no_long before parts dir tag file told has long = grind (arith, told_file, length, not_long)

-- no part below a tag is the first that is too long where the parts below it are loaded
pub none_long : (before : Folders) (parts : Parts) (dir : List ℕ) (top tag : ℕ) (xs : List Lent) → before.held ≡ Some parts
    → AreLoaded before dir top xs → tag < top
    → IsFirstLong before dir tag → ⊥
none_long before parts dir top tag xs told l below first =
    let asked : is_asked xs tag ≡ true
    = asked_alike before parts dir told top tag tag xs first.parts l first.loaded (omega (arith, below)) (omega arith) ∙ first.asked in
    has_no_long before parts dir tag (held xs tag) told (l.asked tag below asked) first.holds
