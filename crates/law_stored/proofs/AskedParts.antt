-- The parts of a package that its Directory asks for are there, and none is longer than a component can be.
use Rattle.std.proofs.Common.{◌≡◌, ◌≤◌, ◌<◌, ◌-◌, ℕ, Bool, true, false, List, length, find, Option, Some, None, Ok, ◌⊎◌, inl, inr}
use Rattle.std.proofs.Common.{refl, sym, ap, subst, ◌∙◌, arith, true≢false, option_map}
use Rattle.std.specs.Prelude.{◌==◌, ◌&&◌, ◌||◌, not, nat_le, slice_get, unwrap_or, if◌then◌else◌}
use Rattle.std.proofs.lemmas.Bool.{cases_eq}
use Rattle.std.proofs.lemmas.Bool.Decides.{nat_tests}
use Rattle.cap_bytes.specs.Grammar.{Grammar}
use Rattle.cap_bytes.specs.Spelling.{Stands}
use Rattle.cap_frame.specs.Directory.{size_in, custom_size_in}
use Rattle.cap_frame.specs.DirectoryFormat.{Custom}
use Rattle.cap_frame.specs.Frame.{component}
use Rattle.cap_components.specs.Components.{read_directory}
use Rattle.cap_components.specs.PackageRecord.{PackageRecord}
use Rattle.cap_components.specs.Parts.{Lent, held}
use Rattle.cap_components.specs.Saying.{HoldsComponent}
use Rattle.cap_package.specs.StandsFor.{StandsFor}
use Rattle.law_package.specs.RewrittenPackage.{IsSizeOf}
use Rattle.law_package.proofs.Lists.{Each, each_at}
use Rattle.law_package.proofs.Sized.{directory_read}
use Rattle.cap_load.proofs.Framing.{file_long}
use Rattle.cap_write.proofs.Customs.{has_tag}
use Rattle.cap_write.proofs.Told.{Tells, tells_sizes, custom_told, tags_from, has_tag_from}
use Rattle.capcheck_core.specs.Loads.{is_required, is_optional, is_some_size, is_sized, is_asked}

-- the part is there, and no longer than a component can be
abbrev pub IsShort : List Lent → ℕ → Type 0
IsShort parts tag = (file : List ℕ) × (held parts tag ≡ Some file) × (length file ≤ 65538)

framed_short : (parts : List Lent) (tag : ℕ) (file info : List ℕ) → held parts tag ≡ Some file → Stands (component tag) file info → IsShort parts tag
framed_short parts tag file info e s = (file, e, file_long (record { part = tag; bytes = file }) (info, s))

said_short : {X : Type 0} (parts : List Lent) (tag : ℕ) (g : Grammar X) (info : List ℕ) (items : X) → HoldsComponent parts tag g info items
    → IsShort parts tag
said_short parts tag g info items h = framed_short parts tag h.file info h.there h.framed

-- ---- tags

required_least : (tag : ℕ) → is_required tag ≡ true → 1 ≤ tag
required_least tag e = grind (arith, nat_tests, e)

required_most : (tag : ℕ) → is_required tag ≡ true → tag ≤ 12
required_most tag e = grind (arith, nat_tests, e)

custom_least : (tag : ℕ) → is_optional tag ≡ true → (tag ≡ 3 → ⊥) → (tag ≡ 10 → ⊥) → 128 ≤ tag
custom_least tag e three ten = grind (arith, nat_tests, e, three, ten)

pub outside : (tag : ℕ) → 12 < tag → (nat_le 1 tag && nat_le tag 12) ≡ false
outside tag far = grind (arith, nat_tests, far)

-- ---- what is asked for

module _ (p : PackageRecord) (s : StandsFor p.parts p) where
  pub directory_is : read_directory p.parts ≡ Ok p.directory
  directory_is = directory_read p.parts p s.said

  abbrev Required : ℕ → Type 0
  Required tag = is_required tag ≡ true → IsShort p.parts tag

  required_each : Each Required (tags_from 1 12)
  required_each =
      let said = s.said in (
        λ e. said_short p.parts 1 _ said.header.0 p.header said.header.1,
        (
          λ e. said_short p.parts 2 _ said.directory.0 p.directory said.directory.1,
          (
            λ e. absurd (true≢false (sym e)),
            (
              λ e. said_short p.parts 4 _ said.imports.0 p.imports said.imports.1,
              (
                λ e. said_short p.parts 5 _ said.pool.0 p.pool said.pool.1,
                (
                  λ e. said_short p.parts 6 _ said.classes.0 p.classes said.classes.1,
                  (
                    λ e. said_short p.parts 7 _ p.methods.info p.methods.handlers said.methods,
                    (
                      λ e. said_short p.parts 8 _ said.statics.0 p.statics said.statics.1,
                      (
                        λ e. said_short p.parts 9 _ said.locations.0 p.locations said.locations.1,
                        (
                          λ e. absurd (true≢false (sym e)),
                          (λ e. said_short p.parts 11 _ p.description.info p.description.items said.description, (λ e. absurd (true≢false (sym e)), tt)),
                        ),
                      ),
                    ),
                  ),
                ),
              ),
            ),
          ),
        ),
      )

  required_short : (tag : ℕ) → is_required tag ≡ true → IsShort p.parts tag
  required_short tag e =
      let least = required_least tag e in
      let most = required_most tag e in
      each_at Required (tags_from 1 12) tag required_each (has_tag_from 1 12 tag least (omega (arith, most))) e

  custom_tells : (tag : ℕ) → 128 ≤ tag → Tells p tag
  custom_tells tag least size k =
      found (find (has_tag tag) p.directory.customs) refl
      (sym (ap (λ b. if b then Some (unwrap_or (slice_get p.directory.sizes (tag - 1)) 0) else custom_size_in p.directory.customs tag)
      (outside tag (omega (arith, least)))) ∙ k)
    where
      found : (o : Option Custom) → find (has_tag tag) p.directory.customs ≡ o → option_map (λ (c : Custom). c.size) o ≡ Some size
          → IsSizeOf tag size (held p.parts tag)
      found None e h = absurd (cc)
      found (Some c) e h = custom_told p tag c s e size k

  optional_tells : (tag : ℕ) → is_optional tag ≡ true → Tells p tag
  optional_tells tag e = by (cases_eq tag 3) (cases_eq tag 10)
    where
      by : (tag ≡ 3) ⊎ (tag ≡ 3 → ⊥) → (tag ≡ 10) ⊎ (tag ≡ 10 → ⊥) → Tells p tag
      by (inl three) ten = subst (Tells p) (sym three) (tells_sizes p s).applets
      by (inr three) (inl ten) = subst (Tells p) (sym ten) (tells_sizes p s).export
      by (inr three) (inr ten) = custom_tells tag (custom_least tag e three ten)

  some_size : (tag : ℕ) → is_sized (Ok p.directory) tag ≡ true → (size : ℕ) × (size_in p.directory tag ≡ Some size) × (size ≡ 0 → ⊥)
  some_size tag e = by (size_in p.directory tag) refl e
    where
      by : (o : Option ℕ) → size_in p.directory tag ≡ o → is_some_size o ≡ true → (size : ℕ) × (size_in p.directory tag ≡ Some size) × (size ≡ 0 → ⊥)
      by None f h = absurd (true≢false (sym h))
      by (Some size) f h = (size, f, λ z. true≢false (sym (subst (λ n. not (n == 0) ≡ true) z h)))

  sized_there : (tag : ℕ) → is_optional tag ≡ true → is_sized (Ok p.directory) tag ≡ true → IsShort p.parts tag
  sized_there tag o e = grind (arith, some_size, optional_tells, framed_short)

  pub asked_short : (tag : ℕ) → is_asked p.parts tag ≡ true → IsShort p.parts tag
  asked_short tag e =
      by (is_required tag) refl (is_optional tag) refl (is_sized (Ok p.directory) tag) refl
      (subst (λ d. (is_required tag || (is_optional tag && is_sized d tag)) ≡ true) directory_is e)
    where
      by : (a : Bool) → is_required tag ≡ a → (b : Bool) → is_optional tag ≡ b → (c : Bool) → is_sized (Ok p.directory) tag ≡ c → (a || (b && c)) ≡ true
          → IsShort p.parts tag
      by true a b f c g h = required_short tag a
      by false a true f true g h = sized_there tag f g
      by false a true f false g h = absurd (true≢false (sym h))
      by false a false f c g h = absurd (true≢false (sym h))
