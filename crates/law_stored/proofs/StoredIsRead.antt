-- What `transform` stores is what a later command reads.
use Rattle.std.proofs.Common.{◌≡◌, ◌≤◌, ◌<◌, ℕ, List, [], ◌∷◌, ◌++◌, Option, Some, None, IsSome, IsNone, ◌⊎◌, inl, inr, true}
use Rattle.std.proofs.Common.{refl, sym, ap, subst, ◌∙◌, arith, true≢false}
use Rattle.std.specs.List.{AllZip}
use Rattle.std.proofs.lemmas.Bool.{cases_eq}
use Rattle.cap_files.specs.Folder.{Parts, Folders, IsThere}
use Rattle.cap_package.specs.PackageRecord.{PackageRecord}
use Rattle.cap_package.specs.Parts.{Lent, held}
use Rattle.cap_package.specs.StandsFor.{StandsFor}
use Rattle.cap_text.specs.Request.{verify}
use Rattle.cap_text.specs.OutOfDirs.{OutOfDirsRequest}
use Rattle.jc_base.specs.World.{Linked}
use Rattle.jc_decode.specs.declared.symbols.Laid.{Laid}
use Rattle.law_package.specs.Rewritten.{IsRewritten}
use Rattle.xf_pack.specs.Transformed.{IsTransformed}
use Rattle.cap_write.specs.WrittenPackage.{IsWritten}
use Rattle.capcheck_core.specs.declared.verdict.Verdict.TheVariants.{Done, Refused, Limit, Malformed, Usage, ReadFault, StoreFault, Memory}
use Rattle.capcheck_core.specs.Completeness.{CanDo}
use Rattle.capcheck_core.specs.Headline.{HoldWorld, AreKept}
use Rattle.capcheck_core.specs.Loads.{Has, AreParts, is_asked}
use Rattle.capcheck_core.specs.Outside.{Outside}
use Rattle.capcheck_core.specs.declared.load.Source.TheVariants.{Components}
use Rattle.capcheck_core.specs.Packages.{ArePartsBy, AreRoleBytes}
use Rattle.capcheck_core.specs.Place.{places}
use Rattle.capcheck_core.specs.Roles.{AreRolesIn, roles_tag}
use Rattle.capcheck_core.specs.Transform.{TransformsWorld, IsBrought, roles_beside}
use Rattle.capcheck_core.proofs.InComponents.{components_zip, places_zip}
use Rattle.capcheck_core.proofs.Promised.{over, are_kept}
use Rattle.law_stored.specs.StoredIsRead.{StoredIsRead, IsReadAgain, IsApart, with_last}
use Rattle.law_stored.proofs.AskedParts.{IsShort, asked_short}
use Rattle.law_stored.proofs.UnaskedParts.{rises, unasked_none}
use Rattle.law_stored.proofs.Kept.{SameElsewhere, stored_here, roles_kept, all_kept}
use Rattle.law_stored.proofs.Ends.{HasLast, last_beside, with_last_beside, none_beside}
use Rattle.std.proofs.lemmas.List.{same_from_push}

-- ---- the parts that are stored are those that the folder is asked for

module _ (dir : List ℕ) (parts : List Lent) (given : Option (List ℕ)) (before after : Folders) (kept : AreKept dir parts given before after) where
  stored_has : (tag : ℕ) → 1 ≤ tag → tag < 256 → IsShort parts tag → Has after dir tag (held parts tag)
  stored_has tag least most short =
      let stored = kept.components tag least most ∙ short.1 in
      let there : IsThere after (tag ∷ dir) short.0 = kept.stand.there tag short.0 stored in
      subst (Has after dir tag) (sym short.1) (there, short.2)

  least_asked : (tag : ℕ) → is_asked parts tag ≡ true → 1 ≤ tag
  least_asked tag e = by (cases_eq tag 0)
    where
      by : (tag ≡ 0) ⊎ (tag ≡ 0 → ⊥) → 1 ≤ tag
      by (inl z) = absurd (true≢false (sym (subst (λ t. is_asked parts t ≡ true) z e)))
      by (inr some) = omega (arith, some)

  module _ (p q : PackageRecord) (was : StandsFor p.parts p) (now : StandsFor parts q) where
    short_here : (tag : ℕ) → is_asked parts tag ≡ true → IsShort parts tag
    short_here tag = subst (λ ps. is_asked ps tag ≡ true → IsShort ps tag) now.said.same
        (asked_short q (subst (λ ps. StandsFor ps q) (sym now.said.same) now) tag)

    stored_parts : (laid : List (Option Laid)) (was_in : List ℕ) → IsRewritten p laid q → IsWritten p laid parts → AreParts before was_in p.parts
        → AreParts after dir parts
    stored_parts laid was_in rewritten w loaded = record {
      rising = rises 0 256 parts w.written.files.rising;
      asked = λ tag lt e. stored_has tag (least_asked tag e) lt (short_here tag e);
      unasked = λ tag lt e. subst IsNone (sym (unasked_none p q laid parts was now rewritten w loaded.unasked tag lt e)) refl;
    }

-- ---- the roles

lone : (packages : List PackageRecord) (p : PackageRecord) (roles : List ℕ) → packages ≡ p ∷ [] → roles_beside packages roles ≡ Some roles
lone packages p roles e = ap (λ ps. roles_beside ps roles) e

-- ---- the worlds

module _ (t : OutOfDirsRequest) (before after : Outside) (libraries : List (List ℕ)) (last : List ℕ) (are : t.dirs ≡ with_last libraries last)
    (apart : IsApart libraries t.out) (w : Linked) (h : HoldWorld Components before.folders t.dirs w) (text : List ℕ)
    (b : IsBrought h.packages h.roles w t.out before.folders after.folders text) where
  abbrev parts : List Lent
  parts = b.brings.parts

  made : IsTransformed h.packages h.roles w parts
  made = b.brings.made

  kept : AreKept t.out parts (roles_beside h.packages h.roles) before.folders after.folders
  kept = are_kept t.out parts (roles_beside h.packages h.roles) b.stores b.brings.order before.folders after.folders b.stored

  elsewhere : SameElsewhere t.out before.folders after.folders
  elsewhere = stored_here t.out kept.stores before.folders after.folders kept.stand

  -- the parts of the libraries, and those of the last package
  loaded : HasLast (AreParts before.folders) libraries last h.parts
  loaded =
      last_beside (AreParts before.folders) libraries last h.parts
      (components_zip before.folders (with_last libraries last) h.parts
      (subst (λ ds. AllZip (ArePartsBy before.folders) (places Components ds) h.parts) are h.given.parts_are))

  packages : HasLast StandsFor loaded.front loaded.end h.packages
  packages = last_beside StandsFor loaded.front loaded.end h.packages (subst (λ ps. AllZip StandsFor ps h.packages) loaded.are h.stand)

  same : (packages.front ≡ made.keeps.libraries) × (packages.end ≡ made.keeps.source)
  same = same_from_push packages.front made.keeps.libraries packages.end made.keeps.source (sym packages.are ∙ made.keeps.are)

  source_stands : StandsFor loaded.end made.keeps.source
  source_stands = subst (StandsFor loaded.end) same.1 packages.at

  source_parts : AreParts before.folders last made.keeps.source.parts
  source_parts = subst (AreParts before.folders last) (sym source_stands.said.same) loaded.at

  stored : AreParts after.folders t.out parts
  stored =
      stored_parts t.out parts (roles_beside h.packages h.roles) before.folders after.folders kept made.keeps.source made.keeps.made
      (subst (λ ps. StandsFor ps made.keeps.source) (sym source_stands.said.same) source_stands) made.keeps.stands made.anew.laid last made.anew.rewritten
      made.anew.written source_parts

  libraries_stand : AllZip StandsFor loaded.front made.keeps.libraries
  libraries_stand = subst (AllZip StandsFor loaded.front) same.0 packages.beside

  roles_are : (ds : List (List ℕ)) → ds ≡ libraries → AreRoleBytes after.folders (places Components (with_last ds t.out)) h.roles
  roles_are [] e =
      let none = none_beside (AreParts before.folders) loaded.front (subst (λ ds. AllZip (AreParts before.folders) ds loaded.front) (sym e) loaded.beside) in
      let no_libraries = none_beside StandsFor packages.front (subst (λ ps. AllZip StandsFor ps packages.front) none packages.beside) in
      let one : h.packages ≡ packages.end ∷ [] = packages.are ∙ ap (λ ps. ps ++ packages.end ∷ []) no_libraries in
      let roles : held kept.stores roles_tag ≡ Some h.roles = kept.roles ∙ lone h.packages packages.end h.roles one in
      let given : AreRolesIn before.folders last h.roles =
      subst (λ ds. AreRoleBytes before.folders (places Components ds) h.roles) (are ∙ ap (λ ds. with_last ds last) (sym e)) h.given.roles_are in
      record { there = kept.stand.there roles_tag h.roles roles; eight = given.eight }
  roles_are (d ∷ ds) e =
      let given : AreRolesIn before.folders d h.roles =
      subst (λ xs. AreRoleBytes before.folders (places Components xs) h.roles) (are ∙ ap (λ xs. with_last xs last) (sym e)) h.given.roles_are in
      let far = subst (λ xs. IsApart xs t.out) (sym e) apart in
      roles_kept t.out before.folders after.folders elsewhere d far.0 h.roles given

  again : HoldWorld Components after.folders (with_last libraries t.out) made.keeps.world
  again = record {
    parts = loaded.front ++ parts ∷ [];
    roles = h.roles;
    given = record {
      parts_are = places_zip after.folders (with_last libraries t.out) (loaded.front ++ parts ∷ [])
          (with_last_beside (AreParts after.folders) libraries loaded.front t.out parts
          (all_kept t.out before.folders after.folders elsewhere libraries loaded.front apart loaded.beside) stored);
      roles_are = roles_are libraries refl;
    };
    packages = made.keeps.libraries ++ made.keeps.made ∷ [];
    stand = with_last_beside StandsFor loaded.front made.keeps.libraries parts made.keeps.made libraries_stand made.keeps.stands;
    linked = made.keeps.linked;
  }

  verifies : (now : Option Parts) → after.folders.held ≡ now → IsSome now → CanDo (verify (with_last libraries t.out)) after.folders
  verifies None e told = absurd cc
  verifies (Some parts) e told = record {
    world = made.keeps.world;
    links = record {
      held = parts;
      told = e;
      parts = again.parts;
      roles = again.roles;
      given = again.given;
      made = record { packages = again.packages; stand = again.stand; linked = again.linked };
    };
    has = made.keeps.carded;
  }

  read_again : IsReadAgain t libraries before.folders after.folders
  read_again = record {
    source = w;
    held = h;
    parts = parts;
    keeps = made.keeps;
    loaded = stored;
    again = again;
    verifies = verifies after.folders.held refl;
  }

pub stored-is-read : StoredIsRead
stored-is-read t before after (Done text) libraries last are apart transforms zero =
    let o = over (TransformsWorld t) t.dirs before after text transforms in
    read_again t before after libraries last are apart o.world o.held _ o.holds.1
stored-is-read t before after (Refused text) libraries last are apart transforms zero = absurd cc
stored-is-read t before after (Limit text) libraries last are apart transforms zero = absurd cc
stored-is-read t before after (Malformed text) libraries last are apart transforms zero = absurd cc
stored-is-read t before after Usage libraries last are apart transforms zero = absurd cc
stored-is-read t before after ReadFault libraries last are apart transforms zero = absurd cc
stored-is-read t before after StoreFault libraries last are apart transforms zero = absurd cc
stored-is-read t before after Memory libraries last are apart transforms zero = absurd cc
