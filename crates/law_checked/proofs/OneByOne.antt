-- Folders that are checked one by one hold packages that are checked one by one.
use Rattle.std.proofs.Common.{◌≡◌, ◌<◌, ◌≤◌, ℕ, zero, suc, List, [], ◌∷◌, length, take, IsSome}
use Rattle.std.proofs.Common.{All, refl, sym, ap, subst, arith}
use Rattle.std.specs.List.{AllZip}
use Rattle.cap_files.specs.Folder.{Folders}
use Rattle.cap_package.specs.PackageRecord.{PackageRecord}
use Rattle.cap_package.specs.Parts.{Lent}
use Rattle.cap_package.specs.StandsFor.{StandsFor}
use Rattle.jc_base.specs.World.{Linked}
use Rattle.jc_resolve.specs.Named.{IsAgreed}
use Rattle.jc_link.specs.World.{IsLinked}
use Rattle.law_sound.specs.Soundness.{IsFaultFree}
use Rattle.law_added.specs.Checked.{IsChecked, AreCheckedOneByOne, CheckedPackagesNeverFault}
use Rattle.capcheck_core.specs.Loads.{AreParts}
use Rattle.capcheck_core.specs.declared.load.Source.TheVariants.{Components}
use Rattle.capcheck_core.specs.Packages.{AreRoleBytes}
use Rattle.capcheck_core.specs.Place.{Place, places}
use Rattle.capcheck_core.specs.Headline.{HoldWorld}
use Rattle.capcheck_core.proofs.InComponents.{components_zip}
use Rattle.capcheck_core.proofs.WorldComplete.{one_package}
use Rattle.law_checked.specs.CheckedFolders.{IsCheckedTo, AreCheckedFolders, CheckedFoldersNeverFault}
use Rattle.law_checked.proofs.OneFolder.{parts_one, roles_one}

-- ---- lists place by place

-- what is told of the first elements of a list is told of the first elements
zip_taken : {A B : Type 0} (R S : A → B → Type 0) → ((x : A) (y z : B) → R x y → S x z → y ≡ z) → (k : ℕ) (xs : List A) (ys zs : List B)
    → AllZip R xs ys → AllZip S (take k xs) zs → zs ≡ take k ys
zip_taken R S one zero xs ys [] h g = refl
zip_taken R S one zero xs ys (z ∷ zs) h g = absurd g
zip_taken R S one (suc k) [] [] [] h g = refl
zip_taken R S one (suc k) [] (y ∷ ys) zs h g = absurd h
zip_taken R S one (suc k) [] [] (z ∷ zs) h g = absurd g
zip_taken R S one (suc k) (x ∷ xs) [] zs h g = absurd h
zip_taken R S one (suc k) (x ∷ xs) (y ∷ ys) [] h g = absurd g
zip_taken R S one (suc k) (x ∷ xs) (y ∷ ys) (z ∷ zs) h g = grind (arith, zip_taken R S one k xs ys zs h.1 g.1)

zip_long : {A B : Type 0} (R : A → B → Type 0) (xs : List A) (ys : List B) → AllZip R xs ys → length xs ≡ length ys
zip_long R [] [] h = refl
zip_long R [] (y ∷ ys) h = absurd h
zip_long R (x ∷ xs) [] h = absurd h
zip_long R (x ∷ xs) (y ∷ ys) h = ap suc (zip_long R xs ys h.1)

-- ---- packages

agreed : (ps : List (List Lent)) (qs : List PackageRecord) → AllZip StandsFor ps qs → All IsAgreed qs
agreed [] [] h i d lt = absurd (omega (arith, lt))
agreed [] (q ∷ qs) h i d lt = absurd h
agreed (p ∷ ps) [] h i d lt = absurd h
agreed (p ∷ ps) (q ∷ qs) h zero d lt = subst (λ x. StandsFor x q) (sym h.0.said.same) h.0
agreed (p ∷ ps) (q ∷ qs) h (suc i) d lt = agreed ps qs h.1 i d (omega (arith, lt))

-- ---- folders

module _ (before : Folders) (dirs : List (List ℕ)) (w : Linked) (told : IsSome before.held) (held : HoldWorld Components before dirs w) where
  some_roles : (ds : List Place) (roles : List ℕ) → AreRoleBytes before ds roles → 0 < length roles
  some_roles x roles h = grind (arith)

  same_roles : (now : Folders) → now.held ≡ before.held → (k : ℕ) (ds : List (List ℕ)) (xs ys : List ℕ) → 1 ≤ k
      → AreRoleBytes before (places Components ds) xs → AreRoleBytes now (places Components (take k ds)) ys → ys ≡ xs
  same_roles now same zero ds xs ys le a b = absurd (omega (arith, le))
  same_roles now same (suc k) [] xs ys le a b = absurd a
  same_roles now same (suc k) (d ∷ ds) xs ys le a b = sym (roles_one before now same told d xs ys a b)

  is_checked : (k : ℕ) → 1 ≤ k → IsCheckedTo before dirs k → IsChecked held.packages held.roles k
  is_checked k le x =
      let then = x.promised.held in
      let parts = zip_taken (AreParts before) (AreParts x.then_held) (λ dir ys zs a b. parts_one before x.then_held x.same told dir ys zs a b) k dirs
      held.parts then.parts (components_zip before dirs held.parts held.given.parts_are)
      (components_zip x.then_held (take k dirs) then.parts then.given.parts_are) in
      let packages = zip_taken StandsFor StandsFor one_package k held.parts held.packages then.packages held.stand
      (subst (λ ps. AllZip StandsFor ps then.packages) parts then.stand) in
      let roles = same_roles x.then_held x.same k dirs held.roles then.roles le held.given.roles_are then.given.roles_are in
      record {
        world = x.promised.world;
        linked = subst (λ rs. IsLinked (take k held.packages) rs x.promised.world) roles
            (subst (λ ps. IsLinked ps then.roles x.promised.world) packages then.linked);
        typed = x.promised.typed;
      }

  checked_all : AreCheckedFolders before dirs → AreCheckedOneByOne held.packages held.roles
  checked_all each k least most =
      let long = zip_long (AreParts before) dirs held.parts (components_zip before dirs held.parts held.given.parts_are) in
      let all = zip_long StandsFor held.parts held.packages held.stand in
      is_checked k least (each k least (omega (arith, most, long, all)))

  pub folders-checked : CheckedPackagesNeverFault w → AreCheckedFolders before dirs → IsFaultFree w
  folders-checked sound each =
      sound held.packages held.roles (some_roles (places Components dirs) held.roles held.given.roles_are)
      (agreed held.parts held.packages held.stand) held.linked
      (checked_all each)

pub checked-folders-never-fault : (w : Linked) → CheckedPackagesNeverFault w → CheckedFoldersNeverFault w
checked-folders-never-fault w sound before dirs told held each = folders-checked before dirs w told held sound each
