-- What a folder has stays where something is stored in another one.
use Rattle.std.proofs.Common.{arith}
use Rattle.std.proofs.Common.{◌≡◌, ℕ, List, [], ◌∷◌, Option, Some, None, IfSome, IsNone, IsSome, sym}
use Rattle.std.specs.FinMap as map
use Rattle.std.specs.Prelude.{IsSomeAnd}
use Rattle.std.specs.List.{AllZip}
use Rattle.cap_files.specs.Folder.{Parts, Folders, IsThere}
use Rattle.cap_components.specs.Parts.{Lent, held}
use Rattle.capcheck_core.specs.Headline.{StandIn}
use Rattle.capcheck_core.specs.Loads.{Has, AreParts}
use Rattle.capcheck_core.specs.Roles.{AreRolesIn, roles_tag}
use Rattle.law_stored.specs.StoredIsRead.{IsApart}

same_dir : (tag n : ℕ) (xs ys : List ℕ) → tag ∷ xs ≡ n ∷ ys → xs ≡ ys
same_dir tag n xs ys e = cc

-- a key has the same in both, where the folders afterwards tell what they hold
abbrev SameAt : List ℕ → Option Parts → Option Parts → Type 0
SameAt key now old = IfSome now (λ n. IsSomeAnd old (λ o. map.get n key ≡ map.get o key))

-- so has each key of a folder other than this one
abbrev pub SameElsewhere : List ℕ → Folders → Folders → Type 0
SameElsewhere out before after = (dir : List ℕ) → ¬ (dir ≡ out) → (tag : ℕ) → SameAt (tag ∷ dir) after.held before.held

-- what is stored in one folder leaves the others
pub stored_here : (out : List ℕ) (stores : List Lent) (before after : Folders) → StandIn out stores before after → SameElsewhere out before after
stored_here out stores before after stand dir apart tag = by after.held before.held stand.others
  where
    by : (now old : Option Parts)
        → IfSome now (λ n. IsSomeAnd old (λ o. (key : List ℕ) → ((t : ℕ) → key ≡ t ∷ out → IsNone (held stores t)) → map.get n key ≡ map.get o key))
        → SameAt (tag ∷ dir) now old
    by None old h = tt {0}
    by (Some n) None h = absurd h
    by (Some n) (Some o) h = h (tag ∷ dir) (λ t e. absurd (apart (same_dir tag t dir out e)))

-- where the folders afterwards tell, they were the same before
pub turned : (out : List ℕ) (before after : Folders) → IsSome after.held → SameElsewhere out before after → SameElsewhere out after before
turned out before after told same dir apart tag = by after.held before.held told (same dir apart tag)
  where
    by : (now old : Option Parts) → IsSome now → SameAt (tag ∷ dir) now old → SameAt (tag ∷ dir) old now
    by None old some s = absurd cc
    by (Some n) None some s = absurd s
    by (Some n) (Some o) some s = sym s

module _ (out : List ℕ) (before after : Folders) (same : SameElsewhere out before after) where
  found_kept : (key : List ℕ) (found : Option (List ℕ)) (now old : Option Parts) → SameAt key now old → IfSome old (λ parts. map.get parts key ≡ found)
      → IfSome now (λ parts. map.get parts key ≡ found)
  found_kept key found x old s h = grind (arith)

  module _ (dir : List ℕ) (apart : ¬ (dir ≡ out)) where
    there_kept : (tag : ℕ) (bytes : List ℕ) → IsThere before (tag ∷ dir) bytes → IsThere after (tag ∷ dir) bytes
    there_kept tag bytes h = found_kept (tag ∷ dir) (Some bytes) after.held before.held (same dir apart tag) h

    has_kept : (tag : ℕ) (file : Option (List ℕ)) → Has before dir tag file → Has after dir tag file
    has_kept tag None h = found_kept (tag ∷ dir) None after.held before.held (same dir apart tag) h
    has_kept tag (Some bytes) h = (there_kept tag bytes h.0, h.1)

    parts_kept : (parts : List Lent) → AreParts before dir parts → AreParts after dir parts
    parts_kept parts h = grind (arith, has_kept)

    pub roles_kept : (roles : List ℕ) → AreRolesIn before dir roles → AreRolesIn after dir roles
    roles_kept roles h = record { there = there_kept roles_tag roles h.there; eight = h.eight }

  pub all_kept : (dirs : List (List ℕ)) (parts : List (List Lent)) → IsApart dirs out → AllZip (AreParts before) dirs parts
      → AllZip (AreParts after) dirs parts
  all_kept [] [] apart h = h
  all_kept [] (p ∷ ps) apart h = absurd h
  all_kept (d ∷ ds) [] apart h = absurd h
  all_kept (d ∷ ds) (p ∷ ps) apart h = (parts_kept d apart.0 p h.0, all_kept ds ps apart.1 h.1)
