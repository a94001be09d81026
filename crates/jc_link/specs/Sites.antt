-- Members by where they are described: a static field at an offset in the image of its package, an instance field at a token of its class.
use Rattle.std.specs.Prelude.{Bool, true, false, List, [], ◌∷◌, Option, Some, None, fold, is_some, ◌==◌, ◌&&◌}
use Rattle.std.specs.Prelude.{if◌then◌else◌}
use Rattle.std.specs.Map.{lookup}
use Rattle.indexmap.specs.IndexMap.{insert_entry}
use Rattle.jc_base.specs.declared.record.Member.{Member}
use Rattle.jc_link.specs.declared.sites.Spot.{Spot}

-- exactly one thing
abbrev pub only : {X : Type 0} → List X → Option X
only [] = None
only (x ∷ []) = Some x
only (x ∷ y ∷ xs) = None

abbrev pub is_there : {X : Type 0} → List X → Bool
is_there [] = false
is_there (x ∷ xs) = true

-- a member with the spot where it is described
pub record MemberSite : Type 0 where
  pub spot : Spot
  pub member : Member

abbrev pub same_spot : Spot → Spot → Bool
same_spot a b = a.owner == b.owner && a.number == b.number

-- the members at a spot
abbrev pub members_standing : List MemberSite → Spot → List Member
members_standing [] spot = []
members_standing (s ∷ sites) spot =
    if same_spot spot s.spot then s.member ∷ members_standing sites spot else members_standing sites spot

-- ---- the same as a table keeps it: at each spot the one member, or that there are several

abbrev pub kept_at : List (Spot × Option Member) → Spot → Option (Option Member)
kept_at entries spot = lookup (same_spot spot) entries

unfoldable pub added_entry : List (Spot × Option Member) → MemberSite → List (Spot × Option Member)
added_entry entries s = insert_entry same_spot entries s.spot (if is_some (kept_at entries s.spot) then None else Some s.member)

abbrev pub all_entered : List (Spot × Option Member) → List MemberSite → List (Spot × Option Member)
all_entered = fold added_entry
