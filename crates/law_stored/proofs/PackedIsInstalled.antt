-- What `pack` stores is installed exactly as `verify` accepts its source.
use Rattle.std.proofs.Common.{arith}
use Rattle.std.proofs.Common.{◌≡◌, ℕ, List, [], ◌∷◌, ◌++◌, Option, Some, None, IsSome, IfSome, IsNone, refl, sym, subst}
use Rattle.std.specs.FinMap as fin_map
use Rattle.std.specs.Prelude.{IsSomeAnd}
use Rattle.std.specs.List.{AllZip}
use Rattle.cap_components.specs.Parts.{Lent, held}
use Rattle.cap_files.specs.Folder.{Parts, Folders}
use Rattle.cap_index.specs.Component.{index_in}
use Rattle.cap_load.specs.LoadFile.{IsLoadFile}
use Rattle.cap_load.proofs.Cuts.{packed_loads}
use Rattle.cap_load.proofs.Streams.{one_list as one_stream}
use Rattle.cap_package.specs.PackageRecord.{PackageRecord}
use Rattle.cap_package.specs.StandsFor.{StandsFor}
use Rattle.cap_text.specs.OutOfDir.{OutOfDirRequest}
use Rattle.jc_base.specs.World.{Linked}
use Rattle.jc_link.specs.World.{IsLinked}
use Rattle.xf_share.specs.Ends.{HaveCardTypings}
use Rattle.capcheck_core.specs.declared.load.Source.{Source}
use Rattle.capcheck_core.specs.declared.load.Source.TheVariants.{Components, LoadFile}
use Rattle.capcheck_core.specs.Completeness.{CanOverPlaces}
use Rattle.capcheck_core.specs.Headline.{HoldWorld, Packed, StandIn}
use Rattle.capcheck_core.specs.InLoadFile.{AreInLoadFile, load_tag, load_key}
use Rattle.capcheck_core.specs.Loads.{AreParts}
use Rattle.capcheck_core.specs.Pack.{load_stores}
use Rattle.capcheck_core.specs.Packages.{ArePartsAt, AreRoleBytes}
use Rattle.capcheck_core.specs.Place.{places}
use Rattle.capcheck_core.specs.Roles.{AreRolesIn, HasRoles}
use Rattle.capcheck_core.proofs.Loads.{one_list}
use Rattle.capcheck_core.proofs.WorldComplete.{one_file, not_absent}
use Rattle.law_relink.proofs.Lists.{map_last}
use Rattle.law_stored.specs.StoredIsRead.{IsApart, with_last}
use Rattle.law_stored.specs.PackedIsInstalled.{HoldTheSame, read_from, IsSamePackage, Side, Makes, IsAcceptedOn, IsRefusedOn, AnswerAlike, verified, installed}
use Rattle.law_stored.specs.PackedIsInstalled.{HaveRoles, IsInstalledAsVerified, PackedIsInstalled}
use Rattle.law_stored.proofs.ChosenParts.{chosen_same}
use Rattle.law_stored.proofs.Ends.{HasLast, last_beside, with_last_beside}
use Rattle.law_stored.proofs.Kept.{SameElsewhere, stored_here, turned, roles_kept, all_kept}
use Rattle.law_stored.proofs.LastPlaces.{placed, of_places}
use Rattle.law_stored.proofs.LinksAlike.{AreAlike, link_alike}
use Rattle.law_stored.proofs.MovedParts.{stand_moved, index_moved}
use Rattle.law_stored.proofs.NamesAlike.{bare}

-- ---- worlds of which the last package has its parts in another order

last_alike : (ps : List PackageRecord) (p : PackageRecord) (moved : List Lent) → index_in (read_from moved p) ≡ index_in p
    → AreAlike (ps ++ p ∷ []) (ps ++ read_from moved p ∷ [])
last_alike ps p moved index =
    record { same = map_last bare ps (read_from moved p) p refl; indexes = map_last index_in ps (read_from moved p) p (sym index) }

-- the parts of the last package in the first folders are only these, and those in the second hold the same; the libraries are in both
module _ (s t : Source) (f g : Folders) (libraries : List (List ℕ)) (a b : List ℕ) (parts moved : List Lent)
    (only : (others : List Lent) → ArePartsAt f s a others → others ≡ parts) (there : ArePartsAt g t b moved) (same : HoldTheSame moved parts)
    (kept : (fronts : List (List Lent)) → AllZip (AreParts f) libraries fronts → AllZip (AreParts g) libraries fronts)
    (roles_stay : (roles : List ℕ) → AreRoleBytes f (places s (with_last libraries a)) roles → AreRoleBytes g (places t (with_last libraries b)) roles)
  where
    pub moved_world : (w : Linked) → HoldWorld s f (with_last libraries a) w → HoldWorld t g (with_last libraries b) w
    moved_world w h =
        let at = of_places s f libraries a h.parts h.given.parts_are in
        let packages : HasLast StandsFor at.front at.end h.packages =
        last_beside StandsFor at.front at.end h.packages (subst (λ ps. AllZip StandsFor ps h.packages) at.are h.stand) in
        let stands : StandsFor parts packages.end = subst (λ ps. StandsFor ps packages.end) (only at.end at.at) packages.at in
        record {
          parts = at.front ++ moved ∷ [];
          roles = h.roles;
          given = record {
            parts_are = placed t g libraries b at.front moved (kept at.front at.beside) there;
            roles_are = roles_stay h.roles h.given.roles_are;
          };
          packages = packages.front ++ read_from moved packages.end ∷ [];
          stand = with_last_beside StandsFor at.front packages.front moved (read_from moved packages.end) packages.beside
              (stand_moved moved parts same packages.end stands);
          linked = link_alike (packages.front ++ packages.end ∷ []) (packages.front ++ read_from moved packages.end ∷ [])
              (last_alike packages.front packages.end moved (index_moved moved parts same packages.end stands.said.same)) h.roles w
              (subst (λ ps. IsLinked ps h.roles w) packages.are h.linked);
        }

    pub can_also : (now : Parts) → g.held ≡ Some now
        → CanOverPlaces (λ packages roles w. HaveCardTypings w) (places s (with_last libraries a)) f
        → CanOverPlaces (λ packages roles w. HaveCardTypings w) (places t (with_last libraries b)) g
    can_also now told can =
        let l = can.links in
        let h = moved_world can.world (record {
          parts = l.parts;
          roles = l.roles;
          given = l.given;
          packages = l.made.packages;
          stand = l.made.stand;
          linked = l.made.linked;
        }) in
        record {
          world = can.world;
          links = record {
            held = now;
            told = told;
            parts = h.parts;
            roles = h.roles;
            given = h.given;
            made = record { packages = h.packages; stand = h.stand; linked = h.linked };
          };
          has = can.has;
        }

-- ---- what is answered of the same worlds

accepted_also : (first second : Side) → ((w : Linked) → Makes first w → Makes second w) → (text : List ℕ) → IsAcceptedOn first text
    → IsAcceptedOn second text
accepted_also first second worlds text h = record {
  world = h.world;
  held = worlds h.world h.held;
  carded = h.carded;
  fault_free = h.fault_free;
  prints = h.prints;
}

refused_also : (first second : Side) → ((w : Linked) → Makes first w → Makes second w) → (text : List ℕ) → IsRefusedOn first text
    → IsRefusedOn second text
refused_also first second worlds text h = record { world = h.world; held = worlds h.world h.held; tells = h.tells }

answer_alike : (first second : Side) → ((w : Linked) → Makes first w → Makes second w) → ((w : Linked) → Makes second w → Makes first w)
    → AnswerAlike first second
answer_alike first second go back = record {
  worlds = λ w. (go w, back w);
  accepted = λ text. (accepted_also first second go text, accepted_also second first back text);
  refused = λ text. (refused_also first second go text, refused_also second first back text);
}

-- ---- what the folders tell

pub record BothTell (before after : Folders) : Type 0 where
  pub old : Parts
  pub told : before.held ≡ Some old
  pub now : Parts
  pub tells : after.held ≡ Some now

both_tell : (out : List ℕ) (stores : List Lent) (before after : Folders) → StandIn out stores before after → IsSome after.held
    → BothTell before after
both_tell out stores before after stand some = by after.held refl before.held refl stand.others some
  where
    by : (now : Option Parts) → after.held ≡ now → (old : Option Parts) → before.held ≡ old
        → IfSome now (λ n. IsSomeAnd old (λ o. (key : List ℕ) → ((t : ℕ) → key ≡ t ∷ out → IsNone (held stores t))
        → fin_map.get n key ≡ fin_map.get o key))
        → IsSome now → BothTell before after
    by None e old h others some = absurd cc
    by (Some n) e None h others some = absurd others
    by (Some n) e (Some o) h others some = record { old = o; told = h; now = n; tells = e }

-- ---- what was packed

module _ (o : OutOfDirRequest) (before after : Folders) (text : List ℕ) (packed : Packed o before after text) where
  abbrev moved : List Lent
  moved = packed.packed.chosen

  same : HoldTheSame moved packed.parts
  same = chosen_same before o.dir packed.parts packed.loaded moved packed.packed.components

  stream_held : (roles : Option (List ℕ)) → held (load_stores packed.stream roles) load_tag ≡ Some packed.stream
  stream_held x = grind (arith)

  in_file : AreInLoadFile after o.out moved
  in_file = grind (arith, stream_held packed.roles, packed_loads packed.parts packed.stream packed.packed)

  same_package : IsSamePackage o before after
  same_package = record {
    parts = packed.parts;
    loaded = packed.loaded;
    read = packed.read;
    stands = packed.stands;
    moved = moved;
    in_file = in_file;
    same = same;
    again = stand_moved moved packed.parts same packed.read packed.stands;
  }

  module _ (libraries : List (List ℕ)) (apart : IsApart libraries o.out) (some : IsSome after.held) where
    both : BothTell before after
    both = both_tell o.out (load_stores packed.stream packed.roles) before after packed.stand some

    elsewhere : SameElsewhere o.out before after
    elsewhere = stored_here o.out (load_stores packed.stream packed.roles) before after packed.stand

    back : SameElsewhere o.out after before
    back = turned o.out before after some elsewhere

    only_parts : (others : List Lent) → AreParts before o.dir others → others ≡ packed.parts
    only_parts others l = one_list before both.old o.dir 256 others packed.parts both.told l packed.loaded

    only_moved : (others : List Lent) → AreInLoadFile after o.out others → others ≡ moved
    only_moved others l =
        let is = one_file after both.now both.tells (load_key o.out) l.stream in_file.stream l.there in_file.there in
        one_stream in_file.stream others moved (subst (λ bytes. IsLoadFile bytes others) is l.loads) in_file.loads

    -- ---- roles

    lone_roles : (given : Option (List ℕ)) → HasRoles before o.dir given → StandIn o.out (load_stores packed.stream given) before after
        → (roles : List ℕ) → AreRolesIn before o.dir roles → AreRolesIn after o.out roles
    lone_roles x has stand roles are = grind (arith, not_absent, both, one_file)

    roles_go : (ls : List (List ℕ)) → IsApart ls o.out → (roles : List ℕ) → AreRoleBytes before (places Components (with_last ls o.dir)) roles
        → AreRoleBytes after (places LoadFile (with_last ls o.out)) roles
    roles_go [] far roles are = lone_roles packed.roles packed.beside packed.stand roles are
    roles_go (library ∷ ls) far roles are = roles_kept o.out before after elsewhere library far.0 roles are

    roles_back : (ls : List (List ℕ)) → IsApart ls o.out → HaveRoles o ls before → (roles : List ℕ)
        → AreRoleBytes after (places LoadFile (with_last ls o.out)) roles → AreRoleBytes before (places Components (with_last ls o.dir)) roles
    roles_back [] far has roles are = grind (arith, lone_roles packed.roles packed.beside packed.stand has.0 has.1, one_file, both)
    roles_back (library ∷ ls) far has roles are = roles_kept o.out after before back library far.0 roles are

    kept : (fronts : List (List Lent)) → AllZip (AreParts before) libraries fronts → AllZip (AreParts after) libraries fronts
    kept fronts h = all_kept o.out before after elsewhere libraries fronts apart h

    kept_back : (fronts : List (List Lent)) → AllZip (AreParts after) libraries fronts → AllZip (AreParts before) libraries fronts
    kept_back fronts h = all_kept o.out after before back libraries fronts apart h

    module _ (has : HaveRoles o libraries before) where
      as_verified : IsInstalledAsVerified o libraries before after
      as_verified = record {
        answers = answer_alike (verified o libraries before) (installed o libraries after)
            (moved_world Components LoadFile before after libraries o.dir o.out packed.parts moved only_parts in_file same kept (roles_go libraries apart))
            (moved_world LoadFile Components after before libraries o.out o.dir moved packed.parts only_moved packed.loaded (λ tag. sym (same tag))
            kept_back (roles_back libraries apart has));
        can = (
          can_also Components LoadFile before after libraries o.dir o.out packed.parts moved only_parts in_file same kept (roles_go libraries apart)
              both.now both.tells,
          can_also LoadFile Components after before libraries o.out o.dir moved packed.parts only_moved packed.loaded (λ tag. sym (same tag)) kept_back
              (roles_back libraries apart has) both.old both.told,
        );
      }

pub packed-is-installed : PackedIsInstalled
packed-is-installed o before after text packed = record {
  same = same_package o before after text packed;
  alike = λ libraries apart has some. as_verified o before after text packed libraries apart some has;
}
