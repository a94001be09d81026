-- An applet with another install offset.
use Rattle.std.proofs.Common.{◌≡◌, ℕ, ◌+◌, ◌≤◌, List, [], length, map, Some, refl, arith}
use Rattle.std.proofs.lemmas.List.{length-take, length-drop}
use Rattle.cap_bytes.specs.Number.{number_at}
use Rattle.cap_bytes.specs.Grammar.{aid, u1, repeat}
use Rattle.cap_bytes.specs.Spelling.{Spells, Stands}
use Rattle.cap_bytes.proofs.Wide.{read_within}
use Rattle.cap_frame.specs.AppletFormat.{Applet, applet_info, applets_info}
use Rattle.cap_bytes.specs.Edit.{patched_all, AreInside, FitBytes}
use Rattle.cap_bytes.specs.Renewal.{Renews}
use Rattle.cap_bytes.proofs.Same.{spelled_same}
use Rattle.cap_bytes.proofs.Patches.{edited_split, inside_from}
use Rattle.cap_bytes.specs.Bytes.{AreBytes}
use Rattle.cap_renewal.specs.NewMethods.{KeepsSmall}
use Rattle.cap_renewal.specs.AppletEdits.{renewed_applet, applet_edits, applet_width, applets_edits}
use Rattle.cap_renewal.proofs.Items.{IsItem, IsFit, all_inside, all_fit, all_renewed, IsRenewing, has_more}
use Rattle.cap_renewal.proofs.Numbers.{number_small}

record HasApplet (bytes : List ℕ) (at : ℕ) (a : Applet) (after : ℕ) : Type 0 where
  identifier : Spells aid bytes at a.aid (at + (1 + length a.aid))
  install : number_at 2 (at + (1 + length a.aid)) bytes ≡ Some a.install
  end : after ≡ at + (3 + length a.aid)

has_applet : (bytes : List ℕ) (at : ℕ) (a : Applet) (after : ℕ) → Spells applet_info bytes at a after → HasApplet bytes at a after
unfolding Spells
has_applet bytes at a after h = grind (arith, length-take, length-drop)

pub applet_item : (to : ℕ → ℕ) (bytes : List ℕ) → IsItem applet_info (applet_edits to) applet_width (renewed_applet to) bytes
unfolding Spells
applet_item to bytes = record {
  wide = λ at a after h. (has_applet bytes at a after h).end;
  inside = λ at a after h. let p = has_applet bytes at a after h in let e = p.end in (omega arith, omega arith);
  renewed = λ out at a after len h ed.
      let p = has_applet bytes at a after h in
      let e = p.end in (
        a.aid,
        at + (1 + length a.aid),
        spelled_same aid bytes out at a.aid (at + (1 + length a.aid)) len ed.0 p.identifier,
        (to a.install, at + (1 + length a.aid) + 2, (ed.1.number, refl, refl), (refl, omega arith)),
      );
}

applet_fit : (to : ℕ → ℕ) (bytes : List ℕ) → AreBytes bytes → KeepsSmall to → IsFit applet_info (applet_edits to) bytes
applet_fit to bytes are keeps = grind (arith, has_applet, number_small)

-- the applets of the component stand from the second byte on, to the end
pub record HasApplets (bytes : List ℕ) (xs : List Applet) : Type 0 where
  pub count : ℕ
  pub head : Spells u1 bytes 0 count 1
  pub items : Spells (repeat count applet_info) bytes 1 xs (length bytes)
  pub some : 1 ≤ length bytes

pub has_applets : (bytes : List ℕ) (xs : List Applet) → Stands applets_info bytes xs → HasApplets bytes xs
unfolding Stands Spells
has_applets bytes xs s = grind (arith, read_within)

applets_made : (bytes : List ℕ) (xs : List Applet) → HasApplets bytes xs → Stands applets_info bytes xs
unfolding Stands Spells
applets_made bytes xs h =
    (length bytes, (xs, length bytes, (h.count, 1, h.head, h.items), (tt {0}, length bytes, (omega arith, refl), (refl, refl))))

pub applets_inside : (to : ℕ → ℕ) (bytes : List ℕ) (xs : List Applet) → Stands applets_info bytes xs
    → AreInside (applets_edits to xs) 0 (length bytes)
applets_inside to bytes xs s =
    let h = has_applets bytes xs s in
    inside_from (applets_edits to xs) 0 1 (length bytes) (omega arith)
    (all_inside applet_info (applet_edits to) applet_width (renewed_applet to) bytes (applet_item to bytes) h.count 1 xs (length bytes) h.items)

pub applets_fit : (to : ℕ → ℕ) (bytes : List ℕ) (xs : List Applet) → AreBytes bytes → KeepsSmall to → Stands applets_info bytes xs
    → FitBytes (applets_edits to xs)
applets_fit to bytes xs are keeps s = grind (arith, has_applets bytes xs s, applet_item to bytes, applet_fit to bytes are keeps, all_fit)

pub applets_renewed : (to : ℕ → ℕ) (bytes out : List ℕ) (xs : List Applet) → Stands applets_info bytes xs
    → Renews (applets_edits to xs) bytes out → Stands applets_info out (map (renewed_applet to) xs)
applets_renewed to bytes out xs s r =
    let h = has_applets bytes xs s in
    let len = r.long in
    let is = applet_item to bytes in
    let inside = all_inside applet_info (applet_edits to) applet_width (renewed_applet to) bytes is h.count 1 xs (length bytes) h.items in
    let both = edited_split [] (applets_edits to xs) 0 1 (length bytes) bytes out (omega arith) inside r.inside in
    applets_made out (map (renewed_applet to) xs) (record {
      count = h.count;
      head = spelled_same u1 bytes out 0 h.count 1 len both.0 h.head;
      items = rw len (all_renewed applet_info (applet_edits to) applet_width (renewed_applet to) bytes is out len h.count 1 xs (length bytes) h.items both.1);
      some = omega (arith, h.some, len);
    })

-- where the loop over them begins
pub applets_begin : (to : ℕ → ℕ) (bytes : List ℕ) (xs : List Applet) → Stands applets_info bytes xs
    → IsRenewing applet_info (applet_edits to) applet_width bytes (patched_all (applets_edits to xs) bytes) 1 xs bytes
applets_begin to bytes xs s = grind (arith, has_applets bytes xs s, has_more)
