use Rattle.std.proofs.Common.{◌≡◌, ◌+◌, length, subst, arith, rules}
use Rattle.cap_frame.specs.AppletFormat.{applet_info}
use Rattle.cap_frame.specs.Applets.{applet_seen, applets_of, applets_left}
use Rattle.cap_bytes.specs.Edit.{patched_all}
use Rattle.cap_renewal.specs.AppletEdits.{applet_edits, renewed_applet, applet_width, applets_edits}
use Rattle.cap_renewal.specs.NewMethods.{to}
use Rattle.cap_renewal.proofs.Items.{IsRenewing, IsNext, renewing_next, renewing_more}
use Rattle.cap_renewal.proofs.AppletItems.{applet_item, applets_begin, applets_inside, applets_fit, applets_renewed}
use Rattle.cap_bytes.specs.Renewal.{Renews}
use Rattle.cap_renewal.proofs.News.{keeps_small}
use Rattle.cap_renewal.proofs.exports.renew_applets.Goals as goal

pub applets-init : goal.applets-init
applets-init c =
    let f = to c.args.news.now in
    let e : applets_of c.args.applets.now ≡ applets_left c.into_iter-applet-iterator.result = cc in
    subst
    (λ xs. IsRenewing applet_info (applet_edits f) applet_width c.args.info.now
    (patched_all (applets_edits f (applets_of c.args.applets.now)) c.args.info.now) 1 xs c.args.info.now)
    e (applets_begin f c.args.info.now (applets_of c.args.applets.now) c.requires)

pub overflow_add-at-in-applets : goal.overflow_add-at-in-applets
overflow_add-at-in-applets c =
    let f = to c.args.news.now in
    let n : IsNext applet_info applet_width c.args.info.now c.applets.info c.applets.at (applet_seen c.in-Some.applet) =
    renewing_next applet_info (applet_edits f) applet_width (renewed_applet f) c.args.info.now
    (patched_all (applets_edits f (applets_of c.args.applets.now)) c.args.info.now) c.applets.at (applets_left c.applets.applet-iterator) c.applets.info
    (applet_seen c.in-Some.applet) (applets_left c.next.new.self) (applet_item f c.args.info.now) c.applets.invariant c.in-Some.ensures.steps in
    omega (arith, n.within)

pub patch-requires : goal.patch-requires
patch-requires c =
    let f = to c.args.news.now in
    let n : IsNext applet_info applet_width c.args.info.now c.applets.info c.applets.at (applet_seen c.in-Some.applet) =
    renewing_next applet_info (applet_edits f) applet_width (renewed_applet f) c.args.info.now
    (patched_all (applets_edits f (applets_of c.args.applets.now)) c.args.info.now) c.applets.at (applets_left c.applets.applet-iterator) c.applets.info
    (applet_seen c.in-Some.applet) (applets_left c.next.new.self) (applet_item f c.args.info.now) c.applets.invariant c.in-Some.ensures.steps in
    omega (arith, n.within)

pub overflow_add-at-in-applets-2 : goal.overflow_add-at-in-applets-2
overflow_add-at-in-applets-2 c =
    let f = to c.args.news.now in
    let n : IsNext applet_info applet_width c.args.info.now c.applets.info c.applets.at (applet_seen c.in-Some.applet) =
    renewing_next applet_info (applet_edits f) applet_width (renewed_applet f) c.args.info.now
    (patched_all (applets_edits f (applets_of c.args.applets.now)) c.args.info.now) c.applets.at (applets_left c.applets.applet-iterator) c.applets.info
    (applet_seen c.in-Some.applet) (applets_left c.next.new.self) (applet_item f c.args.info.now) c.applets.invariant c.in-Some.ensures.steps in
    omega (arith, n.within)

pub applets-preserved : goal.applets-preserved
applets-preserved c =
    let f = to c.args.news.now in
    renewing_more applet_info (applet_edits f) applet_width (renewed_applet f) c.args.info.now
    (patched_all (applets_edits f (applets_of c.args.applets.now)) c.args.info.now) c.applets.at (applets_left c.applets.applet-iterator) c.applets.info
    (applet_seen c.in-Some.applet) (applets_left c.next.new.self)
    (c.applets.at + (1 + length c.in-Some.applet.aid.now) + 2) c.patch.new.bytes (applet_item f c.args.info.now) c.applets.invariant c.in-Some.ensures.steps
    (omega arith) (cc) c.patch.ensures.long

pub returns-clause-renewed : goal.returns-clause-renewed
returns-clause-renewed c =
    let f = to c.args.news.now in
    let xs = applets_of c.args.applets.now in
    let v : c.applets.info ≡ patched_all (applets_edits f xs) c.args.info.now = search rules in
    rw v
    (c.patches_renew.ensures (applets_edits f xs) c.args.info.now (applets_inside f c.args.info.now xs c.requires)
    (applets_fit f c.args.info.now xs c.are_bytes.ensures (keeps_small c.args.news.now c.are_small.ensures) c.requires))

pub returns-clause-stands : goal.returns-clause-stands
returns-clause-stands c =
    let f = to c.args.news.now in
    let xs = applets_of c.args.applets.now in
    let v : c.applets.info ≡ patched_all (applets_edits f xs) c.args.info.now = search rules in
    let r : Renews (applets_edits f xs) c.args.info.now c.applets.info =
    rw v
    (c.patches_renew.ensures (applets_edits f xs) c.args.info.now (applets_inside f c.args.info.now xs c.requires)
    (applets_fit f c.args.info.now xs c.are_bytes.ensures (keeps_small c.args.news.now c.are_small.ensures) c.requires)) in
    applets_renewed f c.args.info.now c.applets.info xs c.requires r
