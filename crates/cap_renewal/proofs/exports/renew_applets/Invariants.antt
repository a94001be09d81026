use Rattle.cap_frame.specs.AppletFormat.{applet_info}
use Rattle.cap_frame.specs.Applets.{applets_of, applets_left}
use Rattle.cap_bytes.specs.Edit.{patched_all}
use Rattle.cap_renewal.specs.AppletEdits.{applet_edits, applet_width, applets_edits}
use Rattle.cap_renewal.specs.NewMethods.{to}
use Rattle.cap_renewal.proofs.Items.{IsRenewing}
use Rattle.cap_renewal.proofs.exports.renew_applets.Given as goal

abbrev pub invariant-applets : goal.invariant-applets
invariant-applets l =
    IsRenewing applet_info (applet_edits (to l.news)) applet_width l.initial.info
    (patched_all (applets_edits (to l.news) (applets_of l.applets)) l.initial.info) l.at (applets_left l.applet-iterator) l.info
