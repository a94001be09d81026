-- The record of the Applet component, as its items.
use Rattle.std.specs.Prelude.{List, []}
use Rattle.cap_bytes.specs.Grammar.{repeat}
use Rattle.cap_bytes.specs.Taking.{given}
use Rattle.cap_frame.specs.declared.lists.AppletInfos.{AppletInfos}
use Rattle.cap_frame.specs.declared.applet_record.AppletInfo.{AppletInfo}
use Rattle.cap_frame.specs.declared.applet_record.Applets.{Applets}
use Rattle.cap_frame.specs.AppletFormat.{Applet, applet_info}

abbrev pub applet_seen : AppletInfo → Applet
applet_seen a = record { aid = a.aid.now; install = a.install }

abbrev pub applets_left : AppletInfos → List Applet
applets_left x = given [] (repeat x.left applet_info) x.items

abbrev pub applets_of : Applets → List Applet
applets_of x = applets_left x.applets
