-- The Applet component (JCVM 2.2, section 6.5) with the offsets of the install methods renewed.
use Rattle.std.specs.Prelude.{◌+◌, ℕ, List, [], ◌∷◌, length}
use Rattle.cap_frame.specs.AppletFormat.{Applet}
use Rattle.cap_bytes.specs.Edit.{Edit}
use Rattle.cap_renewal.specs.Along.{along}

abbrev pub renewed_applet : (ℕ → ℕ) → Applet → Applet
renewed_applet to a = record { aid = a.aid; install = to a.install }

-- the offset stands after the identifier and the byte that counts its bytes
abbrev pub applet_edits : (ℕ → ℕ) → ℕ → Applet → List Edit
applet_edits to at a = record { at = at + (1 + length a.aid); number = to a.install } ∷ []

abbrev pub applet_width : Applet → ℕ
applet_width a = 3 + length a.aid

-- the applets stand after their count
abbrev pub applets_edits : (ℕ → ℕ) → List Applet → List Edit
applets_edits to applets = along (applet_edits to) applet_width 1 applets
