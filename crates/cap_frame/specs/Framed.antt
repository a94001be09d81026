-- An info as its bytes.
use Rattle.std.specs.Prelude.{ℕ, List}
use Rattle.cap_bytes.specs.declared.view.View.{View}

abbrev pub info_bytes : View → List ℕ
info_bytes info = info.bytes.now
