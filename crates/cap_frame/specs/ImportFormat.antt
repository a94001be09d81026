-- The Import component (JCVM 2.2, section 6.6): the package token is the position.
use Rattle.std.specs.Prelude.{List}
use Rattle.cap_bytes.specs.Grammar.{Grammar, give, finish, counted, ◌>>=◌}
use Rattle.cap_frame.specs.PackageFormat.{Package, package_info}

abbrev pub imports_info : Grammar (List Package)
imports_info = do
  packages ← counted package_info
  end ← finish
  give packages
