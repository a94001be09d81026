-- package_info (JCVM 2.2, section 6.3): a package's version and application identifier.
use Rattle.std.specs.Prelude.{ℕ, List}
use Rattle.cap_bytes.specs.Grammar.{Grammar, give, u1, aid, ◌>>=◌}

pub record Package : Type 0 where
  pub minor : ℕ
  pub major : ℕ
  pub aid : List ℕ

abbrev pub package_info : Grammar Package
package_info = do
  minor ← u1
  major ← u1
  identifier ← aid
  give (record { minor = minor; major = major; aid = identifier })
