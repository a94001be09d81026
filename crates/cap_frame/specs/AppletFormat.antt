-- The Applet component (JCVM 2.2, section 6.5).
use Rattle.std.specs.Prelude.{ℕ, List}
use Rattle.cap_bytes.specs.Grammar.{Grammar, give, finish, u2, aid, counted, ◌>>=◌}

-- an applet, and the offset of its install method in the info of the Method component
pub record Applet : Type 0 where
  pub aid : List ℕ
  pub install : ℕ

abbrev pub applet_info : Grammar Applet
applet_info = do
  identifier ← aid
  install ← u2
  give (record { aid = identifier; install = install })

abbrev pub applets_info : Grammar (List Applet)
applets_info = do
  applets ← counted applet_info
  end ← finish
  give applets
