-- The flags are those of the methods that the Descriptor describes.
use Rattle.std.proofs.Common.{refl}
use Rattle.cap_package.proofs.packaging.names_agree.Goals as goal

pub returns-in-Some : goal.returns-in-Some
returns-in-Some c =
    rw (c.refuse.ensures, c.installs_named.ensures, c.export_names-exports.ensures, c.entries_named-entries.ensures, c.requires, c.in-Some.is) refl

pub returns-in-None : goal.returns-in-None
returns-in-None c =
    rw (c.refuse-in-None.ensures, c.export_names-exports.ensures, c.entries_named-entries.ensures, c.requires, c.in-None.is) refl
