-- Of which infos the records of a package's components are: those in its parts.
use Rattle.std.specs.Prelude.{◌≡◌, Ok, IfSome}
use Rattle.cap_components.specs.declared.components.Components.{Components}
use Rattle.cap_components.specs.Components.{info_in}

pub record HaveInfos (c : Components) : Type 0 where
  pub header : info_in c.parts.now 1 ≡ Ok c.header.info.bytes.now
  pub directory : info_in c.parts.now 2 ≡ Ok c.directory.info.bytes.now
  pub applets : IfSome c.applets (λ x. info_in c.parts.now 3 ≡ Ok x.info.bytes.now)
  pub imports : info_in c.parts.now 4 ≡ Ok c.imports.info.bytes.now
  pub pool : info_in c.parts.now 5 ≡ Ok c.pool.info.bytes.now
  pub classes : info_in c.parts.now 6 ≡ Ok c.classes.info.bytes.now
  pub statics : info_in c.parts.now 8 ≡ Ok c.statics.info.bytes.now
  pub locations : info_in c.parts.now 9 ≡ Ok c.locations.info.bytes.now
  pub export : IfSome c.export (λ x. info_in c.parts.now 10 ≡ Ok x.info.bytes.now)
