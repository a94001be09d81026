-- What is asked of the classes by number before their lists are made (JCVM 2.2, section 6.8).
use Rattle.std.specs.Prelude.{◌≡◌, ◌≤◌, ◌<◌, List, length, All}
use Rattle.jc_base.specs.declared.record.Iface.{Iface}
use Rattle.jc_classes.specs.Outline.{LineTable}
use Rattle.jc_resolve.specs.declared.naming.NamedClass.{NamedClass}
use Rattle.jc_resolve.specs.Named.{IsSized}

-- classes by number, of which the lines have the superclasses
pub record HaveSuperclasses (t : LineTable) (classes : List NamedClass) : Type 0 where
  pub count : length t.lines ≡ length classes
  pub few : length classes ≤ 4096
  pub sized : All IsSized classes

-- the interfaces that classes name are numbers of the list
abbrev pub AreInRange : List NamedClass → Type 0
AreInRange classes = All (λ (k : NamedClass). All (λ (i : Iface). i.class < length classes) k.interfaces) classes
