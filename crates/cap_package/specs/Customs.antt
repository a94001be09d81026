-- Custom components (JCVM 2.2, section 6.1.2): the Directory names them, and their infos are carried unread.
use Rattle.std.specs.Prelude.{ℕ, List, [], Option, Result, Ok, Err, find, option_map, ◌==◌}
use Rattle.cap_frame.specs.DirectoryFormat as directory
use Rattle.cap_components.specs.declared.fault.PackFault.{PackFault}
use Rattle.cap_components.specs.Components.{info_in}
use Rattle.cap_components.specs.PackageRecord.{PackageRecord}

pub record CustomItems : Type 0 where
  pub aid : List ℕ
  pub info : List ℕ

abbrev pub info_or_none : Result (List ℕ) PackFault → List ℕ
info_or_none (Ok info) = info
info_or_none (Err fault) = []

-- the custom component with this tag, where the Directory has an entry with it
abbrev pub custom_in : PackageRecord → ℕ → Option CustomItems
custom_in p tag = option_map
    (λ (c : directory.Custom). record { aid = c.aid; info = info_or_none (info_in p.parts tag) })
    (find (λ (c : directory.Custom). c.tag == tag) p.directory.customs)
