-- A file holds at most one bare method, and none where an item breaks it.
use Rattle.std.proofs.Common.{◌≡◌, ◌≤◌, List, ℕ, length, inl, inr, arith}
use Rattle.cap_bytes.specs.Spelling.{Stands, file_of, info_of}
use Rattle.cap_bytes.proofs.Laws.{is_exact}
use Rattle.cap_frame.specs.Frame.{component}
use Rattle.cap_components.specs.declared.fault.PackFault.{PackFault}
use Rattle.cap_components.specs.declared.fault.PackFault.TheVariants.{Form, MethodLength}
use Rattle.cap_bare.specs.declared.format.Bare.{Bare}
use Rattle.cap_bare.specs.MethodFile.{MethodFile, method_info, IsFileFault}
use Rattle.capcheck_core.specs.MethodFile.{method_tag, IsMethodFile, RefusesFile}

same_info : (file info info' : List ℕ) → Stands (component method_tag) file info → Stands (component method_tag) file info' → info ≡ info'
same_info file info info' framed framed' = (is_exact (file_of method_tag) (component method_tag) file).one_value info info' framed framed'

same_bare : (info : List ℕ) (m m' : MethodFile) → Stands method_info info m → Stands method_info info m' → m ≡ m'
same_bare info m m' stands stands' = (is_exact (info_of method_tag) method_info info).one_value m m' stands stands'

pub same_method : (file : List ℕ) (bare bare' : Bare) (code code' : List ℕ) → IsMethodFile file bare code → IsMethodFile file bare' code'
    → (P : Bare → List ℕ → Type 0) → P bare code → P bare' code'
same_method file bare bare' code code' m m' P p = grind (arith, same_info, same_bare)

-- the info of a bare method breaks nowhere, and its code has no bad length
whole_info : (info : List ℕ) (m : MethodFile) → Stands method_info info m → 1 ≤ length m.code → length m.code ≤ 32767 → (fault : PackFault)
    → IsFileFault info fault → ⊥
whole_info info m stands filled short (Form form) breaks = (is_exact (info_of method_tag) method_info info).apart m form stands breaks
whole_info info m stands filled short (MethodLength offset n) (other, stands', at, counts, bad) = grind (arith, length, same_bare)
whole_info info m stands filled short _ breaks = breaks

pub no_breach : (file : List ℕ) (bare : Bare) (code : List ℕ) (fault : PackFault) → IsMethodFile file bare code → RefusesFile file fault → ⊥
no_breach file bare code fault m (inl f) = (is_exact (file_of method_tag) (component method_tag) file).apart m.info f.form m.framed f.breaks
no_breach file bare code fault m (inr f) = grind (arith, same_info, whole_info)
