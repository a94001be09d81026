-- The lines that capcheck prints for its answers. Each ends with a line feed.
use Rattle.std.specs.Prelude.{ℕ, List, [], ◌∷◌, codes, decimal}
use Rattle.std.specs.List.{concat}
use Rattle.cap_components.specs.declared.fault.PackFault.{PackFault}
use Rattle.vm_step.specs.declared.ending.StartFault.{StartFault}
use Rattle.cap_bare.specs.declared.fault.BareFault.{BareFault}
use Rattle.cap_bare.specs.declared.run.BareEnd.{BareEnd}
use Rattle.cap_bare.specs.declared.run.BareEnd.TheVariants.{Returned, Spent}
use Rattle.std.specs.Fmt.{signed_decimal}
use Rattle.cap_load.specs.declared.fault.StreamFault.{StreamFault}
use Rattle.cap_text.specs.Fault.{pack_fault_text, stream_fault_text}
use Rattle.cap_text.specs.Bare.{bare_kind_text}
use Rattle.cap_text.specs.Start.{start_fault_text}
use Rattle.cap_text.specs.Linked.{link_fault_text}
use Rattle.jc_link.specs.LinkFault.{LinkFault}
use Rattle.cap_text.specs.declared.line.MethodNumber.{MethodNumber}
use Rattle.cap_text.specs.Card.{card_fault_text}
use Rattle.cap_text.specs.Flow.{flow_end_text}
use Rattle.card_typing.specs.declared.fault.CardFault.{CardFault}
use Rattle.jc_flow.specs.declared.inference.FlowEnd.{FlowEnd}
use Rattle.jc_flow.specs.declared.inference.FlowEnd.TheVariants.{Memory}

-- the parts of a package, by its number from 0, make no package
abbrev pub malformed_line : ℕ → PackFault → List ℕ
malformed_line number fault =
    concat (codes "malformed package " ∷ decimal number ∷ codes " " ∷ pack_fault_text fault ∷ codes "\n" ∷ [])

-- the bytes of a package's Load file, by the package's number from 0, are refused
abbrev pub malformed_stream_line : ℕ → StreamFault → List ℕ
malformed_stream_line number fault =
    concat (codes "malformed package " ∷ decimal number ∷ codes " " ∷ stream_fault_text fault ∷ codes "\n" ∷ [])

-- the packages make no world with the roles
abbrev pub not_linked_line : LinkFault → List ℕ
not_linked_line fault = concat (codes "not linked " ∷ link_fault_text fault ∷ codes "\n" ∷ [])

-- the entry does not start
abbrev pub not_started_line : StartFault → List ℕ
not_started_line fault = concat (codes "not started " ∷ start_fault_text fault ∷ codes "\n" ∷ [])

-- the other causes of an answer that is not Done
abbrev pub usage_line : List ℕ
usage_line = codes "usage\n"

abbrev pub read_fault_line : List ℕ
read_fault_line = codes "read fault\n"

abbrev pub store_fault_line : List ℕ
store_fault_line = codes "store fault\n"

abbrev pub memory_line : List ℕ
memory_line = codes "memory\n"

-- the verifier refuses the bare method at a place
abbrev pub refused_bare_line : BareFault → List ℕ
refused_bare_line fault =
    concat (codes "refused place " ∷ decimal fault.place ∷ codes " " ∷ bare_kind_text fault.kind ∷ codes "\n" ∷ [])

-- what is so of methods, and how many they are
abbrev pub methods_line : List ℕ → ℕ → List ℕ
methods_line so count = concat (so ∷ decimal count ∷ codes " methods\n" ∷ [])

-- a method by the numbers of its package, of its class in the Descriptor, and of itself in the class, each from 0
abbrev pub method_text : MethodNumber → List ℕ
method_text m =
    concat (codes "package " ∷ decimal m.package ∷ codes " method " ∷ decimal m.class_no ∷ codes "." ∷ decimal
    m.method_no ∷ [])

-- the method has no dataflow typing; out of memory, nothing is known of it, and there is no line
abbrev pub refused_flow_line : MethodNumber → FlowEnd → List ℕ
refused_flow_line method Memory = []
refused_flow_line method end = concat (codes "refused " ∷ method_text method ∷ codes " " ∷ flow_end_text end ∷ codes "\n" ∷ [])

-- the runs of an entry take so many words of frames, and so many frames, at most
abbrev pub bound_line : ℕ → ℕ → List ℕ
bound_line words frames = concat (codes "bound " ∷ decimal words ∷ codes " words " ∷ decimal frames ∷ codes " frames\n" ∷ [])

-- calls from an entry come to a method again
abbrev pub cycle_line : ℕ → ℕ → List ℕ
cycle_line class_no method_no = concat (codes "cycle method " ∷ decimal class_no ∷ codes "." ∷ decimal method_no ∷ codes "\n" ∷ [])

-- the method has no card typing
abbrev pub refused_card_line : MethodNumber → CardFault → List ℕ
refused_card_line method fault =
    concat (codes "refused " ∷ method_text method ∷ codes " " ∷ card_fault_text fault ∷ codes "\n" ∷ [])

-- how a run of a bare method ends
abbrev pub bare_ending_line : BareEnd → List ℕ
bare_ending_line (Returned value) = concat (codes "returned short " ∷ signed_decimal value ∷ codes "\n" ∷ [])
bare_ending_line Spent = codes "spent\n"
