-- Why a method has no dataflow typing, as capcheck prints it: the place and what is wrong there. Running out
-- of memory says nothing of the method and is never printed so: its text is empty.
use Rattle.std.specs.Prelude.{ℕ, List, [], ◌∷◌, codes, decimal}
use Rattle.std.specs.List.{concat}
use Rattle.cap_text.specs.Fault.{name_1}
use Rattle.cap_text.specs.Bare.{code_end_text, bad_target_text}
use Rattle.cap_text.specs.Rule.{rule_fault_text}
use Rattle.jc_flow.specs.declared.inference.FlowEnd.{FlowEnd}
use Rattle.jc_flow.specs.declared.inference.FlowEnd.TheVariants.{NoTyping, Code, BadTarget, FallsOff, BadHandler, Memory}

-- a place; what is wrong there comes after it
abbrev pub place_text : ℕ → List ℕ
place_text place = concat (codes "place " ∷ decimal place ∷ codes " " ∷ [])

abbrev pub at_place : ℕ → List ℕ → List ℕ
at_place place fault = concat (place_text place ∷ fault ∷ [])

abbrev pub flow_end_text : FlowEnd → List ℕ
flow_end_text (NoTyping place fault) = at_place place (rule_fault_text fault)
flow_end_text (Code place end) = at_place place (code_end_text end)
flow_end_text (BadTarget place target) = at_place place (bad_target_text target)
flow_end_text (FallsOff place) = at_place place (codes "FallsOff")
flow_end_text (BadHandler entry number) = at_place entry (name_1 (codes "BadHandler") number)
flow_end_text Memory = []
