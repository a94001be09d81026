-- Why the verifier on the card refuses a method, as capcheck prints it: the place and what is wrong there.
use Rattle.std.specs.Prelude.{ℕ, List, [], ◌∷◌, codes, decimal}
use Rattle.std.specs.List.{concat}
use Rattle.card_typing.specs.declared.fault.CardFault.{CardFault}
use Rattle.card_typing.specs.declared.fault.CardKind.{CardKind}
use Rattle.card_typing.specs.declared.fault.CardKind.TheVariants.{Code, Rule, StackAtTarget, StackAtBranch, HandlerEntered, BadTarget}
use Rattle.card_typing.specs.declared.fault.CardKind.TheVariants.{FallsOff, BadHandler, BadIndex, NotIndexed}
use Rattle.cap_text.specs.Fault.{name_1}
use Rattle.cap_text.specs.Bare.{code_end_text, bad_target_text}
use Rattle.cap_text.specs.Rule.{rule_fault_text}
use Rattle.cap_text.specs.Flow.{at_place}

-- an entry of a target index that names no instruction, or none above that of the entry before it
abbrev pub bad_index_text : ℕ → List ℕ
bad_index_text entry = concat (codes "BadIndex " ∷ decimal entry ∷ [])

abbrev pub card_kind_text : CardKind → List ℕ
card_kind_text (Code end) = code_end_text end
card_kind_text (Rule fault) = rule_fault_text fault
card_kind_text StackAtTarget = codes "StackAtTarget"
card_kind_text StackAtBranch = codes "StackAtBranch"
card_kind_text HandlerEntered = codes "HandlerEntered"
card_kind_text (BadTarget target) = bad_target_text target
card_kind_text FallsOff = codes "FallsOff"
card_kind_text (BadHandler number) = name_1 (codes "BadHandler") number
card_kind_text (BadIndex entry) = bad_index_text entry
card_kind_text (NotIndexed target) = name_1 (codes "NotIndexed") target

abbrev pub card_fault_text : CardFault → List ℕ
card_fault_text fault = at_place fault.place (card_kind_text fault.kind)
