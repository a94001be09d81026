-- Worked cases of the grammar and of the lines.
use Rattle.std.specs.Prelude.{◌≡◌, pos, negsuc, [], ◌∷◌, codes, refl}
use Rattle.std.specs.Fmt.{digits}
use Rattle.cap_bytes.specs.declared.fault.FormKind.TheVariants.{Cut}
use Rattle.cap_components.specs.declared.fault.PackFault.TheVariants.{Form, MethodLength}
use Rattle.cap_load.specs.declared.fault.StreamFault.TheVariants.{Order, Unfinished}
use Rattle.cap_bare.specs.declared.fault.BareKind.TheVariants.{BadTarget}
use Rattle.cap_bare.specs.declared.run.BareEnd.TheVariants.{Returned}
use Rattle.vm_step.specs.declared.ending.StartFault.TheVariants.{ArgCount, ArgRoom}
use Rattle.vm_step.specs.declared.ending.Value.TheVariants as values
use Rattle.vm_step.specs.declared.ending.Plain.TheVariants as plain
use Rattle.vm_step.specs.declared.ending.Fault.TheVariants.{StackFault}
use Rattle.vm_step.specs.declared.ending.Ending.TheVariants as endings
use Rattle.cap_text.specs.Ending.{ending_line, static_lines, array_line}
use Rattle.cap_text.specs.Table.{component_line}
use Rattle.cap_text.specs.Line.{malformed_line, malformed_stream_line, not_linked_line}
use Rattle.cap_text.specs.Line.{not_started_line, refused_bare_line, methods_line, refused_flow_line}
use Rattle.cap_text.specs.Line.{bare_ending_line, bound_line, cycle_line, refused_card_line}
use Rattle.cap_text.specs.Packed.{packed_line, load_limit_line}
use Rattle.cap_text.specs.Shared.{shared_line}
use Rattle.cap_text.specs.Transformed.{registers_limit_line, stack_limit_line, part_limit_line}
use Rattle.card_typing.specs.declared.fault.CardKind.TheVariants as cards
use Rattle.card_typing.specs.declared.fault.CardKind.TheVariants.{StackAtBranch}
use Rattle.cap_text.specs.Rule.{rule_fault_text}
use Rattle.jc_base.specs.declared.ty.Ty.TheVariants.{Short, Class, Top, ArrByte}
use Rattle.jc_decode.specs.declared.insn.CodeEnd.TheVariants.{NoOpcode}
use Rattle.jc_flow.specs.declared.inference.FlowEnd.TheVariants as flow
use Rattle.jc_link.specs.LinkFault.TheVariants.{Hole}
use Rattle.jc_ops.specs.declared.fault.RuleFault.TheVariants.{Mismatch}

malformed : malformed_line 0 (Form (record { part = 7; at = 21; kind = Cut })) ≡ codes "malformed package 0 Form 7 21 Cut\n"
unfolding digits
malformed = refl

too_short : malformed_line 0 (MethodLength 1 0) ≡ codes "malformed package 0 MethodLength 1 0\n"
unfolding digits
too_short = refl

no_ending : malformed_stream_line 0 Unfinished ≡ codes "malformed package 0 Unfinished\n"
unfolding digits
no_ending = refl

out_of_order : malformed_stream_line 1 (Order 4 2) ≡ codes "malformed package 1 Order 4 2\n"
unfolding digits
out_of_order = refl

hole : not_linked_line (Hole 5 2) ≡ codes "not linked Hole 5 2\n"
unfolding digits
hole = refl

mismatch : rule_fault_text (Mismatch Top (Class 0)) ≡ codes "Mismatch found top wanted class 0"
unfolding digits
mismatch = refl

not_started : not_started_line (ArgCount 0 1) ≡ codes "not started ArgCount 0 1\n"
unfolding digits
not_started = refl

no_room : not_started_line (ArgRoom 0) ≡ codes "not started ArgRoom 0\n"
unfolding digits
no_room = refl

refused : refused_bare_line (record { place = 3; kind = BadTarget (negsuc 0) }) ≡ codes "refused place 3 BadTarget -1\n"
unfolding digits
refused = refl

typed : methods_line (codes "typed ") 2 ≡ codes "typed 2 methods\n"
unfolding digits
typed = refl

target_before_code : refused_flow_line (record { «package» = 0; class_no = 0; method_no = 1 }) (flow.BadTarget 3 (negsuc 0))
    ≡ codes "refused package 0 method 0.1 place 3 BadTarget -1\n"
unfolding digits
target_before_code = refl

wrong_operand : refused_flow_line (record { «package» = 1; class_no = 0; method_no = 3 }) (flow.NoTyping 12 (Mismatch Short (Class 0)))
    ≡ codes "refused package 1 method 0.3 place 12 Mismatch found short wanted class 0\n"
unfolding digits
wrong_operand = refl

no_instruction : refused_flow_line (record { «package» = 2; class_no = 14; method_no = 3 }) (flow.Code 4 (NoOpcode 200))
    ≡ codes "refused package 2 method 14.3 place 4 NoOpcode 200\n"
unfolding digits
no_instruction = refl

past_the_end : refused_flow_line (record { «package» = 0; class_no = 0; method_no = 1 }) (flow.FallsOff 5)
    ≡ codes "refused package 0 method 0.1 place 5 FallsOff\n"
unfolding digits
past_the_end = refl

handler_within_instruction : refused_flow_line (record { «package» = 0; class_no = 2; method_no = 1 }) (flow.BadHandler 9 4)
    ≡ codes "refused package 0 method 2.1 place 9 BadHandler 4\n"
unfolding digits
handler_within_instruction = refl

bound_said : bound_line 10 1 ≡ codes "bound 10 words 1 frames\n"
unfolding digits
bound_said = refl

cycle_said : cycle_line 0 1 ≡ codes "cycle method 0.1\n"
unfolding digits
cycle_said = refl

two_accepted : methods_line (codes "accepted ") 2 ≡ codes "accepted 2 methods\n"
unfolding digits
two_accepted = refl

full_at_a_branch :
    refused_card_line (record { «package» = 0; class_no = 0; method_no = 1 })
    (record { place = 2; depth = 1; kind = StackAtBranch })
    ≡ codes "refused package 0 method 0.1 place 2 StackAtBranch\n"
unfolding digits
full_at_a_branch = refl

handler_on_the_card :
    refused_card_line (record { «package» = 0; class_no = 2; method_no = 1 })
    (record { place = 9; depth = 0; kind = cards.BadHandler 4 })
    ≡ codes "refused package 0 method 2.1 place 9 BadHandler 4\n"
unfolding digits
handler_on_the_card = refl

two_transformed : methods_line (codes "transformed ") 2 ≡ codes "transformed 2 methods\n"
unfolding digits
two_transformed = refl

fewer_registers : shared_line 2 2 1 ≡ codes "shared 2 methods 2 to 1 registers\n"
unfolding digits
fewer_registers = refl

many_registers : registers_limit_line (record { «package» = 1; class_no = 0; method_no = 3 }) 256
    ≡ codes "limit method 0.3 Registers 256\n"
unfolding digits
many_registers = refl

full_stack : stack_limit_line (record { «package» = 0; class_no = 2; method_no = 1 }) ≡ codes "limit method 2.1 StackLimit\n"
unfolding digits
full_stack = refl

long_part : part_limit_line 65536 ≡ codes "limit PartLong 65536\n"
unfolding digits
long_part = refl

two_blocks : packed_line 2 344 ≡ codes "packed 2 blocks 344 bytes\n"
unfolding digits
two_blocks = refl

long_load : load_limit_line 65539 ≡ codes "limit LoadLong 65539\n"
unfolding digits
long_load = refl

returned : bare_ending_line (Returned (negsuc 32767)) ≡ codes "returned short -32768\n"
unfolding digits
returned = refl

nothing_returned : ending_line (endings.Plain (plain.Returned values.Void)) ≡ codes "returned void\n"
unfolding digits
nothing_returned = refl

null_returned : ending_line (endings.Plain (plain.Returned (values.Ref 0))) ≡ codes "returned null\n"
unfolding digits
null_returned = refl

object_returned : ending_line (endings.Plain (plain.Returned (values.Ref 1))) ≡ codes "returned reference 1\n"
unfolding digits
object_returned = refl

thrown : ending_line (endings.Plain (plain.Threw 4 2)) ≡ codes "threw class 4 reference 2\n"
unfolding digits
thrown = refl

no_interface : ending_line (endings.Plain (plain.InterfaceMissing 0)) ≡ codes "interface missing class 0\n"
unfolding digits
no_interface = refl

stack_fault : ending_line (endings.Faulted StackFault) ≡ codes "fault stack\n"
unfolding digits
stack_fault = refl

two_fields : static_lines 0 (values.Short (pos 7) ∷ values.Int (negsuc 69999) ∷ []) ≡ codes "static 0 short 7\nstatic 1 int -70000\n"
unfolding digits
two_fields = refl

three_bytes : array_line 1 ArrByte (pos 5 ∷ pos 2 ∷ negsuc 0 ∷ []) ≡ codes "array 1 byte 3 5 2 -1\n"
unfolding digits
three_bytes = refl

method_size : component_line 7 19 ≡ codes "Method 7 19\n"
unfolding digits
method_size = refl

no_applet : component_line 3 0 ≡ codes "Applet 3 absent\n"
unfolding digits
no_applet = refl

custom_size : component_line 130 2 ≡ codes "Custom130 130 2\n"
unfolding digits
custom_size = refl
