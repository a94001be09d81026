-- What a command decided, with its status and its text.
use Rattle.std.specs.Prelude.{ℕ, List, string_bytes}
use Rattle.cap_text.specs.Line.{usage_line, read_fault_line, store_fault_line, memory_line}
use Rattle.capcheck_core.specs.declared.verdict.Verdict.{Verdict}
use Rattle.capcheck_core.specs.declared.verdict.Verdict.TheVariants.{Done, Refused, Limit, Malformed, Usage, ReadFault, StoreFault, Memory}

abbrev pub status_of : Verdict → ℕ
status_of (Done text) = 0
status_of (Refused text) = 1
status_of Usage = 2
status_of ReadFault = 3
status_of StoreFault = 4
status_of (Limit text) = 5
status_of Memory = 6
status_of (Malformed text) = 7

abbrev pub text_of : Verdict → List ℕ
text_of (Done text) = string_bytes text
text_of (Refused text) = string_bytes text
text_of Usage = usage_line
text_of ReadFault = read_fault_line
text_of StoreFault = store_fault_line
text_of (Limit text) = string_bytes text
text_of Memory = memory_line
text_of (Malformed text) = string_bytes text
