-- Laws of typings where code is laid, and where the code of a world is another.
use Rattle.std.specs.Prelude.{◌≡◌, ℕ, List, length, All, Contains, Option, option_map, IfSome, Result, slice_get}
use Rattle.jc_base.specs.declared.ty.Ty.{Ty}
use Rattle.jc_base.specs.declared.record.Handler.{Handler}
use Rattle.jc_base.specs.declared.record.Member.{Member}
use Rattle.jc_base.specs.declared.record.MethodRec.{MethodRec}
use Rattle.jc_base.specs.Cell.{IsDeclared}
use Rattle.jc_base.specs.Class.{ClassTable}
use Rattle.jc_base.specs.Linked.{Catches, IsHandler}
use Rattle.jc_base.specs.World.{Linked}
use Rattle.jc_decode.specs.declared.insn.Insn.{Insn}
use Rattle.jc_decode.specs.declared.symbols.Laid.{Laid}
use Rattle.jc_decode.specs.declared.symbols.Symbols.{Symbols}
use Rattle.jc_decode.specs.Standing.{StandsAt}
use Rattle.jc_decode.specs.Symbols.{steps}
use Rattle.jc_control.specs.Method.{Method}
use Rattle.jc_ops.specs.declared.fault.RuleFault.{RuleFault}
use Rattle.jc_ops.specs.declared.operation.Operation.{Operation}
use Rattle.jc_ops.specs.Resolve.{Resolves}
use Rattle.jc_rules.specs.Demand.{Frame}
use Rattle.jc_rules.specs.Rule.{demands}
use Rattle.jc_rules.specs.Flow.{FlowTyping}
use Rattle.card_typing.specs.Typing.{TypingIn, CardTyping}
use Rattle.law_laid.specs.Apart.{apart_from_code, IsSameBut}
use Rattle.law_laid.specs.Laid.{class_by, code_in_symbols, HasLaid, IsTypedAsLaid}

-- ---- worlds that differ in code alone

-- a number names the same method in both, apart from code
abbrev pub MethodsAreKept : Type 0
MethodsAreKept =
    (v w : Linked) (n : ℕ)
    → IsSameBut v w
    → option_map apart_from_code (slice_get v.methods n) ≡ option_map apart_from_code (slice_get w.methods n)

-- an instruction has the same operation in both, in methods that are the same apart from code
abbrev pub OperationsAreKept : Type 0
OperationsAreKept =
    (v w : Linked) (m n : MethodRec) (place : ℕ) (i : Insn) (r : Result Operation RuleFault)
    → IsSameBut v w
    → apart_from_code m ≡ apart_from_code n
    → Resolves v m place i r
    → Resolves w n place i r

-- and an operation asks the same
abbrev pub DemandsAreKept : Type 0
DemandsAreKept = (v w : Linked) (op : Operation) → IsSameBut v w → demands v op ≡ demands w op

-- a card typing of a method in one is one of it in the other
abbrev pub CardTypingsAreKept : Type 0
CardTypingsAreKept =
    (v w : Linked) (m : Method) (regs : List Ty) (stacks : ℕ → List Ty)
    → IsSameBut v w
    → CardTyping v m regs stacks
    → CardTyping w m regs stacks

-- so is a dataflow typing
abbrev pub FlowTypingsAreKept : Type 0
FlowTypingsAreKept =
    (v w : Linked) (m : Method) (unset : Ty) (frames : ℕ → Option Frame)
    → IsSameBut v w
    → FlowTyping v m unset frames
    → FlowTyping w m unset frames

-- so is a card typing of symbols
abbrev pub SymbolTypingsAreKept : Type 0
SymbolTypingsAreKept =
    (v w : Linked) (r : MethodRec) (source : List ℕ) (symbols : Symbols) (regs : List Ty) (stacks : ℕ → List Ty)
    → IsSameBut v w
    → TypingIn v (code_in_symbols r source symbols) regs stacks
    → TypingIn w (code_in_symbols r source symbols) regs stacks

-- ---- laid code

-- a method whose code is laid for symbols has the card typing of these
abbrev pub LaidIsTyped : Linked → Type 0
LaidIsTyped w =
    (r : MethodRec) (source : List ℕ) (symbols : Symbols) (laid : Laid) (place : ℕ → ℕ) (m : Method)
    (regs : List Ty) (stacks : ℕ → List Ty)
    → IfSome r.sig.result (IsDeclared w.classes)
    → StandsAt place source symbols laid
    → HasLaid r laid m
    → TypingIn w (code_in_symbols r source symbols) regs stacks
    → IsTypedAsLaid w m (length (steps source symbols.items)) place regs stacks

-- what a handler catches is told by its pool number: all handlers of a method with one such number catch the same class
abbrev pub CatchesByPool : Type 0
CatchesByPool =
    (t : ClassTable) (pool : List Member) (length : ℕ) (hs : List Handler) (h : Handler) (c : ℕ)
    → All (IsHandler t pool length) hs
    → Contains hs h
    → Catches t pool h.index c
    → class_by hs h.index ≡ c
