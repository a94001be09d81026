-- Code whose jumps go to labels, read as the code of a method by its card typing; and the method that has such code laid as bytes
-- (JCVM 2.2, sections 6.9 and 7.5).
use Rattle.std.specs.Prelude.{◌≡◌, ℕ, ◌+◌, ◌<◌, ◌≤◌, ◌==◌, if◌then◌else◌, ℤ, pos, List, [], ◌∷◌}
use Rattle.std.specs.Prelude.{length, map, All, Option, Some, None, IsSomeAnd, slice_get}
use Rattle.jc_base.specs.declared.ty.Ty.{Ty}
use Rattle.jc_base.specs.declared.ty.Ty.TheVariants.{Fresh}
use Rattle.jc_base.specs.declared.record.Handler.{Handler}
use Rattle.jc_base.specs.declared.record.MethodRec.{MethodRec}
use Rattle.jc_base.specs.World.{Linked}
use Rattle.std.proofs.Common.{refl}
use Rattle.jc_decode.specs.declared.symbols.LaidHandler.{LaidHandler as Laying}
use Rattle.jc_decode.specs.declared.symbols.Item.TheVariants.{Branch, Label}
use Rattle.jc_decode.specs.declared.symbols.Laid.{Laid}
use Rattle.jc_decode.specs.declared.symbols.Symbols.{Symbols}
use Rattle.jc_decode.specs.Symbols.{Step, steps, handlers}
use Rattle.jc_control.specs.Method.{Method}
use Rattle.card_typing.specs.Typing.{Subject, CardTyping}
use Rattle.law_laid.specs.Apart.{apart_from_code}

-- ---- handlers

-- the class that the first handler with this number of the constant pool catches
abbrev pub class_by : List Handler → ℕ → ℕ
class_by [] pool = 0
class_by (h ∷ hs) pool = if h.index == pool then h.class else class_by hs pool

-- a handler of another code, which catches what these handlers of the method do
abbrev pub catching : List Handler → Laying → Handler
catching hs h = record { start = h.start; end = h.start + h.length; entry = h.entry; index = h.pool; class = class_by hs h.pool }

-- ---- symbols

-- the record of a method with the numbers and the handlers of symbols, whose places are the numbers of their steps
abbrev pub record_with : MethodRec → Symbols → MethodRec
record_with r s = record r {
  nargs = s.nargs;
  max_locals = s.max_locals;
  max_stack = s.max_stack;
  handlers = map (catching r.handlers) (handlers s.items s.ranges);
}

abbrev pub leads_of : Option Step → List ℤ
leads_of None = []
leads_of (Some s) = map (λ t. pos t) s.targets

-- a handler's range is not empty and lies in code of so many steps, and its entry is one
pub record IsHandlerIn (count : ℕ) (h : Handler) : Type 0 where
  pub order : h.start < h.end
  pub inside : h.end ≤ count
  pub entry : h.entry < count

-- each target of each step is a step, and each handler is well formed
pub record AreFormed (all : List Step) (hs : List Handler) : Type 0 where
  pub targets : All (λ s. All (λ t. t < length all) s.targets) all
  pub handlers : All (IsHandlerIn (length all)) hs

-- what a card typing reads of the symbols of a method with this record and this code: the instruction at each place is that of the
-- step of this number, which is followed by the next and leads to the steps of its targets
abbrev pub code_in_symbols : MethodRec → List ℕ → Symbols → Subject
code_in_symbols r source s = record {
  rec = record_with r s;
  end = length (steps source s.items);
  stands = λ i. IsSomeAnd (slice_get (steps source s.items) i.place) (λ step. step.insn ≡ i.insn);
  after = λ i. i.place + 1;
  leads = λ i. leads_of (slice_get (steps source s.items) i.place);
  formed = AreFormed (steps source s.items) (record_with r s).handlers;
}

-- ---- laid code

-- a method that is the one of this record apart from its code, which is the laid one, with its numbers and its handlers
pub record HasLaid (r : MethodRec) (laid : Laid) (m : Method) : Type 0 where
  pub same : apart_from_code m.rec ≡ apart_from_code r
  pub code : m.code ≡ laid.code
  pub nargs : m.rec.nargs ≡ laid.nargs
  pub max_locals : m.rec.max_locals ≡ laid.max_locals
  pub max_stack : m.rec.max_stack ≡ laid.max_stack
  pub handlers : m.rec.handlers ≡ map (catching r.handlers) laid.handlers

-- an uninitialised object carries the place of the `new` that made it, which is another in other code
abbrev pub renamed : (ℕ → ℕ) → Ty → Ty
renamed place (Fresh p c) = Fresh (place p) c
renamed place ty = ty

-- the card typing of laid code whose symbols have these registers and these stacks before their steps: the registers are the same, and
-- so is the stack before each step and at the end, but that the places of uninitialised objects are those where their `new` is laid
pub record IsTypedAsLaid
    (w : Linked) (m : Method) (count : ℕ) (place : ℕ → ℕ)
    (regs : List Ty) (stacks : ℕ → List Ty) : Type 0
  where
    pub rename : ℕ → ℕ
    pub agrees : (n : ℕ) → n ≤ count → rename n ≡ place n
    pub one_to_one : (n k : ℕ) → rename n ≡ rename k → n ≡ k
    pub laid_stacks : ℕ → List Ty
    pub at : (n : ℕ) → n ≤ count → laid_stacks (place n) ≡ map (renamed rename) (stacks n)
    pub typing : CardTyping w m regs laid_stacks

-- a conditional over a goto to itself, which is in the range of a handler: this catches what the method's handler with its pool
-- number does
abbrev loop : Symbols
loop = record {
  items = Branch 152 9 ∷ Label 4 ∷ Branch 168 4 ∷ Label 9 ∷ [];
  ranges = record { «from» = 4; to = 9; entry = 4; pool = 3 } ∷ [];
  max_stack = 1;
  nargs = 0;
  max_locals = 0;
}

abbrev two_handlers : List Handler
two_handlers =
    record { start = 0; end = 9; entry = 5; index = 2; class = 7 }
    ∷ record { start = 0; end = 9; entry = 5; index = 3; class = 8 } ∷ []

loop_leads : map leads_of (map (λ s. Some s) (steps [] loop.items)) ≡ (pos 2 ∷ []) ∷ (pos 1 ∷ []) ∷ []
loop_leads = refl

loop_handlers : map (catching two_handlers) (handlers loop.items loop.ranges)
    ≡ record { start = 1; end = 2; entry = 1; index = 3; class = 8 } ∷ []
loop_handlers = refl

made_elsewhere : renamed (λ n. n + n) (Fresh 4 7) ≡ Fresh 8 7
made_elsewhere = refl
