-- Wrong rewritings that are refused: a body that returns zero, a way on without copies, and a stack that is put back at the target alone.
use Rattle.std.specs.Prelude.{ℕ, ◌==◌, if◌then◌else◌, true, false, List, [], ◌∷◌, length, pos, Option, Some, None}
use Rattle.jc_base.specs.declared.ty.Ty.{Ty}
use Rattle.jc_base.specs.declared.ty.Ty.TheVariants.{Short, Class}
use Rattle.jc_base.specs.declared.record.MethodRec.{MethodRec}
use Rattle.jc_base.specs.World.{Linked}
use Rattle.jc_decode.specs.declared.insn.Insn.{Insn}
use Rattle.jc_decode.specs.declared.symbols.Item.TheVariants.{Branch, Label, Plain}
use Rattle.jc_decode.specs.declared.symbols.Symbols.{Symbols}
use Rattle.jc_rules.specs.Demand.{Frame}
use Rattle.xf_homes.specs.Source.{Source}
use Rattle.xf_emission.specs.Move.{with_byte}
use Rattle.law_groups.specs.Matching.{MatchesFrames}
use Rattle.jc_tests.specs.OneMethod.{classes}

-- ---- a world of one method

-- a static method with these arguments and this result
abbrev pub method_of : List Ty → Ty → MethodRec
method_of args result = record {
  «package» = 0;
  class = 0;
  token = 0;
  class_no = 0;
  method_no = 0;
  is_static = true;
  is_init = false;
  is_abstract = false;
  sig = record { args = args; result = Some result };
  nargs = length args;
  max_locals = 0;
  max_stack = 0;
  code_at = 0;
  code_len = 0;
  handlers = [];
}

-- the same with this code, so many locals besides its arguments, and this room on its stack
abbrev pub coded : MethodRec → List ℕ → ℕ → ℕ → MethodRec
coded m code locals room = record m { max_locals = locals; max_stack = room; code_len = length code }

abbrev pub world_of : MethodRec → List ℕ → Linked
world_of m code = record {
  infos = code ∷ [];
  pools = [] ∷ [];
  classes = classes;
  methods = m ∷ [];
  statics = [];
  arrays = [];
  indexes = None ∷ [];
}

-- an instruction of one byte
abbrev pub with_opcode : ℕ → Insn
with_opcode op = record { op = op; x = pos 0; y = pos 0; z = pos 0; len = 1 }

abbrev pub at : List Ty → List Ty → Option Frame
at regs stack = Some (record { regs = regs; stack = stack })

-- ---- zero, whatever the method does

-- sconst_5 and sreturn
abbrev pub five : Source
five = record {
  world = world_of (coded (method_of [] Short) (8 ∷ 120 ∷ []) 0 1) (8 ∷ 120 ∷ []);
  method = record { number = 0; rec = coded (method_of [] Short) (8 ∷ 120 ∷ []) 0 1; code = 8 ∷ 120 ∷ [] };
  frames = λ p. if p == 0 then at [] [] else if p == 1 then at [] (Short ∷ []) else None;
  leaders = [];
  homes = [];
}

-- sconst_0 and sreturn
abbrev pub zero_body : Symbols
zero_body = record {
  items = Plain (with_opcode 3) ∷ Plain (with_opcode 120) ∷ [];
  ranges = [];
  max_stack = 2;
  nargs = 0;
  max_locals = 0;
}

abbrev pub ZeroIsRefused : Type 0
ZeroIsRefused = MatchesFrames five zero_body → ⊥

-- ---- no copies where control falls into a place

-- two ways come to place 4, where local 0 is of class 0: one falls into it with an object of class 1, the other stores the second argument
--     0 aload_1   1 ifnonnull 6   3 nop   4 aload_0   5 areturn   6 aload_1   7 astore_0   8 goto 4
abbrev pub widening_code : List ℕ
widening_code = 25 ∷ 103 ∷ 5 ∷ 0 ∷ 24 ∷ 119 ∷ 25 ∷ 43 ∷ 112 ∷ 252 ∷ []

abbrev pub widening_frames : ℕ → Option Frame
widening_frames p =
    if p == 0 then at (Class 1 ∷ Class 0 ∷ []) []
    else if p == 1 then at (Class 1 ∷ Class 0 ∷ []) (Class 0 ∷ [])
    else if p == 3 then at (Class 1 ∷ Class 0 ∷ []) []
    else if p == 4 then at (Class 0 ∷ Class 0 ∷ []) []
    else if p == 5 then at (Class 0 ∷ Class 0 ∷ []) (Class 0 ∷ [])
    else if p == 6 then at (Class 1 ∷ Class 0 ∷ []) []
    else if p == 7 then at (Class 1 ∷ Class 0 ∷ []) (Class 0 ∷ [])
    else if p == 8 then at (Class 0 ∷ Class 0 ∷ []) []
    else None

abbrev pub widening : Source
widening = record {
  world = world_of (coded (method_of (Class 1 ∷ Class 0 ∷ []) (Class 0)) widening_code 0 1) widening_code;
  method = record { number = 0; rec = coded (method_of (Class 1 ∷ Class 0 ∷ []) (Class 0)) widening_code 0 1; code = widening_code };
  frames = widening_frames;
  leaders = false ∷ false ∷ false ∷ false ∷ true ∷ false ∷ true ∷ [];
  homes = record { slot = 0; ty = Class 1 } ∷ record { slot = 1; ty = Class 0 } ∷ record { slot = 0; ty = Class 0 } ∷ [];
}

-- local 0 of class 0 has register 2, into which nothing is copied after the nop
abbrev pub uncopied_body : Symbols
uncopied_body = record {
  items =
      Label 0 ∷ Plain (with_byte 21 1)
      ∷ Label 1 ∷ Branch 159 6
      ∷ Label 3 ∷ Plain (with_opcode 0)
      ∷ Label 4 ∷ Plain (with_byte 21 2)
      ∷ Label 5 ∷ Plain (with_opcode 119)
      ∷ Label 6 ∷ Plain (with_byte 21 1)
      ∷ Label 7 ∷ Plain (with_byte 40 2)
      ∷ Label 8 ∷ Branch 168 4
      ∷ Label 10 ∷ [];
  ranges = [];
  max_stack = 2;
  nargs = 2;
  max_locals = 1;
}

abbrev pub MissingCopyIsRefused : Type 0
MissingCopyIsRefused = MatchesFrames widening uncopied_body → ⊥

-- ---- a stack under a conditional is put back at its target alone

-- 0 sconst_1   1 sconst_0   2 ifne 5   4 sreturn   5 sreturn
abbrev pub forking_code : List ℕ
forking_code = 4 ∷ 3 ∷ 97 ∷ 3 ∷ 120 ∷ 120 ∷ []

abbrev pub forking_frames : ℕ → Option Frame
forking_frames p =
    if p == 0 then at [] []
    else if p == 1 then at [] (Short ∷ [])
    else if p == 2 then at [] (Short ∷ Short ∷ [])
    else if p == 4 then at [] (Short ∷ [])
    else if p == 5 then at [] (Short ∷ [])
    else None

abbrev pub forking : Source
forking = record {
  world = world_of (coded (method_of [] Short) forking_code 0 2) forking_code;
  method = record { number = 0; rec = coded (method_of [] Short) forking_code 0 2; code = forking_code };
  frames = forking_frames;
  leaders = false ∷ false ∷ false ∷ false ∷ false ∷ true ∷ [];
  homes = record { slot = 0; ty = Short } ∷ record { slot = 1; ty = Short } ∷ [];
}

-- both cells go into registers before the branch, and the operand comes back; the other cell comes back at place 5, and not at place 4
abbrev pub unloaded_body : Symbols
unloaded_body = record {
  items =
      Label 0 ∷ Plain (with_opcode 4)
      ∷ Label 1 ∷ Plain (with_opcode 3)
      ∷ Label 2 ∷ Plain (with_byte 41 1) ∷ Plain (with_byte 41 0) ∷ Plain (with_byte 22 1) ∷ Branch 153 5
      ∷ Label 4 ∷ Plain (with_opcode 120)
      ∷ Label 5 ∷ Plain (with_byte 22 0) ∷ Plain (with_opcode 120)
      ∷ Label 6 ∷ [];
  ranges = [];
  max_stack = 3;
  nargs = 0;
  max_locals = 2;
}

abbrev pub MissingReloadIsRefused : Type 0
MissingReloadIsRefused = MatchesFrames forking unloaded_body → ⊥
