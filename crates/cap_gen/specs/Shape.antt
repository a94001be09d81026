-- The four kinds of method of a generated package (JCVM 2.2, sections 6.9 and 7.5). Each is static and has two short
-- arguments, a in local 0 and b in local 1, a short result, and a stack of two cells; c and d are constants in it.
use Rattle.std.specs.Prelude.{ℕ, zero, suc, ◌+◌, ◌*◌, List, [], ◌∷◌}
use Rattle.jc_decode.specs.declared.symbols.LaidHandler.{LaidHandler}

-- the locals beside the arguments, and the code
pub record Shape : Type 0 where
  pub max_locals : ℕ
  pub code : List ℕ

-- a + d where b is 0, and else a + c: the branch comes with a on the stack
-- 0 sload_0, 1 sload_1, 2 ifeq 8, 4 bspush c, 6 goto 10, 8 bspush d, 10 sadd, 11 sreturn
abbrev pub choosing : ℕ → ℕ → Shape
choosing c d = record {
  max_locals = 0;
  code = 0x1C ∷ 0x1D ∷ 0x60 ∷ 6 ∷ 0x10 ∷ c ∷ 0x70 ∷ 4 ∷ 0x10 ∷ d ∷ 0x41 ∷ 0x78 ∷ [];
}

-- a + c: local 2 holds a short, and then null
-- 0 sload_0, 1 sstore_2, 2 sload_2, 3 bspush c, 5 sadd, 6 sstore_1, 7 aconst_null, 8 astore_2, 9 aload_2, 10 ifnull 14,
-- 12 sconst_2, 13 sreturn, 14 sload_1, 15 sreturn
abbrev pub reusing : ℕ → Shape
reusing c = record {
  max_locals = 1;
  code =
      0x1C ∷ 0x31 ∷ 0x1E ∷ 0x10 ∷ c ∷ 0x41 ∷ 0x30 ∷ 0x01 ∷ 0x2D ∷ 0x1A ∷ 0x66 ∷ 4 ∷ 0x05 ∷ 0x78 ∷ 0x1D
      ∷ 0x78 ∷ [];
}

-- a / b, and c where b is 0 and the first handler catches what is thrown
-- 0 sload_0, 1 sload_1, 2 sdiv, 3 sreturn; 4 pop, 5 bspush c, 7 sreturn; 8 pop, 9 bspush d, 11 sreturn
abbrev pub dividing : ℕ → ℕ → Shape
dividing c d = record {
  max_locals = 0;
  code = 0x1C ∷ 0x1D ∷ 0x47 ∷ 0x78 ∷ 0x3B ∷ 0x10 ∷ c ∷ 0x78 ∷ 0x3B ∷ 0x10 ∷ d ∷ 0x78 ∷ [];
}

-- a + 8 c, by eight rounds of a loop
-- 0 bspush 8, 2 sstore_2, 3 sload_0, 4 bspush c, 6 sadd, 7 sstore_0, 8 sinc 2 -1, 11 sload_2, 12 ifne 3, 14 sload_0, 15 sreturn
abbrev pub looping : ℕ → Shape
looping c = record {
  max_locals = 1;
  code =
      0x10 ∷ 8 ∷ 0x31 ∷ 0x1C ∷ 0x10 ∷ c ∷ 0x41 ∷ 0x2F ∷ 0x59 ∷ 2 ∷ 0xFF ∷ 0x1E ∷ 0x61 ∷ 0xF7 ∷ 0x1C ∷ 0x78
      ∷ [];
}

-- the kinds by number
abbrev pub of_kind : ℕ → ℕ → ℕ → Shape
of_kind zero c d = choosing c d
of_kind (suc zero) c d = reusing c
of_kind (suc (suc zero)) c d = dividing c d
of_kind (suc (suc (suc n))) c d = looping c

-- the handlers of each kind, by places of the code: only a division has some, for the class that entry 1 of the constant pool
-- names, and for anything
abbrev pub handlers_of_kind : ℕ → List LaidHandler
handlers_of_kind zero = []
handlers_of_kind (suc zero) = []
handlers_of_kind (suc (suc zero)) =
    record { start = 0; length = 3; entry = 4; pool = 1 } ∷ record { start = 0; length = 8; entry = 8; pool = 0 } ∷ []
handlers_of_kind (suc (suc (suc n))) = []

-- its bytes in the Method component: a compact header, of a stack of two cells, two arguments and the locals, and the code
abbrev pub shape_bytes : Shape → List ℕ
shape_bytes s = 2 ∷ (16 * 2 + s.max_locals) ∷ s.code
