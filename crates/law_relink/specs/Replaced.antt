-- Code that is laid for the methods of the last package of a world, and the methods when it stands there.
use Rattle.std.specs.Prelude.{◌≡◌, ℕ, ◌+◌, ◌<◌, ◌⊎◌, List, [], ◌∷◌, ◌++◌, length, All, Any, Option, Some}
use Rattle.std.specs.Prelude.{None, IsSomeAnd, slice_get}
use Rattle.std.proofs.Common.{refl, arith}
use Rattle.jc_base.specs.declared.record.Handler.{Handler}
use Rattle.jc_base.specs.declared.record.MethodRec.{MethodRec}
use Rattle.jc_base.specs.World.{Linked}
use Rattle.jc_control.specs.Method.{method_in}
use Rattle.jc_decode.specs.declared.symbols.LaidHandler.{LaidHandler as Laying}
use Rattle.jc_decode.specs.declared.symbols.Laid.{Laid}
use Rattle.law_laid.specs.Laid.{HasLaid}

-- ---- before

-- the methods of a world are those of the packages before the last, and then those of the last one
pub record AreMethodsOf (w : Linked) (before own : List MethodRec) : Type 0 where
  pub parts : w.methods ≡ before ++ own
  pub earlier : All (λ r. r.package + 1 < length w.infos) before
  pub last : All (λ r. r.package + 1 ≡ length w.infos) own

-- a handler has the pool number of one of these handlers
abbrev pub HasPoolOf : List Handler → Laying → Type 0
HasPoolOf hs h = Any (λ c. c.index ≡ h.pool) hs

-- the code may be laid for a method: this has code, and each handler of the code catches all, or what a handler of the method does
pub record MayReplace (r : MethodRec) (laid : Laid) : Type 0 where
  pub filled : 0 < r.code_len
  pub catches : All (λ h. (h.pool ≡ 0) ⊎ HasPoolOf r.handlers h) laid.handlers

-- so it is with the code of each method that is laid any for
abbrev pub EachMayReplace : List MethodRec → List (Option Laid) → Type 0
EachMayReplace own laid =
    (n : ℕ) (r : MethodRec) (l : Laid)
    → slice_get own n ≡ Some r
    → slice_get laid n ≡ Some (Some l)
    → MayReplace r l

-- the second of these handlers has pool number 3
abbrev handlers_of_two : List Handler
handlers_of_two =
    record { start = 0; end = 9; entry = 5; index = 2; class = 7 }
    ∷ record { start = 0; end = 9; entry = 5; index = 3; class = 8 } ∷ []

third_is_known : HasPoolOf handlers_of_two (record { start = 1; length = 1; entry = 1; pool = 3 })
third_is_known = (1, record { start = 0; end = 9; entry = 5; index = 3; class = 8 }, omega arith, refl, refl)

-- ---- after

-- the methods of the new world by number, where `before` and `own` are those of the former one
pub record MethodsAreReplaced (before own : List MethodRec) (laid : List (Option Laid)) (w new : Linked) : Type 0 where
  -- those of the packages before the last have their records and their code
  pub earlier : (n : ℕ) → n < length before → method_in new n ≡ method_in w n
  -- those of the last one have the code that is laid, where its handlers have pool numbers of the method's handlers
  pub replaced :
      (n : ℕ) (r : MethodRec) (l : Laid)
      → slice_get own n ≡ Some r
      → slice_get laid n ≡ Some (Some l)
      → All (HasPoolOf r.handlers) l.handlers
      → IsSomeAnd (method_in new (length before + n)) (HasLaid r l)
  -- and no code where none is laid
  pub bare :
      (n : ℕ) (r : MethodRec)
      → slice_get own n ≡ Some r
      → slice_get laid n ≡ Some None
      → IsSomeAnd (method_in new (length before + n)) (λ m. m.code ≡ [])
