-- A world, and another in which some of its methods are rewritten (Leroy 2002, section 4).
use Rattle.std.specs.Prelude.{◌≡◌, ℕ, Some, slice_get}
use Rattle.jc_base.specs.declared.ty.Ty.TheVariants.{Top}
use Rattle.jc_base.specs.declared.record.MethodRec.{MethodRec}
use Rattle.jc_base.specs.World.{Linked, code_of}
use Rattle.jc_control.specs.Method.{Method, IsMethodOf}
use Rattle.law_sound.specs.Frames.{Typings}
use Rattle.law_sound.specs.Soundness.{AreTypings}
use Rattle.law_laid.specs.Apart.{IsSameBut}
use Rattle.xf_homes.specs.Source.{Source}
use Rattle.law_groups.specs.Laid.{IsLaidIn}

-- the method of this number is the same in both, with the same code
pub record IsSameMethod (v w : Linked) (n : ℕ) : Type 0 where
  pub rec : MethodRec
  pub first : slice_get v.methods n ≡ Some rec
  pub second : slice_get w.methods n ≡ Some rec
  pub code : code_of w.infos rec ≡ code_of v.infos rec

-- it is rewritten in the second, by the typing that it has in the first, from Top
pub record IsRewrittenIn (v w : Linked) (typings : Typings) (n : ℕ) (s : Source) (place : ℕ → ℕ) : Type 0 where
  pub number : s.method.number ≡ n
  pub laid : IsLaidIn v w s place
  pub unset : typings.unset n ≡ Top
  pub frames : typings.frames n ≡ s.frames

pub data IsKeptOrRewritten (v w : Linked) (typings : Typings) (n : ℕ) : Type 0 where
  kept : IsSameMethod v w n → IsKeptOrRewritten v w typings n
  rewritten : (s : Source) (place : ℕ → ℕ) → IsRewrittenIn v w typings n s place → IsKeptOrRewritten v w typings n

-- the worlds differ in code alone; each method with code has its typing in the first, and in the second it is kept or rewritten
pub record AreCounterparts (v w : Linked) (typings : Typings) : Type 0 where
  pub same : IsSameBut v w
  pub typed : AreTypings v typings
  pub methods : (m : Method) → IsMethodOf v m → IsKeptOrRewritten v w typings m.number
