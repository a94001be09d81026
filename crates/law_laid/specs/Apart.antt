-- Worlds that differ in the code of their methods alone: in their bytes, in the headers and handlers of methods, and in where
-- code stands (JCVM 2.2, section 6.9).
use Rattle.std.specs.Prelude.{◌≡◌, [], map}
use Rattle.jc_base.specs.declared.record.MethodRec.{MethodRec}
use Rattle.jc_base.specs.World.{Linked}

-- what a method is apart from its code: without the numbers of its header, the place and the length of its code, and its handlers
abbrev pub apart_from_code : MethodRec → MethodRec
apart_from_code m = record m { nargs = 0; max_locals = 0; max_stack = 0; code_at = 0; code_len = 0; handlers = [] }

-- two worlds with the same constant pools, classes, static fields and initial arrays, whose methods are the same apart from code
pub record IsSameBut (v w : Linked) : Type 0 where
  pub pools : v.pools ≡ w.pools
  pub classes : v.classes ≡ w.classes
  pub methods : map apart_from_code v.methods ≡ map apart_from_code w.methods
  pub statics : v.statics ≡ w.statics
  pub arrays : v.arrays ≡ w.arrays
