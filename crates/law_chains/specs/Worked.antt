-- Worked cases of frame words: three of the frame's own, two arguments, one local and four cells of the operand stack.
use Rattle.std.specs.Prelude.{◌≡◌, ℕ, false, true, [], ◌∷◌, None}
use Rattle.std.proofs.Common.{refl}
use Rattle.jc_base.specs.declared.record.MethodRec.{MethodRec}
use Rattle.jc_base.specs.World.{Linked}
use Rattle.vm_store.specs.State.{Frame}
use Rattle.law_chains.specs.FrameWords.{words_of_frame, live_words}

abbrev method : MethodRec
method = record {
  «package» = 0;
  class = 0;
  token = 0;
  class_no = 0;
  method_no = 0;
  is_static = true;
  is_init = false;
  is_abstract = false;
  sig = record { args = []; result = None };
  nargs = 2;
  max_locals = 1;
  max_stack = 4;
  code_at = 0;
  code_len = 1;
  handlers = [];
}

abbrev world : Linked
world = record {
  infos = [];
  pools = [];
  classes = record { records = []; roles = [] };
  methods = method ∷ [];
  statics = [];
  arrays = [];
  indexes = [];
}

abbrev frame : ℕ → Frame ℕ
frame n = record { method = n; place = 0; registers = []; stack = [] }

ten : words_of_frame method ≡ 10
ten = refl

-- two frames of the method; a number that is no method's has none
twice : live_words world (frame 0 ∷ frame 0 ∷ frame 7 ∷ []) ≡ 20
twice = refl
