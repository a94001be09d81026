-- A method of the world, the classes that its handlers catch, and its start by the type of what is not set.
use Rattle.std.proofs.Common.{◌≡◌, ◌+◌, ◌<◌, Bool, true, false, if◌then◌else◌, [], ◌∷◌, ◌++◌, length, replicate, All, refl}
use Rattle.std.proofs.Common.{◌∙◌, ap, arith, length-append, length-take}
use Rattle.std.specs.List.{Contains}
use Rattle.std.proofs.lemmas.List.{length-replicate}
use Rattle.std.proofs.lemmas.List.Elements.{All-append, All-contains, All-nil, All-cons, All-replicate}
use Rattle.std.proofs.lemmas.Bool.{or_parts}
use Rattle.jc_base.specs.declared.ty.Ty.{Ty}
use Rattle.jc_base.specs.declared.ty.Ty.TheVariants.{Class}
use Rattle.jc_base.specs.declared.record.Handler.{Handler}
use Rattle.jc_base.specs.Class.{IsClass, is_interface}
use Rattle.jc_base.specs.Cell.{IsDeclared}
use Rattle.jc_base.specs.Linked.{IsMethod, IsHandler, list_at, lacks_code, receiver_words}
use Rattle.jc_base.specs.World.{Linked, IsWorld}
use Rattle.jc_base.proofs.Lists.{All-slice_get}
use Rattle.jc_base.proofs.CodeLengths.{has_code}
use Rattle.jc_control.specs.Method.{Method, IsMethodOf}
use Rattle.jc_rules.specs.Flow.{start_frame, receiver_of}

module _ (w : Linked) (is : IsWorld w) (m : Method) (mo : IsMethodOf w m) where
  pub of_world : IsMethod w.infos w.pools w.classes m.rec
  of_world = All-slice_get (IsMethod w.infos w.pools w.classes) w.methods m.number m.rec is.methods mo.rec

  pub handler_of : (h : Handler) → Contains m.rec.handlers h → IsHandler w.classes (list_at w.pools m.rec.package) m.rec.code_len h
  handler_of h c = All-contains (IsHandler w.classes (list_at w.pools m.rec.package) m.rec.code_len) m.rec.handlers h of_world.handlers c

  pub own-class : IsClass w.classes m.rec.class
  own-class =
      let size : length m.code ≡ _ = ap length mo.code ∙ length-take m.rec.code_len _ in
      let filled : 0 < m.rec.code_len = omega (arith, mo.filled) in
      record {
        number = of_world.class;
        class = (or_parts m.rec.is_abstract (is_interface w.classes m.rec.class) (has_code (lacks_code w.classes m.rec) m.rec.code_len of_world.code filled)).1;
      }

  module _ (unset : Ty) (P : Ty → Type 0) (class : P (Class m.rec.class)) (declared : (ty : Ty) → IsDeclared w.classes ty → P ty) (bare : P unset) where
    receiver-all : (b : Bool) → All P (if b then [] else Class m.rec.class ∷ [])
    receiver-all true = All-nil P
    receiver-all false = All-cons P (Class m.rec.class) [] class (All-nil P)

    pub start-all : All P (start_frame m.rec unset).regs
    start-all =
        All-append P (receiver_of m.rec ++ m.rec.sig.args) (replicate m.rec.max_locals unset)
        (All-append P (receiver_of m.rec) m.rec.sig.args (receiver-all m.rec.is_static) (λ k d lt. declared _ (of_world.arguments k d lt)))
        (All-replicate P m.rec.max_locals unset bare)

  receiver-length : (b : Bool) → length (if b then [] else Class m.rec.class ∷ []) ≡ receiver_words b
  receiver-length true = refl
  receiver-length false = refl

  pub start-counted : (unset : Ty) → length (start_frame m.rec unset).regs ≡ m.rec.nargs + m.rec.max_locals
  start-counted unset =
      length-append (receiver_of m.rec ++ m.rec.sig.args) (replicate m.rec.max_locals unset)
      ∙ omega (
        arith,
        length-append (receiver_of m.rec) m.rec.sig.args,
        length-replicate m.rec.max_locals unset,
        receiver-length m.rec.is_static,
        of_world.words,
      )
