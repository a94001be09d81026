-- A method is entered with arguments of its types, and its caller waits for the result.
use Rattle.std.proofs.Common.{◌≡◌, ℕ, zero, suc, ◌+◌, ◌-◌, min, Bool, true, false, if◌then◌else◌, List, [], ◌∷◌, ◌++◌, length}
use Rattle.std.proofs.Common.{map, reverse, take, drop, replicate, refl, sym, ap, ◌∙◌, subst, arith, length-append}
use Rattle.std.specs.Prelude.{Some, slice_get}
use Rattle.std.proofs.lemmas.Bool.{MatchBool-at_false}
use Rattle.std.proofs.lemmas.List.{map-append, length-map, length-take, length-drop}
use Rattle.std.proofs.lemmas.List.Elements.{All-nil}
use Rattle.jc_base.specs.declared.ty.Ty.{Ty}
use Rattle.jc_base.specs.declared.ty.Ty.TheVariants.{Class}
use Rattle.jc_base.specs.declared.record.MethodRec.{MethodRec}
use Rattle.jc_base.specs.Class.{ClassTable}
use Rattle.jc_base.specs.Order.{Below}
use Rattle.jc_base.specs.Linked.{IsMethod, IsCodeLength, lacks_code, receiver_words, list_at}
use Rattle.jc_base.specs.World.{Linked, IsWorld, code_of}
use Rattle.jc_base.proofs.Lists.{All-slice_get, IsSomeAnd-some}
use Rattle.jc_control.specs.Method.{Method, IsMethodOf, method_with}
use Rattle.jc_control.specs.Control.{begins}
use Rattle.jc_decode.proofs.InstructionLists.{all-are-listed}
use Rattle.jc_decode.proofs.Elements.{drop-here}
use Rattle.jc_control.proofs.Closing.{instructions-are-placed}
use Rattle.jc_rules.specs.Demand.{Frame as Types, SatisfiesAll}
use Rattle.jc_rules.specs.Rule.{cells_wanted}
use Rattle.jc_rules.specs.Flow.{CellsBelow, no_cells, more_cells, FrameBelow, receiver_of, start_frame, FlowTyping}
use Rattle.jc_rules.proofs.CellLists.{cells-same, cells-append, cells-length}
use Rattle.vm_store.specs.declared.cell.Cell.{Cell}
use Rattle.vm_store.specs.declared.cell.Cell.TheVariants as cells
use Rattle.vm_store.specs.declared.cell.ObjectKind.{ObjectKind}
use Rattle.vm_store.specs.Typing.{least_type}
use Rattle.vm_store.specs.Cells.{tagged}
use Rattle.vm_store.specs.State.{Frame, register_count_of, register_count, entered}
use Rattle.law_sound.specs.Frames.{Typings, least_types, types_of_frame, IsStacked, IsTypedFrame}
use Rattle.law_sound.specs.Soundness.{AreTypings}
use Rattle.law_sound.proofs.CellTypes.{some-weaker}
use Rattle.law_sound.proofs.Places.{place-instruction}
use Rattle.law_sound.proofs.Turns.{frame-trans}
use Rattle.jc_rules.proofs.Stacks.{map-reverse}

-- ---- lists

map-replicate : {X Y : Type 0} (g : X → Y) (n : ℕ) (x : X) → map g (replicate n x) ≡ replicate n (g x)
map-replicate g zero x = refl
map-replicate g (suc n) x = ap (λ ys. g x ∷ ys) (map-replicate g n x)

pub types-turned : (t : ClassTable) (unset : Ty) (ks : List ObjectKind) (cs : List Cell) → least_types t unset ks (reverse cs)
    ≡ reverse (least_types t unset ks cs)
types-turned t unset ks cs = map-reverse (least_type t unset ks) cs

-- ---- arguments

-- the cells that are wanted are below their types
pub wanted-below : (t : ClassTable) (f : Types) (n : ℕ) (tys : List Ty) → SatisfiesAll t f (cells_wanted n tys)
    → CellsBelow t (take (length tys) (drop n f.stack)) tys
wanted-below t f n [] h = no_cells
wanted-below t f n (ty ∷ tys) h =
    let found = IsSomeAnd-some (λ a. Below t a ty) (slice_get f.stack n) h.0 in
    let e : drop n f.stack ≡ found.0 ∷ drop (n + 1) f.stack = drop-here f.stack n found.0 found.1 in
    subst (λ (xs : List Ty). CellsBelow t (take (suc (length tys)) xs) (ty ∷ tys)) (sym e) (more_cells found.2 (wanted-below t f (n + 1) tys h.1))

-- ---- a method with code

module _ (w : Linked) (world : IsWorld w) where
  pub method-known : (n : ℕ) (m : MethodRec) → slice_get w.methods n ≡ Some m → IsMethod w.infos w.pools w.classes m
  method-known n m e = All-slice_get (IsMethod w.infos w.pools w.classes) w.methods n m world.methods e

  has-code : (n : ℕ) (m : MethodRec) → slice_get w.methods n ≡ Some m → lacks_code w.classes m ≡ false → IsMethodOf w (method_with w n m)
  has-code n m e lacks =
      let known = method-known n m e in
      let long : IsCodeLength m.code_len = MatchBool-at_false (m.code_len ≡ 0) (IsCodeLength m.code_len) lacks known.code in
      let size : length (code_of w.infos m) ≡ min m.code_len (length (drop m.code_at (list_at w.infos m.package))) = length-take m.code_len
      (drop m.code_at (list_at w.infos m.package)) in
      let rest : length (drop m.code_at (list_at w.infos m.package)) ≡ length (list_at w.infos m.package) - m.code_at = length-drop m.code_at
      (list_at w.infos m.package) in
      record { rec = e; code = refl; filled = omega (arith, size, rest, long.least, known.inside) }

  module _ (assigned : Typings) (typings : AreTypings w assigned) (ks : List ObjectKind) (n : ℕ) (m : MethodRec) (is : slice_get w.methods n ≡ Some m)
      (lacks : lacks_code w.classes m ≡ false) where
    -- its registers are the arguments, and as many others as it has locals
    registers-are :
        (args : List Cell) → CellsBelow w.classes (least_types w.classes (assigned.unset n) ks args) (receiver_of m ++ m.sig.args)
        → least_types w.classes (assigned.unset n) ks (args ++ replicate (register_count w.methods n - length args) cells.Empty) ≡ least_types w.classes
        (assigned.unset n) ks args ++ replicate m.max_locals (assigned.unset n)
    registers-are args below =
        let ty : Cell → Ty = least_type w.classes (assigned.unset n) ks in
        let known = method-known n m is in
        let count : register_count w.methods n ≡ m.nargs + m.max_locals = ap register_count_of is in
        let given : length args ≡ length (receiver_of m ++ m.sig.args) = sym (length-map args ty) ∙ cells-length w.classes below in
        let all : length (receiver_of m ++ m.sig.args) ≡ length (receiver_of m) + length m.sig.args = length-append (receiver_of m) m.sig.args in
        let own : length (receiver_of m) ≡ receiver_words m.is_static = receiver-length m.is_static m.class in
        let left : register_count w.methods n - length args ≡ m.max_locals = omega (arith, count, given, all, own, known.words) in
        map-append ty args (replicate (register_count w.methods n - length args) cells.Empty)
        ∙ ap (λ ts. map ty args ++ ts) (map-replicate ty (register_count w.methods n - length args) cells.Empty
        ∙ ap (λ k. replicate k (assigned.unset n)) left)
      where
        receiver-length : (static : Bool) (c : ℕ) → length (if static then [] else Class c ∷ []) ≡ receiver_words static
        receiver-length true c = refl
        receiver-length false c = refl

    -- it is typed before its first instruction
    pub entered-typed :
        (args : List Cell) → CellsBelow w.classes (least_types w.classes (assigned.unset n) ks args) (receiver_of m ++ m.sig.args)
        → IsTypedFrame w assigned ks (entered tagged w.methods n args)
    entered-typed args below =
        let method : Method = method_with w n m in
        let code = has-code n m is lacks in
        let typing : FlowTyping w method (assigned.unset n) (assigned.frames n) = typings method code in
        let placed = (instructions-are-placed all-are-listed method typing.formed).first code.filled in
        let at = place-instruction (code_of w.infos m) 0 placed in
        let f : Frame Cell = entered tagged w.methods n args in
        let exact : Types = types_of_frame w.classes (assigned.unset n) ks f in
        let regs : CellsBelow w.classes exact.regs (start_frame m (assigned.unset n)).regs =
        subst (λ ts. CellsBelow w.classes ts (start_frame m (assigned.unset n)).regs) (sym (registers-are args below))
        (cells-append w.classes below (cells-same w.classes (replicate m.max_locals (assigned.unset n)))) in
        record {
          stands = record {
            rec = m;
            is_method = is;
            instruction = at.0;
            there = at.1;
            reached = begins;
            typing = typing;
          };
          below = some-weaker (FrameBelow w.classes (start_frame m (assigned.unset n))) (FrameBelow w.classes exact)
              (λ g b. frame-trans w.classes (record { regs = regs; stack = no_cells }) b)
              (assigned.frames n 0) typing.start;
          stacked = All-nil (IsStacked w m ks);
        }
