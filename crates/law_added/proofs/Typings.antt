-- Typings of a method stay typings when packages are added.
use Rattle.std.proofs.Common.{◌≡◌, ◌<◌, ◌+◌, ℕ, true, List, length, get_or, Option, Some, None, IsSomeAnd, refl}
use Rattle.std.proofs.Common.{◌∙◌, ap, arith, length-append}
use Rattle.jc_base.specs.declared.ty.Ty.{Ty}
use Rattle.jc_base.specs.declared.ty.Ty.TheVariants as types
use Rattle.jc_base.specs.declared.ty.Ty.TheVariants.{Class}
use Rattle.jc_base.specs.declared.record.Handler.{Handler}
use Rattle.jc_base.specs.Class.{IsClass, parent_of}
use Rattle.jc_base.specs.Order.{Below, is_below, is_on_chain, IsKnown}
use Rattle.jc_base.specs.World.{Linked}
use Rattle.jc_base.proofs.Subtypes.{is_below-from_Below, Below-from_is_below}
use Rattle.jc_base.proofs.Climbs.{on_alone, chain-alone, parent_of-class}
use Rattle.jc_decode.specs.declared.insn.Placed.{Placed}
use Rattle.jc_control.specs.Method.{Method}
use Rattle.jc_rules.specs.Demand.{Frame}
use Rattle.jc_rules.specs.Flow.{CellsBelow, no_cells, more_cells, FrameBelow, At, FlowTyping, IsFollowed, caught_frame}
use Rattle.card_typing.specs.Place.{AreCaughtAt}
use Rattle.card_typing.specs.Typing.{Subject, TypingOver, IsTypedIn}
use Rattle.law_added.proofs.Tables.{interface_front}
use Rattle.law_added.proofs.Begun.{IsBegun}
use Rattle.law_added.proofs.Rules.{below_up, rule_up}

module _ (v w : Linked) (b : IsBegun v w) where
  abbrev count : ℕ
  count = length v.classes.records

  cells_up : {xs ys : List Ty} → CellsBelow v.classes xs ys → CellsBelow w.classes xs ys
  cells_up no_cells = no_cells
  cells_up (more_cells h hs) = more_cells (below_up v w b h) (cells_up hs)

  frame_up : (f g : Frame) → FrameBelow v.classes f g → FrameBelow w.classes f g
  frame_up f g h = record { regs = cells_up h.regs; stack = cells_up h.stack }

  at_up : (f : Frame) (o : Option Frame) → IsSomeAnd o (FrameBelow v.classes f) → IsSomeAnd o (FrameBelow w.classes f)
  at_up f x h = grind (arith, frame_up)

  -- ---- in the dataflow

  followed_up : (m : Method) (frames : ℕ → Option Frame) (i : Placed) (o : Option Frame) → IsSomeAnd o (IsFollowed v m frames i)
      → IsSomeAnd o (IsFollowed w m frames i)
  followed_up m frames i None h = absurd h
  followed_up m frames i (Some f) h = grind (arith, rule_up v w b m.rec i.place i.insn f h.after h.steps.0 h.steps.1, at_up)

  caught_up : (frames : ℕ → Option Frame) (h : Handler) (o : Option Frame)
      → IsSomeAnd o (λ f. At frames h.entry (FrameBelow v.classes (caught_frame h f)))
      → IsSomeAnd o (λ f. At frames h.entry (FrameBelow w.classes (caught_frame h f)))
  caught_up frames h x x2 = grind (arith, at_up)

  pub flow_up : (m : Method) (unset : Ty) (frames : ℕ → Option Frame) → FlowTyping v m unset frames → FlowTyping w m unset frames
  flow_up m unset frames t = grind (arith, at_up, followed_up, caught_up)

  -- ---- on the card

  class_up : (c : ℕ) → IsClass v.classes c → IsClass w.classes c
  class_up c is = record {
    number = (let all : length w.classes.records ≡ count + length b.grown.more = ap length b.grown.records ∙ length-append v.classes.records b.grown.more in
        let lt : c < count = is.number in omega (arith, all, lt));
    class = interface_front count v.classes w.classes b.grown c is.number ∙ is.class;
  }

  known_up : (ty : Ty) → IsKnown v.classes ty → IsKnown w.classes ty
  known_up x h = grind (arith, class_up)

  -- what is above a class that is there was above it before
  back_by : (c : ℕ) (u : Ty) → c < count → is_below w.classes (Class c) u ≡ true → is_below v.classes (Class c) u ≡ true
  unfolding is_below is_on_chain
  back_by c x lt e = grind (arith)

  below_back : (c : ℕ) (u : Ty) → c < count → Below w.classes (Class c) u → Below v.classes (Class c) u
  below_back c u lt h = Below-from_is_below v.classes b.few (Class c) u (back_by c u lt (is_below-from_Below w.classes b.many h))

  -- a class below one that is there is there
  on_chain : (c d : ℕ) → is_below v.classes (Class c) (Class d) ≡ true → is_on_chain v.classes d c ≡ true
  unfolding is_below
  on_chain c d e = e

  below_there : (c d : ℕ) → IsClass v.classes d → Below v.classes (Class c) (Class d) → c < count
  below_there c d is h = by (parent_of v.classes c) refl
    where
      by : (o : Option ℕ) → parent_of v.classes c ≡ o → c < count
      by None up =
          let same = on_alone v.classes d c (chain-alone v.classes c up) (on_chain c d (is_below-from_Below v.classes b.few h)) in
          let lt : d < count = is.number in
          omega (arith, same, lt)
      by (Some p) up = (parent_of-class v.classes c p up).number

  catches_up : (handlers : List Handler) (q c : ℕ) → AreCaughtAt v.classes handlers q c → AreCaughtAt w.classes handlers q c
  catches_up handlers q c h = record {
    class = class_up c h.class;
    above = λ x listed at. below_up v w b (h.above x listed at);
    least = λ u above. below_up v w b (h.least u (λ x listed at.
        below_back x.class u (below_there x.class c h.class (h.above x listed at)) (above x listed at)));
  }

  typed_up : (s : Subject) (regs : List Ty) (stacks : ℕ → List Ty) (i : Placed) → IsTypedIn v s regs stacks i → IsTypedIn w s regs stacks i
  typed_up s regs stacks i t = grind (arith, rule_up v w b s.rec i.place i.insn _ t.after t.applies.0 t.applies.1, cells_up t.stored)

  pub card_up : (s : Subject) (marked : ℕ → Type 0) (regs : List Ty) (stacks : ℕ → List Ty) → TypingOver v s marked regs stacks
      → TypingOver w s marked regs stacks
  card_up s marked regs stacks t = record {
    formed = t.formed;
    types = λ k d lt. known_up (get_or regs k d) (t.types k d lt);
    ready = t.ready;
    declared = cells_up t.declared;
    start = t.start;
    entries = λ q e. let x = t.entries q e in record { class = x.class; catches = catches_up s.rec.handlers q x.class x.catches; stack = x.stack };
    targets = t.targets;
    room = t.room;
    typed = λ i there. typed_up s regs stacks i (t.typed i there);
  }
