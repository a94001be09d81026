-- The homes of what stands at a place, and of what an edge carries there.
use Rattle.std.proofs.Common.{◌≡◌, ◌⊎◌, ℕ, zero, suc, ◌+◌, ◌<◌, Bool, true, false, inl, inr}
use Rattle.std.proofs.Common.{List, [], ◌∷◌, ◌++◌, length, reverse, slice_get, replicate}
use Rattle.std.proofs.Common.{All, Option, Some, None, Result, Ok, IsSomeAnd, IfSome}
use Rattle.std.proofs.Common.{refl, sym, ◌∙◌, ap, subst, arith, length-append}
use Rattle.std.specs.Prelude.{IsSome}
use Rattle.std.proofs.lemmas.List.{append-nil, length-reverse}
use Rattle.std.proofs.lemmas.List.Sums.{sum_by-cons}
use Rattle.jc_base.proofs.Lists.{All-reverse, slice_get-farther, All-slice_get}
use Rattle.jc_base.specs.Cell.{AreWhole, no_cells as no_whole, whole_int, one_cell, IsNoHalf}
use Rattle.jc_base.specs.Each.{Each, IsAmong}
use Rattle.jc_base.specs.Order.{Below, IsKnown}
use Rattle.jc_base.specs.World.{Linked}
use Rattle.jc_base.specs.declared.record.MethodRec.{MethodRec}
use Rattle.jc_base.specs.declared.ty.Ty.{Ty}
use Rattle.jc_base.specs.declared.ty.Ty.TheVariants.{IntHigh, IntLow, Top}
use Rattle.jc_base.proofs.SameTypes.{same_type-decides}
use Rattle.jc_decode.specs.declared.insn.Placed.{Placed}
use Rattle.jc_ops.specs.declared.fault.RuleFault.{RuleFault}
use Rattle.jc_ops.specs.declared.operation.Operation.{Operation}
use Rattle.jc_control.specs.Control.{IsReached, IsSuccessor}
use Rattle.jc_control.specs.WellFormed.{HasInstruction}
use Rattle.jc_rules.specs.Demand.{Frame}
use Rattle.jc_rules.specs.Flow.{FrameBelow, IsFit, IsFollowed, IsDerived, derived_start, derived_next, IsNotFresh, IsNotTop, start_frame}
use Rattle.jc_rules.specs.Laws.{IsNotBottom}
use Rattle.xf_homes.specs.declared.home.Home.{Home}
use Rattle.xf_homes.specs.Home.{register_count, argument_types, IsAsked, asked_here, KeepsStack}
use Rattle.xf_homes.specs.Order.{SlotsFollow, register_sum}
use Rattle.xf_homes.specs.Value.{value_in_cells, type_width}
use Rattle.xf_homes.specs.Walk.{local_of}
use Rattle.xf_homes.proofs.Events.{among-has}
use Rattle.xf_homes.specs.Source.{Source}
use Rattle.xf_homes.specs.Plan.{stack_homes, cells_from, needed, operation, stack_of, with_home_of, home_of}
use Rattle.xf_homes.proofs.Serving.{homes-serve}
use Rattle.xf_emission.specs.declared.origin.Origin.{Origin}
use Rattle.xf_emission.specs.declared.origin.Origin.TheVariants.{Start, After, Entry}
use Rattle.xf_emission.specs.Edge.{is_stored}
use Rattle.law_rewritten_typing.specs.Planned.{IsPlanned, IsKept, KeepsValues}
use Rattle.law_rewritten_typing.specs.Edges.{IsNeededFor, NeededHaveHomes, slot_types, FillStack}
use Rattle.law_rewritten_typing.specs.Edges.{CellsFillStack, LeadsTo, leads_start, leads_after}
use Rattle.law_rewritten_typing.specs.Edges.{leads_entry, stored_at, IsCarried, EdgesCarry}
use Rattle.law_rewritten_typing.specs.Whole.{IsWholeFrame}
use Rattle.law_rewritten_typing.proofs.Walks.{Asked, nothing_asked}
use Rattle.law_rewritten_typing.proofs.Moves.{IsPlainValue}
use Rattle.law_rewritten_typing.proofs.Ready.{IsReady, value-is, value-plain, framed, reached, found, needed-are}
use Rattle.law_rewritten_typing.proofs.Registers.{kept-ready, arguments-known, arguments-full, arguments-ready}
use Rattle.law_rewritten_typing.specs.Premises.{AreTypingLaws}
use Rattle.law_rewritten_typing.proofs.Carried.{is-high}
use Rattle.law_rewritten_typing.proofs.Matching.{home-one, home-int}
use Rattle.law_rewritten_typing.proofs.Below.{value-moved, value-before, value-below, loads-same, unwritten, unspoiled}

kept-is : (ty : Ty) → IsPlainValue ty → IsKept ty
kept-is ty h = grind (arith)

pub kept-not-top : (ty : Ty) → IsKept ty → IsNotTop ty
kept-not-top ty h = grind (arith)

-- ---- the homes of cells

each-cell :
    (P : Home → Type 0) (slot : ℕ) (types : List Ty)
    → ((i : ℕ) (ty : Ty) → value_in_cells types i ≡ Some ty → P (record { slot = slot + i; ty = ty }))
    → (i n : ℕ) → Each P (cells_from slot types i n)
each-cell P slot types h i zero = tt
each-cell P slot types h i (suc n) = by (value_in_cells types i) refl (each-cell P slot types h (suc i) n)
  where
    by : (v : Option Ty) → value_in_cells types i ≡ v → Each P (cells_from slot types (suc i) n)
        → Each P (with_home_of (home_of (slot + i) v) (cells_from slot types (suc i) n))
    by None e more = more
    by (Some ty) e more = (h i ty e, more)

value-farther : (xs ys : List Ty) (n m : ℕ) → m ≡ length xs + n → value_in_cells (xs ++ ys) m ≡ value_in_cells ys n
unfolding value_in_cells
value-farther xs ys n m e = grind (arith, slice_get, slice_get-farther)

-- they follow one another, and take as many registers as there are cells
pub record Fills (slot count : ℕ) (hs : List Home) : Type 0 where
  pub follow : SlotsFollow slot hs
  pub fill : register_sum hs ≡ count

pub fills :
    (slot : ℕ) (pre rest over : List Ty) → AreWhole rest → All IsNotTop rest
    → Fills (slot + length pre) (length rest) (cells_from slot (pre ++ (rest ++ over)) (length pre) (length rest))
unfolding register_sum
fills slot pre [] over no_whole top = record { follow = tt; fill = refl }
fills slot pre _ over (whole_int {types = us} is) top =
    let more = fills slot (pre ++ IntHigh ∷ IntLow ∷ []) us over is (λ k d lt. top (suc (suc k)) d (omega (arith, lt))) in
    let hs = cells_from slot ((pre ++ IntHigh ∷ IntLow ∷ []) ++ (us ++ over)) (length (pre ++ IntHigh ∷ IntLow ∷ [])) (length us) in
    let next : slot + length (pre ++ IntHigh ∷ IntLow ∷ []) ≡ slot + length pre + 2 = omega (arith, length-append pre (IntHigh ∷ IntLow ∷ [])) in
    let first : Home = record { slot = slot + length pre; ty = IntHigh } in
    subst (λ (ks : List Home). Fills (slot + length pre) (suc (suc (length us))) ks) (sym (home-int slot pre (us ++ over) (length us)))
    (record {
      follow = (refl, subst (λ (n : ℕ). SlotsFollow n hs) next more.follow);
      fill = sum_by-cons (λ (h : Home). type_width h.ty) first hs ∙ omega (arith, more.fill);
    })
fills slot pre _ over (one_cell {a = a} {types = us} h is) top =
    let more = fills slot (pre ++ a ∷ []) us over is (λ k d lt. top (suc k) d (omega (arith, lt))) in
    let hs = cells_from slot ((pre ++ a ∷ []) ++ (us ++ over)) (length (pre ++ a ∷ [])) (length us) in
    let one : type_width a ≡ 1 = single a h in
    let next : slot + length (pre ++ a ∷ []) ≡ slot + length pre + type_width a = omega (arith, length-append pre (a ∷ []), one) in
    let first : Home = record { slot = slot + length pre; ty = a } in
    subst (λ (ks : List Home). Fills (slot + length pre) (suc (length us)) ks) (sym (home-one slot pre a (us ++ over) (length us) h (top 0 a (omega arith))))
    (record {
      follow = (refl, subst (λ (n : ℕ). SlotsFollow n hs) next more.follow);
      fill = sum_by-cons (λ (h : Home). type_width h.ty) first hs ∙ omega (arith, more.fill, one);
    })
  where
    single : (u : Ty) → IsNoHalf u → type_width u ≡ 1
    single IntHigh h = absurd h
    single u h = refl

-- ---- places and edges

module _ (s : Source) (l : AreTypingLaws s.world) (plan : IsPlanned s) where
  abbrev asks : ℕ → Asked
  asks n = nothing_asked

  abbrev r : MethodRec
  r = s.method.rec

  pub ready : IsReady s
  ready = record {
    typing = plan.typing;
    has = plan.frames;
    whole = λ p f e. l.derived s.method p f plan.method (subst (λ (o : Option Frame). IfSome o (IsDerived s.world s.method Top p)) e (plan.derived p));
    marks = plan.leaders;
    serve = homes-serve same_type-decides s.world s.method s.frames s.homes plan.homes;
    few = plan.few;
  }

  some-same : (f g : Frame) → ◌≡◌ {A = Option Frame} (Some f) (Some g) → f ≡ g
  some-same f g e = cc

  reached-at : (p : ℕ) (f : Frame) → s.frames p ≡ Some f → IsReached s.method p
  reached-at p f e = reached l.objects l.rules ready r asks p f e

  pub fit-at : (p : ℕ) (f : Frame) → s.frames p ≡ Some f → IsFit s.method f
  fit-at p f e = grind (arith, reached-at, some-same)

  -- the value of a local in a frame has a home
  local-keeps : (p : ℕ) (f : Frame) (h : Home) → s.frames p ≡ Some f → value_in_cells f.regs h.slot ≡ Some h.ty → KeepsValues s h
  local-keeps p f h e v =
      let w = ready.whole p f e in
      let asked : IsAsked s.method s.frames p h.slot 0 h.ty =
      asked_here (subst (λ (o : Option Frame). IsSomeAnd o (λ (g : Frame). value_in_cells g.regs h.slot ≡ Some h.ty)) (sym e) v) in
      let plain = value-plain s.world.classes f.regs h.slot h.ty v w.known.regs w.regs w.ready in
      record { kept = kept-is h.ty plain.0; known = plain.1; has = ready.serve.needed p h.slot h.ty (reached-at p f e) (0, asked) }

  needed-for : (q x : ℕ) (f : Frame) (h : Home) → s.frames q ≡ Some f → IsAmong h (needed s q x) → IsNeededFor s f x h
  needed-for q x f h e a =
      let n = ((needed-are l.objects l.rules ready r asks q x).all h).0 a in
      let k = found l.objects l.rules ready r asks q x n.1.0 h.ty n.1.1 in
      let value : value_in_cells k.frame.regs h.slot ≡ Some h.ty = ap (value_in_cells k.frame.regs) n.0 ∙ k.value in
      record {
        slot = n.0;
        keeps = local-keeps k.place k.frame h k.at value;
        types = k.frame.regs;
        above = k.above f e;
        value = value;
      }

  pub cells-are : (q : ℕ) (f : Frame) → s.frames q ≡ Some f
      → stack_homes s q ≡ cells_from (register_count s.method.rec) (reverse f.stack) 0 (length (reverse f.stack))
  unfolding stack_homes
  cells-are q f e = ap (λ (o : Option Frame). cells_from (register_count s.method.rec) (stack_of o) 0 (length (stack_of o))) e

  pub fill-stack : (q : ℕ) (f : Frame) → s.frames q ≡ Some f → KeepsStack s.world s.method s.frames q → FillStack s q f
  fill-stack q f e keeps =
      let base = register_count s.method.rec in
      let types = reverse f.stack in
      let whole = ready.whole q f e in
      let no_top = All-reverse IsNotTop f.stack (fit-at q f e).no_top in
      let fresh = kept-ready l.objects l.rules ready r asks l.alike plan.code q f e keeps in
      let count : length f.regs ≡ base = subst (λ (o : Option Frame). IfSome o (λ g. length g.regs ≡ base)) e (plan.registers q) in
      let is = cells-are q f e in
      let full : types ++ [] ≡ types = append-nil types in
      let all = subst (λ (ts : List Ty). Fills (base + 0) (length types) (cells_from base ts 0 (length types))) full
      (fills base [] types [] whole.whole no_top) in
      let here : base + 0 ≡ base = omega arith in
      record {
        follow = subst (SlotsFollow base) (sym is) (subst (λ (n : ℕ). SlotsFollow n (cells_from base types 0 (length types))) here all.follow);
        fill = ap register_sum is ∙ all.fill ∙ length-reverse f.stack;
        keep = subst (Each (KeepsValues s)) (sym is) (each-cell (KeepsValues s) base types (λ i ty v.
            let plain = value-plain s.world.classes types i ty v (All-reverse (IsKnown s.world.classes) f.stack whole.known.stack)
            (All-reverse IsNotBottom f.stack whole.stack) (All-reverse IsNotFresh f.stack fresh) in
            record {
              kept = kept-is ty plain.0;
              known = plain.1;
              has = ready.serve.cells q i ty (reached-at q f e) keeps
                  (subst (λ (o : Option Frame). IsSomeAnd o (λ (g : Frame). value_in_cells (reverse g.stack) i ≡ Some ty)) (sym e) v);
            }) 0 (length types));
        values = subst (Each (λ h. value_in_cells (slot_types f) h.slot ≡ Some h.ty)) (sym is)
            (each-cell (λ h. value_in_cells (slot_types f) h.slot ≡ Some h.ty) base types
            (λ i ty v. value-farther f.regs types i (base + i) (omega (arith, count)) ∙ v) 0 (length types));
      }

  -- ---- an edge

  wide-only : (ty : Ty) (k : ℕ) → suc k < type_width ty → (ty ≡ IntHigh) × (k ≡ 0)
  wide-only ty k lt = grind (arith)

  home-of : (cells : List Ty) (h : Home) (u : Ty) → value_in_cells cells h.slot ≡ Some u → home_of h.slot (value_in_cells cells h.slot)
      ≡ Some (record { slot = h.slot; ty = u })
  home-of cells h u v = ap (home_of h.slot) v

  pub frame-at : (q : ℕ) → IsReached s.method q → (g : Frame) × (s.frames q ≡ Some g)
  frame-at q there = by (s.frames q) refl ((plan.frames.reached q).1 there)
    where
      by : (o : Option Frame) → s.frames q ≡ o → IsSome o → (g : Frame) × (s.frames q ≡ Some g)
      by None e is = absurd (cc)
      by (Some g) e is = (g, e)

  on-start : (x : ℕ) (h : Home) → IsAmong h (needed s 0 x) → (from : Home) × IsCarried s Start h from
  on-start x h a =
      let begun = framed l.objects l.rules ready r asks (s.frames 0) (FrameBelow s.world.classes (start_frame s.method.rec Top))
      plan.typing.start in
      let k = needed-for 0 x begun.0 h begun.1 a in
      let whole : IsWholeFrame s.world (start_frame s.method.rec Top) = l.derived s.method 0 (start_frame s.method.rec Top) plan.method derived_start in
      let v = value-below s.world.classes l.rules.types (start_frame s.method.rec Top).regs k.types (l.rules.order.through begun.2.regs k.above) whole.regs
      h.slot h.ty k.value in
      let own : value_in_cells (argument_types s.method.rec) h.slot ≡ Some v.0 = value-before (argument_types s.method.rec) s.method.rec.max_locals h.slot v.0
      (ap (λ (ts : List Ty). value_in_cells ts h.slot) (start-is) ∙ v.1) in
      let from : Home = record { slot = h.slot; ty = v.0 } in
      let known = arguments-known l.objects l.rules ready r asks l.alike plan.code plan.method l.derived plan.homes in
      let full = arguments-full l.objects l.rules ready r asks l.alike plan.code plan.method l.derived plan.homes in
      let fresh = arguments-ready l.objects l.rules ready r asks l.alike plan.code plan.method l.derived plan.homes in
      let plain = value-plain s.world.classes (argument_types s.method.rec) h.slot v.0 own known full fresh in (
        from,
        record {
          before = home-of (argument_types s.method.rec) h v.0 own;
          slot = refl;
          there = among-has same_type-decides (from ∷ []) from (inl refl);
          keeps = record { kept = kept-is v.0 plain.0; known = plain.1; has = (h.slot, ready.serve.arguments from own) };
          loads = grind (arith, loads-same, value-is, kept-not-top);
          apart = λ n lt. refl;
        },
      )
    where
      start-is : argument_types s.method.rec ++ replicate s.method.rec.max_locals Top ≡ (start_frame s.method.rec Top).regs
      start-is = refl

  on-entry : (q x : ℕ) (h : Home) → IsReached s.method q → IsAmong h (needed s q x) → (from : Home) × IsCarried s (Entry q) h from
  on-entry q x h there a =
      let g = frame-at q there in
      let k = needed-for q x g.0 h g.1 a in
      let whole = ready.whole q g.0 g.1 in
      let v = value-below s.world.classes l.rules.types g.0.regs k.types k.above whole.regs h.slot h.ty k.value in
      let from : Home = record { slot = h.slot; ty = v.0 } in (
        from,
        record {
          before = ap (λ (o : Option Frame). home_of h.slot (local_of o h.slot)) g.1 ∙ home-of g.0.regs h v.0 v.1;
          slot = refl;
          there = among-has same_type-decides (from ∷ []) from (inl refl);
          keeps = local-keeps q g.0 from g.1 v.1;
          loads = loads-same s.world.classes l.rules.types v.0 h.ty v.2
              (All-slice_get IsNotBottom g.0.regs h.slot v.0 whole.regs (value-is g.0.regs h.slot v.0 v.1).first) (kept-not-top h.ty k.keeps.kept);
          apart = λ n lt. refl;
        },
      )

  ok-same : (a b : Operation) → ◌≡◌ {A = Result Operation RuleFault} (Ok a) (Ok b) → a ≡ b
  ok-same a b e = cc

  on-after :
      (i : Placed) (op : Operation) (q x : ℕ) (h : Home) → HasInstruction s.method.code i → IsReached s.method i.place → operation s i ≡ Ok op
      → IsSuccessor s.method.code i q → IsAmong h (needed s q x)
      → (is_stored op h.slot ≡ true) ⊎ ((from : Home) × IsCarried s (After i.place op) h from)
  on-after i op q x h st there is succ a =
      let follows = framed l.objects l.rules ready r asks (s.frames i.place) (IsFollowed s.world s.method s.frames i)
      (plan.typing.rules i st there) in
      let f = follows.0 in
      let after = follows.2.after in
      let step = follows.2.steps.1 in
      let own_op : step.operation ≡ op = ok-same step.operation op (step.resolves ∙ is) in
      let next = framed l.objects l.rules ready r asks (s.frames q) (FrameBelow s.world.classes after) (follows.2.below q succ) in
      let k = needed-for q x next.0 h next.1 a in
      let before_whole = ready.whole i.place f follows.1 in
      let derived : IsDerived s.world s.method Top i.place f =
      subst (λ (o : Option Frame). IfSome o (IsDerived s.world s.method Top i.place)) follows.1 (plan.derived i.place) in
      let after_whole = l.derived s.method q after plan.method (derived_next {i = i} derived st follows.2.steps succ) in
      let v = value-below s.world.classes l.rules.types after.regs k.types (l.rules.order.through next.2.regs k.above) after_whole.regs h.slot h.ty k.value in
      let value = value-is after.regs h.slot v.0 v.1 in
      let full = All-slice_get IsNotBottom after.regs h.slot v.0 after_whole.regs value.first in
      let same = unwritten s.world l.rules.types s.method.rec.max_stack step.operation f after follows.2.steps.0 step.does before_whole.regs in
      let low = unspoiled s.world l.rules.types s.method.rec.max_stack step.operation f after follows.2.steps.0 step.does h.slot in
      by f after v.0 own_op follows.1 (is_stored op h.slot) refl v.1 v.2 (λ y e. same y (ap (λ o. is_stored o y) own_op ∙ e))
      (λ e g. ap (λ o. is_stored o (h.slot + 1)) (sym own_op) ∙ low (ap (λ o. is_stored o h.slot) own_op ∙ e) g) full k.keeps.kept
    where
      by :
          (f after : Frame) (u : Ty) {step : Operation} → step ≡ op → s.frames i.place ≡ Some f → (b : Bool) → is_stored op h.slot ≡ b
          → value_in_cells after.regs h.slot ≡ Some u → Below s.world.classes u h.ty
          → ((y : ℕ) → is_stored op y ≡ false → slice_get after.regs y ≡ slice_get f.regs y)
          → (is_stored op h.slot ≡ false → slice_get after.regs (h.slot + 1) ≡ Some IntLow → is_stored op (h.slot + 1) ≡ false)
          → IsNotBottom u → IsKept h.ty
          → (is_stored op h.slot ≡ true) ⊎ ((from : Home) × IsCarried s (After i.place op) h from)
      by f after u e at true stored v le same low full kept = inl stored
      by f after u e at false stored v le same low full kept =
          let value = value-is after.regs h.slot u v in
          let second : u ≡ IntHigh → is_stored op (h.slot + 1) ≡ false = λ high. low stored (value.second high) in
          let own : value_in_cells f.regs h.slot ≡ Some u =
          value-moved after.regs f.regs h.slot u v (sym (same h.slot stored)) (λ high. sym (same (h.slot + 1) (second high))) in
          let from : Home = record { slot = h.slot; ty = u } in
          inr (
            from,
            record {
              before = grind (arith, home-of);
              slot = refl;
              there =
                  among-has same_type-decides (needed s i.place h.slot) from
                  (((needed-are l.objects l.rules ready r asks i.place h.slot).all from).1
                  (refl, (0, asked_here (subst (λ (o : Option Frame). IsSomeAnd o (λ (g : Frame). value_in_cells g.regs h.slot ≡ Some u)) (sym at) own))));
              keeps = local-keeps i.place f from at own;
              loads = loads-same s.world.classes l.rules.types u h.ty le full (kept-not-top h.ty kept);
              apart = apart u le full second;
            },
          )
        where
          apart : (u : Ty) → Below s.world.classes u h.ty → IsNotBottom u → (u ≡ IntHigh → is_stored op (h.slot + 1) ≡ false)
              → (k : ℕ) → k < type_width h.ty → is_stored op (h.slot + k) ≡ false
          apart u le full second zero lt = let here : h.slot ≡ h.slot + 0 = omega arith in subst (λ (y : ℕ). is_stored op y ≡ false) here stored
          apart u le full second (suc k) lt =
              let wide = wide-only h.ty k lt in
              let high : u ≡ IntHigh = is-high s.world.classes l.rules.types u (subst (Below s.world.classes u) wide.0 le) full in
              let there : h.slot + 1 ≡ h.slot + suc k = omega (arith, wide.1) in
              subst (λ (y : ℕ). is_stored op y ≡ false) there (second high)

  carry : (o : Origin) (q x : ℕ) (h : Home) → LeadsTo s o q → IsAmong h (needed s q x) → (stored_at o h.slot ≡ true)
      ⊎ ((from : Home) × IsCarried s o h from)
  carry _ _ x h leads_start a = inr (on-start x h a)
  carry _ _ x h (leads_after {i = i} {op = op} {q = q} st there is succ) a = on-after i op q x h st there is succ a
  carry _ _ x h (leads_entry {q = q} there) a = inr (on-entry q x h there a)

module _ (w : Linked) (laws : AreTypingLaws w) where
  pub needed-have-homes : NeededHaveHomes w
  needed-have-homes s own plan = needed-for s (subst AreTypingLaws (sym own) laws) plan

  pub cells-fill-stack : CellsFillStack w
  cells-fill-stack s own plan = fill-stack s (subst AreTypingLaws (sym own) laws) plan

  pub edges-carry : EdgesCarry w
  edges-carry s own plan = carry s (subst AreTypingLaws (sym own) laws) plan
