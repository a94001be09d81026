-- Conditional branches and switches: the homes of the cells under their operands, and of those where they lead.
use Rattle.std.proofs.Common.{◌≡◌, inl, ℕ, suc, ◌+◌, ◌≤◌, Bool, true, false, List, [], ◌∷◌, ◌++◌, length, reverse, All}
use Rattle.std.proofs.Common.{Some, Ok, IfSome, refl, sym, ◌∙◌, ap, subst, arith, length-append}
use Rattle.std.proofs.lemmas.Bool.Decides.{nat_tests}
use Rattle.std.proofs.lemmas.List.{append-nil, length-reverse}
use Rattle.std.proofs.lemmas.List.Sums.{sum_by-append}
use Rattle.std.proofs.lemmas.List.Elements.{All-head, All-tail}
use Rattle.jc_base.proofs.Lists.{All-reverse}
use Rattle.jc_base.specs.Cell.{AreWhole, no_cells as no_whole, whole_int, one_cell, IsDeclared, IsNoHalf}
use Rattle.jc_base.specs.Each.{Each}
use Rattle.jc_base.specs.World.{Linked}
use Rattle.jc_base.specs.declared.record.MethodRec.{MethodRec}
use Rattle.jc_base.specs.declared.ty.Ty.{Ty}
use Rattle.jc_base.specs.declared.ty.Ty.TheVariants.{IntHigh, IntLow}
use Rattle.jc_decode.specs.declared.insn.Placed.{Placed}
use Rattle.jc_ops.specs.declared.operation.Operation.{Operation}
use Rattle.jc_control.specs.Control.{IsSuccessor}
use Rattle.jc_control.specs.WellFormed.{HasInstruction}
use Rattle.jc_rules.specs.Demand.{Frame}
use Rattle.jc_rules.specs.Flow.{CellsBelow, no_cells, more_cells, IsNotTop}
use Rattle.jc_rules.specs.Laws.{IsNotBottom}
use Rattle.jc_rules.proofs.Decides.{ok-same}
use Rattle.jc_flow.proofs.Derived.{of_world}
use Rattle.xf_homes.specs.declared.home.Home.{Home}
use Rattle.xf_homes.specs.Home.{IsConditional, register_count}
use Rattle.xf_homes.specs.Order.{register_sum}
use Rattle.xf_homes.specs.Value.{type_width}
use Rattle.xf_homes.specs.Walk.{operands_of}
use Rattle.xf_homes.specs.Source.{Source}
use Rattle.xf_homes.specs.Plan.{stack_homes, cells_from, is_leader, operation}
use Rattle.xf_emission.specs.Emission.{rewritten}
use Rattle.xf_emission.specs.Jump.{has_under, operands, under}
use Rattle.law_laid.specs.Laid.{record_with}
use Rattle.law_rewritten_typing.specs.Planned.{IsPlanned, KeepsValues}
use Rattle.law_rewritten_typing.specs.Edges.{AreMatched, none_matched, more_matched, IsForkedAt, ForksAreCut, ForksMatch}
use Rattle.law_rewritten_typing.specs.Typed.{registers_of}
use Rattle.law_rewritten_typing.proofs.Walks.{Asked, nothing_asked}
use Rattle.law_rewritten_typing.specs.Premises.{AreTypingLaws}
use Rattle.law_rewritten_typing.proofs.Cuts.{IsForked, IsCut}
use Rattle.law_rewritten_typing.proofs.ForkTypings.{fork, cut-at, depth-is, keeps-over, all-right, each-left}
use Rattle.law_rewritten_typing.proofs.Listings.{IsReachedRun, run-of}
use Rattle.law_rewritten_typing.proofs.Matching.{home-one, home-int}
use Rattle.law_rewritten_typing.proofs.WholeStacks.{high-only, low-only, no-half-above}
use Rattle.law_rewritten_typing.proofs.Below.{loads-same}
use Rattle.law_rewritten_typing.proofs.EdgeHomes.{ready, fills, cells-are, fill-stack, fit-at}
use Rattle.law_rewritten_typing.proofs.RewrittenTyping.{record-for}

conditional-of : (s : Source) (op : Operation) (n : ℕ) → operands_of s.world (Ok op) ≡ Some n → IsConditional op
conditional-of s op n e = grind (arith)

module _ (s : Source) (l : AreTypingLaws s.world) where
  -- the homes of two lists of whole values, one below the other
  matched-homes :
      (slot : ℕ) (pre before : List Ty) {xs ys : List Ty} (over : List Ty) → length pre ≡ length before → AreWhole xs
      → CellsBelow s.world.classes xs ys
      → All IsNotBottom xs → All IsNotTop xs → All IsNotTop ys
      → Each (KeepsValues s) (cells_from slot (pre ++ (xs ++ over)) (length pre) (length xs))
      → Each (KeepsValues s) (cells_from slot (before ++ ys) (length before) (length ys))
      → AreMatched s (cells_from slot (pre ++ (xs ++ over)) (length pre) (length xs)) (cells_from slot (before ++ ys) (length before) (length ys))
  matched-homes slot pre before over e no_whole no_cells full top top2 a b = none_matched
  matched-homes slot pre before over e (whole_int {types = us} is)
      (more_cells {a = h} {b = p} {xs = xs} {ys = ys} le (more_cells {a = c} {b = d} {xs = zs} {ys = vs} ge more)) full top top2 a b =
      let high : p ≡ IntHigh = high-only s.world.classes l.rules.types p ((l.rules.types.decided IntHigh p).1 le) (All-head IsNotTop p (d ∷ vs) top2) in
      let low : d ≡ IntLow = low-only s.world.classes l.rules.types d ((l.rules.types.decided IntLow d).1 ge)
      (All-head IsNotTop d vs (All-tail IsNotTop p (d ∷ vs) top2)) in
      let left_is = home-int slot pre (us ++ over) (length us) in
      let right_is : cells_from slot (before ++ p ∷ d ∷ vs) (length before) (suc (suc (length vs)))
      ≡ record { slot = slot + length before; ty = IntHigh } ∷ cells_from slot ((before ++ IntHigh ∷ IntLow ∷ []) ++ vs)
      (length (before ++ IntHigh ∷ IntLow ∷ [])) (length vs) =
      ap (λ (y : Ty). cells_from slot (before ++ y ∷ d ∷ vs) (length before) (suc (suc (length vs)))) high
      ∙ ap (λ (y : Ty). cells_from slot (before ++ IntHigh ∷ y ∷ vs) (length before) (suc (suc (length vs)))) low
      ∙ home-int slot before vs (length vs) in
      let a2 = subst (Each (KeepsValues s)) left_is a in
      let b2 = subst (Each (KeepsValues s)) right_is b in
      let lengths : length (pre ++ IntHigh ∷ IntLow ∷ []) ≡ length (before ++ IntHigh ∷ IntLow ∷ []) = omega
      (arith, length-append pre (IntHigh ∷ IntLow ∷ []), length-append before (IntHigh ∷ IntLow ∷ []), e) in
      let rest = matched-homes slot (pre ++ IntHigh ∷ IntLow ∷ []) (before ++ IntHigh ∷ IntLow ∷ []) over lengths is more
      (All-tail IsNotBottom IntLow us (All-tail IsNotBottom IntHigh (IntLow ∷ us) full))
      (All-tail IsNotTop IntLow us (All-tail IsNotTop IntHigh (IntLow ∷ us) top)) (All-tail IsNotTop d vs (All-tail IsNotTop p (d ∷ vs) top2)) a2.1
      b2.1 in
      let slots : slot + length pre ≡ slot + length before = ap (λ (k : ℕ). slot + k) e in
      subst (λ (hs : List Home). AreMatched s hs (cells_from slot (before ++ p ∷ d ∷ vs) (length before) (suc (suc (length vs))))) (sym left_is)
      (subst
      (λ (ks : List Home). AreMatched s
      (record { slot = slot + length pre; ty = IntHigh } ∷ cells_from slot ((pre ++ IntHigh ∷ IntLow ∷ []) ++ (us ++ over))
      (length (pre ++ IntHigh ∷ IntLow ∷ [])) (length us)) ks) (sym right_is)
      (more_matched slots a2.0 b2.0 refl rest))
  matched-homes slot pre before over e (one_cell {a = u} {types = us} h is) (more_cells {a = c} {b = p} {xs = xs} {ys = vs} le more) full top top2 a b =
      let whole : IsNoHalf p = no-half-above s.world.classes l.rules.types u p le (All-head IsNotBottom u us full) h in
      let left_is = home-one slot pre u (us ++ over) (length us) h (All-head IsNotTop u us top) in
      let right_is = home-one slot before p vs (length vs) whole (All-head IsNotTop p vs top2) in
      let a2 = subst (Each (KeepsValues s)) left_is a in
      let b2 = subst (Each (KeepsValues s)) right_is b in
      let lengths : length (pre ++ u ∷ []) ≡ length (before ++ p ∷ []) = omega
      (arith, length-append pre (u ∷ []), length-append before (p ∷ []), e) in
      let rest = matched-homes slot (pre ++ u ∷ []) (before ++ p ∷ []) over lengths is more
      (All-tail IsNotBottom u us full) (All-tail IsNotTop u us top) (All-tail IsNotTop p vs top2) a2.1 b2.1 in
      let slots : slot + length pre ≡ slot + length before = ap (λ (k : ℕ). slot + k) e in
      subst (λ (hs : List Home). AreMatched s hs (cells_from slot (before ++ p ∷ vs) (length before) (suc (length vs)))) (sym left_is)
      (subst
      (λ (ks : List Home). AreMatched s
      (record { slot = slot + length pre; ty = u } ∷ cells_from slot ((pre ++ u ∷ []) ++ (us ++ over)) (length (pre ++ u ∷ [])) (length us)) ks)
      (sym right_is)
      (more_matched slots a2.0 b2.0 (loads-same s.world.classes l.rules.types u p le (All-head IsNotBottom u us full) (All-head IsNotTop p vs top2)) rest))

module _ (s : Source) (l : AreTypingLaws s.world) (plan : IsPlanned s) where
  abbrev new : ℕ → ℕ
  new n = n

  apart : (a b : ℕ) → new a ≡ new b → a ≡ b
  apart a b e = e

  abbrev r : MethodRec
  r = record_with s.method.rec (rewritten s)

  abbrev asks : ℕ → Asked
  asks n = nothing_asked

  res : IfSome s.method.rec.sig.result (IsDeclared s.world.classes)
  res = (of_world s.world l.rules s.method plan.method).result

  module _ (i : Placed) (op : Operation) (n : ℕ) (f : Frame) (st : HasInstruction s.method.code i) (at : s.frames i.place ≡ Some f)
      (names : operation s i ≡ Ok op) (some : operands_of s.world (Ok op) ≡ Some n) where
    k : IsReachedRun new apart s l (ready s l plan) r (record-for s) asks res plan.code i f
    k = run-of new apart s l (ready s l plan) r (record-for s) asks res plan.code i f st at

    same_op : op ≡ k.op
    same_op = ok-same (sym names ∙ k.run.resolves)

    takes : operands_of s.world (Ok k.op) ≡ Some n
    takes = subst (λ (o : Operation). operands_of s.world (Ok o) ≡ Some n) same_op some

    is : IsConditional k.op
    is = conditional-of s k.op n takes

    forked : IsForked s.world k.op n f.stack k.after.stack (registers_of s.homes)
    forked = fork new apart s l (ready s l plan) r (record-for s) asks res plan.code i k.op f k.after n k.run is takes

    cut : IsCut s i.place n forked.operands k.after.stack
    cut = cut-at new apart s l (ready s l plan) r (record-for s) asks res plan.code i k.op f k.after n k.run forked

    whole_after : AreWhole (reverse k.after.stack)
    whole_after =
        l.whole s.method.rec.max_stack s.method.rec i.place k.op _ f k.after k.run.outcome k.run.sound ((ready s l plan).whole i.place f at).whole
        k.run.does

    no_top_after : All IsNotTop k.after.stack
    no_top_after = all-right IsNotTop forked.operands k.after.stack (subst (All IsNotTop) forked.parts k.run.fit.no_top)

    under_is : under s i.place n ≡ cells_from (register_count s.method.rec) (reverse k.after.stack ++ reverse forked.operands) 0
        (length (reverse k.after.stack))
    under_is =
        cut.from_bottom ∙ ap (λ (m : ℕ). cells_from (register_count s.method.rec) (reverse k.after.stack ++ reverse forked.operands) 0 m)
        (sym (length-reverse k.after.stack))

    under_fill : register_sum (under s i.place n) ≡ length k.after.stack
    under_fill =
        ap register_sum under_is
        ∙ (fills (register_count s.method.rec) [] (reverse k.after.stack) (reverse forked.operands) whole_after
        (All-reverse IsNotTop k.after.stack no_top_after)).fill
        ∙ length-reverse k.after.stack

    all_fill : register_sum (stack_homes s i.place) ≡ length f.stack
    all_fill =
        let types = reverse f.stack in
        let full : types ++ [] ≡ types = append-nil types in
        let whole = (ready s l plan).whole i.place f at in
        let all = fills (register_count s.method.rec) [] types [] whole.whole (All-reverse IsNotTop f.stack k.run.fit.no_top) in
        ap register_sum (cells-are s l plan i.place f at)
        ∙ ap (λ (ts : List Ty). register_sum (cells_from (register_count s.method.rec) ts 0 (length types))) (sym full) ∙ all.fill
        ∙ length-reverse f.stack

    count : length f.stack ≡ n + length k.after.stack
    count = ap length forked.parts ∙ length-append forked.operands k.after.stack ∙ omega (arith, forked.size)

    both : register_sum (stack_homes s i.place) ≡ register_sum (under s i.place n) + register_sum (operands s i.place n)
    unfolding register_sum
    both = ap register_sum cut.parts ∙ sum_by-append (λ (h : Home). type_width h.ty) (under s i.place n) (operands s i.place n)

    pub forked-at : IsForkedAt s i.place n f
    forked-at = record {
      deep = omega (arith, count);
      parts = cut.parts;
      fill = omega (arith, both, all_fill, under_fill, count);
      keeps = λ over. keeps-over new apart s l (ready s l plan) r (record-for s) asks res plan.code i k.op f k.after n k.run is takes over;
    }

    under-keeps : Each (KeepsValues s) (under s i.place n)
    under-keeps = by (has_under s i.place n) refl
      where
        by : (b : Bool) → has_under s i.place n ≡ b → Each (KeepsValues s) (under s i.place n)
        by true over =
            let kept = (fill-stack s l plan i.place f at (forked-at.keeps over)).keep in
            each-left (KeepsValues s) (under s i.place n) (operands s i.place n) (subst (Each (KeepsValues s)) cut.parts kept)
        by false over =
            let deep = depth-is new apart s l (ready s l plan) r (record-for s) asks res plan.code i k.op f k.after k.run in
            let le : length f.stack ≤ n = grind (arith, nat_tests, over, deep) in
            let none : length (reverse k.after.stack) ≡ 0 = omega (arith, count, le, length-reverse k.after.stack) in
            let empty : under s i.place n ≡ [] = under_is
            ∙ ap (λ (m : ℕ). cells_from (register_count s.method.rec) (reverse k.after.stack ++ reverse forked.operands) 0 m) none in
            subst (Each (KeepsValues s)) (sym empty) tt

    pub matched-at : (q : ℕ) → IsSuccessor s.method.code i q → is_leader s q ≡ true → AreMatched s (under s i.place n) (stack_homes s q)
    matched-at q succ lead =
        let g = k.below q succ in
        let keeps = fill-stack s l plan q g.frame g.at (inl ((plan.leaders q).0 lead)) in
        let second = cells-are s l plan q g.frame g.at in
        let full = all-right IsNotBottom forked.operands k.after.stack
        (subst (All IsNotBottom) forked.parts ((ready s l plan).whole i.place f at).stack) in
        let m = matched-homes s l (register_count s.method.rec) [] [] (reverse forked.operands) refl whole_after (l.rules.order.turned g.below.stack)
        (All-reverse IsNotBottom k.after.stack full) (All-reverse IsNotTop k.after.stack no_top_after)
        (All-reverse IsNotTop g.frame.stack (fit-at s l plan q g.frame g.at).no_top)
        (subst (Each (KeepsValues s)) under_is under-keeps) (subst (Each (KeepsValues s)) second keeps.keep) in
        subst (λ (hs : List Home). AreMatched s hs (stack_homes s q)) (sym under_is)
        (subst
        (λ (ks : List Home). AreMatched s
        (cells_from (register_count s.method.rec) (reverse k.after.stack ++ reverse forked.operands) 0 (length (reverse k.after.stack))) ks)
        (sym second) m)

module _ (w : Linked) (laws : AreTypingLaws w) where
  pub forks-are-cut : ForksAreCut w
  forks-are-cut s own plan i op n f st at names some =
      forked-at s (subst AreTypingLaws (sym own) laws) plan i op n f st at names some

  pub forks-match : ForksMatch w
  forks-match s own plan i op n q f st at names some succ lead =
      matched-at s (subst AreTypingLaws (sym own) laws) plan i op n f st at names some q succ
      lead
