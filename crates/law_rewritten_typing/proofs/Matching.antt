-- The homes of two stacks, one below the other: they are at the same slots, each with a type below.
use Rattle.std.proofs.Common.{◌≡◌, ℕ, suc, ◌+◌, List, [], ◌∷◌, ◌++◌, length, All, sym, ◌∙◌, ap, subst, arith}
use Rattle.std.proofs.Common.{append_assoc, length-append}
use Rattle.std.proofs.lemmas.List.Elements.{All-head, All-tail}
use Rattle.jc_base.specs.Cell.{AreWhole, no_cells as no_whole, whole_int, one_cell, IsNoHalf}
use Rattle.jc_base.specs.Each.{Each}
use Rattle.jc_base.specs.Order.{Below}
use Rattle.jc_base.specs.declared.record.MethodRec.{MethodRec}
use Rattle.jc_base.specs.declared.ty.Ty.{Ty}
use Rattle.jc_base.specs.declared.ty.Ty.TheVariants.{IntHigh, IntLow}
use Rattle.jc_rules.specs.Flow.{CellsBelow, no_cells, more_cells, IsNotTop}
use Rattle.jc_rules.specs.Laws.{IsNotBottom}
use Rattle.xf_homes.specs.declared.home.Home.{Home}
use Rattle.xf_homes.specs.Source.{Source}
use Rattle.xf_homes.specs.Plan.{cells_from}
use Rattle.law_rewritten_typing.specs.Typed.{registers_of}
use Rattle.law_rewritten_typing.proofs.Walks.{Asked}
use Rattle.law_rewritten_typing.proofs.Stacks.{Stands, int-value, low-none, one-at, longer-by}
use Rattle.law_rewritten_typing.proofs.Ready.{IsReady}
use Rattle.law_rewritten_typing.proofs.Copies.{AreUnder, none_under, more_under}
use Rattle.law_rewritten_typing.proofs.WholeStacks.{high-only, low-only, no-half-above}
use Rattle.law_rewritten_typing.specs.Premises.{AreTypingLaws}

pub home-one : (slot : ℕ) (pre : List Ty) (a : Ty) (us : List Ty) (k : ℕ) → IsNoHalf a → IsNotTop a
    → cells_from slot (pre ++ a ∷ us) (length pre) (suc k) ≡ record { slot = slot + length pre; ty = a } ∷ cells_from slot ((pre ++ a ∷ []) ++ us)
    (length (pre ++ a ∷ [])) k
home-one slot pre a us k h n = grind (arith, longer-by, append_assoc, suc, one-at)

pub home-int : (slot : ℕ) (pre us : List Ty) (k : ℕ)
    → cells_from slot (pre ++ IntHigh ∷ IntLow ∷ us) (length pre) (suc (suc k)) ≡ record { slot = slot + length pre; ty = IntHigh } ∷ cells_from
    slot ((pre ++ IntHigh ∷ IntLow ∷ []) ++ us) (length (pre ++ IntHigh ∷ IntLow ∷ [])) k
home-int slot pre us k =
    grind (
      arith,
      longer-by pre IntHigh,
      suc (suc (length pre)),
      length-append pre (IntHigh ∷ IntLow ∷ []),
      append_assoc pre (IntHigh ∷ []) (IntLow ∷ us),
      append_assoc pre (IntHigh ∷ IntLow ∷ []) us,
      low-none (pre ++ IntHigh ∷ []) us,
      suc k,
      int-value pre us,
    )

module _ (s : Source) (l : AreTypingLaws s.world) (ready : IsReady s) (r : MethodRec) (asks : ℕ → Asked) where
  abbrev Standing : List Home → Type 0
  Standing hs = Each (Stands s l.objects r (registers_of s.homes) asks) hs

  abbrev Under : List Home → List Home → Type 0
  Under hs ks = AreUnder l.objects l.rules ready r asks hs ks

  pub matched : (slot : ℕ) (pre before : List Ty) {xs ys : List Ty} (over : List Ty) → length pre ≡ length before → AreWhole xs
      → CellsBelow s.world.classes xs ys → All IsNotBottom xs → All IsNotTop xs → All IsNotTop ys
      → Standing (cells_from slot (pre ++ (xs ++ over)) (length pre) (length xs))
      → Standing (cells_from slot (before ++ ys) (length before) (length ys))
      → Under (cells_from slot (pre ++ (xs ++ over)) (length pre) (length xs)) (cells_from slot (before ++ ys) (length before) (length ys))
  matched slot pre before over e no_whole no_cells full top top2 a b = none_under
  matched slot pre before over e (whole_int {types = us} is)
      (more_cells {a = h} {b = p} {xs = xs} {ys = ys} le (more_cells {a = c} {b = d} {xs = zs} {ys = vs} ge more)) full top top2 a b =
      let high : p ≡ IntHigh = high-only s.world.classes l.rules.types p ((l.rules.types.decided IntHigh p).1 le) (All-head IsNotTop p (d ∷ vs) top2) in
      let low : d ≡ IntLow = low-only s.world.classes l.rules.types d ((l.rules.types.decided IntLow d).1 ge)
      (All-head IsNotTop d vs (All-tail IsNotTop p (d ∷ vs) top2)) in
      let left_is = home-int slot pre (us ++ over) (length us) in
      let right_is : cells_from slot (before ++ p ∷ d ∷ vs) (length before) (suc (suc (length vs)))
      ≡ record { slot = slot + length before; ty = IntHigh } ∷ cells_from slot ((before ++ IntHigh ∷ IntLow ∷ []) ++ vs)
      (length (before ++ IntHigh ∷ IntLow ∷ [])) (length vs) =
      ap (λ (y : Ty). cells_from slot (before ++ y ∷ d ∷ vs) (length before) (suc (suc (length vs)))) high
      ∙ ap (λ (y : Ty). cells_from slot (before ++ IntHigh ∷ y ∷ vs) (length before) (suc (suc (length vs)))) low
      ∙ home-int slot before vs (length vs) in
      let a2 = subst Standing left_is a in
      let b2 = subst Standing right_is b in
      let lengths : length (pre ++ IntHigh ∷ IntLow ∷ []) ≡ length (before ++ IntHigh ∷ IntLow ∷ []) = omega
      (arith, length-append pre (IntHigh ∷ IntLow ∷ []), length-append before (IntHigh ∷ IntLow ∷ []), e) in
      let rest = matched slot (pre ++ IntHigh ∷ IntLow ∷ []) (before ++ IntHigh ∷ IntLow ∷ []) over lengths is more
      (All-tail IsNotBottom IntLow us (All-tail IsNotBottom IntHigh (IntLow ∷ us) full))
      (All-tail IsNotTop IntLow us (All-tail IsNotTop IntHigh (IntLow ∷ us) top)) (All-tail IsNotTop d vs (All-tail IsNotTop p (d ∷ vs) top2)) a2.1
      b2.1 in
      let slots : slot + length pre ≡ slot + length before = ap (λ (k : ℕ). slot + k) e in
      subst (λ (hs : List Home). Under hs (cells_from slot (before ++ p ∷ d ∷ vs) (length before) (suc (suc (length vs))))) (sym left_is)
      (subst
      (λ (ks : List Home). Under
      (record { slot = slot + length pre; ty = IntHigh } ∷ cells_from slot ((pre ++ IntHigh ∷ IntLow ∷ []) ++ (us ++ over))
      (length (pre ++ IntHigh ∷ IntLow ∷ [])) (length us)) ks) (sym right_is)
      (more_under slots a2.0 b2.0 (subst (Below s.world.classes IntHigh) high le) rest))
  matched slot pre before over e (one_cell {a = u} {types = us} h is) (more_cells {a = c} {b = p} {xs = xs} {ys = vs} le more) full top top2 a b =
      let whole : IsNoHalf p = no-half-above s.world.classes l.rules.types u p le (All-head IsNotBottom u us full) h in
      let left_is = home-one slot pre u (us ++ over) (length us) h (All-head IsNotTop u us top) in
      let right_is = home-one slot before p vs (length vs) whole (All-head IsNotTop p vs top2) in
      let a2 = subst Standing left_is a in
      let b2 = subst Standing right_is b in
      let lengths : length (pre ++ u ∷ []) ≡ length (before ++ p ∷ []) = omega
      (arith, length-append pre (u ∷ []), length-append before (p ∷ []), e) in
      let rest = matched slot (pre ++ u ∷ []) (before ++ p ∷ []) over lengths is more (All-tail IsNotBottom u us full) (All-tail IsNotTop u us top)
      (All-tail IsNotTop p vs top2) a2.1 b2.1 in
      let slots : slot + length pre ≡ slot + length before = ap (λ (k : ℕ). slot + k) e in
      subst (λ (hs : List Home). Under hs (cells_from slot (before ++ p ∷ vs) (length before) (suc (length vs)))) (sym left_is)
      (subst
      (λ (ks : List Home). Under
      (record { slot = slot + length pre; ty = u } ∷ cells_from slot ((pre ++ u ∷ []) ++ (us ++ over)) (length (pre ++ u ∷ [])) (length us)) ks)
      (sym right_is)
      (more_under slots a2.0 b2.0 le rest))
