-- What the card typing of rewritten code rests on, and the values that stand in homes.
use Rattle.std.proofs.Common.{◌≡◌, ◌≢◌, ℕ, zero, suc, ◌+◌, ◌<◌, ◌≤◌, Bool, true, false, if◌then◌else◌, List, [], ◌∷◌}
use Rattle.std.proofs.Common.{◌++◌, slice_get, All, Contains, Option, Some, None, IsSomeAnd, refl, sym, ◌∙◌, ap, subst, arith}
use Rattle.std.specs.Prelude.{is_some}
use Rattle.std.proofs.lemmas.List.Sums.{sum_by-cons}
use Rattle.jc_base.specs.Each.{IsAmong}
use Rattle.jc_base.specs.Laws.{ClassesAreObjects}
use Rattle.jc_base.specs.Class.{ClassTable}
use Rattle.jc_base.specs.Order.{Below, IsKnown}
use Rattle.jc_base.specs.declared.record.Handler.{Handler}
use Rattle.jc_base.specs.declared.record.MethodRec.{MethodRec}
use Rattle.jc_base.specs.declared.ty.Ty.{Ty}
use Rattle.jc_base.specs.declared.ty.Ty.TheVariants.{IntHigh, IntLow, Top}
use Rattle.jc_base.proofs.Lists.{All-slice_get}
use Rattle.jc_base.proofs.SameTypes.{same_type-decides}
use Rattle.jc_control.specs.Control.{IsReached, IsLeader}
use Rattle.jc_control.specs.Flags.{Marks}
use Rattle.jc_rules.specs.Demand.{Frame}
use Rattle.jc_rules.specs.Flow.{CellsBelow, no_cells, more_cells, FrameBelow, FlowTyping, At, IsNotFresh, caught_frame}
use Rattle.jc_rules.specs.FlowLaws.{AreRules}
use Rattle.jc_rules.specs.Laws.{IsNotBottom}
use Rattle.xf_homes.specs.declared.home.Home.{Home}
use Rattle.xf_homes.specs.Home.{IsAsked, asked_here, asked_caught}
use Rattle.xf_homes.specs.Laws.{AreNeeded, HasRegister, Serve}
use Rattle.xf_homes.specs.Order.{register_sum}
use Rattle.xf_homes.specs.Value.{value_in_cells, value_of, type_width}
use Rattle.xf_homes.specs.Walk.{register_from, same_home}
use Rattle.xf_homes.proofs.Events.{homes-equal}
use Rattle.xf_homes.specs.Source.{Source}
use Rattle.xf_homes.specs.Plan.{needed, or_first}
use Rattle.xf_homes.proofs.Needed.{needed-are-kept}
use Rattle.xf_emission.specs.Laws.{HasFrames}
use Rattle.law_rewritten_typing.specs.Typed.{cells_of_value, registers_of}
use Rattle.law_rewritten_typing.specs.Whole.{IsWholeFrame}
use Rattle.law_rewritten_typing.proofs.Walks.{Asked}
use Rattle.law_rewritten_typing.proofs.Moves.{Holds, IsPlainValue}
use Rattle.law_rewritten_typing.proofs.Stacks.{Stands}

pub record IsReady (s : Source) : Type 0 where
  pub typing : FlowTyping s.world s.method Top s.frames
  pub has : HasFrames s
  pub whole : (p : ℕ) (f : Frame) → s.frames p ≡ Some f → IsWholeFrame s.world f
  pub marks : Marks (IsLeader s.method) s.leaders
  pub serve : Serve s.world s.method s.frames s.homes
  pub few : register_sum s.homes ≤ 255

-- ---- the registers of homes

first-cell : (t : Ty) (rest : List Ty) → slice_get (cells_of_value t ++ rest) 0 ≡ Some t
first-cell t rest = grind (arith)

second-cell : (t : Ty) (rest : List Ty) → t ≡ IntHigh → slice_get (cells_of_value t ++ rest) 1 ≡ Some IntLow
second-cell t rest e = ap (λ (u : Ty). slice_get (cells_of_value u ++ rest) 1) e

past-cells : (t : Ty) (rest : List Ty) (k : ℕ) → slice_get (cells_of_value t ++ rest) (type_width t + k) ≡ slice_get rest k
past-cells IntHigh rest k = let e : 2 + k ≡ suc (suc k) = omega arith in ap (slice_get (IntHigh ∷ IntLow ∷ rest)) e
past-cells t rest k = other t rest k
  where
    other : (t : Ty) (rest : List Ty) (k : ℕ) → slice_get (t ∷ rest) (1 + k) ≡ slice_get rest k
    other t rest k = let e : 1 + k ≡ suc k = omega arith in ap (slice_get (t ∷ rest)) e

-- where a home's registers are among those of all
pub record IsPlacedAt (homes : List Home) (h : Home) (k : ℕ) : Type 0 where
  pub first : slice_get (registers_of homes) k ≡ Some h.ty
  pub second : h.ty ≡ IntHigh → slice_get (registers_of homes) (k + 1) ≡ Some IntLow
  pub below : k < register_sum homes

pub placed-at : (n : ℕ) (homes : List Home) (h : Home) (x : ℕ) → register_from n homes h ≡ Some x → (k : ℕ) × (x ≡ n + k)
    × IsPlacedAt homes h k
unfolding register_sum
placed-at n [] h x e = absurd (cc)
placed-at n (j ∷ js) h x e = by (same_home j h) refl e (λ f. placed-at (n + type_width j.ty) js h x f)
  where
    all : List Ty
    all = cells_of_value j.ty ++ registers_of js

    total : register_sum (j ∷ js) ≡ type_width j.ty + register_sum js
    total = sum_by-cons (λ (i : Home). type_width i.ty) j js

    wide : (t : Ty) → 0 < type_width t
    wide IntHigh = omega arith
    wide t = omega arith

    by : (b : Bool) → same_home j h ≡ b → (if b then Some n else register_from (n + type_width j.ty) js h) ≡ Some x
        → (register_from (n + type_width j.ty) js h ≡ Some x → (k : ℕ) × (x ≡ n + type_width j.ty + k) × IsPlacedAt js h k)
        → (k : ℕ) × (x ≡ n + k) × IsPlacedAt (j ∷ js) h k
    by true q e rest =
        let own : j ≡ h = homes-equal same_type-decides j h q in
        let here : n ≡ x = cc in (
          0,
          omega (arith, here),
          record {
            first = first-cell j.ty (registers_of js) ∙ ap (λ (i : Home). Some i.ty) own;
            second = λ high. second-cell j.ty (registers_of js) (ap (λ (i : Home). i.ty) own ∙ high);
            below = omega (arith, total, wide j.ty);
          },
        )
    by false q e rest =
        let r = rest e in (
          type_width j.ty + r.0,
          omega (arith, r.1),
          record {
            first = past-cells j.ty (registers_of js) r.0 ∙ r.2.first;
            second = grind (arith, slice_get, past-cells);
            below = omega (arith, total, r.2.below);
          },
        )

-- ---- values

-- a value begins with a cell: its type is that of the cell
pub record IsValueAt (cells : List Ty) (x : ℕ) (ty : Ty) : Type 0 where
  pub first : slice_get cells x ≡ Some ty
  pub no_low : ty ≢ IntLow
  pub no_top : ty ≢ Top
  pub second : ty ≡ IntHigh → slice_get cells (x + 1) ≡ Some IntLow

pub value-is : (cells : List Ty) (x : ℕ) (ty : Ty) → value_in_cells cells x ≡ Some ty → IsValueAt cells x ty
unfolding value_in_cells
value-is cells x ty e = by (slice_get cells x) (slice_get cells (x + 1)) refl refl e
  where
    is : (u : Ty) (next : Option Ty) → slice_get cells x ≡ Some u → slice_get cells (x + 1) ≡ next → u ≡ ty → u ≢ IntLow → u ≢ Top
        → (u ≡ IntHigh → next ≡ Some IntLow) → IsValueAt cells x ty
    is u next here there own low top second = record {
      first = here ∙ ap Some own;
      no_low = λ q. low (own ∙ q);
      no_top = λ q. top (own ∙ q);
      second = λ q. there ∙ second (own ∙ q);
    }

    by : (a b : Option Ty) → slice_get cells x ≡ a → slice_get cells (x + 1) ≡ b → value_of a b ≡ Some ty → IsValueAt cells x ty
    by x b here there e = grind (arith)

plain-value : (ty : Ty) → IsNotBottom ty → IsNotFresh ty → ty ≢ IntLow → ty ≢ Top → IsPlainValue ty
plain-value ty b f l t = grind (arith)

-- a value of such cells
pub value-plain : (t : ClassTable) (cells : List Ty) (x : ℕ) (ty : Ty) → value_in_cells cells x ≡ Some ty → All (IsKnown t) cells
    → All IsNotBottom cells → All IsNotFresh cells → IsPlainValue ty × IsKnown t ty
value-plain t cells x ty e known full ready =
    let v = value-is cells x ty e in (
      plain-value ty (All-slice_get IsNotBottom cells x ty full v.first) (All-slice_get IsNotFresh cells x ty ready v.first) v.no_low v.no_top,
      All-slice_get (IsKnown t) cells x ty known v.first,
    )

pub cells-at : (t : ClassTable) (xs ys : List Ty) (x : ℕ) (a b : Ty) → CellsBelow t xs ys → slice_get xs x ≡ Some a → slice_get ys x ≡ Some b
    → Below t a b
cells-at t _ _ x a b no_cells e f = absurd (cc)
cells-at t _ _ zero a b (more_cells {a = c} {b = d} p ps) e f = grind (arith)
cells-at t _ _ (suc x) a b (more_cells {xs = xs} {ys = ys} p ps) e f = cells-at t xs ys x a b ps e f

-- ---- homes that stand

module _ {s : Source} (objects : ClassesAreObjects s.world.classes) (rules : AreRules s.world)
    (ready : IsReady s) (r : MethodRec) (asks : ℕ → Asked) where
  pub home-stands : (h : Home) → HasRegister s.homes h → IsPlainValue h.ty × IsKnown s.world.classes h.ty
      → Stands s objects r (registers_of s.homes) asks h
  home-stands h has v = by (register_from 0 s.homes h) refl has
    where
      by : (o : Option ℕ) → register_from 0 s.homes h ≡ o → HasRegister s.homes h → Holds s.world objects r (registers_of s.homes) asks h.ty
          (or_first o)
      by None e has = absurd (differ has.0 (sym e ∙ has.1))
        where
          differ : (x : ℕ) → ◌≡◌ {A = Option ℕ} None (Some x) → ⊥
          differ x e = absurd (cc)
      by (Some x) e has =
          let p = placed-at 0 s.homes h x e in
          let here : p.0 ≡ x = omega (arith, p.1) in
          record {
            value = v.0;
            known = v.1;
            first = subst (λ (k : ℕ). slice_get (registers_of s.homes) k ≡ Some h.ty) here p.2.first;
            second = λ high. subst (λ (k : ℕ). slice_get (registers_of s.homes) (k + 1) ≡ Some IntLow) here (p.2.second high);
            small = omega (arith, here, p.2.below, ready.few);
          }

  pub framed : (o : Option Frame) (P : Frame → Type 0) → IsSomeAnd o P → (f : Frame) × (o ≡ Some f) × P f
  framed x y h = grind (arith)

  pub reached : (p : ℕ) (f : Frame) → s.frames p ≡ Some f → IsReached s.method p
  reached p f e = (ready.has.reached p).0 (ap is_some e)

  -- a local that is asked for: where, with which frame, and what is above it
  pub record IsFound (q x : ℕ) (ty : Ty) : Type 0 where
    pub place : ℕ
    pub frame : Frame
    pub at : s.frames place ≡ Some frame
    pub value : value_in_cells frame.regs x ≡ Some ty
    pub above : (f : Frame) → s.frames q ≡ Some f → CellsBelow s.world.classes f.regs frame.regs

  some-same : (f g : Frame) → ◌≡◌ {A = Option Frame} (Some f) (Some g) → f ≡ g
  some-same f g e = cc

  pub found : (q x n : ℕ) (ty : Ty) → IsAsked s.method s.frames q x n ty → IsFound q x ty
  found q x _ ty (asked_here at) =
      let f = framed (s.frames q) (λ (g : Frame). value_in_cells g.regs x ≡ Some ty) at in
      record {
        place = q;
        frame = f.0;
        at = f.1;
        value = f.2;
        above = λ g e. subst (λ (k : Frame). CellsBelow s.world.classes g.regs k.regs) (some-same g f.0 (sym e ∙ f.1)) (rules.order.self g.regs);
      }
  found q x _ ty (asked_caught {n = n} {h = h} there covers at) =
      let f = framed (s.frames h.entry) (λ (g : Frame). value_in_cells g.regs x ≡ Some ty) at in
      record {
        place = h.entry;
        frame = f.0;
        at = f.1;
        value = f.2;
        above = λ g e.
            let caught = framed (s.frames q) (λ (k : Frame). At s.frames h.entry (FrameBelow s.world.classes (caught_frame h k)))
            (ready.typing.handlers q h (reached q g e) (listed s.method.rec.handlers n h there) covers) in
            let entry = framed (s.frames h.entry) (FrameBelow s.world.classes (caught_frame h caught.0)) caught.2 in
            subst (λ (k : Frame). CellsBelow s.world.classes g.regs k.regs) (some-same entry.0 f.0 (sym entry.1 ∙ f.1))
            (subst (λ (k : Frame). CellsBelow s.world.classes k.regs entry.0.regs) (some-same caught.0 g (sym caught.1 ∙ e)) entry.2.regs);
      }
    where
      listed : (hs : List Handler) (n : ℕ) (h : Handler) → slice_get hs n ≡ Some h → Contains hs h
      listed [] n h e = absurd (cc)
      listed (k ∷ ks) zero h e = let own : k ≡ h = cc in (0, omega arith, own)
      listed (k ∷ ks) (suc n) h e = let r = listed ks n h e in (suc r.0, omega (arith, r.1), r.2)

  pub needed-are : (q x : ℕ) → AreNeeded s.method s.frames q x (needed s q x)
  unfolding needed
  needed-are q x = needed-are-kept same_type-decides s.method s.frames q x

  -- the value of a local in a frame has a home, which stands
  pub local-stands : (p : ℕ) (f : Frame) (x : ℕ) (ty : Ty) → s.frames p ≡ Some f → value_in_cells f.regs x ≡ Some ty
      → Stands s objects r (registers_of s.homes) asks (record { slot = x; ty = ty })
  local-stands p f x ty e v =
      let w = ready.whole p f e in
      let asked : IsAsked s.method s.frames p x 0 ty = asked_here
      (subst (λ (o : Option Frame). IsSomeAnd o (λ (g : Frame). value_in_cells g.regs x ≡ Some ty)) (sym e) v) in
      home-stands (record { slot = x; ty = ty }) (ready.serve.needed p x ty (reached p f e) (0, asked))
      (value-plain s.world.classes f.regs x ty v w.known.regs w.regs w.ready)

  pub record IsServed (q x : ℕ) (h : Home) : Type 0 where
    pub slot : h.slot ≡ x
    pub stands : Stands s objects r (registers_of s.homes) asks h
    pub above : (regs : List Ty) (f : Frame) (u : Ty) → s.frames q ≡ Some f → CellsBelow s.world.classes regs f.regs → slice_get regs x ≡ Some u
        → Below s.world.classes u h.ty

  pub needed-served : (q x : ℕ) (h : Home) → IsAmong h (needed s q x) → IsServed q x h
  needed-served q x h a =
      let n = ((needed-are q x).all h).0 a in
      let f = found q x n.1.0 h.ty n.1.1 in
      record {
        slot = n.0;
        stands =
            subst (λ (k : ℕ). Stands s objects r (registers_of s.homes) asks (record { slot = k; ty = h.ty })) (sym n.0)
            (local-stands f.place f.frame x h.ty f.at f.value);
        above =
            λ regs g u e le here. cells-at s.world.classes regs f.frame.regs x u h.ty (rules.order.through le (f.above g e)) here
            (value-is f.frame.regs x h.ty f.value).first;
      }
