-- An increment of a local, in its home at the place.
use Rattle.std.proofs.Common.{◌≡◌, ℕ, ◌+◌, ◌<◌, ◌≤◌, ◌⊎◌, inl, inr, Bool, true, false, [], ◌∷◌}
use Rattle.std.proofs.Common.{refl, sym, ap, ◌∙◌, subst, arith}
use Rattle.std.specs.Prelude.{ℤ, pos, Some, Ok, nat_lt, slice_get}
use Rattle.std.proofs.lemmas.Bool.Decides.{nat_tests}
use Rattle.jc_base.specs.declared.ty.Ty.{Ty}
use Rattle.jc_base.specs.declared.ty.Ty.TheVariants.{Short, IntHigh, IntLow}
use Rattle.jc_base.specs.Each.{IsAmong}
use Rattle.jc_base.specs.Laws.{IsOrderOfTypes}
use Rattle.jc_base.specs.Order.{Below}
use Rattle.jc_base.specs.World.{Linked}
use Rattle.jc_base.proofs.Lists.{All-slice_get}
use Rattle.jc_base.proofs.SameTypes.{same_type-decides}
use Rattle.jc_decode.specs.declared.insn.Insn.{Insn}
use Rattle.jc_decode.specs.declared.insn.Placed.{Placed}
use Rattle.jc_decode.specs.declared.symbols.Item.TheVariants.{Plain}
use Rattle.jc_decode.proofs.Ranges.{op-fits}
use Rattle.jc_decode.proofs.InstructionLists.{all-are-listed}
use Rattle.jc_ops.specs.declared.operation.Operation.TheVariants as ops
use Rattle.jc_ops.specs.declared.operation.Sort.{Sort}
use Rattle.jc_ops.specs.declared.operation.Sort.TheVariants as sorts
use Rattle.jc_ops.specs.declared.operation.Width.{Width}
use Rattle.jc_ops.specs.declared.operation.Width.TheVariants as widths
use Rattle.jc_ops.specs.Resolve.{Resolves}
use Rattle.jc_rules.specs.Flow.{CellsBelow}
use Rattle.jc_rules.specs.Footprint.{footprint}
use Rattle.jc_rules.specs.Laws.{IsNotBottom}
use Rattle.jc_rules.specs.Rule.{demands}
use Rattle.vm_store.specs.declared.cell.Cell.{Cell}
use Rattle.vm_store.specs.Cells.{tagged}
use Rattle.vm_store.specs.State.{State, top}
use Rattle.vm_step.specs.Raising.{Outcome}
use Rattle.vm_step.specs.Step.{Steps}
use Rattle.law_erasure.specs.Erasure.{IsNoFault}
use Rattle.law_alike.specs.Alike.{StayAlike, renamed_cell}
use Rattle.law_alike.specs.Likeness.{StepsAreAlike}
use Rattle.xf_homes.specs.declared.home.Home.{Home}
use Rattle.xf_homes.specs.Laws.{HasRegister, Serve}
use Rattle.xf_homes.specs.Value.{value_in_cells, type_width}
use Rattle.law_laid.specs.Apart.{apart_from_code}
use Rattle.law_laid.proofs.SameBut.{operations-are-kept}
use Rattle.xf_homes.specs.Source.{Source}
use Rattle.xf_homes.specs.Plan.{needed, or_first, register}
use Rattle.xf_homes.proofs.Serving.{homes-serve}
use Rattle.xf_emission.specs.Group.{body, increased}
use Rattle.xf_emission.specs.Move.{load_op}
use Rattle.law_rewritten_typing.specs.Planned.{IsKept}
use Rattle.law_rewritten_typing.specs.Edges.{NeededHaveHomes}
use Rattle.law_rewritten_typing.specs.Whole.{DerivedAreWhole}
use Rattle.law_rewritten_typing.proofs.Below.{loads-same, value-below}
use Rattle.law_rewritten_typing.proofs.Carried.{is-high}
use Rattle.law_rewritten_typing.proofs.Ready.{IsValueAt, value-is}
use Rattle.law_rewritten_typing.proofs.Rows.{increased-at}
use Rattle.law_rewritten_typing.proofs.EdgeHomes.{kept-not-top}
use Rattle.law_homes.specs.Held.{HoldsValue}
use Rattle.law_homes.specs.Laws.{AreApart}
use Rattle.law_homes.specs.Moves.{letter_of, size}
use Rattle.law_homes.proofs.Beside.{among-each, each-among}
use Rattle.law_homes.proofs.Copies.{wide}
use Rattle.law_homes.proofs.Running.{increments-run-alike}
use Rattle.law_homes.proofs.Homes.{homes-stay, written-hold}
use Rattle.law_groups.specs.Laid.{IsLaidIn, body_at, rename}
use Rattle.law_groups.specs.Body.{AreAtBody, BodyRuns}
use Rattle.law_groups.proofs.Arriving.{needed-local}
use Rattle.law_groups.proofs.Context.{some-reached}
use Rattle.law_groups.proofs.Plain.{alike, codes, ex, method-is, runs}
use Rattle.law_groups.proofs.Reading.{IsHomeOf, home-is, small-register}

-- the letter of a number's loads
abbrev letter_for : Width → Sort
letter_for widths.Short = sorts.Short
letter_for widths.Int = sorts.Int

asks-same : (v : Linked) (counted : Width) (x : ℕ) (amount : ℤ)
    → demands v (ops.Increment counted x amount) ≡ demands v (ops.Load (letter_for counted) x)
asks-same v y x amount = grind (arith)

written-width : (v : Linked) (counted : Width) (x : ℕ) (amount : ℤ)
    → (footprint v (ops.Increment counted x amount)).written ≡ size (letter_for counted)
written-width v y x amount = grind (arith)

written-first : (v : Linked) (counted : Width) (x : ℕ) (amount : ℤ) → (footprint v (ops.Increment counted x amount)).register ≡ x
written-first v y x amount = grind (arith)

-- a number's type by its letter, and by that of its loads
number-type : (counted : Width) (a b : Ty) → letter_of a ≡ letter_for counted → load_op a ≡ load_op b → a ≡ b
number-type x y b e f = grind (arith)

some-of : (a b : Ty) → Some a ≡ Some b → a ≡ b
some-of a b e = cc

wide-or : (ty : Ty) → (type_width ty ≡ 1) ⊎ (ty ≡ IntHigh)
wide-or x = grind (arith)

module _
    {v w : Linked} {s : Source} {place : ℕ → ℕ} (laid : IsLaidIn v w s place) (types : IsOrderOfTypes v.classes)
    (needs : NeededHaveHomes v) (p x : ℕ) (counted : Width) (home : IsHomeOf s p x (letter_for counted)) where
  -- a home that is needed there is that of the local, or has a slot apart from its own
  pub apart-or-same :
      (y : ℕ) (k : Home)
      → IsAmong k (needed s p y)
      → (k ≡ record { slot = x; ty = home.ty }) ⊎ AreApart k.slot (type_width k.ty) x (type_width home.ty)
  apart-or-same y k among = by (nat_lt k.slot x) (nat_lt x k.slot) refl refl
    where
      below : (u : Ty) × (value_in_cells home.frame.regs k.slot ≡ Some u) × Below v.classes u k.ty
      below =
          let m = needs s laid.world laid.planned p y home.frame k home.frame_is among in
          value-below v.classes types home.frame.regs m.types (subst (λ (r : Linked). CellsBelow r.classes home.frame.regs m.types) laid.world m.above)
          home.full k.slot k.ty m.value

      kept : IsKept k.ty
      kept = (needs s laid.world laid.planned p y home.frame k home.frame_is among).keeps.kept

      own : IsValueAt home.frame.regs x home.ty
      own = value-is home.frame.regs x home.ty home.value

      by :
          (a b : Bool)
          → nat_lt k.slot x ≡ a
          → nat_lt x k.slot ≡ b
          → (k ≡ record { slot = x; ty = home.ty }) ⊎ AreApart k.slot (type_width k.ty) x (type_width home.ty)
      by true b e f = inr (before (wide-or k.ty))
        where
          lt : k.slot < x
          lt = grind (arith, nat_tests, e)

          before : (type_width k.ty ≡ 1) ⊎ (k.ty ≡ IntHigh) → AreApart k.slot (type_width k.ty) x (type_width home.ty)
          before (inl one) = inl (omega (arith, one, lt))
          before (inr high) = next (nat_lt (k.slot + 1) x) refl
            where
              next : (c : Bool) → nat_lt (k.slot + 1) x ≡ c → AreApart k.slot (type_width k.ty) x (type_width home.ty)
              next true g =
                  let far : k.slot + 1 < x = grind (arith, nat_tests, g) in
                  let two : type_width k.ty ≡ 2 = ap type_width high in
                  inl (omega (arith, far, two))
              next false g =
                  let near : x ≤ k.slot + 1 = grind (arith, nat_tests, g) in
                  let same : k.slot + 1 ≡ x = omega (arith, near, lt) in
                  let u : below.0 ≡ IntHigh =
                  is-high v.classes types below.0 (subst (Below v.classes below.0) high below.2)
                  (All-slice_get IsNotBottom home.frame.regs k.slot below.0 home.full (value-is home.frame.regs k.slot below.0 below.1).first) in
                  let low : slice_get home.frame.regs (k.slot + 1) ≡ Some IntLow =
                  (value-is home.frame.regs k.slot below.0 below.1).second u in
                  let is : home.ty ≡ IntLow =
                  some-of home.ty IntLow (sym own.first ∙ (ap (slice_get home.frame.regs) (sym same) ∙ low)) in
                  absurd (own.no_low is)
      by false true e f = inr (after (wide-or home.ty))
        where
          lt : x < k.slot
          lt = grind (arith, nat_tests, f)

          after : (type_width home.ty ≡ 1) ⊎ (home.ty ≡ IntHigh) → AreApart k.slot (type_width k.ty) x (type_width home.ty)
          after (inl one) = inr (omega (arith, one, lt))
          after (inr high) = next (nat_lt (x + 1) k.slot) refl
            where
              next : (c : Bool) → nat_lt (x + 1) k.slot ≡ c → AreApart k.slot (type_width k.ty) x (type_width home.ty)
              next true g =
                  let far : x + 1 < k.slot = grind (arith, nat_tests, g) in
                  let two : type_width home.ty ≡ 2 = ap type_width high in
                  inr (omega (arith, far, two))
              next false g =
                  let near : k.slot ≤ x + 1 = grind (arith, nat_tests, g) in
                  let same : x + 1 ≡ k.slot = omega (arith, near, lt) in
                  let low : slice_get home.frame.regs (x + 1) ≡ Some IntLow = own.second high in
                  let there = value-is home.frame.regs k.slot below.0 below.1 in
                  let is : below.0 ≡ IntLow =
                  some-of below.0 IntLow (sym there.first ∙ (ap (slice_get home.frame.regs) (sym same) ∙ low)) in
                  absurd (there.no_low is)
      by false false e f =
          let same : k.slot ≡ x = grind (arith, nat_tests, e, f) in
          let u : below.0 ≡ home.ty =
          some-of below.0 home.ty (sym below.1 ∙ (ap (value_in_cells home.frame.regs) same ∙ home.value)) in
          let le : Below v.classes home.ty k.ty = subst (λ a. Below v.classes a k.ty) u below.2 in
          let loads = loads-same v.classes types home.ty k.ty le
          (All-slice_get IsNotBottom home.frame.regs x home.ty home.full own.first) (kept-not-top k.ty kept) in
          let ty : home.ty ≡ k.ty = number-type counted home.ty k.ty home.letter_is loads in
          inl (ap (λ r. record { slot = r; ty = k.ty }) same ∙ ap (λ a. record { slot = x; ty = a }) (sym ty))

-- what homes hold after an increment
pub still-held :
    (v : Linked) (e : Cell → Cell) (s : Source) (x r : ℕ) (counted : Width)
    (amount : ℤ) (h : Home)
    → h.slot ≡ x
    → register s h ≡ r
    → type_width h.ty ≡ (footprint v (ops.Increment counted x amount)).written
    → HasRegister s.homes h
    → Serve s.world s.method s.frames s.homes
    → (k : Home)
    → HasRegister s.homes k
    → (z t y u : State Cell)
    → StayAlike e (footprint v (ops.Increment counted x amount)) (footprint v (ops.Increment counted r amount)) z y t u
    → HoldsValue s (top z).registers (top t) h
    → (k ≡ h) ⊎ AreApart k.slot (type_width k.ty) x (type_width h.ty)
    → HoldsValue s (top z).registers (top t) k
    → HoldsValue s (top y).registers (top u) k
still-held v e s x r counted amount h slot_is register_is wide_is has serve k own z t y u stays held apart holds = by apart
  where
    sizes : type_width h.ty ≡ (footprint v (ops.Increment counted r amount)).written
    sizes = wide_is ∙ (written-width v counted x amount ∙ sym (written-width v counted r amount))

    own-register : (j : Home) (hj : HasRegister s.homes j) → register s j ≡ hj.0
    own-register j hj = ap or_first hj.1

    rewritten-home : HoldsValue s (top y).registers (top u) h
    rewritten-home = grind (arith, written-hold, written-first)

    by : (k ≡ h) ⊎ AreApart k.slot (type_width k.ty) x (type_width h.ty) → HoldsValue s (top y).registers (top u) k
    by (inl same) = subst (HoldsValue s (top y).registers (top u)) (sym same) rewritten-home
    by (inr slots_apart) = registers-apart (serve.apart k h own.0 has.0 own.1 has.1)
      where
        registers-apart :
            (k ≡ h) ⊎ (own.0 + type_width k.ty ≤ has.0) ⊎ (has.0 + type_width h.ty ≤ own.0)
            → HoldsValue s (top y).registers (top u) k
        registers-apart (inl same) = subst (HoldsValue s (top y).registers (top u)) (sym same) rewritten-home
        registers-apart (inr far) =
            let one = own-register k own in
            let two = own-register h has in
            let first = written-first v counted x amount in
            let second = written-first v counted r amount in
            homes-stay (footprint v (ops.Increment counted x amount)) (footprint v (ops.Increment counted r amount)) z y t u s k stays.first
            stays.second
            (subst (λ b. AreApart k.slot (type_width k.ty) b (footprint v (ops.Increment counted x amount)).written) (sym first)
            (subst (AreApart k.slot (type_width k.ty) x) wide_is slots_apart))
            (subst (λ b. AreApart (register s k) (type_width k.ty) b (footprint v (ops.Increment counted r amount)).written)
            (sym (second ∙ sym register_is))
            (subst (AreApart (register s k) (type_width k.ty) (register s h)) sizes
            (subst (λ b. AreApart b (type_width k.ty) (register s h) (type_width h.ty)) (sym one)
            (subst (λ b. AreApart own.0 (type_width k.ty) b (type_width h.ty)) (sym two) far)))) holds

module _
    (v : Linked) (alike_steps : StepsAreAlike v) (types : IsOrderOfTypes v.classes) (whole : DerivedAreWhole v)
    (needs : NeededHaveHomes v) where
  -- an increment takes one step, in the home
  pub increment-runs :
      (w : Linked) (s : Source) (place : ℕ → ℕ) (i : Placed) (counted : Width) (x : ℕ) (amount : ℤ) (z t : State Cell) (o : Outcome Cell)
      → IsLaidIn v w s place
      → AreAtBody v w s place i (ops.Increment counted x amount) z t
      → Steps tagged v z o
      → IsNoFault o
      → BodyRuns v w s place i (ops.Increment counted x amount) z t o
  unfolding body
  increment-runs w s place i counted x amount z t o laid b step fine =
      let op = ops.Increment counted x amount in
      let home = home-is laid types whole i op (letter_for counted) x (asks-same v counted x amount) b.stands b.reached b.does in
      let h : Home = record { slot = x; ty = home.ty } in
      let r : ℕ = register s h in
      let insn : Insn = record i.insn { x = pos r } in
      let other = ops.Increment counted r amount in
      let own : ℕ = body_at s i.place in
      let are : body s i op ≡ Plain insn ∷ [] = ap (increased s i) home.at in
      let reached_here = some-reached laid i.place b.reached in
      let local_home = needed-local laid needs i.place x h reached_here home.among in
      let low : r < 256 = small-register v s h laid.world laid.planned local_home.has in
      let bytes = op-fits s.method.code i.place i.insn laid.planned.code.bytes ((all-are-listed s.method.code).decodes i b.stands) in
      let same_method = method-is laid b in
      let resolves : Resolves w laid.code.target.rec i.place insn (Ok other) =
      operations-are-kept v w b.executes.method laid.code.target.rec i.place insn (Ok other) laid.code.same
      (ap apart_from_code same_method ∙ sym laid.code.has.same)
      (sym (increased-at v b.executes.method b.executes.method i.place i.place i.insn counted x r amount bytes low (sym b.executes.resolved))) in
      let there = ex laid b insn other are resolves refl in
      let agree = codes laid b insn other are resolves refl refl in
      let held : HoldsValue s (top z).registers (top t) h =
      among-each (HoldsValue s (top z).registers (top t)) (needed s i.place x) h (b.held.locals x) home.among in
      let wide_enough : type_width h.ty ≡ (footprint v op).written =
      wide home.ty ∙ (ap size home.letter_is ∙ sym (written-width v counted x amount)) in
      let run = increments-run-alike (renamed_cell (rename s place)) (rename s place) v w z t i there.instruction s h counted amount
      (alike laid b) agree held wide_enough in
      let serve : Serve s.world s.method s.frames s.homes =
      homes-serve same_type-decides s.world s.method s.frames s.homes laid.planned.homes in
      runs laid b insn other are resolves refl
      (λ y u stays l.
      each-among (HoldsValue s (top y).registers (top u)) (needed s i.place l)
      (λ k among. still-held v (renamed_cell (rename s place)) s x r counted amount h refl refl wide_enough local_home.has serve
      k (needed-local laid needs i.place l k reached_here among).has z t y u stays held
      (apart-or-same laid types needs i.place x counted home l k among)
      (among-each (HoldsValue s (top z).registers (top t)) (needed s i.place l) k (b.held.locals l) among)))
      (λ k. refl) alike_steps o step fine run
