-- Copies of values from homes to others.
use Rattle.std.proofs.Common.{◌≡◌, ◌≢◌, ◌⊎◌, ℕ, zero, suc, ◌+◌, ◌≤◌, Bool, true, false, inl, inr, List, [], ◌∷◌, ◌++◌}
use Rattle.std.proofs.Common.{length, flat_map, Option, Some, None, refl, sym, ◌∙◌, ap, subst, arith, length-append}
use Rattle.jc_base.specs.Each.{IsAmong}
use Rattle.jc_base.specs.Laws.{ClassesAreObjects, IsOrderOfTypes}
use Rattle.jc_base.specs.Class.{ClassTable}
use Rattle.jc_base.specs.Order.{Below, is_below}
use Rattle.jc_base.specs.declared.record.MethodRec.{MethodRec}
use Rattle.jc_base.specs.declared.ty.Ty.{Ty}
use Rattle.jc_base.specs.declared.ty.Ty.TheVariants.{Short, IntHigh}
use Rattle.jc_base.proofs.SameTypes.{same_type-decides}
use Rattle.jc_decode.specs.declared.symbols.Item.{Item}
use Rattle.jc_rules.specs.Flow.{CellsBelow, no_cells, more_cells}
use Rattle.jc_rules.specs.FlowLaws.{AreRules}
use Rattle.xf_homes.specs.declared.home.Home.{Home}
use Rattle.xf_homes.specs.Home.{register_count}
use Rattle.xf_homes.specs.Walk.{has, same_home}
use Rattle.xf_homes.proofs.Events.{home-itself}
use Rattle.xf_homes.specs.Source.{Source}
use Rattle.xf_homes.specs.Plan.{needed, register}
use Rattle.xf_emission.specs.declared.origin.Origin.{Origin}
use Rattle.xf_emission.specs.Move.{copy}
use Rattle.xf_emission.specs.Edge.{home_before, homes_held, copy_new, copies_from, local_copies, locals_copies, copies, cell_copies}
use Rattle.law_rewritten_typing.specs.Typed.{registers_of}
use Rattle.law_rewritten_typing.proofs.Walks.{holding, Asked, flow_plain, flow_end, Goes, goes-append, goes-nowhere, goes-if}
use Rattle.law_rewritten_typing.proofs.Moves.{IsPlainValue, cells_on, load-turn, store-turn}
use Rattle.law_rewritten_typing.proofs.Stacks.{Stands}
use Rattle.law_rewritten_typing.proofs.Ready.{IsReady, needed-served}

-- ---- types

module _ (t : ClassTable) (types : IsOrderOfTypes t) where
  pub above-short : (b : Ty) → is_below t Short b ≡ true → IsPlainValue b → Short ≡ b
  unfolding is_below
  above-short b e v = grind (arith)

  pub above-high : (b : Ty) → is_below t IntHigh b ≡ true → IsPlainValue b → IntHigh ≡ b
  unfolding is_below
  above-high b e v = grind (arith)

  not-high : (a : Ty) → is_below t a IntHigh ≡ true → IsPlainValue a → a ≡ IntHigh
  unfolding is_below
  not-high a e v = grind (arith)

  one-on : (a : Ty) → a ≢ IntHigh → cells_on a ≡ a ∷ []
  one-on a n = grind (arith)

  is-high : (a : Ty) → (a ≡ IntHigh) ⊎ (a ≢ IntHigh)
  is-high a = grind (arith)

  -- equal, or of one cell both
  pub narrow : (a b : Ty) → Below t a b → IsPlainValue a → IsPlainValue b → (a ≡ b) ⊎ ((cells_on a ≡ a ∷ []) × (cells_on b ≡ b ∷ []))
  narrow a b le v u = by (is-high a)
    where
      by : (a ≡ IntHigh) ⊎ (a ≢ IntHigh) → (a ≡ b) ⊎ ((cells_on a ≡ a ∷ []) × (cells_on b ≡ b ∷ []))
      by (inl e) = inl (e ∙ above-high b ((types.decided IntHigh b).1 (subst (λ (x : Ty). Below t x b) e le)) u)
      by (inr n) =
          inr (
            one-on a n,
            one-on b (λ e. n (not-high a ((types.decided a IntHigh).1 (subst (Below t a) e le)) v)),
          )

module _ {s : Source} (objects : ClassesAreObjects s.world.classes) (rules : AreRules s.world)
    (ready : IsReady s) (r : MethodRec) (asks : ℕ → Asked) where
  abbrev regs : List Ty
  regs = registers_of s.homes

  -- from a home to another with a type above, of one cell each
  pub copy-goes : (from to : Home) (stack : List Ty) → Stands s objects r (registers_of s.homes) asks from
      → Stands s objects r (registers_of s.homes) asks to → Below s.world.classes from.ty to.ty
      → cells_on from.ty ≡ from.ty ∷ [] → cells_on to.ty ≡ to.ty ∷ [] → length stack + 1 ≤ r.max_stack
      → Goes s.world r (registers_of s.homes) asks (holding stack) (copy s from to) (holding stack)
  copy-goes from to stack a b le one two room =
      let full : length (cells_on from.ty ++ stack) ≤ r.max_stack = omega (arith, ap length one, length-append (cells_on from.ty) stack, room) in
      let below : length stack ≤ r.max_stack = omega (arith, room) in
      let cells : CellsBelow s.world.classes (cells_on from.ty) (cells_on to.ty) =
      subst (λ (ts : List Ty). CellsBelow s.world.classes ts (cells_on to.ty)) (sym one)
      (subst (CellsBelow s.world.classes (from.ty ∷ [])) (sym two) (more_cells le no_cells)) in
      λ n. flow_plain s.world r (registers_of s.homes) asks
      (load-turn s.world objects r (registers_of s.homes) asks n from.ty (register s from) stack a full below)
      (flow_plain s.world r (registers_of s.homes) asks
      (store-turn s.world objects r (registers_of s.homes) asks (suc n) to.ty (register s to) (cells_on from.ty) stack b cells full below) flow_end)

  home-same : (a b : Home) → a.slot ≡ b.slot → a.ty ≡ b.ty → a ≡ b
  home-same a b e f = ap (λ (n : ℕ). record { slot = n; ty = a.ty }) e ∙ ap (λ (u : Ty). record { slot = b.slot; ty = u }) f

  never : (b : Bool) → b ≡ true → b ≡ false → ⊥
  never b e f = absurd (cc)

  -- nothing is copied to a home in which the value stands
  new-goes : (from to : Home) (there : List Home) (stack : List Ty) → Stands s objects r (registers_of s.homes) asks from
      → Stands s objects r (registers_of s.homes) asks to → Below s.world.classes from.ty to.ty
      → from.slot ≡ to.slot → has there from ≡ true → length stack + 1 ≤ r.max_stack
      → Goes s.world r (registers_of s.homes) asks (holding stack) (copy_new s from there to) (holding stack)
  new-goes from to there stack a b le slots stands room =
      goes-if s.world r (registers_of s.homes) asks (has there to) (λ e. goes-nowhere s.world r (registers_of s.homes) asks)
      (λ e. by e (narrow s.world.classes rules.types from.ty to.ty le a.value b.value))
    where
      by : has there to ≡ false → (from.ty ≡ to.ty) ⊎ ((cells_on from.ty ≡ from.ty ∷ []) × (cells_on to.ty ≡ to.ty ∷ []))
          → Goes s.world r (registers_of s.homes) asks (holding stack) (copy s from to) (holding stack)
      by e (inl f) = absurd (never (has there to) (ap (has there) (sym (home-same from to slots f)) ∙ stands) e)
      by e (inr p) = copy-goes from to stack a b le p.0 p.1 room

  -- what is known of the home from which a local is copied
  pub record Carries (o : Origin) (q x : ℕ) (from : Home) : Type 0 where
    pub slot : from.slot ≡ x
    pub stands : Stands s objects r (registers_of s.homes) asks from
    pub there : has (homes_held s o x from) from ≡ true
    pub below : (h : Home) → IsAmong h (needed s q x) → Below s.world.classes from.ty h.ty

  flat-goes : (f : Home → List Item) (hs whole : List Home) (stack : List Ty) → ((h : Home) → IsAmong h hs → IsAmong h whole)
      → ((h : Home) → IsAmong h whole → Goes s.world r (registers_of s.homes) asks (holding stack) (f h) (holding stack))
      → Goes s.world r (registers_of s.homes) asks (holding stack) (flat_map f hs) (holding stack)
  flat-goes f [] whole stack inside h = goes-nowhere s.world r (registers_of s.homes) asks
  flat-goes f (k ∷ ks) whole stack inside h =
      goes-append s.world r (registers_of s.homes) asks (h k (inside k (inl refl))) (flat-goes f ks whole stack (λ j a. inside j (inr a)) h)

  local-goes : (o : Origin) (q x : ℕ) (stack : List Ty) → ((from : Home) → home_before s o x ≡ Some from → Carries o q x from)
      → length stack + 1 ≤ r.max_stack
      → Goes s.world r (registers_of s.homes) asks (holding stack) (local_copies s o q x) (holding stack)
  unfolding local_copies
  local-goes o q x stack carries room = by (home_before s o x) carries
    where
      by : (h : Option Home) → ((from : Home) → h ≡ Some from → Carries o q x from) → Goes s.world r (registers_of s.homes) asks (holding stack)
          (copies_from s o q x h) (holding stack)
      by None c = goes-nowhere s.world r (registers_of s.homes) asks
      by (Some from) c =
          let k = c from refl in
          flat-goes (copy_new s from (homes_held s o x from)) (needed s q x) (needed s q x) stack (λ h a. a)
          (λ h a. let n = needed-served objects rules ready r asks q x h a in new-goes from h (homes_held s o x from) stack k.stands
          n.stands (k.below h a) (k.slot ∙ sym n.slot) k.there room)

  locals-go : (o : Origin) (q x n : ℕ) (stack : List Ty) → ((y : ℕ) (from : Home) → home_before s o y ≡ Some from → Carries o q y from)
      → length stack + 1 ≤ r.max_stack
      → Goes s.world r (registers_of s.homes) asks (holding stack) (locals_copies s o q x n) (holding stack)
  locals-go o q x zero stack carries room = goes-nowhere s.world r (registers_of s.homes) asks
  locals-go o q x (suc n) stack carries room =
      goes-append s.world r (registers_of s.homes) asks (local-goes o q x stack (carries x) room) (locals-go o q (suc x) n stack carries room)

  pub copies-go : (o : Origin) (q : ℕ) (stack : List Ty) → ((y : ℕ) (from : Home) → home_before s o y ≡ Some from → Carries o q y from)
      → length stack + 1 ≤ r.max_stack
      → Goes s.world r (registers_of s.homes) asks (holding stack) (copies s o q) (holding stack)
  unfolding copies
  copies-go o q stack carries room = locals-go o q 0 (register_count s.method.rec) stack carries room

  -- ---- cells of the stack

  -- two lists of homes at the same slots, each of the first with a type below
  pub data AreUnder : List Home → List Home → Type 0 where
    none_under : AreUnder [] []
    more_under : {h k : Home} {hs ks : List Home} → h.slot ≡ k.slot → Stands s objects r (registers_of s.homes) asks h
        → Stands s objects r (registers_of s.homes) asks k → Below s.world.classes h.ty k.ty → AreUnder hs ks
        → AreUnder (h ∷ hs) (k ∷ ks)

  pub cells-go : (hs ks : List Home) (stack : List Ty) → AreUnder hs ks → length stack + 1 ≤ r.max_stack
      → Goes s.world r (registers_of s.homes) asks (holding stack) (cell_copies s hs ks) (holding stack)
  cells-go _ _ stack none_under room = goes-nowhere s.world r (registers_of s.homes) asks
  cells-go _ _ stack (more_under {h = h} {k = k} {hs = hs} {ks = ks} slots a b le more) room =
      goes-append s.world r (registers_of s.homes) asks
      (goes-if s.world r (registers_of s.homes) asks (same_home h k) (λ e. goes-nowhere s.world r (registers_of s.homes) asks)
      (λ e. by e (narrow s.world.classes rules.types h.ty k.ty le a.value b.value)))
      (cells-go hs ks stack more room)
    where
      by : same_home h k ≡ false → (h.ty ≡ k.ty) ⊎ ((cells_on h.ty ≡ h.ty ∷ []) × (cells_on k.ty ≡ k.ty ∷ []))
          → Goes s.world r (registers_of s.homes) asks (holding stack) (copy s h k) (holding stack)
      by e (inl f) = absurd (never (same_home h k) (ap (same_home h) (sym (home-same h k slots f)) ∙ home-itself same_type-decides h) e)
      by e (inr p) = copy-goes h k stack a b le p.0 p.1 room
