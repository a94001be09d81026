-- A walk along all items of code is a card typing of it.
use Rattle.std.proofs.Common.{◌≡◌, ℕ, zero, suc, ◌+◌, ◌<◌, ◌≤◌, Bool, true, false, if◌then◌else◌, List, [], ◌∷◌}
use Rattle.std.proofs.Common.{length, map, slice_get, All, Contains, Option, Some, None, IsSomeAnd, refl, sym, ◌∙◌, ap, subst, arith}
use Rattle.std.specs.Prelude.{pos, ◌==◌}
use Rattle.std.proofs.lemmas.Simd.{map-map}
use Rattle.std.proofs.lemmas.List.Elements.{All-contains}
use Rattle.jc_base.specs.Each.{Each, IsAmong}
use Rattle.jc_base.specs.Class.{IsClass}
use Rattle.jc_base.specs.Order.{IsKnown, same, Below}
use Rattle.jc_base.specs.declared.record.Handler.{Handler}
use Rattle.jc_base.specs.declared.record.MethodRec.{MethodRec}
use Rattle.jc_base.specs.declared.ty.Ty.{Ty}
use Rattle.jc_base.specs.declared.ty.Ty.TheVariants.{Bottom, Class}
use Rattle.jc_base.specs.World.{Linked}
use Rattle.jc_base.proofs.Eaching.{All-from_Each}
use Rattle.jc_decode.specs.declared.insn.Insn.{Insn}
use Rattle.jc_decode.specs.declared.insn.Placed.{Placed}
use Rattle.jc_decode.specs.declared.symbols.Item.{Item}
use Rattle.jc_decode.specs.declared.symbols.Item.TheVariants.{Plain, Branch, Switch, Label}
use Rattle.jc_decode.specs.declared.symbols.Range.{Range}
use Rattle.jc_decode.specs.declared.symbols.Symbols.{Symbols}
use Rattle.jc_decode.specs.Places.{IsTargetAmong}
use Rattle.jc_decode.specs.Symbols.{Step, place_of, steps, steps_in, handler}
use Rattle.jc_rules.specs.declared.effect.Mode.TheVariants.{Flow}
use Rattle.jc_rules.specs.declared.rule.Outcome.{Outcome}
use Rattle.jc_rules.specs.Apply.{RuleApplies}
use Rattle.jc_rules.specs.Flow.{CellsBelow, IsNotFresh, start_frame}
use Rattle.card_typing.specs.Place.{IsEntryAmong}
use Rattle.card_typing.specs.Typing.{frame_at, IsTypedIn, IsEnteredBy, TypingIn}
use Rattle.xf_emission.proofs.Labels.{labels}
use Rattle.xf_emission.proofs.Rises.{Rises}
use Rattle.law_laid.specs.Laid.{class_by, catching as handler_by, record_with, leads_of, IsHandlerIn, AreFormed, code_in_symbols}
use Rattle.law_laid.proofs.Steps.{at-contains, all-contained, contains-map, Preimage, preimage}
use Rattle.law_rewritten_typing.proofs.Walks.{State, holding, left, Asked, emptied, catching, Passes, Flows, count}
use Rattle.law_rewritten_typing.proofs.Bridge.{stack_at, comes-next, left-empty, IsTurned, turned-at, asked-at}

-- ---- lists

each-in : {X : Type 0} (P : X → Type 0) (xs : List X) (x : X) → Each P xs → Contains xs x → P x
each-in P xs x h c = All-contains P xs x (All-from_Each P xs h) c

-- ---- steps

-- the labels that an item names
abbrev pub names : Item → List ℕ
names (Label l) = []
names (Plain i) = []
names (Branch op l) = l ∷ []
names (Switch i at ls) = ls

pub count-steps : (source : List ℕ) (all xs : List Item) → length (steps_in source all xs) ≡ count xs
count-steps source all [] = refl
count-steps source all (Label l ∷ xs) = count-steps source all xs
count-steps source all (Plain i ∷ xs) = ap suc (count-steps source all xs)
count-steps source all (Branch op l ∷ xs) = ap suc (count-steps source all xs)
count-steps source all (Switch i at ls ∷ xs) = ap suc (count-steps source all xs)

pub place-within : (l : ℕ) (xs : List Item) → place_of l xs ≤ count xs
place-within l [] = omega arith
place-within l (Label m ∷ xs) = by (m == l) (place-within l xs)
  where
    by : (b : Bool) → place_of l xs ≤ count xs → (if b then 0 else place_of l xs) ≤ count xs
    by true le = omega arith
    by false le = le
place-within l (Plain i ∷ xs) = omega (arith, place-within l xs)
place-within l (Branch op m ∷ xs) = omega (arith, place-within l xs)
place-within l (Switch i at ls ∷ xs) = omega (arith, place-within l xs)

-- where each label that the items name is as said, each target of a step is the place of such a label
pub target-named : (P : ℕ → Type 0) (source : List ℕ) (all xs : List Item) (k : ℕ) (st : Step) (t : ℕ) → Each (λ x. Each P (names x)) xs
    → slice_get (steps_in source all xs) k ≡ Some st → Contains st.targets t → (l : ℕ) × P l × (t ≡ place_of l all)
target-named P source all [] k st t h e c = absurd (cc)
target-named P source all (Label l ∷ xs) k st t h e c = target-named P source all xs k st t h.1 e c
target-named P source all (Plain i ∷ xs) zero st t h e c =
    let own : [] ≡ st.targets = ap (λ (y : Step). y.targets) (some-is (record { insn = i; targets = []; keys = [] }) st e) in
    let none = subst (λ ts. Contains ts t) (sym own) c in absurd (omega (arith, none.1))
  where
    some-is : (a b : Step) → Some a ≡ Some b → a ≡ b
    some-is a b e = cc
target-named P source all (Plain i ∷ xs) (suc k) st t h e c = target-named P source all xs k st t h.1 e c
target-named P source all (Branch op l ∷ xs) zero st t h e c = by st.targets (targets-are e) c
  where
    targets-are : Some (record { insn = record { op = op; x = pos 0; y = pos 0; z = pos 0; len = 3 }; targets = place_of l all ∷ []; keys = [] })
        ≡ Some st → place_of l all ∷ [] ≡ st.targets
    targets-are e = ap targets_at e
      where
        targets_at : Option Step → List ℕ
        targets_at None = []
        targets_at (Some y) = y.targets

    by : (ts : List ℕ) → place_of l all ∷ [] ≡ ts → Contains ts t → (j : ℕ) × P j × (t ≡ place_of j all)
    by ts own c =
        let at : slice_get (place_of l all ∷ []) c.0 ≡ Some t = ap (λ (us : List ℕ). slice_get us c.0) own ∙ at-contains ts t c in
        here c.0 at
      where
        here : (k : ℕ) → slice_get (place_of l all ∷ []) k ≡ Some t → (j : ℕ) × P j × (t ≡ place_of j all)
        here zero e = let same_place : place_of l all ≡ t = cc in (l, h.0.0, sym same_place)
        here (suc k) e = absurd (cc)
target-named P source all (Branch op l ∷ xs) (suc k) st t h e c = target-named P source all xs k st t h.1 e c
target-named P source all (Switch i at ls ∷ xs) zero st t h e c =
    let own : map (λ l. place_of l all) ls ≡ st.targets = ap targets_at e in
    let p = preimage (λ l. place_of l all) ls t (subst (λ ts. Contains ts t) (sym own) c) in
    (p.of, each-in P ls p.of h.0 p.listed, p.is)
  where
    targets_at : Option Step → List ℕ
    targets_at None = map (λ l. place_of l all) ls
    targets_at (Some y) = y.targets
target-named P source all (Switch i at ls ∷ xs) (suc k) st t h e c = target-named P source all xs k st t h.1 e c

module _ (w : Linked) (r0 : MethodRec) (source : List ℕ) (symbols : Symbols) (regs : List Ty) (asks : ℕ → Asked) where
  -- what the labels of the code ask: those that its items name want an empty stack; those at which its handlers begin want what these
  -- catch, and no others do
  pub record AreAsked : Type 0 where
    pub low : ℕ
    pub high : ℕ
    pub rise : Rises low high (labels symbols.items)
    pub named : Each (λ x. Each (λ l. IsAmong l (labels symbols.items) × (asks l ≡ emptied)) (names x)) symbols.items
    pub caught : Each (λ (range : Range). IsAmong range.entry (labels symbols.items) × (asks range.entry ≡ catching (class_by r0.handlers range.pool)))
        symbols.ranges
    pub classes : Each (λ (range : Range). IsClass w.classes (class_by r0.handlers range.pool)) symbols.ranges
    pub order : Each (λ (range : Range). place_of range.from symbols.items < place_of range.to symbols.items) symbols.ranges
    pub no_others : (l c : ℕ) → IsAmong l (labels symbols.items) → asks l ≡ catching c → (range : Range) × Contains symbols.ranges range
        × (range.entry ≡ l)

  abbrev rec : MethodRec
  rec = record_with r0 symbols

  abbrev all : List Item
  all = symbols.items

  module _ (asked : AreAsked) (f : Flows w (record_with r0 symbols) regs asks 0 (holding []) symbols.items left) where
    pub stacks : ℕ → List Ty
    stacks q = stack_at w (record_with r0 symbols) regs asks f q

    counted : length (steps source symbols.items) ≡ count symbols.items
    counted = count-steps source symbols.items symbols.items

    -- ---- labels

    by_label : Range → Handler
    by_label range = handler_by r0.handlers (handler (λ l. place_of l symbols.items) range)

    handlers-are : rec.handlers ≡ map by_label symbols.ranges
    unfolding by_label
    handlers-are = map-map (handler_by r0.handlers) (handler (λ l. place_of l symbols.items)) symbols.ranges

    range-of : (h : Handler) → Contains rec.handlers h → Preimage by_label symbols.ranges h
    range-of h c = preimage by_label symbols.ranges h (subst (λ hs. Contains hs h) handlers-are c)

    has-range : (range : Range) → Contains symbols.ranges range → Contains rec.handlers (by_label range)
    has-range range c = subst (λ hs. Contains hs (by_label range)) (sym handlers-are) (contains-map by_label symbols.ranges range c)

    stack-is : (l : ℕ) (s : List Ty) → IsAmong l (labels symbols.items) → ((c d : State) → Passes (asks l) c d → d ≡ holding s)
        → (place_of l symbols.items < count symbols.items) × (stacks (place_of l symbols.items) ≡ s)
    unfolding stacks
    stack-is l s among gives =
        let a = asked-at w (record_with r0 symbols) regs asks f l s refl among gives in
        let here : place_of l symbols.items ≡ 0 + place_of l symbols.items = omega arith in
        (a.inside, ap (stack_at w (record_with r0 symbols) regs asks f) here ∙ a.stack)

    empty-at : (l : ℕ) → IsAmong l (labels symbols.items) → asks l ≡ emptied → (place_of l symbols.items < count symbols.items)
        × (stacks (place_of l symbols.items) ≡ [])
    empty-at l among is = stack-is l [] among (λ c d p. (subst (λ (q : Asked). Passes q c d) is p).1)

    caught-at : (range : Range) → Contains symbols.ranges range → (place_of range.entry symbols.items < count symbols.items)
        × (stacks (place_of range.entry symbols.items) ≡ Class (class_by r0.handlers range.pool) ∷ [])
    caught-at range c =
        let a = each-in (λ (range : Range). IsAmong range.entry (labels symbols.items)
        × (asks range.entry ≡ catching (class_by r0.handlers range.pool))) symbols.ranges range asked.caught c in
        stack-is range.entry (Class (class_by r0.handlers range.pool) ∷ []) a.0 (λ x y p. (subst (λ (q : Asked). Passes q x y) a.1 p).1)

    -- where a handler begins the caught object is on the stack
    record IsCaught (q : ℕ) : Type 0 where
      range : Range
      listed : Contains symbols.ranges range
      at : place_of range.entry symbols.items ≡ q
      stack : stacks q ≡ Class (class_by r0.handlers range.pool) ∷ []

    caught : (q : ℕ) → IsEntryAmong rec.handlers q → IsCaught q
    unfolding by_label
    caught q e = grind (arith, range-of e.handler e.listed, caught-at)

    not-entered : (q : ℕ) → stacks q ≡ [] → ¬ (IsEntryAmong rec.handlers q)
    not-entered q e entry = let c = caught q entry in absurd (differ (stacks q) (class_by r0.handlers c.range.pool) e c.stack)
      where
        differ : (s : List Ty) (c : ℕ) → s ≡ [] → s ≡ Class c ∷ [] → ⊥
        differ s c e g = absurd (cc)

    same-class : (a b : ℕ) (s : List Ty) → s ≡ Class a ∷ [] → s ≡ Class b ∷ [] → a ≡ b
    same-class a b s e g = class-of (sym e ∙ g)
      where
        class-of : Class a ∷ [] ≡ Class b ∷ [] → a ≡ b
        class-of e = cc

    entered : (q : ℕ) → IsEntryAmong rec.handlers q → IsEnteredBy w rec.handlers stacks q
    unfolding by_label
    entered q e =
        let c = caught q e in
        let class = class_by r0.handlers c.range.pool in
        record {
          class = class;
          catches = record {
            class = each-in (λ (range : Range). IsClass w.classes (class_by r0.handlers range.pool)) symbols.ranges c.range asked.classes c.listed;
            above = λ h listed begins.
                let p = range-of h listed in
                let there : place_of p.of.entry symbols.items ≡ q = ap (λ (k : Handler). k.entry) (sym p.is) ∙ begins in
                let own : class_by r0.handlers p.of.pool ≡ class = same-class (class_by r0.handlers p.of.pool) class (stacks q)
                (ap stacks (sym there) ∙ (caught-at p.of p.listed).1) c.stack in
                let is : h.class ≡ class = ap (λ (k : Handler). k.class) p.is ∙ own in
                subst (λ (n : ℕ). Below w.classes (Class n) (Class class)) (sym is) same;
            least = λ u above. above (by_label c.range) (has-range c.range c.listed) c.at;
          };
          stack = c.stack;
        }

    -- ---- targets

    step-target : (k : ℕ) (st : Step) (t : ℕ) → slice_get (steps source symbols.items) k ≡ Some st → Contains st.targets t
        → (t < count symbols.items) × (stacks t ≡ [])
    step-target k st t e c =
        let n = target-named (λ l. IsAmong l (labels symbols.items) × (asks l ≡ emptied)) source symbols.items symbols.items k st t asked.named e c in
        let a = empty-at n.0 n.1.0 n.1.1 in
        (omega (arith, n.2, a.0), ap stacks n.2 ∙ a.1)

    step-at : (i : Placed) → IsSomeAnd (slice_get (steps source symbols.items) i.place) (λ step. step.insn ≡ i.insn) → (st : Step)
        × (slice_get (steps source symbols.items) i.place ≡ Some st) × (st.insn ≡ i.insn)
    step-at i stands = by (slice_get (steps source symbols.items) i.place) refl stands
      where
        by : (o : Option Step) → slice_get (steps source symbols.items) i.place ≡ o → IsSomeAnd o (λ step. step.insn ≡ i.insn) → (st : Step)
            × (slice_get (steps source symbols.items) i.place ≡ Some st) × (st.insn ≡ i.insn)
        by None e h = absurd h
        by (Some st) e h = (st, e, h)

    targeted : (q : ℕ) → IsTargetAmong (code_in_symbols r0 source symbols).stands (code_in_symbols r0 source symbols).leads q
        → ¬ (IsEntryAmong rec.handlers q) × (stacks q ≡ [])
    targeted q t =
        let s = step-at t.from t.stands in
        let c : Contains (map (λ (k : ℕ). pos k) s.0.targets) (pos q) = subst (λ (o : Option Step). Contains (leads_of o) (pos q)) s.1 t.leads in
        let p = preimage (λ (k : ℕ). pos k) s.0.targets (pos q) c in
        let own : q ≡ p.of = pos-is q p.of p.is in
        let e : stacks q ≡ [] = ap stacks own ∙ (step-target t.from.place s.0 p.of s.1 p.listed).1 in
        (not-entered q e, e)
      where
        pos-is : (a b : ℕ) → pos a ≡ pos b → a ≡ b
        pos-is a b e = cc

    -- ---- the instruction at a place

    turned : (i : Placed) → IsSomeAnd (slice_get (steps source symbols.items) i.place) (λ step. step.insn ≡ i.insn)
        → IsTurned w (record_with r0 symbols) regs asks 0 i.place i.insn symbols.items (stack_at w (record_with r0 symbols) regs asks f) left
    turned i stands =
        let s = step-at i stands in
        let t = turned-at w (record_with r0 symbols) regs asks source symbols.items f i.place s.0 s.1 in
        subst (λ (n : Insn). IsTurned w (record_with r0 symbols) regs asks 0 i.place n symbols.items (stack_at w (record_with r0 symbols) regs asks f)
        left) s.2 t

    held : (a b : List Ty) → holding a ≡ holding b → a ≡ b
    held a b e = cc

    typed-so : (i : Placed) → IsTurned w (record_with r0 symbols) regs asks 0 i.place i.insn symbols.items
        (stack_at w (record_with r0 symbols) regs asks f) left → IsTypedIn w (code_in_symbols r0 source symbols) regs stacks i
    unfolding stacks by_label
    typed-so i t =
        let here : t.place ≡ i.place = omega (arith, t.is) in
        let own : t.turn.stack ≡ stacks i.place = held t.turn.stack (stacks i.place)
        (sym t.turn.here ∙ t.stack ∙ ap (λ (q : ℕ). holding (stacks q)) here) in
        let rule : (o : Outcome) × RuleApplies w (record_with r0 symbols) i.place i.insn Flow (frame_at regs stacks i.place) t.turn.after o =
        subst (λ (q : ℕ). (o : Outcome) × RuleApplies w (record_with r0 symbols) q i.insn Flow (frame_at regs stacks i.place) t.turn.after o) here
        (subst (λ (s : List Ty). (o : Outcome) × RuleApplies w (record_with r0 symbols) t.place i.insn Flow (record { regs = regs; stack = s })
        t.turn.after o) own t.turn.applies) in
        let next : suc t.place ≡ i.place + 1 = omega (arith, here) in
        let far : t.place < suc t.place = omega arith in
        let flowing : stacks (i.place + 1) ≡ stack_at w (record_with r0 symbols) regs asks t.flow (suc t.place) = ap stacks (sym next)
        ∙ t.later (suc t.place) far in
        record {
          after = t.turn.after;
          applies = rule;
          stored = t.turn.stored;
          branch = t.turn.branch;
          goes_on = λ goes.
              let b : t.after ≡ holding t.turn.after.stack = t.turn.onward ∙ ap (λ (y : Bool). if y then holding t.turn.after.stack else left) goes in
              let n = comes-next w (record_with r0 symbols) regs asks t.flow t.turn.after.stack b refl in
              record {
                inside = omega (arith, counted, t.size, n.inside);
                no_entry = λ e.
                    let c = caught (i.place + 1) e in
                    let a = each-in (λ (range : Range). IsAmong range.entry (labels symbols.items)
                    × (asks range.entry ≡ catching (class_by r0.handlers range.pool))) symbols.ranges c.range asked.caught c.listed in
                    let l = t.labelled c.range.entry a.0 (omega (arith, c.at)) in
                    let free = n.free c.range.entry (class_by r0.handlers c.range.pool) a.1 l.0 in
                    absurd (omega (arith, c.at, l.1, free));
                next = flowing ∙ n.stack;
              };
          ends = λ none no_entry.
              let b : t.after ≡ left = t.turn.onward ∙ ap (λ (y : Bool). if y then holding t.turn.after.stack else left) none in
              flowing ∙ left-empty w (record_with r0 symbols) regs asks t.flow b refl
              (λ l c is among.
              let beyond = t.beyond asked.low asked.high l asked.rise among in
              let k = asked.no_others l c beyond.0 is in
              positive (place_of l t.rest) (λ zero_place. no_entry (record {
                handler = by_label k.0;
                listed = has-range k.0 k.1;
                begins = entry-is k.0 l k.2 (omega (arith, beyond.1, zero_place));
              })));
        }
      where
        positive : (n : ℕ) → (n ≡ 0 → ⊥) → 0 < n
        positive zero h = absurd (h refl)
        positive (suc n) h = omega arith

        entry-is : (range : Range) → (l : ℕ) → range.entry ≡ l → place_of l symbols.items ≡ i.place + 1 → (by_label range).entry ≡ i.place + 1
        entry-is range l e g = ap (λ (k : ℕ). place_of k symbols.items) e ∙ g

    room-so : (i : Placed) → IsTurned w (record_with r0 symbols) regs asks 0 i.place i.insn symbols.items
        (stack_at w (record_with r0 symbols) regs asks f) left → length (stacks i.place) ≤ symbols.max_stack
    unfolding stacks
    room-so i t = grind (arith, holding)

    -- ---- the whole

    handler-formed : (range : Range) → Contains symbols.ranges range → IsHandlerIn (length (steps source symbols.items)) (by_label range)
    unfolding by_label
    handler-formed range c =
        let a = each-in (λ (range : Range). place_of range.from symbols.items < place_of range.to symbols.items) symbols.ranges range asked.order c in
        let most = place-within range.to symbols.items in
        let entry = caught-at range c in
        record { order = omega (arith, a); inside = omega (arith, a, most, counted); entry = omega (arith, counted, entry.0) }

    formed : AreFormed (steps source symbols.items) rec.handlers
    formed = record {
      targets = all-contained (λ s. All (λ t. t < length (steps source symbols.items)) s.targets) (steps source symbols.items)
          (λ st c. all-contained (λ t. t < length (steps source symbols.items)) st.targets
          (λ t d. omega (arith, counted, (step-target c.0 st t (at-contains (steps source symbols.items) st c) d).0)));
      handlers = all-contained (IsHandlerIn (length (steps source symbols.items))) rec.handlers
          (λ h c. let p = range-of h c in subst (IsHandlerIn (length (steps source symbols.items))) (sym p.is) (handler-formed p.of p.listed));
    }

    begins : stacks 0 ≡ []
    unfolding stacks
    begins = (comes-next w (record_with r0 symbols) regs asks f [] refl refl).stack

    -- a walk from an empty stack along all items is a card typing
    pub walk-types : All (IsKnown w.classes) regs → All IsNotFresh regs → CellsBelow w.classes (start_frame rec Bottom).regs regs
        → TypingIn w (code_in_symbols r0 source symbols) regs stacks
    walk-types types ready declared = record {
      formed = formed;
      types = types;
      ready = ready;
      declared = declared;
      start = (not-entered 0 begins, begins);
      entries = entered;
      targets = targeted;
      room = λ i stands. room-so i (turned i stands);
      typed = λ i stands. typed-so i (turned i stands);
    }
