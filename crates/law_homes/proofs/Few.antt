-- How many cells are kept and how many copies an edge has; and stacks that are kept, which have no uninitialised object.
use Rattle.std.proofs.Common.{◌≡◌, ◌⊎◌, inl, inr, ℕ, zero, suc, ◌*◌, ◌≤◌, Bool, if◌then◌else◌}
use Rattle.std.proofs.Common.{List, [], ◌∷◌, ◌++◌, length, map, reverse, refl, sym, ap, ◌∙◌, subst, arith, length-append}
use Rattle.std.specs.Prelude.{Option, Some, None, IsSome, IsSomeAnd, flat_map, is_some, slice_get}
use Rattle.std.proofs.lemmas.List.{map-append}
use Rattle.std.proofs.lemmas.List.Concat.{flat_map-cons}
use Rattle.jc_base.specs.declared.ty.Ty.{Ty}
use Rattle.jc_base.specs.declared.ty.Ty.TheVariants.{Fresh, Top}
use Rattle.jc_base.specs.Class.{ClassTable}
use Rattle.jc_base.specs.Each.{Each, IsAmong}
use Rattle.jc_base.specs.Laws.{IsOrderOfTypes, SameTypeDecides}
use Rattle.jc_base.specs.Order.{Below}
use Rattle.jc_base.specs.World.{Linked}
use Rattle.jc_ops.specs.declared.operation.Sort.{Sort}
use Rattle.jc_control.specs.Control.{IsReached, begins, follows}
use Rattle.jc_rules.specs.Demand.{Frame as Types}
use Rattle.jc_rules.specs.Flow.{IsFit, IsNotFresh, IsNotTop}
use Rattle.vm_store.specs.declared.cell.Cell.{Cell}
use Rattle.vm_store.specs.declared.cell.ObjectKind.{ObjectKind}
use Rattle.vm_store.specs.Typing.{type_of_fresh, fresh_seen}
use Rattle.vm_store.specs.Cells.{tagged}
use Rattle.vm_store.specs.Objects.{kinds}
use Rattle.vm_store.specs.State.{nth}
use Rattle.law_alike.specs.Alike.{renamed_cell}
use Rattle.xf_homes.specs.declared.home.Home.{Home}
use Rattle.xf_homes.specs.Home.{register_count}
use Rattle.xf_homes.specs.Laws.{AreNeeded, NeededAreKept}
use Rattle.xf_homes.specs.Order.{SlotsFollow as Follow, register_sum}
use Rattle.xf_homes.specs.Walk.{has}
use Rattle.xf_homes.specs.Source.{Source}
use Rattle.xf_homes.specs.Plan.{stack_homes, needed, stack_of, cells_from}
use Rattle.xf_emission.specs.declared.origin.Origin.{Origin}
use Rattle.xf_emission.specs.Edge.{home_before, homes_held, copy_new, copies_from, local_copies, locals_copies, copies}
use Rattle.xf_emission.specs.Move.{copy}
use Rattle.xf_emission.proofs.Fewer.{Distinct, no-longer, distinct-append, either-among}
use Rattle.xf_emission.proofs.PlainSizes.{homes-few, in-homes, in-order-distinct}
use Rattle.law_rewritten_typing.specs.Planned.{IsPlanned}
use Rattle.law_rewritten_typing.specs.Edges.{CellsFillStack, FillStack, NeededHaveHomes, LeadsTo, leads_start, leads_after, leads_entry}
use Rattle.law_rewritten_typing.proofs.Below.{top-only}
use Rattle.law_rewritten_typing.proofs.Registers.{not-fresh}
use Rattle.law_homes.specs.Edges.{insns, KeptStacksStay, CellsAreFew, CopiesAreFew}
use Rattle.law_homes.specs.Held.{slots}
use Rattle.law_homes.specs.Moves.{letter_of, value_in_register}
use Rattle.law_homes.proofs.Valued.{asked_types, IsCellOf, CellsAt, at-nth}
use Rattle.law_homes.proofs.StackStores.{piled, piled-stack}
use Rattle.law_homes.proofs.Spilling.{reverse-among}
use Rattle.law_homes.proofs.Carrying.{insns-append}
use Rattle.law_homes.proofs.Beside.{each-among, typed, types, count-registers, count-stack, cells-valued}
use Rattle.law_homes.specs.Premises.{AreMoveLaws}

-- ---- stacks that are kept

module _ (t : ClassTable) (order : IsOrderOfTypes t) (ks : List ObjectKind) where
  fresh-seen : (p : ℕ) (o : Option ObjectKind) → (fresh_seen p o ≡ Top) ⊎ ((c : ℕ) × (fresh_seen p o ≡ Fresh p c))
  fresh-seen p y = grind (arith)

  fresh-is : (h p : ℕ) → (type_of_fresh ks h p ≡ Top) ⊎ ((c : ℕ) × (type_of_fresh ks h p ≡ Fresh p c))
  fresh-is zero p = inl refl
  fresh-is (suc h) p = fresh-seen p (slice_get ks h)

  no-fresh : (h p : ℕ) (ty : Ty) → Below t (type_of_fresh ks h p) ty → IsNotFresh ty → IsNotTop ty → ⊥
  no-fresh h p ty le ready top = by (fresh-is h p)
    where
      by : (type_of_fresh ks h p ≡ Top) ⊎ ((c : ℕ) × (type_of_fresh ks h p ≡ Fresh p c)) → ⊥
      by (inl e) = subst IsNotTop (top-only t order ty ((order.decided Top ty).1 (subst (λ (u : Ty). Below t u ty) e le))) top
      by (inr (c, e)) = not-fresh t order (Fresh p c) ty (subst (λ (u : Ty). Below t u ty) e le) ready top

  same-cell : (e : ℕ → ℕ) (c : Cell) (ty : Ty) → IsCellOf t ks ty c → IsNotFresh ty → IsNotTop ty → renamed_cell e c ≡ c
  same-cell e c ty is ready top = grind (arith, no-fresh)

  same-nth : (e : ℕ → ℕ) (values : List Cell) (n : ℕ) (ty : Ty) → CellsAt t ks values n (ty ∷ []) → IsNotFresh ty → IsNotTop ty
      → renamed_cell e (nth tagged values n) ≡ nth tagged values n
  same-nth e values n ty is ready top = same-cell e (nth tagged values n) ty (at-nth values n (IsCellOf t ks ty) is.0).1 ready top

  pub same-value :
      (e : ℕ → ℕ) (letter : Sort) (values : List Cell) (n : ℕ) → CellsAt t ks values n (asked_types t letter)
      → map (renamed_cell e) (value_in_register letter n values) ≡ value_in_register letter n values
  same-value e y values n is = grind (arith, same-nth)

  same-pile :
      (e : ℕ → ℕ) (values : List Cell) (hs : List Home) → Each (λ h. CellsAt t ks values h.slot (asked_types t (letter_of h.ty))) hs
      → map (renamed_cell e) (piled values hs []) ≡ piled values hs []
  same-pile e values [] all = refl
  same-pile e values (h ∷ hs) all =
      map-append (renamed_cell e) (value_in_register (letter_of h.ty) h.slot values) (piled values hs [])
      ∙ (ap (λ (cs : List Cell). cs ++ map (renamed_cell e) (piled values hs [])) (same-value e (letter_of h.ty) values h.slot all.0)
      ∙ ap (λ (cs : List Cell). value_in_register (letter_of h.ty) h.slot values ++ cs) (same-pile e values hs all.1))

pub kept-stacks-stay : (v w : Linked) → AreMoveLaws v w → KeptStacksStay v w
kept-stacks-stay v w l s q f t e is plan beside keeps =
    let hs : List Home = stack_homes s q in
    let filled : FillStack s q (typed v w l s is plan q f t beside).frame =
    (subst CellsFillStack (sym is) l.fill) s refl plan q (typed v w l s is plan q f t beside).frame (typed v w l s is plan q f t beside).at keeps in
    let follow : Follow (length f.registers) hs = subst (λ (k : ℕ). Follow k hs) (sym (count-registers v w l s is plan q f t beside)) filled.follow in
    let sum : register_sum hs ≡ length f.stack = filled.fill ∙ sym (count-stack v w l s is plan q f t beside) in
    let pile : piled (slots f) (reverse hs) [] ≡ f.stack = piled-stack f hs follow sum in
    let all = each-among (λ h. CellsAt w.classes (kinds t) (slots f) h.slot (asked_types w.classes (letter_of h.ty))) (reverse hs)
    (λ h a. (cells-valued v w l s is plan q f t beside keeps h (reverse-among h hs a)).1) in
    ap (map (renamed_cell e)) (sym pile) ∙ (same-pile w.classes (types v w l s is plan q f t beside) (kinds t) e (slots f) (reverse hs) all ∙ pile)

-- ---- how many

module _ (v : Linked) (fill : CellsFillStack v) where
  pub cells-are-few : CellsAreFew v
  unfolding stack_homes
  cells-are-few s q is plan keeps = by (s.frames q) refl
    where
      by :
          (o : Option Types) → s.frames q ≡ o
          → length (cells_from (register_count s.method.rec) (stack_of (s.frames q)) 0 (length (stack_of (s.frames q)))) ≤ s.method.rec.max_stack
      by None e =
          subst (λ (o : Option Types). length (cells_from (register_count s.method.rec) (stack_of o) 0 (length (stack_of o))) ≤ s.method.rec.max_stack)
          (sym e) (omega arith)
      by (Some g) e =
          let filled = (subst CellsFillStack (sym is) fill) s refl plan q g e keeps in
          let fits = room-of g e in
          omega (arith, homes-few (stack_homes s q), filled.fill, fits)
        where
          room-of : (g : Types) → s.frames q ≡ Some g → length g.stack ≤ s.method.rec.max_stack
          room-of g e = within (s.frames q) e (plan.typing.fit q ((plan.frames.reached q).0 (ap is_some e)))
            where
              within : (o : Option Types) → o ≡ Some g → IsSomeAnd o (IsFit s.method) → length g.stack ≤ s.method.rec.max_stack
              within None e h = absurd h
              within (Some k) e h = let own : k ≡ g = cc in omega (arith, h.room, ap (λ (x : Types). length x.stack) own)

-- ---- copies

insns-if : (s : Source) (from k : Home) (b : Bool) → length (insns (if b then [] else copy s from k)) ≤ 2
insns-if s from k u = grind (arith)

new-few : (s : Source) (from : Home) (there ks : List Home) → length (insns (flat_map (copy_new s from there) ks)) ≤ 2 * length ks
new-few s from there [] = omega arith
new-few s from there (k ∷ ks) = grind (arith, flat_map-cons, insns-append, length-append, insns-if, new-few s from there ks)

local-few : (s : Source) (o : Origin) (q x : ℕ) → length (insns (local_copies s o q x)) ≤ 2 * length (needed s q x)
unfolding local_copies
local-few s o q x = by (home_before s o x)
  where
    by : (h : Option Home) → length (insns (copies_from s o q x h)) ≤ 2 * length (needed s q x)
    by None = omega arith
    by (Some from) = new-few s from (homes_held s o x from) (needed s q x)

-- what is needed of so many locals from x on
abbrev all_needed : Source → ℕ → ℕ → ℕ → List Home
all_needed s q x zero = []
all_needed s q x (suc n) = needed s q x ++ all_needed s q (suc x) n

locals-few : (s : Source) (o : Origin) (q x n : ℕ) → length (insns (locals_copies s o q x n)) ≤ 2 * length (all_needed s q x n)
locals-few s o q x zero = omega arith
locals-few s o q x (suc n) = grind (arith, insns-append, suc, length-append, local-few, locals-few s o q (suc x) n)

module _ (v : Linked) (same_is : SameTypeDecides) (kept : NeededAreKept) (have : NeededHaveHomes v) (s : Source) (is : s.world ≡ v) (plan : IsPlanned s)
    (q : ℕ) (g : Types) (e : s.frames q ≡ Some g) where
  needed-are : (x : ℕ) → AreNeeded s.method s.frames q x (needed s q x)
  unfolding needed
  needed-are x = kept s.method s.frames q x

  slot-of : (x : ℕ) (h : Home) → IsAmong h (needed s q x) → h.slot ≡ x
  slot-of x h a = (((needed-are x).all h).0 a).0

  slots-from : (x n : ℕ) (h : Home) → IsAmong h (all_needed s q x n) → x ≤ h.slot
  slots-from x zero h a = absurd a
  slots-from x (suc n) h a =
      either-among (λ (k : Home). x ≤ k.slot) (needed s q x) (all_needed s q (suc x) n) (λ k b. omega (arith, slot-of x k b))
      (λ k b. omega (arith, slots-from (suc x) n k b)) h a

  all-distinct : (x n : ℕ) → Distinct (all_needed s q x n)
  all-distinct x zero = tt
  all-distinct x (suc n) =
      distinct-append (needed s q x) (all_needed s q (suc x) n) (in-order-distinct s q x (needed s q x) (needed-are x).order) (all-distinct (suc x) n)
      (λ k a b. absurd (omega (arith, slot-of x k a, slots-from (suc x) n k b)))

  all-homes : (x n : ℕ) (h : Home) → IsAmong h (all_needed s q x n) → IsAmong h s.homes
  all-homes x zero h a = absurd a
  all-homes x (suc n) h a =
      either-among (λ (k : Home). IsAmong k s.homes) (needed s q x) (all_needed s q (suc x) n)
      (λ k b. let r = ((subst NeededHaveHomes (sym is) have) s refl plan q x g k e b).keeps.has in in-homes same_is 0 s.homes k r.0 r.1)
      (λ k b. all-homes (suc x) n k b) h a

  pub one-few : (x : ℕ) → length (needed s q x) ≤ 255
  one-few x =
      let all = no-longer (needed s q x) s.homes (in-order-distinct s q x (needed s q x) (needed-are x).order)
      (λ k b. let r = ((subst NeededHaveHomes (sym is) have) s refl plan q x g k e b).keeps.has in in-homes same_is 0 s.homes k r.0 r.1) in
      omega (arith, all, homes-few s.homes, plan.few)

  pub copies-few : (o : Origin) → length (insns (copies s o q)) ≤ 2 * 255
  unfolding copies
  copies-few o =
      let all = no-longer (all_needed s q 0 (register_count s.method.rec)) s.homes (all-distinct 0 (register_count s.method.rec))
      (all-homes 0 (register_count s.method.rec)) in
      omega (arith, locals-few s o q 0 (register_count s.method.rec), all, homes-few s.homes, plan.few)

reached-by : (s : Source) (o : Origin) (q : ℕ) → LeadsTo s o q → IsReached s.method q
reached-by s _ _ leads_start = begins
reached-by s _ _ (leads_after {i = i} st there is succ) = follows {i = i} st there succ
reached-by s _ _ (leads_entry there) = there

frame-at : (o : Option Types) → IsSome o → (g : Types) × (o ≡ Some g)
frame-at x is = grind (arith)

pub copies-are-few : (v : Linked) → SameTypeDecides → NeededAreKept → NeededHaveHomes v → CopiesAreFew v
copies-are-few v same_is kept have s o q is plan leads =
    let g = frame-at (s.frames q) ((plan.frames.reached q).1 (reached-by s o q leads)) in
    copies-few v same_is kept have s is plan q g.0 g.1 o
