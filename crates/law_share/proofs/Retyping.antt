-- An operation applies to other registers of the same types.
use Rattle.std.proofs.Common.{◌≡◌, ℕ, zero, suc, ◌+◌, ◌<◌, ◌≤◌, ⊎_elim, List, [], ◌∷◌, length, map, refl, sym, ap, ◌∙◌}
use Rattle.std.proofs.Common.{subst, arith, set, get_or}
use Rattle.std.specs.Prelude.{ℤ, Option, Some, None, IsSomeAnd, slice_get, slice_index_or}
use Rattle.std.proofs.lemmas.List.{length-set, get_or-set_same, get_or-set_other, set-get_or}
use Rattle.std.proofs.lemmas.Option.{get_or_from_slice_get, slice_get-get_or}
use Rattle.jc_base.specs.declared.ty.Ty.{Ty}
use Rattle.jc_base.specs.declared.ty.Ty.TheVariants.{IntHigh, IntLow, Short, Top}
use Rattle.jc_base.specs.Class.{ClassTable}
use Rattle.jc_base.specs.Order.{Below}
use Rattle.jc_base.specs.World.{Linked}
use Rattle.jc_ops.specs.declared.operation.Operation.{Operation}
use Rattle.jc_ops.specs.declared.operation.Operation.TheVariants as ops
use Rattle.jc_ops.specs.declared.operation.Sort.{Sort}
use Rattle.jc_ops.specs.declared.operation.Sort.TheVariants as sorts
use Rattle.jc_ops.specs.declared.operation.Width.{Width}
use Rattle.jc_ops.specs.declared.operation.Width.TheVariants as widths
use Rattle.jc_ops.specs.declared.operation.Want.TheVariants.{Value}
use Rattle.jc_ops.specs.Alike.{IsAlike, equal, loads, stores, increments}
use Rattle.jc_ops.specs.Next.{falls_from, ends_at}
use Rattle.jc_rules.specs.declared.demand.Demand.{Demand}
use Rattle.jc_rules.specs.declared.demand.Demand.TheVariants.{Registers, Depth, Cell, Cut, Held}
use Rattle.jc_rules.specs.declared.effect.Cells.{Cells}
use Rattle.jc_rules.specs.declared.effect.Cells.TheVariants as given
use Rattle.jc_rules.specs.declared.effect.Change.TheVariants.{Replace}
use Rattle.jc_rules.specs.declared.effect.Effect.{Effect}
use Rattle.jc_rules.specs.declared.effect.Mode.TheVariants.{Flow}
use Rattle.jc_rules.specs.declared.rule.Outcome.{Outcome}
use Rattle.jc_rules.specs.Effect.{changed, in_stack_order, raises_register, reg, StoresInRegisters, WritesInt}
use Rattle.jc_rules.specs.Demand.{Frame, Meets, SatisfiesAll}
use Rattle.jc_rules.specs.Apply.{OperationApplies}
use Rattle.jc_rules.specs.Flow.{CellsBelow}
use Rattle.jc_rules.specs.Footprint.{Footprint, footprint, registers_read, AgreeOn, OperationReads, FootprintIsOne}
use Rattle.jc_rules.specs.Rule.{demands, effect, or_null, wrote}
use Rattle.jc_rules.proofs.CellLists.{cells-or, cells-same, cells-set}
use Rattle.law_share.specs.Retyped.{AreRetyped, IsRenumbered, AppliesToo, RenumberedApply}
use Rattle.law_share.proofs.Quiet.{IsStoring, quiet-or-stores}

-- ---- registers that are stored into

module _ (t : ClassTable) where
  -- what is stored below the type of a register leaves all registers below theirs
  pub stored-below : (xs others : List Ty) (y : ℕ) (ty : Ty) → Below t ty (reg others y) → CellsBelow t xs others → CellsBelow t (set xs y ty) others
  stored-below xs others y ty below all = subst (CellsBelow t (set xs y ty)) (set-get_or others y Top) (cells-set t y below all)

  -- what was stored in a register is below its type
  pub below-there : (xs regs : List Ty) (x : ℕ) (ty : Ty) → reg xs x ≡ ty → CellsBelow t xs regs → Below t ty (reg regs x)
  below-there xs regs x ty is all = subst (λ a. Below t a (reg regs x)) is (cells-or t x all)

-- ---- registers of the same types

module _ (regs others : List Ty) (f : ℕ → ℕ) (same : AreRetyped regs others f) where
  pub reg-same : (x : ℕ) → x < length regs → reg others (f x) ≡ reg regs x
  reg-same x lt = get_or_from_slice_get others (f x) (reg regs x) Top (same x (reg regs x) (slice_get-get_or regs x Top lt))

  -- what is held is held under the new number
  pub held-too : (P : Ty → Type 0) (x : ℕ) → IsSomeAnd (slice_get regs x) P → IsSomeAnd (slice_get others (f x)) P
  held-too P x h = go (slice_get regs x) refl h
    where
      go : (o : Option Ty) → slice_get regs x ≡ o → IsSomeAnd o P → IsSomeAnd (slice_get others (f x)) P
      go None e h = absurd h
      go (Some ty) e h = subst (λ o. IsSomeAnd o P) (sym (same x ty e)) h

  held-within : (P : Ty → Type 0) (x : ℕ) → IsSomeAnd (slice_get regs x) P → x < length regs
  held-within P x h = go regs x h
    where
      go : (xs : List Ty) (n : ℕ) → IsSomeAnd (slice_get xs n) P → n < length xs
      go [] n h = absurd h
      go (y ∷ ys) zero h = omega arith
      go (y ∷ ys) (suc n) h = let lt = go ys n h in omega (arith, lt)

  -- registers that an operation reads, where they keep their numbers
  heads : (x y : ℕ) (xs ys : List ℕ) → x ∷ xs ≡ y ∷ ys → (x ≡ y) × (xs ≡ ys)
  heads x y xs ys e = (cc, cc)

  kept : (x : ℕ) → x ≡ f x → x < length regs → slice_get regs x ≡ slice_get others x
  kept x keeps lt =
      let is = slice_get-get_or regs x Top lt in
      is ∙ (sym (same x (get_or regs x Top) is) ∙ ap (slice_get others) (sym keeps))

  agree : (t : ClassTable) (stack : List Ty) (ds : List Demand) → registers_read ds ≡ map f (registers_read ds)
      → SatisfiesAll t (record { regs = regs; stack = stack }) ds → AgreeOn (registers_read ds) regs others
  agree t stack [] e h = tt
  agree t stack (Held x ty ∷ ds) e h =
      let both = heads x (f x) (registers_read ds) (map f (registers_read ds)) e in
      (kept x both.0 (held-within (Meets t (Value ty)) x h.0), agree t stack ds both.1 h.1)
  agree t stack (Registers x n ∷ ds) e h = agree t stack ds e h.1
  agree t stack (Depth n ∷ ds) e h = agree t stack ds e h.1
  agree t stack (Cell n want ∷ ds) e h = agree t stack ds e h.1
  agree t stack (Cut n ∷ ds) e h = agree t stack ds e h.1

  held-there : (P : Ty → Type 0) (x y : ℕ) → y ≡ f x → IsSomeAnd (slice_get regs x) P → IsSomeAnd (slice_get others y) P
  held-there P x y is h = subst (λ n. IsSomeAnd (slice_get others n) P) (sym is) (held-too P x h)

-- ---- an operation

-- it applies with the stack that its effect leaves
abbrev done_as : Linked → Operation → Frame → Frame → Outcome
done_as v b before after = record {
  falls = falls_from b;
  ends = ends_at b;
  depth = length after.stack;
  wrote = wrote (effect v b before).store.register (effect v b before).store.cells;
  rose = raises_register v.classes Flow (effect v b before).store before.regs;
}

applies-with :
    (v : Linked) (limit : ℕ) (b : Operation) (others stack left given : List Ty)
    → SatisfiesAll v.classes (record { regs = others; stack = stack }) (demands v b)
    → StoresInRegisters v.classes Flow (effect v b (record { regs = others; stack = stack })).store others left
    → given ≡ changed (effect v b (record { regs = others; stack = stack })).change stack
    → length given ≤ limit
    → CellsBelow v.classes left others
    → AppliesToo v limit b others stack given
applies-with v limit b others stack left given asked written is room below = record {
  after = record { regs = left; stack = given };
  outcome = done_as v b (record { regs = others; stack = stack }) (record { regs = left; stack = given });
  applies = grind (arith);
  stored = below;
  same = refl;
}

none-stored : (c : Cells) → length (in_stack_order c) ≡ 0 → c ≡ given.Nothing
none-stored given.Nothing e = refl
none-stored (given.One ty) e = absurd (omega (arith, e))
none-stored given.Int e = absurd (omega (arith, e))

module _ (v : Linked) (rests : OperationReads v) (one : FootprintIsOne v) (limit : ℕ) (regs others stack : List Ty) (f : ℕ → ℕ)
    (same : AreRetyped regs others f) where
  abbrev before : Frame
  before = record { regs = regs; stack = stack }

  abbrev there : Frame
  there = record { regs = others; stack = stack }

  -- an operation that writes no register
  quiet-applies :
      (op : Operation) (after : Frame) (o : Outcome) → (footprint v op).written ≡ 0 → IsRenumbered v others f op op
      → OperationApplies v limit op Flow before after o → AppliesToo v limit op others stack after.stack
  quiet-applies op after o quiet are does =
      let r = rests op before there refl are.asked (agree regs others f same v.classes stack (demands v op) are.reads does.asked) in
      let cells : (effect v op there).store.cells ≡ given.Nothing =
      none-stored (effect v op there).store.cells (ap (λ (p : Footprint). p.written) (one op there) ∙ quiet) in
      applies-with v limit op others stack others after.stack (r.asked does.asked)
      (subst (λ c. StoresInRegisters v.classes Flow (record { register = (effect v op there).store.register; cells = c }) others others) (sym cells) refl)
      (does.stack ∙ ap (λ (e : Effect). changed e.change stack) r.done) does.room (cells-same v.classes others)

  -- ---- loads

  first-read : (x y : ℕ) (xs ys : List ℕ) → x ∷ xs ≡ y ∷ ys → x ≡ y
  first-read x y xs ys e = cc

  second-read : (x y a b : ℕ) (xs ys : List ℕ) → x ∷ (a ∷ xs) ≡ y ∷ (b ∷ ys) → a ≡ b
  second-read x y a b xs ys e = cc

  load-applies :
      (s : Sort) (x y : ℕ) (after : Frame) (o : Outcome) → IsRenumbered v others f (ops.Load s x) (ops.Load s y)
      → OperationApplies v limit (ops.Load s x) Flow before after o → AppliesToo v limit (ops.Load s y) others stack after.stack
  load-applies sorts.Reference x y after o are does =
      let is : y ≡ f x = first-read y (f x) [] [] are.reads in
      let few = are.asked in
      let inside = does.asked.0 in
      let type : reg others y ≡ reg regs x = ap (reg others) is ∙ reg-same regs others f same x (omega (arith, inside)) in
      applies-with v limit (ops.Load sorts.Reference y) others stack others after.stack
      (omega (arith, few), (held-there regs others f same _ x y is does.asked.1.0, tt))
      refl (does.stack ∙ ap (λ ty. changed (Replace 0 (given.One (or_null ty))) stack) (sym type)) does.room (cells-same v.classes others)
  load-applies sorts.Short x y after o are does =
      let is : y ≡ f x = first-read y (f x) [] [] are.reads in
      let few = are.asked in
      applies-with v limit (ops.Load sorts.Short y) others stack others after.stack
      (omega (arith, few), (held-there regs others f same _ x y is does.asked.1.0, tt))
      refl does.stack does.room (cells-same v.classes others)
  load-applies sorts.Int x y after o are does =
      let is : y ≡ f x = first-read y (f x) ((y + 1) ∷ []) (f (x + 1) ∷ []) are.reads in
      let next : y + 1 ≡ f (x + 1) = second-read y (f x) (y + 1) (f (x + 1)) [] [] are.reads in
      let few = are.asked in
      applies-with v limit (ops.Load sorts.Int y) others stack others after.stack (
        omega (arith, few),
        (
          held-there regs others f same _ x y is does.asked.1.0,
          (held-there regs others f same _ (x + 1) (y + 1) next does.asked.1.1.0, tt),
        ),
      )
      refl does.stack does.room (cells-same v.classes others)

  -- ---- stores and increments

  -- a register is stored into, which has the type of the other
  one-stored : (x y : ℕ) (ty : Ty) (kept : List Ty) → y ≡ f x → x < length regs → kept ≡ set regs x ty → CellsBelow v.classes kept regs
      → CellsBelow v.classes (set others y ty) others
  one-stored x y ty kept is inside stored below =
      let here : reg kept x ≡ ty = ap (λ (xs : List Ty). reg xs x) stored ∙ get_or-set_same regs x ty Top inside in
      let type : reg regs x ≡ reg others y = sym (reg-same regs others f same x inside) ∙ ap (reg others) (sym is) in
      stored-below v.classes others others y ty (subst (Below v.classes ty) type (below-there v.classes kept regs x ty here below))
      (cells-same v.classes others)

  -- two are, by an int
  int-stored :
      (x y : ℕ) (kept : List Ty) → y ≡ f x → y + 1 ≡ f (x + 1) → x + 2 ≤ length regs → kept ≡ set (set regs x IntHigh) (x + 1) IntLow
      → CellsBelow v.classes kept regs → CellsBelow v.classes (set (set others y IntHigh) (y + 1) IntLow) others
  int-stored x y kept is next inside stored below =
      let long : length (set regs x IntHigh) ≡ length regs = length-set regs x IntHigh in
      let low : reg kept (x + 1) ≡ IntLow =
      ap (λ (xs : List Ty). reg xs (x + 1)) stored ∙ get_or-set_same (set regs x IntHigh) (x + 1) IntLow Top (omega (arith, inside, long)) in
      let high : reg kept x ≡ IntHigh =
      ap (λ (xs : List Ty). reg xs x) stored
      ∙ (get_or-set_other (set regs x IntHigh) (x + 1) x IntLow Top (λ e. omega (arith, e)) ∙ get_or-set_same regs x IntHigh Top (omega (arith, inside))) in
      let first : reg regs x ≡ reg others y = sym (reg-same regs others f same x (omega (arith, inside))) ∙ ap (reg others) (sym is) in
      let second : reg regs (x + 1) ≡ reg others (y + 1) =
      sym (reg-same regs others f same (x + 1) (omega (arith, inside))) ∙ ap (reg others) (sym next) in
      let one_below = stored-below v.classes others others y IntHigh (subst (Below v.classes IntHigh) first
      (below-there v.classes kept regs x IntHigh high below))
      (cells-same v.classes others) in
      stored-below v.classes (set others y IntHigh) others (y + 1) IntLow
      (subst (Below v.classes IntLow) second (below-there v.classes kept regs (x + 1) IntLow low below)) one_below

  int-writes : (y : ℕ) → WritesInt v.classes Flow y others (set (set others y IntHigh) (y + 1) IntLow)
  int-writes y = grind (arith)

  int-kept : (x : ℕ) (kept : List Ty) → WritesInt v.classes Flow x regs kept → kept ≡ set (set regs x IntHigh) (x + 1) IntLow
  int-kept x kept h = grind (arith)

  zero-more : (n : ℕ) → n + 0 ≡ n
  zero-more n = omega arith

  store-applies :
      (s : Sort) (x y : ℕ) (after : Frame) (o : Outcome) → IsRenumbered v others f (ops.Store s x) (ops.Store s y)
      → OperationApplies v limit (ops.Store s x) Flow before after o → CellsBelow v.classes after.regs regs
      → AppliesToo v limit (ops.Store s y) others stack after.stack
  store-applies sorts.Reference x y after o are does below =
      let is : y ≡ f x = sym (zero-more y) ∙ (are.writes 0 (omega arith) ∙ ap f (zero-more x)) in
      let few = are.asked in
      let inside = does.asked.0 in
      let ty : Ty = slice_index_or stack 0 Top in
      applies-with v limit (ops.Store sorts.Reference y) others stack (set others y ty) after.stack
      (omega (arith, few), does.asked.1) (record { value = ty; stored = refl; after_is = refl }) does.stack does.room
      (one-stored x y ty after.regs is (omega (arith, inside)) (does.regs.after_is ∙ ap (set regs x) does.regs.stored) below)
  store-applies sorts.Short x y after o are does below =
      let is : y ≡ f x = sym (zero-more y) ∙ (are.writes 0 (omega arith) ∙ ap f (zero-more x)) in
      let few = are.asked in
      let inside = does.asked.0 in
      applies-with v limit (ops.Store sorts.Short y) others stack (set others y Short) after.stack
      (omega (arith, few), does.asked.1) (record { value = Short; stored = refl; after_is = refl }) does.stack does.room
      (one-stored x y Short after.regs is (omega (arith, inside)) (does.regs.after_is ∙ ap (set regs x) does.regs.stored) below)
  store-applies sorts.Int x y after o are does below =
      let is : y ≡ f x = sym (zero-more y) ∙ (are.writes 0 (omega arith) ∙ ap f (zero-more x)) in
      let next : y + 1 ≡ f (x + 1) = are.writes 1 (omega arith) in
      let few = are.asked in
      let inside = does.asked.0 in
      applies-with v limit (ops.Store sorts.Int y) others stack (set (set others y IntHigh) (y + 1) IntLow) after.stack
      (omega (arith, few), does.asked.1) (int-writes y) does.stack does.room
      (int-stored x y after.regs is next inside (int-kept x after.regs does.regs) below)

  increment-applies :
      (width : Width) (x y : ℕ) (amount : ℤ) (after : Frame) (o : Outcome)
      → IsRenumbered v others f (ops.Increment width x amount) (ops.Increment width y amount)
      → OperationApplies v limit (ops.Increment width x amount) Flow before after o → CellsBelow v.classes after.regs regs
      → AppliesToo v limit (ops.Increment width y amount) others stack after.stack
  increment-applies widths.Short x y amount after o are does below =
      let is : y ≡ f x = first-read y (f x) [] [] are.reads in
      let few = are.asked in
      let inside = does.asked.0 in
      applies-with v limit (ops.Increment widths.Short y amount) others stack (set others y Short) after.stack
      (omega (arith, few), (held-there regs others f same _ x y is does.asked.1.0, tt))
      (record { value = Short; stored = refl; after_is = refl }) does.stack does.room
      (one-stored x y Short after.regs is (omega (arith, inside)) (does.regs.after_is ∙ ap (set regs x) does.regs.stored) below)
  increment-applies widths.Int x y amount after o are does below =
      let is : y ≡ f x = first-read y (f x) ((y + 1) ∷ []) (f (x + 1) ∷ []) are.reads in
      let next : y + 1 ≡ f (x + 1) = second-read y (f x) (y + 1) (f (x + 1)) [] [] are.reads in
      let few = are.asked in
      let inside = does.asked.0 in
      applies-with v limit (ops.Increment widths.Int y amount) others stack (set (set others y IntHigh) (y + 1) IntLow) after.stack (
        omega (arith, few),
        (
          held-there regs others f same _ x y is does.asked.1.0,
          (held-there regs others f same _ (x + 1) (y + 1) next does.asked.1.1.0, tt),
        ),
      )
      (int-writes y) does.stack does.room
      (int-stored x y after.regs is next inside (int-kept x after.regs does.regs) below)

  -- ---- any

  equal-applies :
      (op : Operation) (after : Frame) (o : Outcome) → IsRenumbered v others f op op → OperationApplies v limit op Flow before after o
      → CellsBelow v.classes after.regs regs → AppliesToo v limit op others stack after.stack
  equal-applies op after o are does below = ⊎_elim (λ quiet. quiet-applies op after o quiet are does) (λ is. by op is are does) (quiet-or-stores v op)
    where
      by : (op : Operation) → IsStoring op → IsRenumbered v others f op op → OperationApplies v limit op Flow before after o
          → AppliesToo v limit op others stack after.stack
      by (ops.Store s x) is are does = store-applies s x x after o are does below
      by (ops.Increment width x amount) is are does = increment-applies width x x amount after o are does below
      by _ is are does = absurd is

  pub applies-too :
      (a b : Operation) (after : Frame) (o : Outcome) → IsAlike a b → IsRenumbered v others f a b → OperationApplies v limit a Flow before after o
      → CellsBelow v.classes after.regs regs → AppliesToo v limit b others stack after.stack
  applies-too _ _ after o (equal {op = op}) are does below = equal-applies op after o are does below
  applies-too _ _ after o (loads {s = s} {x = x} {y = y}) are does below = load-applies s x y after o are does
  applies-too _ _ after o (stores {s = s} {x = x} {y = y}) are does below = store-applies s x y after o are does below
  applies-too _ _ after o (increments {width = width} {x = x} {y = y} {amount = amount}) are does below =
      increment-applies width x y amount after o are does below

pub renumbered-apply : (v : Linked) → OperationReads v → FootprintIsOne v → RenumberedApply v
renumbered-apply v rests one limit a b regs others stack reg after o same are does below =
    applies-too v rests one limit regs others stack reg same a b after o are.alike are does below
