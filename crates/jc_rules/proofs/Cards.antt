-- On the card a rule raises registers, and applies to each lesser frame.
use Rattle.std.proofs.Common.{◌≡◌, ℕ, zero, suc, ◌+◌, ◌<◌, Bool, true, false, not, ◌||◌, List, [], ◌∷◌, length, get_or, set, All, rules}
use Rattle.std.proofs.Common.{sum_by, refl, sym, ◌∙◌, ap, subst, arith}
use Rattle.std.proofs.lemmas.List.{get_or-set_other}
use Rattle.std.proofs.lemmas.List.Sums.{sum_by-set}
use Rattle.jc_base.specs.declared.ty.Ty.{Ty}
use Rattle.jc_base.specs.declared.ty.Ty.TheVariants.{IntHigh, IntLow, Top}
use Rattle.jc_base.specs.Class.{ClassTable}
use Rattle.jc_base.specs.Laws.{IsOrderOfTypes}
use Rattle.jc_base.specs.Order.{Below, IsJoin, IsKnown, same, joined, anything, is_below, join_of, rises_left}
use Rattle.jc_base.specs.World.{Linked, IsWorld}
use Rattle.std.proofs.lemmas.List.Elements.{All-set}
use Rattle.jc_ops.specs.Sound.{OperationsAreSound}
use Rattle.jc_rules.specs.declared.effect.Cells.{Cells}
use Rattle.jc_rules.specs.declared.effect.Cells.TheVariants as given
use Rattle.jc_rules.specs.declared.effect.Mode.TheVariants.{Card, Flow}
use Rattle.jc_rules.specs.Effect.{WritesRegister, WritesInt, WritesCells, reg, cells_rise, rises_at}
use Rattle.jc_rules.specs.Rule.{effect}
use Rattle.jc_rules.specs.Flow.{CellsBelow, no_cells, more_cells}
use Rattle.jc_rules.specs.Laws.{OperationFallsTo, OperationFallsOnCard, OperationRaises, OperationStays}
use Rattle.jc_rules.specs.Laws.{OperationRests, RuleFallsOnCard, RuleRaises, RuleRises}
use Rattle.jc_rules.specs.Laws.{RuleStays, RuleRests}
use Rattle.jc_rules.proofs.Effects.{CellsKept, Suits, suits, sound-known}
use Rattle.jc_rules.proofs.Raising.{RoseTo}
use Rattle.jc_rules.proofs.Types.{below-computed, below-told}
use Rattle.jc_rules.proofs.CellLists.{cells-or, cells-same, cells-trans, cells-set}
use Rattle.jc_rules.proofs.Falls.{GivenBelow, EffectBelow, StoresBelow}
use Rattle.jc_rules.proofs.RuleFalls.{asked-falls, doing-falls, applies-falls}
use Rattle.jc_rules.proofs.Keeps.{all-or, site-sound}

module _ (t : ClassTable) where
  -- one cell is raised
  cells-raised : (xs : List Ty) (n : ℕ) {b : Ty} → Below t (get_or xs n Top) b → CellsBelow t xs (set xs n b)
  cells-raised [] n h = no_cells
  cells-raised (x ∷ xs) zero h = more_cells h (cells-same t xs)
  cells-raised (x ∷ xs) (suc n) h = more_cells same (cells-raised xs n h)

  write-raises : {x : ℕ} {ty : Ty} {regs after : List Ty} → WritesRegister t Card x ty regs after → CellsBelow t regs after
  write-raises {x} {ty} {regs} u = subst (CellsBelow t regs) (sym u.after_is) (cells-raised regs x u.stored.left)

  store-raises : (x : ℕ) (cells : Cells) (regs after : List Ty) → WritesCells t Card x cells regs after → CellsBelow t regs after
  store-raises x given.Nothing regs after u = subst (CellsBelow t regs) (sym u) (cells-same t regs)
  store-raises x (given.One ty) regs after u = write-raises u
  store-raises x given.Int regs after u = cells-trans t (write-raises u.high) (write-raises u.low)

  -- ---- registers that are above what is stored

  set-read : (xs : List Ty) (n : ℕ) → xs ≡ set xs n (get_or xs n Top)
  set-read [] n = refl
  set-read (x ∷ xs) zero = refl
  set-read (x ∷ xs) (suc n) = ap (λ ys. x ∷ ys) (set-read xs n)

  under-one : (xs : List Ty) (n : ℕ) {a : Ty} → CellsBelow t (set xs n a) xs → Below t a (get_or xs n Top)
  under-one [] n ps = anything
  under-one (x ∷ xs) zero (more_cells p ps) = p
  under-one (x ∷ xs) (suc n) (more_cells p ps) = under-one xs n ps

  under-two : (xs : List Ty) (n : ℕ) {a b : Ty} → CellsBelow t (set (set xs n a) (suc n) b) xs → Below t a (get_or xs n Top)
      × Below t b (get_or xs (suc n) Top)
  under-two [] n ps = (anything, anything)
  under-two (x ∷ xs) zero (more_cells p ps) = (p, under-one xs 0 ps)
  under-two (x ∷ xs) (suc n) (more_cells p ps) = under-two xs n ps

  -- a type that is above another is their join
  join-above : {a b : Ty} → Below t b a → IsJoin t a b a
  join-above h = record { left = same; right = h; least = λ u p q. p }

  write-stays : (regs : List Ty) (x : ℕ) {ty : Ty} → Below t ty (reg regs x) → WritesRegister t Card x ty regs regs
  write-stays regs x h = record { value = reg regs x; stored = join-above h; after_is = set-read regs x }

  below-one : (x : ℕ) (ty : Ty) (regs after : List Ty) → WritesRegister t Flow x ty regs after → CellsBelow t after regs → Below t ty (reg regs x)
  below-one x ty regs after u ps = under-one regs x (subst (λ ys. CellsBelow t ys regs) (u.after_is ∙ ap (set regs x) u.stored) ps)

  below-two : (x : ℕ) (regs after : List Ty) → WritesInt t Flow x regs after → CellsBelow t after regs → Below t IntHigh (reg regs x)
      × Below t IntLow (reg regs (x + 1))
  below-two x regs after u ps =
      let written = u.low.after_is ∙ ap (set u.between (x + 1)) u.low.stored
      ∙ ap (λ ys. set ys (x + 1) IntLow) (u.high.after_is ∙ ap (set regs x) u.high.stored) in
      let next : x + 1 ≡ suc x = omega arith in
      let both = under-two regs x (subst (λ n. CellsBelow t (set (set regs x IntHigh) n IntLow) regs) next (subst (λ ys. CellsBelow t ys regs) written ps)) in
      (both.0, subst (λ n. Below t IntLow (reg regs n)) (sym next) both.1)

  store-stays : (x : ℕ) (cells : Cells) (regs after : List Ty) → WritesCells t Flow x cells regs after → CellsBelow t after regs
      → WritesCells t Card x cells regs regs
  store-stays x given.Nothing regs after u ps = refl
  store-stays x (given.One ty) regs after u ps = write-stays regs x (below-one x ty regs after u ps)
  store-stays x given.Int regs after u ps =
      let both = below-two x regs after u ps in
      record { between = regs; high = write-stays regs x both.0; low = write-stays regs (x + 1) both.1 }

  -- ---- registers that stay as they are

  -- what is stored where the registers stay, and lies below them
  record IsRested (x : ℕ) (cells : Cells) (regs : List Ty) : Type 0 where
    stored : List Ty
    writes : WritesCells t Flow x cells regs stored
    below : CellsBelow t stored regs

  store-rests : (x : ℕ) (cells : Cells) (regs : List Ty) → WritesCells t Card x cells regs regs → IsRested x cells regs
  store-rests x given.Nothing regs u = record { stored = regs; writes = refl; below = cells-same t regs }
  store-rests x (given.One ty) regs u = record {
    stored = set regs x ty;
    writes = record { value = ty; stored = refl; after_is = refl };
    below = subst (CellsBelow t (set regs x ty)) (sym u.after_is) (cells-set t x u.stored.right (cells-same t regs));
  }
  store-rests x given.Int regs u =
      let high : CellsBelow t (set regs x IntHigh) u.between = subst (CellsBelow t (set regs x IntHigh)) (sym u.high.after_is)
      (cells-set t x u.high.stored.right (cells-same t regs)) in
      record {
        stored = set (set regs x IntHigh) (x + 1) IntLow;
        writes = record {
          between = set regs x IntHigh;
          high = record { value = IntHigh; stored = refl; after_is = refl };
          low = record { value = IntLow; stored = refl; after_is = refl };
        };
        below = subst (CellsBelow t (set (set regs x IntHigh) (x + 1) IntLow)) (sym u.low.after_is) (cells-set t (x + 1) u.low.stored.right high);
      }

  -- ---- a register that rises

  none-left : (b : Ty) → rises_left t b < rises_left t Top → ⊥
  unfolding rises_left
  none-left b h = absurd (omega arith)

  in-list : (xs : List Ty) (n : ℕ) (b : Ty) → rises_left t b < rises_left t (get_or xs n Top) → n < length xs
  in-list [] n b h = absurd (none-left b h)
  in-list (x ∷ xs) zero b h = omega arith
  in-list (x ∷ xs) (suc n) b h = let more : n < length xs = in-list xs n b h in omega arith

  set-less : (xs : List Ty) (n : ℕ) (b : Ty) → rises_left t b < rises_left t (get_or xs n Top)
      → sum_by (rises_left t) (set xs n b) < sum_by (rises_left t) xs
  set-less xs n b h = let e = sum_by-set (rises_left t) xs n b Top (in-list xs n b h) in omega arith

  -- ---- a lesser frame

  -- one register of lesser ones is written
  record WritesBelow (x : ℕ) (a : Ty) (xs zs : List Ty) : Type 0 where
    below : List Ty
    writes : WritesRegister t Card x a xs below
    lower : CellsBelow t below zs
    known : All (IsKnown t) below

  module _ (are : IsOrderOfTypes t) where
    write-falls : {xs ys zs : List Ty} (x y : ℕ) (a b : Ty) → x ≡ y → Below t a b → IsKnown t a → All (IsKnown t) xs → CellsBelow t xs ys
        → WritesRegister t Card y b ys zs → WritesBelow x a xs zs
    write-falls {xs} {ys} {zs} x y a b e le known all ps u =
        let held = all-or (IsKnown t) xs x tt all in
        let least = are.joins (reg xs x) a held known in
        let high : IsJoin t (reg ys x) b u.value = subst (λ n. IsJoin t (reg ys n) b u.value) (sym e) u.stored in
        record {
          below = set xs x (join_of t (reg xs x) a);
          writes = record { value = join_of t (reg xs x) a; stored = least; after_is = refl };
          lower =
              subst (CellsBelow t (set xs x (join_of t (reg xs x) a))) (ap (λ n. set ys n u.value) e ∙ sym u.after_is)
              (cells-set t x (least.least u.value (joined (cells-or t x ps) high.left) (joined le high.right)) ps);
          known = All-set (IsKnown t) xs x (join_of t (reg xs x) a) (are.known held known least) all;
        }

    store-card : (xs ys zs : List Ty) (x y : ℕ) (c d : Cells) → x ≡ y → GivenBelow t c d → CellsKept t c → All (IsKnown t) xs
        → CellsBelow t xs ys → WritesCells t Card y d ys zs → StoresBelow t Card (record { register = x; cells = c }) xs zs
    unfolding GivenBelow
    store-card xs ys zs x y given.Nothing given.Nothing e g k all ps u = record { below = xs; stores = refl; lower = subst (CellsBelow t xs) (sym u) ps }
    store-card xs ys zs x y (given.One a) (given.One b) e g k all ps u =
        let one = write-falls x y a b e g k.0 all ps u in
        record { below = one.below; stores = one.writes; lower = one.lower }
    store-card xs ys zs x y given.Int given.Int e g k all ps u =
        let one = write-falls x y IntHigh IntHigh e same tt all ps u.high in
        let two = write-falls (x + 1) (y + 1) IntLow IntLow (ap (λ n. n + 1) e) same tt one.known one.lower u.low in
        record { below = two.below; stores = record { between = one.below; high = one.writes; low = two.writes }; lower = two.lower }
    store-card xs ys zs x y given.Nothing (given.One b) e g k all ps u = absurd g
    store-card xs ys zs x y given.Nothing given.Int e g k all ps u = absurd g
    store-card xs ys zs x y (given.One a) given.Nothing e g k all ps u = absurd g
    store-card xs ys zs x y (given.One a) given.Int e g k all ps u = absurd g
    store-card xs ys zs x y given.Int given.Nothing e g k all ps u = absurd g
    store-card xs ys zs x y given.Int (given.One b) e g k all ps u = absurd g

-- ---- whether a register rose

module _ (t : ClassTable) (are : IsOrderOfTypes t) where
  not-below : (a b : Ty) → is_below t a b ≡ false → Below t a b → ⊥
  not-below a b e h = let q : is_below t a b ≡ true = below-computed t are h in absurd (cc)

  -- one register is written: it stays where the stored type is below, and else it rises
  write-rises : (x : ℕ) (ty : Ty) (regs after : List Ty) (b : Bool) → is_below t ty (reg regs x) ≡ b → WritesRegister t Card x ty regs after
      → RoseTo t regs after (not b)
  write-rises x ty regs after true e u =
      let le : Below t ty (reg regs x) = below-told t are ty (reg regs x) e in
      u.after_is ∙ ap (set regs x) (are.one_join u.stored (join-above t le)) ∙ sym (set-read t regs x)
  write-rises x ty regs after false e u =
      let less : rises_left t u.value < rises_left t (reg regs x) = are.rises u.stored (not-below ty (reg regs x) e) in
      subst (λ zs. sum_by (rises_left t) zs < sum_by (rises_left t) regs) (sym u.after_is) (set-less t regs x u.value less)

  both-rise : (xs ys zs : List Ty) (a b : Bool) → RoseTo t xs ys a → RoseTo t ys zs b → RoseTo t xs zs (a || b)
  both-rise xs ys zs u v p q = grind (arith, sum_by)

  pub store-rises : (x : ℕ) (cells : Cells) (regs after : List Ty) → WritesCells t Card x cells regs after
      → RoseTo t regs after (cells_rise t regs x cells)
  store-rises x given.Nothing regs after u = u
  store-rises x (given.One ty) regs after u = write-rises x ty regs after (is_below t ty (reg regs x)) refl u
  store-rises x given.Int regs after u =
      let next : reg u.between (x + 1) ≡ reg regs (x + 1) = ap (λ rs. reg rs (x + 1)) u.high.after_is
      ∙ get_or-set_other regs x (x + 1) u.high.value Top (λ same. absurd (omega arith)) in
      both-rise regs u.between after (rises_at t regs x IntHigh) (rises_at t regs (x + 1) IntLow)
      (write-rises x IntHigh regs u.between (is_below t IntHigh (reg regs x)) refl u.high)
      (subst (λ ty. RoseTo t u.between after (not (is_below t IntLow ty))) next
      (write-rises (x + 1) IntLow u.between after (is_below t IntLow (reg u.between (x + 1))) refl u.low))

  -- where what is stored is below, none rises
  none-rises : (x : ℕ) (cells : Cells) (regs after : List Ty) → WritesCells t Flow x cells regs after → CellsBelow t after regs
      → cells_rise t regs x cells ≡ false
  none-rises x y regs after u ps = grind (arith, not, below-computed, below-one, below-two)

-- ---- the rule

pub operation-raises : (w : Linked) → IsOrderOfTypes w.classes → OperationRaises w
operation-raises w are limit op before after o a =
    let e = effect w op before in
    record {
      below = store-raises w.classes e.store.register e.store.cells before.regs after.regs a.regs;
      rises = grind (arith, store-rises);
    }

pub rule-raises : (w : Linked) → IsOrderOfTypes w.classes → RuleRaises w
rule-raises w are site i before after o a = (operation-raises w are a.method.max_stack a.rule.operation before after o a.rule.does).below

pub rule-rises : (w : Linked) → IsOrderOfTypes w.classes → RuleRises w
rule-rises w are site i before after o a = (operation-raises w are a.method.max_stack a.rule.operation before after o a.rule.does).rises

pub operation-stays : (w : Linked) → IsOrderOfTypes w.classes → OperationStays w
operation-stays w are limit op before after o a ps = grind (arith, store-stays, none-rises)

pub rule-stays : (w : Linked) → IsOrderOfTypes w.classes → RuleStays w
rule-stays w are site i before after o a ps = search (rules, operation-stays)

pub operation-rests : (w : Linked) → IsOrderOfTypes w.classes → OperationRests w
operation-rests w are limit op before after o a still =
    let e = effect w op before in
    let writes : WritesCells w.classes Card e.store.register e.store.cells before.regs before.regs = subst
    (WritesCells w.classes Card e.store.register e.store.cells before.regs) still a.regs in
    let r = store-rests w.classes e.store.register e.store.cells before.regs writes in
    record {
      stored = r.stored;
      applies = grind (arith, none-rises w.classes are e.store.register e.store.cells before.regs r.stored r.writes r.below);
      below = r.below;
    }

pub rule-rests : (w : Linked) → IsOrderOfTypes w.classes → RuleRests w
rule-rests w are site i before after o a still =
    let r = a.rule in
    let rests = operation-rests w are a.method.max_stack r.operation before after o r.does still in
    record {
      stored = rests.stored;
      applies = record { method = a.method; is_method = a.is_method; rule = record { operation = r.operation; resolves = r.resolves; does = rests.applies } };
      below = rests.below;
    }

pub operation-falls-on-card : (w : Linked) → IsWorld w → IsOrderOfTypes w.classes → OperationFallsOnCard w
operation-falls-on-card w is are limit m place op greater lesser after o sound k below no_top no_bottom a =
    let d = effect w op lesser in
    let e = effect w op greater in
    let less : EffectBelow w.classes d e = doing-falls w are limit op Card greater lesser after o below no_top no_bottom a in
    let fits : Suits w.classes lesser d =
    suits w is lesser k op (sound-known w m place op sound) (asked-falls w are limit op Card greater lesser after o below no_top no_bottom a) in
    applies-falls w are limit op Card greater lesser after o below no_top no_bottom a Card
    (store-card w.classes are lesser.regs greater.regs after.regs d.store.register e.store.register d.store.cells e.store.cells less.register less.cells
    fits.stored k.regs below.regs a.regs)

pub rule-falls-on-card : (w : Linked) → IsWorld w → IsOrderOfTypes w.classes → OperationsAreSound w → RuleFallsOnCard w
rule-falls-on-card w is are sound site i greater lesser after o k below no_top no_bottom a =
    let r = a.rule in
    let falls : OperationFallsTo w a.method.max_stack r.operation Card lesser after =
    operation-falls-on-card w is are a.method.max_stack a.method site.place r.operation greater lesser after o (site-sound w is sound a) k below no_top
    no_bottom r.does in
    record {
      below = falls.below;
      outcome = falls.outcome;
      applies = record { method = a.method; is_method = a.is_method; rule = record { operation = r.operation; resolves = r.resolves; does = falls.applies } };
      lower = falls.lower;
    }
