-- Parts of items whose steps stand among those of a method.
use Rattle.std.proofs.Common.{◌≡◌, ℕ, suc, ◌+◌, ◌≤◌, Bool, true, if◌then◌else◌, List, [], ◌∷◌, ◌++◌, length}
use Rattle.std.proofs.Common.{refl, ap, ◌∙◌, subst, arith, append_assoc}
use Rattle.std.specs.Prelude.{Option, Some, None, Ok, is_some, slice_get}
use Rattle.std.proofs.lemmas.List.{length-append}
use Rattle.jc_decode.specs.declared.insn.Placed.{Placed}
use Rattle.jc_decode.specs.declared.symbols.Item.{Item}
use Rattle.jc_decode.specs.declared.symbols.Item.TheVariants.{Label}
use Rattle.jc_decode.specs.Symbols.{Step, steps_in}
use Rattle.jc_control.specs.WellFormed.{HasInstruction}
use Rattle.jc_ops.specs.declared.operation.Operation.{Operation}
use Rattle.jc_rules.specs.Demand.{Frame}
use Rattle.xf_homes.specs.declared.home.Home.{Home}
use Rattle.xf_homes.specs.Source.{Source}
use Rattle.xf_homes.specs.Plan.{stack_homes, is_leader, operation}
use Rattle.xf_emission.specs.Move.{loads}
use Rattle.xf_emission.specs.Emission.{items}
use Rattle.xf_emission.specs.Group.{body, done, entrance, fallen, group, group_by}
use Rattle.xf_emission.specs.Laws.{IsCode}
use Rattle.law_groups.specs.Laid.{body_at, count_of, group_at, loaded_at, steps_of}
use Rattle.law_groups.specs.Steps.{GroupsStandAtSteps, ItemsStandFrom}
use Rattle.law_groups.proofs.Placing.{count-append, steps-append, steps-count}

-- ---- parts

found-at : {X : Type 0} (before : List X) (x : X) (after : List X) → slice_get (before ++ x ∷ after) (length before) ≡ Some x
found-at [] x after = refl
found-at (b ∷ before) x after = found-at before x after

module _ (s : Source) (n : ℕ) where
  abbrev made : List Item → List Step
  made is = steps_in s.method.code (items s) is

  split-parts :
      (xs ys : List Item) (st : ItemsStandFrom s n (xs ++ ys))
      → steps_of s ≡ st.before ++ (made xs ++ (made ys ++ st.after))
  split-parts xs ys st = grind (arith, steps-append, append_assoc)

  pub stand-first : (xs ys : List Item) → ItemsStandFrom s n (xs ++ ys) → ItemsStandFrom s n xs
  stand-first xs ys st = grind (arith, split-parts xs ys st)

  pub stand-last : (xs ys : List Item) → ItemsStandFrom s n (xs ++ ys) → ItemsStandFrom s (n + count_of xs) ys
  stand-last xs ys st =
      grind (
        arith,
        steps-count s.method.code (items s) xs,
        length-append st.before (made xs),
        split-parts xs ys st,
        append_assoc st.before (made xs) (made ys ++ st.after),
      )

  -- a label takes no step
  pub stand-labelled : (l : ℕ) (xs : List Item) → ItemsStandFrom s n (Label l ∷ xs) → ItemsStandFrom s n xs
  stand-labelled l xs st = record { before = st.before; after = st.after; parts = st.parts; at = st.at }

  -- the first step
  pub step-at :
      (x : Item) (ys : List Item) (step : Step) (rest : List Step)
      → ItemsStandFrom s n (x ∷ ys)
      → made (x ∷ ys) ≡ step ∷ rest
      → slice_get (steps_of s) n ≡ Some step
  step-at x ys step rest st e = grind (arith, found-at)

  -- all of them
  pub stand-inside : (xs : List Item) → ItemsStandFrom s n xs → n + count_of xs ≤ length (steps_of s)
  stand-inside xs st = grind (arith, steps-count, length-append)

pub stand-at : (s : Source) (n m : ℕ) (xs : List Item) → n ≡ m → ItemsStandFrom s n xs → ItemsStandFrom s m xs
stand-at s n m xs e st = subst (λ k. ItemsStandFrom s k xs) e st

pub stand-as : (s : Source) (n : ℕ) (xs ys : List Item) → xs ≡ ys → ItemsStandFrom s n xs → ItemsStandFrom s n ys
stand-as s n xs ys e st = subst (ItemsStandFrom s n) e st

-- ---- groups

loads-if : (s : Source) (b : Bool) (hs : List Home) → (if b then loads s hs else []) ≡ loads s (if b then hs else [])
loads-if s y hs = grind (arith)

pub group-parts :
    (s : Source) (i : Placed) (op : Operation)
    → is_some (s.frames i.place) ≡ true
    → operation s i ≡ Ok op
    → group s i ≡ Label i.place ∷ (loads s (loaded_at s i.place) ++ (body s i op ++ fallen s i op))
unfolding group
group-parts s i op reached does = by (s.frames i.place) reached
  where
    by :
        (o : Option Frame)
        → is_some o ≡ true
        → group_by s i o ≡ Label i.place ∷ (loads s (loaded_at s i.place) ++ (body s i op ++ fallen s i op))
    by None e = absurd (cc)
    by (Some f) e =
        ap (λ r. entrance s i.place ++ done s i r) does
        ∙ ap (λ ls. Label i.place ∷ (ls ++ (body s i op ++ fallen s i op)))
        (loads-if s (is_leader s i.place) (stack_homes s i.place))

pub count-loads : (s : Source) (hs : List Home) → count_of (loads s hs) ≡ length hs
count-loads s [] = refl
count-loads s (h ∷ hs) = ap suc (count-loads s hs)

-- where the parts of a group stand
pub record GroupSteps (s : Source) (i : Placed) (op : Operation) : Type 0 where
  pub whole : ItemsStandFrom s (group_at s i.place) (group s i)
  pub load_steps : ItemsStandFrom s (group_at s i.place) (loads s (loaded_at s i.place))
  pub body_steps : ItemsStandFrom s (body_at s i.place) (body s i op)
  pub fallen_steps : ItemsStandFrom s (body_at s i.place + count_of (body s i op)) (fallen s i op)
  pub size : count_of (group s i) ≡ length (loaded_at s i.place) + (count_of (body s i op) + count_of (fallen s i op))

pub group-steps :
    GroupsStandAtSteps
    → (s : Source) (i : Placed) (op : Operation)
    → IsCode s
    → HasInstruction s.method.code i
    → is_some (s.frames i.place) ≡ true
    → operation s i ≡ Ok op
    → GroupSteps s i op
group-steps stand s i op code stands reached does =
    let n = group_at s i.place in
    let ls = loads s (loaded_at s i.place) in
    let bs = body s i op in
    let fs = fallen s i op in
    let parts = group-parts s i op reached does in
    let whole = stand s i code stands reached in
    let inner : ItemsStandFrom s n (ls ++ (bs ++ fs)) =
    stand-labelled s n i.place (ls ++ (bs ++ fs)) (stand-as s n (group s i) (Label i.place ∷ (ls ++ (bs ++ fs))) parts whole) in
    let count = count-loads s (loaded_at s i.place) in
    let later : ItemsStandFrom s (body_at s i.place) (bs ++ fs) =
    stand-at s (n + count_of ls) (body_at s i.place) (bs ++ fs) (ap (λ k. n + k) count) (stand-last s n ls (bs ++ fs) inner) in
    let total : count_of (group s i) ≡ count_of (ls ++ (bs ++ fs)) = ap count_of parts in
    let one = count-append ls (bs ++ fs) in
    let two = count-append bs fs in
    record {
      whole = whole;
      load_steps = stand-first s n ls (bs ++ fs) inner;
      body_steps = stand-first s (body_at s i.place) bs fs later;
      fallen_steps = stand-last s (body_at s i.place) bs fs later;
      size = omega (arith, count, total, one, two);
    }
