-- A walk along the items of code, over one list of registers: what is on the stack before each instruction.
use Rattle.std.proofs.Common.{◌≡◌, ◌⊎◌, ℕ, suc, ◌+◌, ◌≤◌, Bool, true, false, if◌then◌else◌, List, [], ◌∷◌, ◌++◌, length}
use Rattle.std.proofs.Common.{refl, subst, arith}
use Rattle.std.specs.Prelude.{IsTrue}
use Rattle.jc_base.specs.declared.ty.Ty.{Ty}
use Rattle.jc_base.specs.declared.ty.Ty.TheVariants.{Class}
use Rattle.jc_base.specs.declared.record.MethodRec.{MethodRec}
use Rattle.jc_base.specs.World.{Linked}
use Rattle.jc_decode.specs.declared.insn.Insn.{Insn}
use Rattle.jc_decode.specs.declared.symbols.Item.{Item}
use Rattle.jc_decode.specs.declared.symbols.Item.TheVariants.{Plain, Branch, Switch, Label}
use Rattle.jc_decode.specs.Listing.{falls, jumps}
use Rattle.jc_decode.specs.Symbols.{is_instruction, jump}
use Rattle.jc_rules.specs.declared.effect.Mode.TheVariants.{Flow}
use Rattle.jc_rules.specs.declared.rule.Outcome.{Outcome}
use Rattle.jc_rules.specs.Demand.{Frame}
use Rattle.jc_rules.specs.Apply.{RuleApplies}
use Rattle.jc_rules.specs.Flow.{CellsBelow}

-- control comes from the item before with this stack, or it doesn't come from there
pub data State : Type 0 where
  holding : List Ty → State
  left : State

-- what a label asks: nothing; that the stack is empty, if control comes from the item before; or that control doesn't, and the object
-- of a class that is caught is on the stack
pub data Asked : Type 0 where
  nothing_asked : Asked
  emptied : Asked
  catching : ℕ → Asked

abbrev pub Passes : Asked → State → State → Type 0
Passes nothing_asked a b = a ≡ b
Passes emptied a b = ((a ≡ left) ⊎ (a ≡ holding [])) × (b ≡ holding [])
Passes (catching c) a b = (a ≡ left) × (b ≡ holding (Class c ∷ []))

-- the instructions among items
abbrev pub count : List Item → ℕ
count [] = 0
count (Label l ∷ xs) = count xs
count (Plain i ∷ xs) = suc (count xs)
count (Branch op l ∷ xs) = suc (count xs)
count (Switch i at ls ∷ xs) = suc (count xs)

pub count-append : (xs ys : List Item) → count (xs ++ ys) ≡ count xs + count ys
count-append [] ys = omega arith
count-append (Label l ∷ xs) ys = count-append xs ys
count-append (Plain i ∷ xs) ys = omega (arith, count-append xs ys)
count-append (Branch op l ∷ xs) ys = omega (arith, count-append xs ys)
count-append (Switch i at ls ∷ xs) ys = omega (arith, count-append xs ys)

-- the instruction of an item
abbrev pub insn_of : Item → Insn
insn_of (Label l) = jump 0
insn_of (Plain i) = i
insn_of (Branch op l) = jump op
insn_of (Switch i at ls) = i

pub count-step : (x : Item) (xs : List Item) → is_instruction x ≡ true → count (x ∷ xs) ≡ suc (count xs)
count-step x xs is = grind (arith)

module _ (w : Linked) (r : MethodRec) (regs : List Ty) (asks : ℕ → Asked) where
  -- the rule of an instruction applies, and stores nothing above the registers; a branch or switch leaves the stack empty
  pub record Turn (n : ℕ) (i : Insn) (a b : State) : Type 0 where
    pub stack : List Ty
    pub here : a ≡ holding stack
    pub after : Frame
    pub applies : (o : Outcome) × RuleApplies w r n i Flow (record { regs = regs; stack = stack }) after o
    pub stored : CellsBelow w.classes after.regs regs
    pub branch : IsTrue (jumps i.op) → after.stack ≡ []
    pub room : length stack ≤ r.max_stack
    pub onward : b ≡ (if falls i.op then holding after.stack else left)

  pub data Flows : ℕ → State → List Item → State → Type 0 where
    flow_end : {n : ℕ} {a : State} → Flows n a [] a
    flow_label : {n l : ℕ} {a b c : State} {xs : List Item} → Passes (asks l) a b → Flows n b xs c → Flows n a (Label l ∷ xs) c
    flow_step : {n : ℕ} {a b c : State} {x : Item} {xs : List Item} → is_instruction x ≡ true → Turn n (insn_of x) a b → Flows (suc n) b xs c
        → Flows n a (x ∷ xs) c

  pub flow_plain : {n : ℕ} {a b c : State} {i : Insn} {xs : List Item} → Turn n i a b → Flows (suc n) b xs c → Flows n a (Plain i ∷ xs) c
  flow_plain {i = i} t f = flow_step {x = Plain i} refl t f

  pub flows-append : {n : ℕ} {a b c : State} {xs ys : List Item} → Flows n a xs b → Flows (n + count xs) b ys c → Flows n a (xs ++ ys) c
  flows-append {n = n} {b = b} {c = c} {ys = ys} flow_end g = let e : n + 0 ≡ n = omega arith in subst (λ (k : ℕ). Flows k b ys c) e g
  flows-append (flow_label p f) g = flow_label p (flows-append f g)
  flows-append {n = n} {b = z} {c = c} {ys = ys} (flow_step {x = x} {xs = xs} is t f) g =
      let e : n + count (x ∷ xs) ≡ suc n + count xs = omega (arith, count-step x xs is) in
      flow_step is t (flows-append f (subst (λ (k : ℕ). Flows k z ys c) e g))

  -- a walk from any place
  abbrev pub Goes : State → List Item → State → Type 0
  Goes a xs b = (n : ℕ) → Flows n a xs b

  pub goes-append : {a b c : State} {xs ys : List Item} → Goes a xs b → Goes b ys c → Goes a (xs ++ ys) c
  goes-append {xs = xs} f g = λ n. flows-append (f n) (g (n + count xs))

  pub goes-nowhere : {a : State} → Goes a [] a
  goes-nowhere = λ n. flow_end

  pub goes-if : {a c : State} {xs ys : List Item} (b : Bool) → (b ≡ true → Goes a xs c) → (b ≡ false → Goes a ys c)
      → Goes a (if b then xs else ys) c
  goes-if true f g = f refl
  goes-if false f g = g refl
