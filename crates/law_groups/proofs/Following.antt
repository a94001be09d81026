-- Where an instruction goes on, a further group follows its own.
use Rattle.std.proofs.Common.{◌≡◌, ℕ, ◌+◌, ◌<◌, ◌≤◌, Bool, true, if◌then◌else◌, List, [], ◌∷◌, ◌++◌}
use Rattle.std.proofs.Common.{length, sym, ap, ◌∙◌, arith}
use Rattle.std.specs.Prelude.{Option, Ok, is_some}
use Rattle.jc_base.specs.World.{Linked}
use Rattle.jc_base.specs.declared.ty.Kind.{Kind}
use Rattle.jc_decode.specs.declared.insn.Placed.{Placed}
use Rattle.jc_decode.specs.declared.symbols.Item.{Item}
use Rattle.jc_control.specs.Control.{IsReached, falls_through, follows}
use Rattle.jc_control.specs.WellFormed.{IsPlace, HasInstruction}
use Rattle.jc_ops.specs.declared.operation.Branch.TheVariants as branches
use Rattle.jc_ops.specs.declared.operation.Holder.TheVariants as holders
use Rattle.jc_ops.specs.declared.operation.Operation.{Operation}
use Rattle.jc_ops.specs.declared.operation.Operation.TheVariants as ops
use Rattle.jc_ops.specs.declared.operation.Sort.{Sort}
use Rattle.jc_ops.specs.Next.{falls_from}
use Rattle.law_sound.proofs.Going.{goes-on}
use Rattle.vm_step.specs.Methods.{code_at}
use Rattle.xf_homes.specs.declared.home.Home.{Home}
use Rattle.xf_homes.specs.Walk.{operands_of}
use Rattle.xf_homes.specs.Source.{Source}
use Rattle.xf_homes.specs.Plan.{local, needed, operation}
use Rattle.xf_emission.specs.Jump.{branch, jump_to}
use Rattle.xf_emission.specs.Group.{body, branch_by, field_read, field_written, gone, group, increased, loaded}
use Rattle.xf_emission.specs.Group.{store_to_homes}
use Rattle.law_homes.proofs.Loading.{step-place}
use Rattle.law_groups.specs.Laid.{IsLaidIn, body_at, count_of, group_at, steps_of}
use Rattle.law_groups.proofs.Placing.{count-append, groups-follow, groups-stand-at-steps}
use Rattle.law_groups.proofs.Standing.{GroupSteps, group-steps, stand-inside}
use Rattle.law_groups.proofs.Context.{here-at, reached-some, steps-are}

-- ---- each instruction has a step at least

some-last : (xs : List Item) (x : Item) (ys : List Item) → 1 ≤ count_of (x ∷ ys) → 1 ≤ count_of (xs ++ x ∷ ys)
some-last xs x ys some = let e = count-append xs (x ∷ ys) in omega (arith, e, some)

module _ (s : Source) (i : Placed) where
  some-loaded : (o : Option Home) → 1 ≤ count_of (loaded s i o)
  some-loaded x = grind (arith)

  some-increased : (o : Option Home) → 1 ≤ count_of (increased s i o)
  some-increased x = grind (arith)

  some-stored : (letter : Sort) (hs : List Home) → 1 ≤ count_of (store_to_homes s letter hs)
  some-stored letter y = grind (arith)

  some-if : (b : Bool) (xs ys : List Item) → 1 ≤ count_of xs → 1 ≤ count_of ys → 1 ≤ count_of (if b then xs else ys)
  some-if x xs ys one two = grind (arith)

  some-read : (o : Option Home) → 1 ≤ count_of (field_read s i o)
  some-read x = grind (arith, some-if)

  some-written : (k : Kind) (o : Option Home) → 1 ≤ count_of (field_written s i k o)
  some-written k y = grind (arith, some-if)

  some-gone : (p : ℕ) (op : Operation) (q : ℕ) → 1 ≤ count_of (gone s p op q)
  some-gone p op q = grind (arith, count-append, some-last)

  some-jump : (op : Operation) (ls : List ℕ) → 1 ≤ count_of (jump_to i op ls ∷ [])
  some-jump x ls = grind (arith)

  some-branch : (op : Operation) (o : Option ℕ) → 1 ≤ count_of (branch_by s i op o)
  unfolding branch
  some-branch op y = grind (arith, some-last, some-jump)

  pub some-body : (op : Operation) → 1 ≤ count_of (body s i op)
  unfolding body
  some-body (ops.Load letter x) = some-loaded (local s i.place x)
  some-body (ops.Increment width x amount) = some-increased (local s i.place x)
  some-body (ops.Store letter x) = some-stored letter (needed s (i.place + i.insn.len) x)
  some-body (ops.FieldRead f holders.This) = some-read (local s i.place 0)
  some-body (ops.FieldWrite f holders.This) = some-written f.kind (local s i.place 0)
  some-body (ops.Branch branches.Always) = grind (arith, some-gone)
  some-body (ops.Branch b) = some-branch (ops.Branch b) (operands_of s.world (Ok (ops.Branch b)))
  some-body (ops.Switch width) = some-branch (ops.Switch width) (operands_of s.world (Ok (ops.Switch width)))
  some-body _ = omega arith

-- ---- the next group

module _ {v w : Linked} {s : Source} {place : ℕ → ℕ} (laid : IsLaidIn v w s place) where
  pub steps-here :
      (i : Placed) (op : Operation)
      → HasInstruction s.method.code i
      → is_some (s.frames i.place) ≡ true
      → operation s i ≡ Ok op
      → GroupSteps s i op
  steps-here i op stands reached does = group-steps groups-stand-at-steps s i op laid.planned.code stands reached does

  -- a group has its first instruction after its loads
  pub body-inside :
      (i : Placed) (op : Operation)
      → HasInstruction s.method.code i
      → is_some (s.frames i.place) ≡ true
      → operation s i ≡ Ok op
      → body_at s i.place < length (steps_of s)
  body-inside i op stands reached does =
      let g = steps-here i op stands reached does in
      let most = stand-inside s (body_at s i.place) (body s i op) g.body_steps in
      let some = some-body s i op in
      omega (arith, most, some)

  pub record Next (i : Placed) : Type 0 where
    pub instruction : Placed
    pub op : Operation
    pub stands : HasInstruction s.method.code instruction
    pub at : instruction.place ≡ i.place + i.insn.len
    pub reached : is_some (s.frames instruction.place) ≡ true
    pub does : operation s instruction ≡ Ok op
    pub steps : GroupSteps s instruction op
    pub follows_it : group_at s instruction.place ≡ group_at s i.place + count_of (group s i)
    pub inside : group_at s instruction.place < length (steps_of s)

  -- the instruction after one that goes on
  pub next-of :
      (i : Placed) (op : Operation)
      → HasInstruction s.method.code i
      → is_some (s.frames i.place) ≡ true
      → operation s i ≡ Ok op
      → falls_from op ≡ true
      → Next i
  next-of i op stands reached does falls =
      let own : IsReached s.method i.place = (laid.planned.frames.reached i.place).0 reached in
      let goes = goes-on s.world s.method.rec i.place i.insn op (sym does) falls in
      let there : IsReached s.method (i.place + i.insn.len) = follows stands own (falls_through goes) in
      let h = here-at laid (i.place + i.insn.len) (reached-some laid (i.place + i.insn.len) there) in
      let also : is_some (s.frames h.instruction.place) ≡ true =
      ap (λ q. is_some (s.frames q)) h.at ∙ reached-some laid (i.place + i.insn.len) there in
      let least = body-inside h.instruction h.op h.stands also h.does in
      record {
        instruction = h.instruction;
        op = h.op;
        stands = h.stands;
        at = h.at;
        reached = also;
        does = h.does;
        steps = steps-here h.instruction h.op h.stands also h.does;
        follows_it = groups-follow s i h.instruction laid.planned.code stands reached h.stands also h.at;
        inside = omega (arith, least);
      }

  -- the step after the only one of an instruction that goes on is at a place of the code
  pub next-place :
      (i : Placed) (op : Operation)
      → HasInstruction s.method.code i
      → is_some (s.frames i.place) ≡ true
      → operation s i ≡ Ok op
      → count_of (body s i op) ≡ 1
      → falls_from op ≡ true
      → IsPlace (code_at w s.method.number) (place (body_at s i.place + 1))
  next-place i op stands reached does one falls =
      let g = steps-here i op stands reached does in
      let n = next-of i op stands reached does falls in
      let size = g.size in
      let later = n.follows_it in
      let inside = n.inside in
      step-place (code_at w s.method.number) place (steps_of s) (body_at s i.place + 1) (steps-are laid)
      (omega (arith, size, one, later, inside))
