-- Worlds that end alike by the factor 1 end in step, both ways.
use Rattle.std.proofs.Common.{◌≡◌, ℕ, ◌*◌, List, refl, sym, ap, ◌∙◌, subst, arith}
use Rattle.jc_base.specs.World.{Linked}
use Rattle.vm_store.specs.declared.cell.Cell.{Cell}
use Rattle.vm_store.specs.Cells.{tagged}
use Rattle.vm_store.specs.State.{State}
use Rattle.vm_step.specs.declared.ending.Ending.{Ending}
use Rattle.vm_step.specs.Arguments.{Argument}
use Rattle.vm_step.specs.Laws.{RunsAreOne, RunsExist}
use Rattle.vm_step.specs.Raising.{Outcome, running, ended}
use Rattle.vm_step.specs.Run.{Runs}
use Rattle.vm_step.specs.Start.{Starts, entry_state}
use Rattle.law_alike.specs.Ends.{Left, EndsWithin, GoesOnFor, EndsAlikeBy}
use Rattle.law_share.specs.Laws.{EndInStep}

apart : (e : Ending) (s t : State Cell) → ◌≡◌ {A = Outcome Cell} (ended e s) (running t) → ⊥
apart e s t h = cc

ending-same : (a b : Ending) (s t : State Cell) → ◌≡◌ {A = Outcome Cell} (ended a s) (ended b t) → a ≡ b
ending-same a b s t h = cc

state-same : (a b : Ending) (s t : State Cell) → ◌≡◌ {A = Outcome Cell} (ended a s) (ended b t) → s ≡ t
state-same a b s t h = cc

left-same : (a b : Left) → a.ending ≡ b.ending → a.heap ≡ b.heap → a.statics ≡ b.statics → a ≡ b
left-same a b e h s = grind (arith)

once : (n : ℕ) → 1 * n ≡ n
once n = omega arith

module _ (v w : Linked) (alike : EndsAlikeBy 1 v w) (exist : RunsExist v) (one : RunsAreOne tagged w) (entry : ℕ) (args : List Argument) (n : ℕ) where
  abbrev first : State Cell
  first = entry_state tagged v entry args

  abbrev second : State Cell
  second = entry_state tagged w entry args

  ends-too : (left : Left) → EndsWithin v entry args n left → EndsWithin w entry args n left
  ends-too left e = subst (λ k. EndsWithin w entry args k left) (once n) (alike.ends entry args n left e)

  -- the second begins, and the first has a run of so many steps
  module _ (s : State Cell) (starts : Starts tagged w entry args s) where
    first-starts : Starts tagged v entry args first
    first-starts = record { begins = sym (alike.begins entry args) ∙ starts.begins; state = refl }

    first-runs : (o : Outcome Cell) × Runs tagged v n first o
    first-runs = exist n first (omega arith)

    from-second : (o : Outcome Cell) → Runs tagged w n s o → Runs tagged w n second o
    from-second o runs = subst (λ x. Runs tagged w n x o) starts.state runs

    goes-too : (z : State Cell) → Runs tagged v n first (running z) → GoesOnFor w entry args n
    goes-too z runs = alike.goes_on entry args n (record { start = first; starts = first-starts; state = z; runs = runs })

    ended-here : (ending : Ending) (z : State Cell) → Runs tagged v n first (ended ending z)
        → EndsWithin v entry args n (record { ending = ending; heap = z.heap; statics = z.statics })
    ended-here ending z runs = record { start = first; starts = first-starts; last = z; runs = runs; heap = refl; statics = refl }

  ends-back : (left : Left) → EndsWithin w entry args n left → EndsWithin v entry args n left
  ends-back left e = by (first-runs e.start e.starts).0 (first-runs e.start e.starts).1
    where
      by : (o : Outcome Cell) → Runs tagged v n first o → EndsWithin v entry args n left
      by (running z) runs =
          let g = goes-too e.start e.starts z runs in
          absurd (apart left.ending e.last g.state
          (one n (running second) (ended left.ending e.last) (running g.state) (from-second e.start e.starts (ended left.ending e.last) e.runs)
          (from-second g.start g.starts (running g.state) g.runs)))
      by (ended ending z) runs =
          let here = ended-here e.start e.starts ending z runs in
          let mine : Left = record { ending = ending; heap = z.heap; statics = z.statics } in
          let there = ends-too mine here in
          let same = one n (running second) (ended left.ending e.last) (ended ending there.last)
          (from-second e.start e.starts (ended left.ending e.last) e.runs) (from-second there.start there.starts (ended ending there.last) there.runs) in
          let last : e.last ≡ there.last = state-same left.ending ending e.last there.last same in
          let is : mine ≡ left =
          left-same mine left (sym (ending-same left.ending ending e.last there.last same))
          (sym there.heap ∙ (ap (λ (x : State Cell). x.heap) (sym last) ∙ e.heap))
          (sym there.statics ∙ (ap (λ (x : State Cell). x.statics) (sym last) ∙ e.statics)) in
          subst (EndsWithin v entry args n) is here

  goes-back : GoesOnFor w entry args n → GoesOnFor v entry args n
  goes-back g = by (first-runs g.start g.starts).0 (first-runs g.start g.starts).1
    where
      by : (o : Outcome Cell) → Runs tagged v n first o → GoesOnFor v entry args n
      by (running z) runs = record { start = first; starts = first-starts g.start g.starts; state = z; runs = runs }
      by (ended ending z) runs =
          let there = ends-too (record { ending = ending; heap = z.heap; statics = z.statics }) (ended-here g.start g.starts ending z runs) in
          absurd (apart ending there.last g.state
          (one n (running second) (ended ending there.last) (running g.state)
          (from-second there.start there.starts (ended ending there.last) there.runs) (from-second g.start g.starts (running g.state) g.runs)))

pub in-step : (v w : Linked) → EndsAlikeBy 1 v w → RunsExist v → RunsAreOne tagged w → EndInStep v w
in-step v w alike exist one = grind (arith, ends-too, ends-back, goes-back)
