-- A relation of states that steps keep, within a bound, makes runs end alike.
use Rattle.std.proofs.Common.{◌≡◌, ℕ, zero, suc, ◌+◌, ◌*◌, ◌-◌, ◌≤◌, List, refl, sym, ◌∙◌, subst, arith}
use Rattle.jc_base.specs.World.{Linked}
use Rattle.vm_store.specs.declared.cell.Cell.{Cell}
use Rattle.vm_store.specs.Cells.{tagged}
use Rattle.vm_store.specs.State.{State}
use Rattle.vm_step.specs.declared.ending.Ending.{Ending}
use Rattle.vm_step.specs.Arguments.{Argument}
use Rattle.vm_step.specs.Raising.{Outcome, running, ended}
use Rattle.vm_step.specs.Run.{Runs, Continues, stands, stops, steps}
use Rattle.vm_step.specs.Start.{Starts, start_fault, entry_state}
use Rattle.vm_step.specs.Step.{Steps}
use Rattle.vm_step.proofs.Running.{continues-on}
use Rattle.law_alike.specs.Ends.{Left, EndsWithin, GoesOnFor, EndsAlikeBy}
use Rattle.law_alike.specs.Simulation.{AreBoth, both_run, both_end, StepsMatch, StartsMatch}

-- a step is a run of one
pub one-step : (w : Linked) (t : State Cell) (p : Outcome Cell) → Steps tagged w t p → Runs tagged w 1 t p
one-step w t (running s) step = steps step stands
one-step w t (ended ending s) step = stops step

module _ (v w : Linked) (R : State Cell → State Cell → Type 0) (ending extra : ℕ) (some : 1 ≤ ending)
    (match : StepsMatch v w R ending extra) (begin : StartsMatch v w R extra)
    (refuse : (entry : ℕ) (args : List Argument) → start_fault w entry args ≡ start_fault v entry args) where
  abbrev factor : ℕ
  factor = ending + extra

  abbrev least : ℕ → Outcome Cell → ℕ
  least n (running s) = n
  least n (ended e s) = 0

  abbrev spare : Outcome Cell → ℕ
  spare (running s) = 0
  spare (ended e s) = extra

  record RunComes (n : ℕ) (o : Outcome Cell) (t : State Cell) : Type 0 where
    count : ℕ
    more : least n o ≤ count
    fewer : count + spare o ≤ factor * n
    outcome : Outcome Cell
    runs : Runs tagged w count t outcome
    both : AreBoth R o outcome

  least-more : (o : Outcome Cell) (n a b : ℕ) → 1 ≤ a → least n o ≤ b → least (suc n) o ≤ a + b
  least-more x n a b h g = grind (arith)

  both-running : {y : State Cell} {p : Outcome Cell} → AreBoth R (running y) p → (u : State Cell) × (p ≡ running u) × R y u
  both-running (both_run {t = u} b) = (u, refl, b)

  record IsEndedToo (e : Ending) (z : State Cell) (p : Outcome Cell) : Type 0 where
    state : State Cell
    is : p ≡ ended e state
    heap : state.heap ≡ z.heap
    statics : state.statics ≡ z.statics

  both-ended : {e : Ending} {z : State Cell} {p : Outcome Cell} → AreBoth R (ended e z) p → IsEndedToo e z p
  both-ended (both_end e {t = u} heap statics) = record { state = u; is = refl; heap = heap; statics = statics }

  times-suc : (n : ℕ) → factor * suc n ≡ factor + factor * n
  times-suc n = omega arith

  runs-come : {n : ℕ} {z : State Cell} {o : Outcome Cell} → Runs tagged v n z o → (t : State Cell) → R z t → RunComes n o t
  runs-come stands t r =
      record { count = 0; more = omega arith; fewer = omega arith; outcome = running t; runs = stands; both = both_run r }
  runs-come (stops {n = n} {s = s} {z = z} {ending = e} step) t r =
      let c = match s t (ended e z) r step in
      let few = c.fewer in
      record { count = c.count; more = omega arith; fewer = omega (arith, few, times-suc n); outcome = c.outcome; runs = c.runs; both = c.both }
  runs-come (steps {n = n} {s = s} {z = y} {o = o} step more) t r =
      let c = match s t (running y) r step in
      let u = both-running c.both in
      let rest = runs-come more u.0 u.2 in
      let few = c.fewer in
      let rest_few = rest.fewer in
      record {
        count = c.count + rest.count;
        more = least-more o n c.count rest.count c.more rest.more;
        fewer = omega (arith, few, rest_few, times-suc n);
        outcome = rest.outcome;
        runs = continues-on tagged w c.count rest.count (running t) c.outcome rest.outcome c.runs
            (subst (λ x. Continues tagged w rest.count x rest.outcome) (sym u.1) rest.runs);
        both = rest.both;
      }

  -- a run that goes on for so many steps goes on for fewer
  shorter : (n : ℕ) {count : ℕ} {t y : State Cell} → Runs tagged w count t (running y) → n ≤ count
      → (x : State Cell) × Runs tagged w n t (running x)
  shorter zero {t = t} runs le = (t, stands)
  shorter (suc n) stands le = absurd (omega (arith, le))
  shorter (suc n) (steps step more) le = let rest = shorter n more (omega (arith, le)) in (rest.0, steps step rest.1)

  module _ (entry : ℕ) (args : List Argument) where
    abbrev second : State Cell
    second = entry_state tagged w entry args

    starts-too : (s : State Cell) → Starts tagged v entry args s → Starts tagged w entry args second
    starts-too s starts = record { begins = refuse entry args ∙ starts.begins; state = refl }

    ends-too : (n : ℕ) (left : Left) → EndsWithin v entry args n left → EndsWithin w entry args (factor * n) left
    ends-too n left e =
        let b = begin entry args e.start e.starts in
        let u = both-running b.both in
        let c = runs-come e.runs u.0 u.2 in
        let end = both-ended c.both in
        let few = b.fewer in
        let rest = c.fewer in
        let total : ℕ = b.count + c.count in
        let all : Runs tagged w total second (ended left.ending end.state) =
        continues-on tagged w b.count c.count (running second) b.outcome (ended left.ending end.state) b.runs
        (subst (λ x. Continues tagged w c.count x (ended left.ending end.state)) (sym u.1) (subst (λ x. Runs tagged w c.count u.0 x) end.is c.runs)) in
        let more : total + (factor * n - total) ≡ factor * n = omega (arith, few, rest) in
        let longer : Runs tagged w (total + (factor * n - total)) second (ended left.ending end.state) =
        continues-on tagged w total (factor * n - total) (running second) (ended left.ending end.state) (ended left.ending end.state) all refl in
        record {
          start = second;
          starts = starts-too e.start e.starts;
          last = end.state;
          runs = subst (λ k. Runs tagged w k second (ended left.ending end.state)) more longer;
          heap = end.heap ∙ e.heap;
          statics = end.statics ∙ e.statics;
        }

    goes-on-too : (n : ℕ) → GoesOnFor v entry args n → GoesOnFor w entry args n
    goes-on-too n g =
        let b = begin entry args g.start g.starts in
        let u = both-running b.both in
        let c = runs-come g.runs u.0 u.2 in
        let x = both-running c.both in
        let all : Runs tagged w (b.count + c.count) second (running x.0) =
        continues-on tagged w b.count c.count (running second) b.outcome (running x.0) b.runs
        (subst (λ y. Continues tagged w c.count y (running x.0)) (sym u.1) (subst (λ y. Runs tagged w c.count u.0 y) x.1 c.runs)) in
        let le = c.more in
        let found = shorter n all (omega (arith, le)) in
        record { start = second; starts = starts-too g.start g.starts; state = found.0; runs = found.1 }

  -- by the bounds on an ending and on what follows a step, runs end alike within their sum
  pub simulation-ends-alike : EndsAlikeBy factor v w
  simulation-ends-alike = record { begins = refuse; ends = ends-too; goes_on = goes-on-too }
