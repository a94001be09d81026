-- The answers over the graph of calls are those over chains of calls.
use Rattle.std.proofs.Common.{◌≡◌, ℕ, ◌+◌, ◌<◌, List, length, ap, arith}
use Rattle.std.specs.Prelude.{Some, None}
use Rattle.std.proofs.lemmas.Option.{slice_get_within}
use Rattle.jc_base.specs.World.{Linked, IsWorld}
use Rattle.jc_ops.specs.Sound.{OperationsAreSound}
use Rattle.digraph.specs.Way.{Leads, by_step, by_more, Way, way_ends, way_goes}
use Rattle.digraph.specs.Way.{total, IsGreatest, Recurs, IsLeastRecurring, StandsTwiceInWay}
use Rattle.digraph.specs.Graph.{Edge, weight_of}
use Rattle.digraph.specs.Settled.{IsSumFrom}
use Rattle.digraph.proofs.Helping.{greatest-told, recurs-read, recurs-told, recurs-below}
use Rattle.digraph.proofs.Repeating.{recurs-twice, twice-recurs}
use Rattle.law_chains.specs.Calls.{Calls}
use Rattle.vm_bound.specs.declared.weighing.Measure.{Measure}
use Rattle.vm_bound.specs.Rows.{IsCallGraph}
use Rattle.vm_bound.specs.Weights.{measure, AreWeights}
use Rattle.vm_bound.specs.Answer.{IsLeastTwice}
use Rattle.vm_bound.proofs.Graphing.{code-inside, rank}
use Rattle.vm_bound.proofs.Told.{calls-are-told}

module _ (w : Linked) (world : IsWorld w) (sound : OperationsAreSound w) (g : List (List ℕ)) (graph : IsCallGraph w g) (entry : ℕ)
    (inside : entry < length w.methods)
  where
    caller-inside : (m n : ℕ) → Calls w m n → m < length w.methods
    caller-inside m n calls = slice_get_within w.methods m calls.caller calls.is_caller

    leads-inside : {m n : ℕ} → Leads (Calls w) m n → m < length w.methods
    leads-inside (by_step calls) = caller-inside _ _ calls
    leads-inside (by_more calls more) = caller-inside _ _ calls

    twice-recurs-here : (n : ℕ) → StandsTwiceInWay (Calls w) entry n → (n < length w.methods) × Recurs (Edge g) entry n
    twice-recurs-here n twice =
        let r = twice-recurs (Calls w) entry n twice in
        let l = leads-inside r.again in
        (l, recurs-told g (length w.methods) (rank w world g graph) (Calls w) (calls-are-told w world sound g graph) entry n inside l r)

    recurs-twice-here : (n : ℕ) → n < length w.methods → Recurs (Edge g) entry n → StandsTwiceInWay (Calls w) entry n
    recurs-twice-here n l r =
        recurs-twice (Calls w) entry n
        (recurs-read g (length w.methods) (rank w world g graph) (Calls w) (calls-are-told w world sound g graph) entry n inside l r)

    pub least-twice : (n : ℕ) → IsLeastRecurring (Edge g) entry (length w.methods) n → IsLeastTwice w entry n
    least-twice n least = record {
      twice = recurs-twice-here n least.below least.recurs;
      least = λ k l twice. let r = twice-recurs-here k twice in least.least k l r.1;
    }

    pub never-twice : ((n : ℕ) → n < length w.methods → ¬ (Recurs (Edge g) entry n)) → (n : ℕ) → ¬ (StandsTwiceInWay (Calls w) entry n)
    never-twice none n twice = let r = twice-recurs-here n twice in none n r.0 r.1

    -- ---- sums

    module _ (f h : ℕ → ℕ) (alike : (n : ℕ) → n < length w.methods → f n ≡ h n) where
      total-alike : (m : ℕ) (ms : List ℕ) → m < length w.methods → Way (Calls w) m ms → total f ms ≡ total h ms
      total-alike m ms l way_ends = ap (λ x. x + 0) (alike m l)
      total-alike m ms l (way_goes {w = n} {vs = ns} calls more) =
          grind (arith, code-inside, total-alike n ns (code-inside w n calls.code) more)

      greatest-alike : (most : ℕ) → IsGreatest (Calls w) f entry most → IsGreatest (Calls w) h entry most
      greatest-alike most great = grind (arith, total-alike)

    pub greatest-chain : (by : Measure) (weights : List ℕ) (most : ℕ) → AreWeights w by weights → IsSumFrom g weights entry (Some most)
        → IsGreatest (Calls w) (measure w by) entry most
    greatest-chain by weights most are great =
        greatest-alike (weight_of weights) (measure w by) are.methods most
        (greatest-told g (length w.methods) (rank w world g graph) (Calls w) (calls-are-told w world sound g graph) (weight_of weights) are.others entry most
        inside great.0)

    -- where no method stands twice there is a sum
    pub some-sum : (weights : List ℕ) → ((n : ℕ) → ¬ (StandsTwiceInWay (Calls w) entry n)) → ¬ (IsSumFrom g weights entry None)
    some-sum weights never none =
        let r = recurs-below g (length w.methods) (rank w world g graph) (Calls w) (calls-are-told w world sound g graph) entry none.0 none.1 in
        never r.0 (recurs-twice-here r.0 r.1.0 r.1.1)
