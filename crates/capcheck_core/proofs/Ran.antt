-- What a run on the machine of verified code leaves: its words, and the text of them.
use Rattle.std.proofs.Common.{arith}
use Rattle.std.proofs.Common.{◌≡◌, ℕ, List, ◌++◌, length, map, take, Some, zero, suc, refl, sym, ap, subst, ◌∙◌}
use Rattle.std.specs.Prelude.{slice_get, option_map, option_and_then, Result, MatchResult, OnErr}
use Rattle.std.proofs.Math.Seq.{take-append_seam, take-length}
use Rattle.jc_base.specs.World.{Linked}
use Rattle.vm_store.specs.declared.cell.Cell.{Cell}
use Rattle.vm_store.specs.Cells.{tagged, words}
use Rattle.vm_store.specs.State.{State, erased}
use Rattle.vm_store.specs.Objects.{object_at}
use Rattle.vm_step.specs.declared.ending.Ending.TheVariants as endings
use Rattle.vm_step.specs.declared.ending.Plain.{Plain}
use Rattle.vm_step.specs.Raising.{Outcome, running, ended}
use Rattle.vm_step.specs.Run.{stands}
use Rattle.vm_step.specs.Start.{entry_state}
use Rattle.vm_defend.specs.Held.{answer}
use Rattle.vm_offend.specs.declared.words.Counts.{Counts}
use Rattle.vm_offend.specs.Words.{words_state}
use Rattle.vm_offend.specs.declared.machine.Machine.{Machine}
use Rattle.vm_offend.specs.Sized.{static_cells}
use Rattle.vm_offend.specs.Held.{AreWordsOf, IsOutcomeOfRun, Follows, state_of, ending_of}
use Rattle.vm_offend.specs.Begun.{IsBegun}
use Rattle.vm_offend.proofs.Living.{state-erased, state-with}
use Rattle.vm_text.specs.Left.{number_array, left_by}
use Rattle.vm_text.specs.Lent.{lent_state, IsLentRun}
use Rattle.vm_text.specs.LikeTexts.{TextsAreAlike}
use Rattle.vm_text.specs.Text.{left_text, outcome_text}
use Rattle.cap_text.specs.Room.{Roomed, IsEmpty, Writes}
use Rattle.cap_text.specs.Run.{RunRequest}
use Rattle.capcheck_core.specs.declared.running.RunStop.{RunStop}
use Rattle.capcheck_core.specs.declared.verdict.Verdict.{Verdict}
use Rattle.capcheck_core.specs.Outside.{CardWords, card_words}
use Rattle.capcheck_core.specs.Defend.{method_entered}
use Rattle.capcheck_core.specs.Run.{HoldsWords, IsCardKept, IsLeft, IsRun, StopsRun, RunsWithMemory, RunsWorldIn}

-- ---- the words of an outcome

-- the memory holds the words of the state
words_of : (w : Linked) (m : Machine) (ram heap statics : List ℕ) (o : Outcome Cell) → AreWordsOf w m ram heap statics o
    → words_state w.methods ram heap statics m.counts ≡ erased (state_of o)
words_of w m ram heap statics o are =
    sym (state-with (option_map endings.Plain m.ending) (words_state w.methods ram heap statics m.counts)) ∙ ap state_of are.words ∙ state-erased o

pub lent_run : (w : Linked) (m : Machine) (ram heap statics : List ℕ) (o : Outcome Cell) → AreWordsOf w m ram heap statics o
    → IsLentRun w w heap statics m.counts
lent_run w m ram heap statics o are = grind (arith, words_of w m ram heap statics o are)

-- the same of a world that is the accepted one
pub lent_in : (w v : Linked) (heap statics : List ℕ) (counts : Counts) → w ≡ v → IsLentRun w w heap statics counts → IsLentRun v w heap statics counts
lent_in w v heap statics counts same lent = subst (λ x. IsLentRun x w heap statics counts) same lent

pub written_in : (w v : Linked) (heap statics : List ℕ) (counts : Counts) (ending : Plain) (before after : Roomed) → v ≡ w
    → Writes before after (left_text (left_by words v (lent_state heap statics counts)) (endings.Plain ending))
    → Writes before after (left_text (left_by words w (lent_state heap statics counts)) (endings.Plain ending))
written_in w v heap statics counts ending before after same writes = grind (arith)

pub holds : (w : Linked) (m : Machine) (ram heap statics : List ℕ) (o : Outcome Cell) → AreWordsOf w m ram heap statics o
    → HoldsWords w (card_words ram heap statics) o
holds w m ram heap statics o are = grind (arith, take (static_cells w) statics, take-length statics, words_of w m ram heap statics o are)

-- ---- the text

named_same : (x y : State ℕ) (h : ℕ) → x.heap ≡ y.heap → option_and_then (number_array words) (object_at x h) ≡ option_and_then
    (number_array words) (object_at y h)
named_same x y zero objects = refl
named_same x y (suc n) objects = ap (λ all. option_and_then (number_array words) (slice_get all n)) objects

outcome_told : (w : Linked) (o : Outcome Cell) (ending : Plain) → TextsAreAlike w → answer (ending_of o) ≡ endings.Plain ending
    → left_text (left_by words w (erased (state_of o))) (endings.Plain ending) ≡ outcome_text tagged w o
outcome_told w (running s) ending alike is = alike s (endings.Plain ending) ∙ ap (left_text (left_by tagged w s)) (sym is)
outcome_told w (ended e s) ending alike is = alike s (endings.Plain ending) ∙ ap (left_text (left_by tagged w s)) (sym is)

prints : (w : Linked) (m : Machine) (ram heap statics : List ℕ) (o : Outcome Cell) (ending : Plain) → AreWordsOf w m ram heap statics o → TextsAreAlike w
    → answer (ending_of o) ≡ endings.Plain ending
    → left_text (left_by words w (lent_state heap statics m.counts)) (endings.Plain ending) ≡ outcome_text tagged w o
prints w m ram heap statics o ending are alike is = grind (arith, words_of, outcome_told, map, named_same)

-- ---- a run that was begun

pub reached : (w : Linked) (number : ℕ) (r : RunRequest) (m : Machine) (ram heap statics : List ℕ) → IsBegun w number r.args m ram heap statics
    → IsOutcomeOfRun w (running (entry_state tagged w number r.args))
reached w number r m ram heap statics begun = record {
  entry = number;
  args = r.args;
  start = entry_state tagged w number r.args;
  starts = record { begins = begun.begins; state = refl };
  steps = 0;
  runs = stands;
}

pub left : (w : Linked) (number : ℕ) (r : RunRequest) (m : Machine) (ram heap statics : List ℕ) (before after : Roomed) (ending : Plain)
    → method_entered w r.entry ≡ Some number
    → IsBegun w number r.args m ram heap statics
    → (m_after : Machine) (ram_after heap_after statics_after : List ℕ)
    → Follows w r.budget (running (entry_state tagged w number r.args)) m_after ram_after heap_after statics_after ending
    → TextsAreAlike w
    → IsEmpty before
    → Writes before after (left_text (left_by words w (lent_state heap_after statics_after m_after.counts)) (endings.Plain ending))
    → IsLeft w r (card_words ram_after heap_after statics_after) after.text
left w number r m ram heap statics before after ending entered begun n ram_after heap_after statics_after follows alike empty writes =
    let text = writes.text ∙ ap (λ xs. xs ++ left_text (left_by words w (lent_state heap_after statics_after n.counts)) (endings.Plain ending)) empty.text in
    record {
      outcome = follows.after;
      comes = record { number = number; entered = entered; begins = begun.begins; runs = follows.runs };
      prints = text ∙ prints w n ram_after heap_after statics_after follows.after ending follows.words alike follows.answers;
      holds = holds w n ram_after heap_after statics_after follows.after follows.words;
    }

-- ---- in the whole memory of a card

pub wider : (w : Linked) (ram heap fields others : List ℕ) (o : Outcome Cell) → length fields ≡ static_cells w
    → HoldsWords w (card_words ram heap fields) o
    → HoldsWords w (card_words ram heap (fields ++ others)) o
wider w ram heap fields others o long holds = grind (arith, take, take-append_seam, take-length, holds)

-- whether it begins or not
pub whole_end : {U : Type 0} (w : Linked) (r : RunRequest) (ram heap fields others text : List ℕ) (end : Result U RunStop)
    → length fields ≡ static_cells w
    → MatchResult end (λ _. IsRun w r (card_words ram heap fields) text) (StopsRun w r)
    → MatchResult end (λ _. IsRun w r (card_words ram heap (fields ++ others)) text) (StopsRun w r)
whole_end w r ram heap fields others text x long run = grind (arith, left, prints, holds, wider)

-- ---- where nothing ran

pub card_same : (ram heap statics ram_after heap_after statics_after : List ℕ) → ram_after ≡ ram → heap_after ≡ heap → statics_after ≡ statics
    → card_words ram_after heap_after statics_after ≡ card_words ram heap statics
card_same ram heap statics ram_after heap_after statics_after a b c = λ i. card_words (a i) (b i) (c i)

pub kept_end : {U : Type 0} (ram heap fields ram_after heap_after fields_after others whole : List ℕ) (end : Result U RunStop) → fields ++ others ≡ whole
    → OnErr end (card_words ram_after heap_after fields_after ≡ card_words ram heap fields)
    → OnErr end (card_words ram_after heap_after (fields_after ++ others) ≡ card_words ram heap whole)
kept_end ram heap fields ram_after heap_after fields_after others whole x is same = grind (arith)

-- what may be answered where there is memory may be answered
pub with_memory : (w : Linked) (r : RunRequest) (c : CardWords) (verdict : Verdict) → RunsWithMemory w r c verdict → RunsWorldIn w r c verdict
with_memory w r c x runs = grind (arith)

pub kept_there : (before after : CardWords) (verdict : Verdict) → after ≡ before → IsCardKept before after verdict
kept_there before after x same = grind (arith)
