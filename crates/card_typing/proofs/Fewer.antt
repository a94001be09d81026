-- Where fewer places are marked, what may stand at a place may still stand there, what is met is still met, and a card typing
-- is still one.
use Rattle.std.proofs.Common.{ℕ, List}
use Rattle.jc_base.specs.declared.ty.Ty.{Ty}
use Rattle.jc_base.specs.World.{Linked}
use Rattle.jc_decode.specs.declared.insn.Placed.{Placed}
use Rattle.jc_control.specs.Method.{Method}
use Rattle.jc_rules.specs.declared.rule.Outcome.{Outcome}
use Rattle.jc_rules.specs.Demand.{Frame}
use Rattle.card_typing.specs.Typing.{CardTypingOver}
use Rattle.card_typing.specs.Met.{IsOpenTo, IsPassed, IsMetAfter, met_start, met_next, IsMet}

module _ (w : Linked) (m : Method) (more fewer : ℕ → Type 0) (among : (q : ℕ) → fewer q → more q) where
  pub open-fewer : (q : ℕ) (stack : List Ty) → IsOpenTo m more q stack → IsOpenTo m fewer q stack
  open-fewer q stack o = record {
    entry = λ e. ((o.entry e).0, λ f. (o.entry e).1 (among q f));
    caught = o.caught;
    mark = λ f. o.mark (among q f);
  }

  pub passed-fewer : (i : Placed) (before after : Frame) (o : Outcome) → IsPassed w m more i before after o → IsPassed w m fewer i before after o
  passed-fewer i before after o p = record {
    stands = p.stands;
    suits = open-fewer i.place before.stack p.suits;
    applies = p.applies;
    branch = p.branch;
    goes_on = p.goes_on;
  }

  pub after-fewer : (visits q : ℕ) (f : Frame) → IsMetAfter w m more visits q f → IsMetAfter w m fewer visits q f
  after-fewer _ _ _ (met_start stack a) = met_start stack a
  after-fewer _ _ _ (met_next visits i q before after o stack met passed goes a) =
      met_next visits i q before after o stack (after-fewer visits i.place before met) (passed-fewer i before after o passed) goes a

  pub met-fewer : (q : ℕ) (f : Frame) → IsMet w m more q f → IsMet w m fewer q f
  met-fewer q f h = record { visits = h.visits; after = after-fewer h.visits q f h.after }

  pub typing-fewer : (regs : List Ty) (stacks : ℕ → List Ty) → CardTypingOver w m more regs stacks → CardTypingOver w m fewer regs stacks
  typing-fewer regs stacks t = record {
    formed = t.formed;
    types = t.types;
    ready = t.ready;
    declared = t.declared;
    start = t.start;
    entries = t.entries;
    targets = λ q f. t.targets q (among q f);
    room = t.room;
    typed = t.typed;
  }
