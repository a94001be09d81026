-- What a refusal over an index says of card typings.
use Rattle.std.proofs.Common.{ℕ, ⊎_elim, inl, inr, List, get_or, All, Contains, arith}
use Rattle.std.specs.Prelude.{pos}
use Rattle.std.proofs.lemmas.Option.{slice_get-get_or}
use Rattle.jc_base.specs.Index.{IsAscending}
use Rattle.jc_base.specs.World.{Linked}
use Rattle.jc_base.proofs.Lists.{All-slice_get}
use Rattle.jc_decode.specs.declared.insn.Placed.{Placed}
use Rattle.jc_decode.specs.Listing.{listing, targets}
use Rattle.jc_decode.proofs.Elements.{Contains-slice_get}
use Rattle.jc_control.specs.ExactIndex.{IsExactIndex}
use Rattle.jc_control.specs.Method.{Method}
use Rattle.jc_control.specs.WellFormed.{IsPlace, IsWellFormed}
use Rattle.jc_rules.specs.Demand.{Frame}
use Rattle.card_typing.specs.declared.fault.CardFault.{CardFault}
use Rattle.card_typing.specs.declared.fault.CardKind.{CardKind}
use Rattle.card_typing.specs.Place.{IsTarget}
use Rattle.card_typing.specs.Refusal.{IsWrong, wrong_entry, wrong_room, wrong_mark, wrong_rule, wrong_branch, wrong_end, IsRefusedAfter, refused_at}
use Rattle.card_typing.specs.Refusal.{IsRefusedState, IsRefused, refused_flaw, refused_state, fault_of}
use Rattle.card_typing.specs.Laws.{RefusalDenies}
use Rattle.card_typing.proofs.Below.{AreCardRules, refused-never}
use Rattle.card_typing.proofs.Fewer.{open-fewer, after-fewer, typing-fewer}
use Rattle.card_typing.proofs.Quiet.{target-place}
use Rattle.card_typing.specs.Typing.{HasCardTyping}
use Rattle.card_verify.specs.IndexTyping.{IsIndex, HasIndexTyping}
use Rattle.card_verify.specs.Refusal.{IsBadEntry, bad_place, bad_order, IsFirstLacking, IsRefusedOver, over_flaw, over_entry, over_target, over_state}
use Rattle.card_verify.specs.OverIndex.{IndexedIsTyped, ExactAnswers, RefusalDeniesOver}

pub indexed-typed : (w : Linked) → IndexedIsTyped w
indexed-typed w m index h = record {
  regs = h.regs;
  stacks = h.stacks;
  typing = typing-fewer w m (Contains index) (IsTarget m) h.typing.indexed.complete h.regs h.stacks h.typing.typing;
}

-- an index with a bad entry is none
pub no-bad : (m : Method) (index : List ℕ) → IsAscending index → All (IsPlace m.code) index → (k : ℕ) → IsBadEntry m.code index k → ⊥
no-bad m index up places _ (bad_place k p at none) = none (All-slice_get (IsPlace m.code) index k p places at)
no-bad m index up places _ (bad_order k p q at next le) = let lt = up k p q at next in omega (arith, lt, le)

pub lacking-target : (m : Method) (index : List ℕ) (place q : ℕ) → IsFirstLacking m.code index place (pos q) → IsTarget m q
lacking-target m index place q first = record {
  from = first.from;
  stands = Contains-slice_get (listing m.code) first.number first.from first.instruction.here;
  leads = Contains-slice_get (targets m.code first.from) first.target_number (pos q) first.lacks.here;
}

pub refusal-denies-over : (w : Linked) → AreCardRules w → RefusalDenies w → RefusalDeniesOver w
refusal-denies-over w rules denies m index fault kept mo r h = by fault kept r
  where
    by : (f : CardFault) (k : Frame) → IsRefusedOver w m index f k → ⊥
    by _ _ (over_flaw flaw k first) = denies m (fault_of flaw) k mo (refused_flaw flaw k first) (indexed-typed w m index h)
    by _ _ (over_entry n k formed first) = no-bad m index h.typing.indexed.ascending h.typing.indexed.places n first.bad
    by _ _ (over_target place q k formed up places first) = first.lacks.fails (h.typing.indexed.complete q (lacking-target m index place q first))
    by _ _ (over_state f k formed whole state) = refused-never w rules m mo (Contains index) h.regs h.stacks h.typing.typing f k state

-- ---- the exact index

module _ (m : Method) (index : List ℕ) (exact : IsExactIndex m.code index) where
  exact-places : All (IsPlace m.code) index
  exact-places k d lt = ((exact.targets (get_or index k d)).0 (Contains-slice_get index k (get_or index k d) (slice_get-get_or index k d lt))).place

  to-target : (q : ℕ) → Contains index q → IsTarget m q
  to-target q c = ((exact.targets q).0 c).target

  module _ (formed : IsWellFormed m) where
    from-target : (q : ℕ) → IsTarget m q → Contains index q
    from-target q t = (exact.targets q).1 (record { target = t; place = target-place m formed q t })

    exact-index : IsIndex m index
    exact-index = record { ascending = exact.ascending; places = exact-places; complete = from-target }

-- where the same places are marked the same is refused
module _ (w : Linked) (m : Method) (one other : ℕ → Type 0) (to : (q : ℕ) → one q → other q) (back : (q : ℕ) → other q → one q) where
  wrong-same : (i : Placed) (before kept : Frame) (kind : CardKind) → IsWrong w m one i before kind kept → IsWrong w m other i before kind kept
  wrong-same i before _ _ (wrong_entry entry from) = wrong_entry entry (⊎_elim (λ fallen. inl fallen) (λ mark. inr (to i.place mark)) from)
  wrong-same i before _ _ (wrong_room entry alone full) =
      wrong_room entry (λ from. alone (⊎_elim (λ fallen. inl fallen) (λ mark. inr (back i.place mark)) from)) full
  wrong-same i before _ _ (wrong_mark free mark fallen deep) = wrong_mark free (to i.place mark) fallen deep
  wrong-same i before _ _ (wrong_rule fault suits refuses) = wrong_rule fault (open-fewer w m one other back i.place before.stack suits) refuses
  wrong-same i before _ _ (wrong_branch after o suits applies jumps deep) =
      wrong_branch after o (open-fewer w m one other back i.place before.stack suits) applies jumps deep
  wrong-same i before _ _ (wrong_end after o suits applies branch goes end) =
      wrong_end after o (open-fewer w m one other back i.place before.stack suits) applies branch goes end

  after-same : (visits : ℕ) (fault : CardFault) (kept : Frame) → IsRefusedAfter w m one visits fault kept → IsRefusedAfter w m other visits fault kept
  after-same visits _ _ (refused_at i before kept kind there met wrong) =
      refused_at i before kept kind there (after-fewer w m one other back visits i.place before met) (wrong-same i before kept kind wrong)

  pub refused-same : (fault : CardFault) (kept : Frame) → IsRefusedState w m one fault kept → IsRefusedState w m other fault kept
  refused-same fault kept r = record { visits = r.visits; after = after-same r.visits fault kept r.after }

module _ (w : Linked) (m : Method) (index : List ℕ) (exact : IsExactIndex m.code index) where
  served : HasCardTyping w m → HasIndexTyping w m index
  served h = record {
    regs = h.regs;
    stacks = h.stacks;
    typing = record {
      typing = typing-fewer w m (IsTarget m) (Contains index) (to-target m index exact) h.regs h.stacks h.typing;
      indexed = exact-index m index exact h.typing.formed;
    };
  }

  refused-without : (f : CardFault) (k : Frame) → IsRefusedOver w m index f k → IsRefused w m f k
  refused-without _ _ (over_flaw flaw k first) = refused_flaw flaw k first
  refused-without _ _ (over_entry n k formed first) = absurd (no-bad m index exact.ascending (exact-places m index exact) n first.bad)
  refused-without _ _ (over_target place q k formed up places first) =
      absurd (first.lacks.fails (from-target m index exact formed q (lacking-target m index place q first)))
  refused-without _ _ (over_state f k formed whole state) =
      refused_state f k formed (refused-same w m (Contains index) (IsTarget m) (to-target m index exact) (from-target m index exact formed) f k state)

  refused-with : (f : CardFault) (k : Frame) → IsRefused w m f k → IsRefusedOver w m index f k
  refused-with _ _ (refused_flaw flaw k first) = over_flaw flaw k first
  refused-with _ _ (refused_state f k formed state) =
      over_state f k formed (exact-index m index exact formed)
      (refused-same w m (IsTarget m) (Contains index) (from-target m index exact formed) (to-target m index exact) f k state)

pub exact-answers : (w : Linked) → ExactAnswers w
exact-answers w m index exact = grind (arith, indexed-typed w m index, served w m index exact, refused-without, refused-with)
