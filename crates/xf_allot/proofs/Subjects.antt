-- A method of a world that has a card typing is a subject.
use Rattle.std.proofs.Common.{◌≡◌, ℕ, ◌≤◌, List, length, sym, ◌∙◌, subst, arith}
use Rattle.jc_base.specs.declared.ty.Ty.{Ty}
use Rattle.jc_base.specs.Linked.{IsMethod}
use Rattle.jc_base.specs.World.{Linked, IsWorld}
use Rattle.jc_base.proofs.Lists.{All-slice_get}
use Rattle.jc_control.specs.Method.{Method, IsMethodOf}
use Rattle.jc_ops.specs.declared.operation.Operation.{Operation}
use Rattle.jc_rules.specs.Footprint.{registers_asked}
use Rattle.jc_rules.specs.Rule.{demands}
use Rattle.jc_rules.proofs.CellLists.{cells-length}
use Rattle.jc_rules.proofs.Footprints.{met-is-there, asked-is-there}
use Rattle.card_typing.proofs.Own.{start-length}
use Rattle.card_typing.specs.Typing.{CardTyping, frame_at}
use Rattle.law_share.specs.Renamed.{register_total}
use Rattle.xf_allot.specs.Subject.{AsksFew}
use Rattle.jc_rules.proofs.Decides.{ok-same}

-- ---- a method with a card typing

module _ (w : Linked) (links : IsWorld w) (m : Method) (is : IsMethodOf w m) (regs : List Ty) (stacks : ℕ → List Ty) (ty : CardTyping w m regs stacks)
  where
    pub its-count : length regs ≡ register_total m
    its-count = sym (cells-length w.classes ty.declared) ∙ start-length w links m is

    its-record : IsMethod w.infos w.pools w.classes m.rec
    its-record = All-slice_get (IsMethod w.infos w.pools w.classes) w.methods m.number m.rec links.methods is.rec

    pub its-few : length regs ≤ 255
    its-few = let count = its-count in let few = its-record.registers in omega (arith, count, few)

    pub asks-few : AsksFew w m
    asks-few i op operates =
        let rule = (ty.typed i operates.stands).applies.1 in
        let same : rule.operation ≡ op = ok-same (rule.resolves ∙ sym operates.resolves) in
        let ds = demands w rule.operation in
        let asked = (asked-is-there (length regs) (length (stacks i.place)) ds).registers (met-is-there w (frame_at regs stacks i.place) ds rule.does.asked) in
        let few = its-few in
        subst (λ (o : Operation). registers_asked (demands w o) ≤ 255) same (omega (arith, asked, few))
