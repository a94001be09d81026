use Rattle.std.proofs.Common.{◌≡◌, ◌∙◌, ◌<◌, length, ap, subst, arith, get_or}
use Rattle.jc_resolve.specs.Numbering.{numbered_classes, is_interface_number}
use Rattle.jc_resolve.proofs.NumberLaws.{flag_read, flags_many}
use Rattle.jc_resolve.proofs.class_index.Index.is_interface.Goals as goal

pub returns-in-Some : goal.returns-in-Some
returns-in-Some c =
    flag_read _ _ c.self.inside.interfaces.items _ _ _ c.args.class c.in-Some.interface.now c.self.invariant
    (subst (λ l. c.args.class < length l) c.deref.ensures.value c.in-Some.ensures.lookup.3.0)
    (c.in-Some.ensures.lookup.1 ∙ ap (λ l. get_or l c.args.class c.in-Some.interface.now) c.deref.ensures.value)
    ∙ ap (λ ps. is_interface_number ps c.args.class) c.self.view_is

pub returns-in-None : goal.returns-in-None
returns-in-None c =
    let many : length c.deref.result.now ≡ length (numbered_classes c.args.self.now) =
    ap length c.deref.ensures.value ∙ flags_many _ _ _ _ _ _ c.self.invariant ∙ ap (λ ps. length (numbered_classes ps)) c.self.view_is in
    let le = c.in-None.ensures.lookup.3 in
    let lt = c.requires in
    absurd (omega arith)
