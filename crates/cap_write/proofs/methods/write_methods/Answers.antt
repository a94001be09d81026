use Rattle.std.proofs.Common.{◌≡◌, ◌≤◌, ◌<◌, ℕ, List, length, None, sym, ap, subst, ◌∙◌}
use Rattle.cap_bytes.specs.declared.view.View.{View}
use Rattle.cap_components.specs.Components.{Methods}
use Rattle.cap_laying.specs.Members.{written_size}
use Rattle.cap_laying.specs.WrittenSeen.{WritesMethods}
use Rattle.cap_write.proofs.Numbers.{small_members}
use Rattle.cap_write.proofs.Longest.{plain_least}
use Rattle.cap_write.proofs.methods.write_methods.Goals as goal

pub plain_component-requires-clause-small : goal.plain_component-requires-clause-small
plain_component-requires-clause-small c = small_members (length c.args.package.now.methods.info) c.args.members.now c.requires.may.each

pub returns-in-None-clause-long : goal.returns-in-None-clause-long
returns-in-None-clause-long c =
    let p = c.args.package.now in
    let ms = c.args.members.now in
    let size = length p.methods.info in
    let room = length p.methods.handlers in
    let bytes : c.info.result.bytes.now ≡ p.methods.info = ap (λ (v : View). v.bytes.now) c.info.ensures
    ∙ ap (λ (m : Methods). m.info) c.methods-methods.ensures in
    let handlers : c.handler_count-room.result ≡ room = c.handler_count-room.ensures ∙ ap (λ (m : Methods). length m.handlers) c.methods-methods.ensures in
    let none : WritesMethods (length c.info.result.bytes.now) c.handler_count-room.result ms None = subst
    (WritesMethods (length c.info.result.bytes.now) c.handler_count-room.result ms) c.in-None.is c.in_ok-written.ensures in
    record {
      long =
          subst (λ (n : ℕ). 65535 < written_size size n ms) handlers
          (subst (λ (b : List ℕ). 65535 < written_size (length b) c.handler_count-room.result ms) bytes none);
      plain = c.plain_component.ensures;
      least = subst (λ n. written_size size room ms ≤ n) (sym c.plain_component.ensures) (plain_least size room ms);
    }
