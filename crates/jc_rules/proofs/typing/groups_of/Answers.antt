use Rattle.std.proofs.Common.{◌≡◌, ℕ, ◌+◌, ◌<◌, [], ◌∷◌, ◌++◌, Option, Some, length, length-append, ◌∙◌, sym, subst, arith}
use Rattle.std.specs.Prelude.{IfSome}
use Rattle.jc_rules.specs.Held.{TellRegisters, IsGroupAt, AreLow}
use Rattle.jc_rules.proofs.Groups.{told-more, low-more}
use Rattle.jc_rules.proofs.typing.groups_of.Goals as goal
use Rattle.jc_rules.proofs.typing.groups_of.Goals.{then-is_some, else-is_some}

more-last : (last : Option ℕ) (n m : ℕ) → n < m → IfSome last (λ q. q < n) → IfSome last (λ q. q < m)
more-last Option.None n m less h = tt
more-last (Some q) n m less h = omega (arith, h, less)

pub places-preserved : goal.places-preserved
places-preserved c =
    let cells = c.args.cells.now in let spans = c.args.spans.now in
    let gs = c.places.groups.items in let n = c.group_at-group.result in
    let is : IsGroupAt cells spans gs (length gs) n =
    subst (λ p. IsGroupAt cells spans gs p n) (sym c.places.invariant.count)
    (subst (λ xs. IsGroupAt cells spans xs c.places.place n) c.as_slice.ensures.value c.group_at-group.ensures) in
    let added : c.push.new.self.items ≡ gs ++ n ∷ [] = c.in_ok-push.ensures.items in
    let count : length c.push.new.self.items ≡ c.places.place + 1 =
    subst (λ xs. length xs ≡ c.places.place + 1) (sym added) (length-append gs (n ∷ []) ∙ omega (arith, c.places.invariant.count)) in
    record {
      told = subst (TellRegisters cells spans) (sym added) (told-more cells spans gs n c.places.invariant.told c.places.invariant.low is);
      low = subst AreLow (sym added) (low-more cells spans gs n c.places.invariant.told c.places.invariant.low is);
      count = count;
      last = elim c.if-is_some.branch [
        | then-is_some w ↦ subst (λ o. IfSome o (λ q. q < length c.push.new.self.items)) (sym w.last-is) (omega (arith, count))
        | else-is_some w ↦ subst (λ o. IfSome o (λ q. q < length c.push.new.self.items)) (sym w.last-is)
            (more-last c.places.last (length gs) (length c.push.new.self.items) (omega (arith, count, c.places.invariant.count)) c.places.invariant.last)
      ];
    }
