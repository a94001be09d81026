use Rattle.std.proofs.Common.{◌≡◌, ◌<◌, length}
use Rattle.std.specs.Prelude.{IfSome}
use Rattle.jc_rules.specs.Held.{TellRegisters, AreLow}
use Rattle.jc_rules.proofs.typing.groups_of.Given as goal

abbrev pub invariant-places : goal.invariant-places
invariant-places l = record {
  told : TellRegisters l.cells l.spans l.groups.items;
  low : AreLow l.groups.items;
  count : length l.groups.items ≡ l.place;
  last : IfSome l.last (λ q. q < length l.groups.items);
}
