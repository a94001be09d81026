use Rattle.std.proofs.Common.{◌∙◌, List, ℕ, length, sym, ap, subst, arith}
use Rattle.std.specs.Prelude.{All}
use Rattle.cap_bytes.specs.Bytes.{AreBytes}
use Rattle.cap_listing.specs.Methods.{HasPlaces}
use Rattle.cap_listing.proofs.package_methods.laid.Goals as goal

pub returns-clause-counted : goal.returns-clause-counted
returns-clause-counted c =
    let same = c.of.ensures ∙ c.in_ok-code.ensures.items in
    record {
      max_stack = c.numbers_fit.ensures.stack;
      nargs = c.numbers_fit.ensures.arguments;
      max_locals = c.numbers_fit.ensures.locals;
      bytes = subst AreBytes (sym same) c.are_bytes.ensures;
      few = omega (arith, ap (λ (xs : List ℕ). length xs) same, c.bytes_of-bytes.ensures.few);
      handlers = subst (All HasPlaces) (sym c.of-2.ensures) c.in_ok-handlers.ensures.counted;
    }
