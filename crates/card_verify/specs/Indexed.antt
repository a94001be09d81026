-- The method that is verified over a target index.
use Rattle.std.specs.Prelude.{ℕ, List}
use Rattle.jc_base.specs.World.{Linked}
use Rattle.jc_control.specs.Method.{Method}
use Rattle.card_verify.specs.Verifier.{method, world_of}
use Rattle.card_verify.specs.declared.index_verify.Indexed.{Indexed}

abbrev pub subject : Indexed → Method
subject x = method x.verifier

abbrev pub world_in : Indexed → Linked
world_in x = world_of x.verifier

abbrev pub listed : Indexed → List ℕ
listed x = x.index.now
