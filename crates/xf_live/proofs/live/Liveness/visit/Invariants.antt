use Rattle.std.proofs.Common.{All, take}
use Rattle.xf_live.specs.Liveness.{Grows, IsCarried, IsSound}
use Rattle.xf_live.proofs.live.Liveness.visit.Given as goal

abbrev pub invariant-from : goal.invariant-from
invariant-from l = record {
  grows : Grows l.fn.self l.self;
  carried : All (λ n. IsCarried l.nodes l.live n l.self) (take l.before-index l.before-items);
  sound : IsSound l.nodes l.fn.self → IsSound l.nodes l.self;
}
