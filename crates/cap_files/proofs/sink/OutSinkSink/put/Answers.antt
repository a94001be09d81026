use Rattle.std.proofs.Common.{◌∙◌, arith}
use Rattle.std.proofs.lemmas.Grind.{common_steps}
use Rattle.cap_files.proofs.Outputs.{taken_on, taken_no_more}
use Rattle.cap_files.proofs.sink.OutSinkSink.put.Goals as goal

pub pieces-preserved : goal.pieces-preserved
pieces-preserved g c =
    let known = g.O.Output.taken in
    let so_far = c.pieces.invariant.bytes in
    record {
      bytes =
          taken_on (known c.args.self.now.output) (known c.pieces.self.output) (known c.take.new.self) c.args.piece.now c.pieces.left.now so_far.0 _ c.in-Ok.taken
          so_far.1 so_far.2 c.in-Ok.ensures.taken.2 (grind (arith, common_steps));
      faults = c.in-Ok.ensures.faults ∙ c.pieces.invariant.faults;
    }

pub returns-in-Err-clause-bytes : goal.returns-in-Err-clause-bytes
returns-in-Err-clause-bytes g c =
    let known = g.O.Output.taken in
    let so_far = c.pieces.invariant.bytes in
    taken_no_more (known c.args.self.now.output) (known c.pieces.self.output) (known c.take.new.self) c.args.piece.now c.pieces.left.now so_far.0
    so_far.1 so_far.2 c.in-Err.ensures.taken
