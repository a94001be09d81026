use Rattle.jc_decode.proofs.PoolIndices.{index-stands}
use Rattle.jc_decode.proofs.insn.Insn.pool_index.Goals as goal

pub returns-clause-stands : goal.returns-clause-stands
returns-clause-stands c code at h = rw c.index_of.ensures (index-stands c.args.self code at h)
