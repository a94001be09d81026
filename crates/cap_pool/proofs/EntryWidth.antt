-- A pool entry has four bytes.
use Rattle.std.proofs.Common.{arith}
use Rattle.cap_bytes.proofs.Wide.{IsWide, wide_give, wide_number, wide_piece, wide_then}
use Rattle.cap_pool.specs.PoolFormat.{entry_info}

pub entry_wide : IsWide 4 entry_info
entry_wide = grind (arith, wide_then, wide_number, wide_piece, wide_give)
