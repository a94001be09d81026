use Rattle.cap_pool.specs.PoolFormat.{entry_info}
use Rattle.cap_pool.specs.Pool.{entries, entries_left}
use Rattle.cap_bytes.specs.Edit.{patched_all}
use Rattle.cap_renewal.specs.PoolEdits.{entry_edits, entry_width, pool_edits}
use Rattle.cap_renewal.specs.NewMethods.{to}
use Rattle.cap_renewal.proofs.Items.{IsRenewing}
use Rattle.cap_renewal.proofs.pool.renew_pool.Given as goal

abbrev pub invariant-entries : goal.invariant-entries
invariant-entries l =
    IsRenewing entry_info (entry_edits (to l.news)) entry_width l.initial.info (patched_all (pool_edits (to l.news) (entries l.pool)) l.initial.info) l.at
    (entries_left l.entry-iterator) l.info
