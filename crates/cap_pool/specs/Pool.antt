-- The records of the ConstantPool component, as its items.
use Rattle.std.specs.Prelude.{List, []}
use Rattle.cap_bytes.specs.Grammar.{repeat}
use Rattle.cap_bytes.specs.Taking.{given}
use Rattle.cap_pool.specs.declared.lists.PoolEntries.{PoolEntries}
use Rattle.cap_pool.specs.declared.pool_record.Pool.{Pool}
use Rattle.cap_pool.specs.declared.pool_record.PoolEntry.{PoolEntry}
use Rattle.cap_pool.specs.PoolFormat.{Entry, entry_info}

abbrev pub entry_seen : PoolEntry → Entry
entry_seen e = record { tag = e.tag; bytes = e.bytes }

abbrev pub entries_left : PoolEntries → List Entry
entries_left x = given [] (repeat x.left entry_info) x.items

abbrev pub entries : Pool → List Entry
entries x = entries_left x.entries
