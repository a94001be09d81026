-- The ConstantPool component (JCVM 2.2, section 6.7).
use Rattle.std.specs.Prelude.{ℕ, Bool, List, ◌&&◌, nat_le}
use Rattle.cap_bytes.specs.Grammar.{Grammar, give, number, piece, finish, u2, that, repeat, ◌>>=◌}

-- a pool entry: which kind of reference it is, and its three bytes
pub record Entry : Type 0 where
  pub tag : ℕ
  pub bytes : List ℕ

-- 1 Classref, 2 InstanceFieldref, 3 VirtualMethodref, 4 SuperMethodref, 5 StaticFieldref, 6 StaticMethodref
abbrev pub is_pool_tag : ℕ → Bool
is_pool_tag tag = nat_le 1 tag && nat_le tag 6

abbrev pub entry_info : Grammar Entry
entry_info = do
  tag ← number 1 (that is_pool_tag)
  bytes ← piece 3
  give (record { tag = tag; bytes = bytes })

abbrev pub pool_info : Grammar (List Entry)
pool_info = do
  count ← u2
  entries ← repeat count entry_info
  end ← finish
  give entries
