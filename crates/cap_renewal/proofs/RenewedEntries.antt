-- What a pool entry refers to, with another offset: it stays, or is still a static method of the package.
use Rattle.std.proofs.Common.{◌≡◌, ℕ, ◌+◌, ◌*◌, ◌⊎◌, None, slice_index, arith}
use Rattle.byteorder.specs.Endian.{big_bytes}
use Rattle.cap_pool.specs.PoolFormat.{Entry}
use Rattle.cap_pool.specs.declared.pool_record.PoolReference.{PoolReference}
use Rattle.cap_pool.specs.declared.pool_record.PoolReference.TheVariants.{StaticMethod}
use Rattle.cap_pool.specs.declared.pool_record.StaticReference.TheVariants.{Internal}
use Rattle.cap_pool.specs.PoolReference.{referred}
use Rattle.cap_pool.proofs.OwnMethods.{own-told}
use Rattle.cap_renewal.specs.PoolEdits.{own_offset, own_method, renewed_entry}

own_or_not : (x : PoolReference) → (own_offset x ≡ None) ⊎ ((o : ℕ) × (x ≡ StaticMethod (Internal o)))
own_or_not other = grind (arith)

-- the offset that such an entry names, and the one that the renewed entry names
pub record NamesOwn (to : ℕ → ℕ) (e : Entry) : Type 0 where
  pub offset : ℕ
  pub named : referred e ≡ StaticMethod (Internal offset)
  pub renewed : referred (renewed_entry to e)
      ≡ StaticMethod (Internal (slice_index (big_bytes 2 (to offset)) 0 * 256 + slice_index (big_bytes 2 (to offset)) 1))

pub none-or-own : (to : ℕ → ℕ) (e : Entry) → (own_method e ≡ None) ⊎ NamesOwn to e
none-or-own to e = grind (arith, own_or_not, own-told)

-- what is asked of a reference and is one thing for all the package's own static methods
pub asked-same : {Z : Type 0} (g : PoolReference → Z) (d : Z) → ((o : ℕ) → g (StaticMethod (Internal o)) ≡ d) → (to : ℕ → ℕ) (e : Entry)
    → g (referred (renewed_entry to e)) ≡ g (referred e)
asked-same g d own to e = grind (arith, none-or-own to e)
