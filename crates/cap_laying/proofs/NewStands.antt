-- The items of the new Directory may stand, where those of the source may.
use Rattle.std.proofs.Common.{◌≡◌, ◌≤◌, ◌<◌, ◌+◌, ◌*◌, ℕ, zero, suc, Bool, true, false, cond, List, [], ◌∷◌, ◌++◌, length}
use Rattle.std.proofs.Common.{refl, sym, ap, ◌∙◌, arith, length-append}
use Rattle.std.specs.Prelude.{IsTrue, nat_le, not, ◌==◌, ◌&&◌, ◌||◌}
use Rattle.std.specs.List.{flat_map}
use Rattle.std.proofs.lemmas.Bool.{false≢true}
use Rattle.std.proofs.lemmas.Bool.Decides.{nat_tests}
use Rattle.byteorder.specs.Endian.{big_bytes}
use Rattle.cap_bytes.specs.declared.fault.Format.{Format}
use Rattle.cap_bytes.specs.Grammar.{is_aid_length}
use Rattle.cap_frame.specs.DirectoryFormat.{Custom, DirectoryItems, is_new_tag, and_that_of, none, size_count}
use Rattle.cap_laying.specs.declared.writing.IndexChange.{IndexChange}
use Rattle.cap_laying.specs.declared.writing.IndexChange.TheVariants.{Kept, Dropped, Written}
use Rattle.cap_laying.specs.declared.writing.ComponentSizes.{ComponentSizes}
use Rattle.cap_laying.specs.DirectoryBytes.{AreShort, custom_bytes, customs_size, directory_bytes}
use Rattle.cap_laying.specs.WrittenDirectory.{AreSmall, AreCustoms, MayStand}
use Rattle.cap_laying.specs.NewDirectory.{index_entry, new_directory, new_size, own_size, sizes_from, stays_in_index}
use Rattle.cap_laying.proofs.Kept.{few_kept, kept, size_both, small_kept}

-- ---- how many custom components there may be

-- the named tags among so many from 128 on
abbrev named_upto : (ℕ → Bool) → ℕ → ℕ
named_upto named zero = 0
named_upto named (suc n) = cond (named (128 + n)) 1 0 + named_upto named n

upto_most : (named : ℕ → Bool) (n : ℕ) → named_upto named n ≤ n
upto_most named zero = omega arith
upto_most named (suc n) = let r = upto_most named n in by (named (128 + n)) r
  where
    by : (b : Bool) → named_upto named n ≤ n → cond b 1 0 + named_upto named n ≤ suc n
    by true r = omega arith
    by false r = omega arith

same_tag : (m n : ℕ) (b : Bool) → (m == n) ≡ false → ((m == n) || b) ≡ b
same_tag m n b e = rw e refl

upto_same : (named : ℕ → Bool) (c : Custom) (n : ℕ) → 128 + n ≤ c.tag → named_upto (and_that_of named c) n ≡ named_upto named n
upto_same named c zero h = refl
upto_same named c (suc n) h = grind (arith, nat_tests, same_tag, cond, upto_same named c n (omega arith))

upto_more : (named : ℕ → Bool) (c : Custom) (n : ℕ) → named c.tag ≡ false → 128 ≤ c.tag → c.tag < 128 + n
    → named_upto (and_that_of named c) n ≡ 1 + named_upto named n
upto_more named c zero e low high = absurd (omega arith)
upto_more named c (suc n) e low high = by (128 + n == c.tag) refl (λ h. upto_more named c n e low h)
  where
    by : (b : Bool) → (128 + n == c.tag) ≡ b → (c.tag < 128 + n → named_upto (and_that_of named c) n ≡ 1 + named_upto named n)
        → cond (and_that_of named c (128 + n)) 1 0 + named_upto (and_that_of named c) n ≡ 1 + (cond (named (128 + n)) 1 0 + named_upto named n)
    by true t more =
        let here : 128 + n ≡ c.tag = grind (arith, nat_tests) in
        let old : named (128 + n) ≡ false = ap named here ∙ e in
        let new : and_that_of named c (128 + n) ≡ true = rw t refl in
        let r = upto_same named c n (omega arith) in
        rw (new, old) (omega (arith, r))
    by false f more =
        let there : c.tag < 128 + n = grind (arith, nat_tests) in
        let r = more there in
        let first : and_that_of named c (128 + n) ≡ named (128 + n) = same_tag (128 + n) c.tag (named (128 + n)) f in
        rw first (omega (arith, r))

record IsNew (named : ℕ → Bool) (tag : ℕ) : Type 0 where
  high : 128 ≤ tag
  fresh : named tag ≡ false

new_tag : (named : ℕ → Bool) (tag : ℕ) → IsTrue (is_new_tag named tag) → IsNew named tag
new_tag named tag h = by (nat_le 128 tag) refl (named tag) refl h
  where
    by : (a : Bool) → nat_le 128 tag ≡ a → (b : Bool) → named tag ≡ b → IsTrue (a && not b) → IsNew named tag
    by true e false f h = record { high = grind (arith, nat_tests); fresh = f }
    by true e true f h = absurd (false≢true h)
    by false e b f h = absurd (false≢true h)

tag_new : (named : ℕ → Bool) (tag : ℕ) → 128 ≤ tag → named tag ≡ false → IsTrue (is_new_tag named tag)
tag_new named tag low fresh = by (nat_le 128 tag) (grind (arith, nat_tests)) (named tag) fresh
  where
    by : (a : Bool) → a ≡ true → (b : Bool) → b ≡ false → IsTrue (a && not b)
    by true e false f = refl
    by true e true f = absurd (false≢true (sym f))
    by false e b f = absurd (false≢true e)

customs_few : (named : ℕ → Bool) (cs : List Custom) → AreCustoms named cs → length cs + named_upto named 128 ≤ 128
customs_few named [] are = omega (arith, upto_most named 128)
customs_few named (c ∷ cs) are =
    let n = new_tag named c.tag are.0 in
    let m = upto_more named c 128 n.fresh n.high (omega (arith, are.1)) in
    let r = customs_few (and_that_of named c) cs are.4 in
    omega arith

pub few_customs : (cs : List Custom) → AreCustoms none cs → length cs ≤ 128
few_customs cs are = omega (arith, customs_few none cs are)

-- ---- their identifiers are short

aid_short : (n : ℕ) → IsTrue (is_aid_length n) → n ≤ 16
aid_short n h = grind (arith, nat_tests)

pub customs_short : (named : ℕ → Bool) (cs : List Custom) → AreCustoms named cs → AreShort cs
customs_short named [] are = tt
customs_short named (c ∷ cs) are = (aid_short (length c.aid) are.3, customs_short (and_that_of named c) cs are.4)

-- ---- the custom components that stay, and the target index

-- the tag 128 is not among those named, where an index is written
abbrev IsFree : IndexChange → (ℕ → Bool) → Type 0
IsFree Kept named = Unit {0}
IsFree Dropped named = Unit {0}
IsFree (Written size) named = named 128 ≡ false

-- each tag of the first is one of the second
abbrev IsWithin : (ℕ → Bool) → (ℕ → Bool) → Type 0
IsWithin named others = (tag : ℕ) → named tag ≡ true → others tag ≡ true

abbrev pub IsFit : IndexChange → Type 0
IsFit Kept = Unit {0}
IsFit Dropped = Unit {0}
IsFit (Written size) = size < 65536

fresh_within : (named others : ℕ → Bool) (tag : ℕ) → IsWithin named others → others tag ≡ false → named tag ≡ false
fresh_within named others tag within e = by (named tag) refl
  where
    by : (b : Bool) → named tag ≡ b → b ≡ false
    by false f = refl
    by true f = absurd (false≢true (sym e ∙ within tag f))

within_more : (named others : ℕ → Bool) (c : Custom) → IsWithin named others → IsWithin (and_that_of named c) (and_that_of others c)
within_more named others c within tag h = by (tag == c.tag) h
  where
    by : (b : Bool) → (b || named tag) ≡ true → (b || others tag) ≡ true
    by true h = refl
    by false h = within tag h

within_later : (named others : ℕ → Bool) (c : Custom) → IsWithin named others → IsWithin named (and_that_of others c)
within_later named others c within tag h = by (tag == c.tag) (within tag h)
  where
    by : (b : Bool) → others tag ≡ true → (b || others tag) ≡ true
    by true h = refl
    by false h = h

free_more : (change : IndexChange) (named : ℕ → Bool) (c : Custom) → IsFree change named → stays_in_index change c ≡ true
    → IsFree change (and_that_of named c)
free_more Kept named c free h = tt
free_more Dropped named c free h = tt
free_more (Written size) named c free h = by (c.tag == 128) refl h
  where
    by : (b : Bool) → (c.tag == 128) ≡ b → not b ≡ true → and_that_of named c 128 ≡ false
    by true e h = absurd (false≢true h)
    by false e h =
        let other : (128 == c.tag) ≡ false = grind (arith, nat_tests) in
        same_tag 128 c.tag (named 128) other ∙ free

entry_fits : (change : IndexChange) (named : ℕ → Bool) → IsFit change → IsFree change named → AreCustoms named (index_entry change)
entry_fits x named fit free = grind (arith, tag_new)

kept_fit : (change : IndexChange) (named others : ℕ → Bool) (cs : List Custom) → IsFit change → IsFree change named → IsWithin named others
    → AreCustoms others cs → AreCustoms named (kept change cs ++ index_entry change)
kept_fit change named others [] fit free within are = entry_fits change named fit free
kept_fit change named others (c ∷ cs) fit free within are =
    by (stays_in_index change c) refl
    (λ e. kept_fit change (and_that_of named c) (and_that_of others c) cs fit (free_more change named c free e) (within_more named others c within) are.4)
    (kept_fit change named (and_that_of others c) cs fit free (within_later named others c within) are.4)
  where
    by : (b : Bool) → stays_in_index change c ≡ b
        → (stays_in_index change c ≡ true → AreCustoms (and_that_of named c) (kept change cs ++ index_entry change))
        → AreCustoms named (kept change cs ++ index_entry change) → AreCustoms named (cond b (c ∷ kept change cs) (kept change cs) ++ index_entry change)
    by true e more rest =
        let n = new_tag others c.tag are.0 in
        let new = tag_new named c.tag n.high (fresh_within named others c.tag within n.fresh) in
        (new, are.1, are.2, are.3, more e)
    by false e more rest = rest

free_none : (change : IndexChange) → IsFree change none
free_none x = grind (arith)

entry_one : (change : IndexChange) → length (index_entry change) ≤ 1
entry_one x = grind (arith)

entry_small : (change : IndexChange) → customs_size (index_entry change) ≤ 10
entry_small x = grind (arith)

-- ---- the sizes

pub sizes_counted : (own : ℕ) (new : ComponentSizes) (tag : ℕ) (ss : List ℕ) → length (sizes_from own new tag ss) ≡ length ss
sizes_counted own new tag [] = refl
sizes_counted own new tag (s ∷ ss) = ap suc (sizes_counted own new (tag + 1) ss)

size_small : (own : ℕ) (new : ComponentSizes) (tag s : ℕ) → own < 65536 → new.methods < 65536 → new.references < 65536 → s < 65536
    → new_size own new tag s < 65536
size_small own new tag s o m r h = by (tag == 2) (tag == 7) (tag == 9) (tag == 12)
  where
    by : (a b c d : Bool) → cond a own (cond b new.methods (cond c new.references (cond d 0 s))) < 65536
    by true b c d = o
    by false true c d = m
    by false false true d = r
    by false false false true = omega arith
    by false false false false = h

sizes_small : (own : ℕ) (new : ComponentSizes) (tag : ℕ) (ss : List ℕ) → own < 65536 → new.methods < 65536 → new.references < 65536
    → AreSmall ss → AreSmall (sizes_from own new tag ss)
sizes_small own new tag [] o m r h = tt
sizes_small own new tag (s ∷ ss) o m r h = (size_small own new tag s o m r h.0, sizes_small own new (tag + 1) ss o m r h.1)

sizes_few : (format : Format) → size_count format ≤ 12
sizes_few x = grind (arith)

pub own_small : (format : Format) (new : ComponentSizes) (d : DirectoryItems) → MayStand format d → own_size new d ≤ 5000
own_small format new d m = grind (arith, few_customs, small_kept, customs_short, size_both, entry_small, sizes_few)

pub new_may_stand : (format : Format) (new : ComponentSizes) (d : DirectoryItems) → MayStand format d → new.methods < 65536 → new.references < 65536
    → IsFit new.index → MayStand format (new_directory new d)
new_may_stand format new d m a b fit =
    let own = own_small format new d m in
    let few = few_customs d.customs m.customs in
    let kept_few = few_kept new.index d.customs in
    let one = entry_one new.index in
    record {
      counted = sizes_counted (own_size new d) new 1 d.sizes ∙ m.counted;
      sizes = sizes_small (own_size new d) new 1 d.sizes (omega arith) a b m.sizes;
      image_size = m.image_size;
      array_init_count = m.array_init_count;
      array_init_size = m.array_init_size;
      import_count = m.import_count;
      applet_count = m.applet_count;
      few = omega (arith, length-append (kept new.index d.customs) (index_entry new.index));
      customs = kept_fit new.index none none d.customs fit (free_none new.index) (λ tag h. h) m.customs;
    }

-- ---- how long it is

bytes_long : (ns : List ℕ) → length (flat_map (big_bytes 2) ns) ≡ 2 * length ns
bytes_long [] = refl
bytes_long (n ∷ ns) = let r = bytes_long ns in omega (arith, length-append (big_bytes 2 n) (flat_map (big_bytes 2) ns))

customs_long : (cs : List Custom) → length (flat_map custom_bytes cs) ≡ customs_size cs
customs_long [] = refl
customs_long (c ∷ cs) = let r = customs_long cs in omega (arith, length-append (custom_bytes c) (flat_map custom_bytes cs))

pub directory_long : (d : DirectoryItems) → length (directory_bytes d) ≡ 2 * length d.sizes + 9 + customs_size d.customs
unfolding directory_bytes
directory_long d = grind (arith, bytes_long, customs_long, length-append, length)

pub new_long : (new : ComponentSizes) (d : DirectoryItems) → length (directory_bytes (new_directory new d)) ≡ own_size new d
new_long new d = omega (arith, directory_long (new_directory new d), sizes_counted (own_size new d) new 1 d.sizes)
