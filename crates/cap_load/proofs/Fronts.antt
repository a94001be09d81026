-- What stands behind whole blocks, with one byte more.
use Rattle.std.proofs.Common.{◌≡◌, ℕ, zero, suc, ◌+◌, ◌-◌, ◌<◌, List, [], ◌∷◌, ◌++◌, length, refl, sym, ap, ◌∙◌}
use Rattle.std.proofs.Common.{arith, length-append, append_assoc}
use Rattle.std.proofs.lemmas.List.{append-nil}
use Rattle.std.proofs.lemmas.List.Concat.{flat_map-append}
use Rattle.std.proofs.lemmas.List.Folds.{concat-append}
use Rattle.std.proofs.lemmas.Bool.{eqb-true, eqb-false, cond_both}
use Rattle.std.specs.Prelude.{◌==◌}
use Rattle.std.specs.List.{AllByRecursion, concat}
use Rattle.cap_load.specs.declared.loader.Block.{Block}
use Rattle.cap_load.specs.declared.loader.Block.TheVariants.{Left, Ended}
use Rattle.cap_load.specs.LoadFile.{block, IsBlock, in_blocks}
use Rattle.cap_load.specs.Fault.{GoesOn, HasEnded}
use Rattle.cap_load.specs.Loaded.{IsLeft, IsFront}
use Rattle.cap_load.specs.Taking.{opened}
use Rattle.cap_load.proofs.Splits.{IsRest, one_split}
use Rattle.cap_load.proofs.Orders.{all_push}

rest_is : (at : Block) (rest got : List ℕ) → IsLeft at rest got → IsRest rest
rest_is x rest got l = grind (arith)

-- in a block the next byte is one of the contents
pub goes_on : (n : ℕ) (bytes contents : List ℕ) → IsFront (Left n) bytes contents → 0 < n → GoesOn bytes contents
goes_on n bytes contents f h = grind (arith)

-- between blocks, or after the ending
abbrev pub IsIdle : Block → Type 0
IsIdle (Left n) = n ≡ 0
IsIdle Ended = Unit {0}

no_content : (at : Block) (rest got cells : List ℕ) (size : ℕ) → IsLeft at rest got → IsIdle at → rest ≡ size ∷ cells → length cells < size
    → ⊥
no_content x rest got cells size l i e h = grind (arith)

pub not_goes_on : (at : Block) (bytes contents c : List ℕ) → IsFront at bytes contents → IsIdle at → GoesOn bytes c → ⊥
not_goes_on at bytes contents c f i g =
    let split = one_split f.blocks g.blocks f.rest (g.size ∷ g.got) f.each g.each (rest_is at f.rest f.got f.left) (λ _. g.more) (sym f.whole ∙ g.whole) in
    no_content at f.rest f.got g.got g.size f.left i split.1 g.more

ended_whole : (bytes : List ℕ) (h : HasEnded bytes) → bytes ≡ in_blocks h.blocks ++ (0 ∷ h.more)
ended_whole bytes h = h.whole ∙ append_assoc (in_blocks h.blocks) (0 ∷ []) h.more

no_ending : (n : ℕ) (rest got more : List ℕ) → IsLeft (Left n) rest got → rest ≡ 0 ∷ more → ⊥
no_ending n y got more l e = grind (arith)

pub not_ended : (n : ℕ) (bytes contents : List ℕ) → IsFront (Left n) bytes contents → HasEnded bytes → ⊥
not_ended n bytes contents f h =
    let split = one_split f.blocks h.blocks f.rest (0 ∷ h.more) f.each h.each (rest_is (Left n) f.rest f.got f.left)
    (λ k. absurd (omega arith)) (sym f.whole ∙ ended_whole bytes h) in
    no_ending n f.rest f.got h.more f.left split.1

pub goes_not_ended : (bytes c : List ℕ) → GoesOn bytes c → HasEnded bytes → ⊥
goes_not_ended bytes c g h =
    let split = one_split g.blocks h.blocks (g.size ∷ g.got) (0 ∷ h.more) g.each h.each (λ _. g.more) (λ k. absurd (omega arith))
    (sym g.whole ∙ ended_whole bytes h) in
    let rest : (g.size ∷ g.got) ≡ (0 ∷ h.more) = split.1 in
    let none : g.size ≡ 0 = cc in
    let some = g.more in
    omega arith

pub has_ended : (bytes contents : List ℕ) → IsFront Ended bytes contents → HasEnded bytes
has_ended bytes contents f = grind (arith, append-nil)

-- a byte behind a front
behind : (blocks : List (List ℕ)) (rest bytes : List ℕ) (byte : ℕ) → bytes ≡ in_blocks blocks ++ rest
    → bytes ++ byte ∷ [] ≡ in_blocks blocks ++ (rest ++ byte ∷ [])
behind blocks rest bytes byte e = ap (λ (x : List ℕ). x ++ byte ∷ []) e ∙ append_assoc (in_blocks blocks) rest (byte ∷ [])

open_by : (n byte : ℕ) (blocks : List (List ℕ)) (rest got bytes contents : List ℕ) → AllByRecursion IsBlock blocks
    → bytes ≡ in_blocks blocks ++ rest
    → contents ≡ concat blocks ++ got → IsLeft (Left n) rest got → n ≡ 0 → byte < 256 → IsFront (opened byte) (bytes ++ byte ∷ []) contents
open_by n byte blocks (s ∷ bs) got bytes contents each whole joined l h few = let some : 0 < n = l.1 in absurd (omega arith)
open_by n byte blocks [] got bytes contents each whole joined l h few = cond_both (byte == 0) Ended (Left byte)
    (λ (at : Block). IsFront at (bytes ++ byte ∷ []) contents)
    (λ e. let none : byte ≡ 0 = eqb-true byte 0 e in record {
      blocks = blocks;
      rest = byte ∷ [];
      got = got;
      each = each;
      whole = behind blocks [] bytes byte whole;
      joined = joined;
      left = (ap (λ (b : ℕ). b ∷ []) none, l.1);
    })
    (λ e. let some : byte ≡ 0 → ⊥ = eqb-false byte 0 e in record {
      blocks = blocks;
      rest = byte ∷ [];
      got = got;
      each = each;
      whole = behind blocks [] bytes byte whole;
      joined = joined;
      left = (l.1, omega arith, omega arith, few);
    })

-- between blocks: a length or the ending
pub front_open : (n byte : ℕ) (bytes contents : List ℕ) → IsFront (Left n) bytes contents → n ≡ 0 → byte < 256
    → IsFront (opened byte) (bytes ++ byte ∷ []) contents
front_open n byte bytes contents f h few = open_by n byte f.blocks f.rest f.got bytes contents f.each f.whole f.joined f.left h few

-- the last byte of a block
closed : (size byte : ℕ) (blocks : List (List ℕ)) (cells bytes contents : List ℕ) → AllByRecursion IsBlock blocks
    → bytes ≡ in_blocks blocks ++ (size ∷ cells) → contents ≡ concat blocks ++ cells → length cells + 1 ≡ size → size < 256
    → IsFront (Left 0) (bytes ++ byte ∷ []) (contents ++ byte ∷ [])
closed size byte blocks cells bytes contents each whole joined sum few =
    let content : List ℕ = cells ++ byte ∷ [] in
    let long : length content ≡ size = omega (arith, length-append cells (byte ∷ [])) in
    let one : in_blocks (blocks ++ content ∷ []) ≡ in_blocks blocks ++ (size ∷ content) =
    flat_map-append block blocks (content ∷ []) ∙ ap (λ (x : List ℕ). in_blocks blocks ++ x) (append-nil (block content))
    ∙ ap (λ (n : ℕ). in_blocks blocks ++ (n ∷ content)) long in
    let all : concat (blocks ++ content ∷ []) ≡ concat blocks ++ content =
    concat-append blocks (content ∷ []) ∙ ap (λ (x : List ℕ). concat blocks ++ x) (append-nil content) in
    record {
      blocks = blocks ++ content ∷ [];
      rest = [];
      got = [];
      each = all_push IsBlock blocks content each (omega arith, omega arith);
      whole = behind blocks (size ∷ cells) bytes byte whole ∙ sym one ∙ sym (append-nil (in_blocks (blocks ++ content ∷ [])));
      joined = grind (arith, append_assoc, append-nil);
      left = (refl, refl);
    }

more_by : (n byte : ℕ) (blocks : List (List ℕ)) (rest got bytes contents : List ℕ) → AllByRecursion IsBlock blocks
    → bytes ≡ in_blocks blocks ++ rest
    → contents ≡ concat blocks ++ got → IsLeft (Left (suc n)) rest got → IsFront (Left n) (bytes ++ byte ∷ []) (contents ++ byte ∷ [])
more_by n byte blocks [] got bytes contents each whole joined l = let none : suc n ≡ 0 = l.0 in absurd (omega arith)
more_by zero byte blocks (size ∷ cells) got bytes contents each whole joined l = grind (arith, closed)
more_by (suc n) byte blocks (size ∷ cells) got bytes contents each whole joined l = grind (arith, suc, append_assoc, length-append)

-- a byte of a block
pub front_more : (n byte : ℕ) (bytes contents : List ℕ) → IsFront (Left n) bytes contents → 0 < n
    → IsFront (Left (n - 1)) (bytes ++ byte ∷ []) (contents ++ byte ∷ [])
front_more zero byte bytes contents f h = absurd (omega arith)
front_more (suc n) byte bytes contents f h = grind (arith, suc, more_by)
