-- A Load file is one of one list of parts, and no byte of it shows a fault.
use Rattle.std.proofs.Common.{◌≡◌, ℕ, ◌<◌, true, false, List, [], ◌∷◌, ◌++◌, length, map, IsNone, IsSome, refl, sym}
use Rattle.std.proofs.Common.{ap, subst, ◌∙◌, arith, length-append, append_assoc}
use Rattle.std.specs.List.{AllByRecursion, concat}
use Rattle.cap_components.specs.Parts.{Lent}
use Rattle.cap_load.specs.declared.fault.StreamFault.{StreamFault}
use Rattle.cap_load.specs.declared.fault.StreamFault.TheVariants.{NoTag, Order, Full, AfterEnd, Unfinished}
use Rattle.cap_load.specs.Order.{place, comes_before, InOrder}
use Rattle.cap_load.specs.LoadFile.{IsBlock, IsFile, in_blocks, stream_of, tag_of, files_of, IsLoadFile, IsLoadFileWithin}
use Rattle.cap_load.specs.Fault.{GoesOn, Begins, Shows, Faultless}
use Rattle.cap_load.specs.Laws.{OneList, NotBoth}
use Rattle.cap_load.proofs.Splits.{fronts_same, one_split, one_parse, same_file}
use Rattle.cap_load.proofs.Faults.{not_faultless}

pub one_list : OneList
one_list bytes parts others a b =
    let split = one_split a.blocks b.blocks (0 ∷ []) (0 ∷ []) a.each b.each (λ h. absurd (omega arith)) (λ h. absurd (omega arith))
    (sym a.whole ∙ b.whole) in
    let joined : concat a.blocks ≡ concat b.blocks = ap concat split.0 in
    one_parse parts others a.files.each b.files.each (sym a.files.whole ∙ joined ∙ b.files.whole)

-- a list that reaches beyond what is a front of it
longer : (c x got after : List ℕ) (byte : ℕ) → c ++ x ≡ got ++ byte ∷ after → length got < length c → (m : List ℕ) × (c ≡ got ++ byte ∷ m)
longer [] x got after byte e l = absurd (omega arith)
longer (z ∷ c) x [] after byte e l = (c, let first : z ≡ byte = cc in ap (λ (n : ℕ). n ∷ c) first)
longer (z ∷ c) x (w ∷ got) after byte e l =
    let rest : c ++ x ≡ got ++ byte ∷ after = cc in
    let first : z ≡ w = cc in
    let found = longer c x got after byte rest (omega arith) in
    let is : c ≡ got ++ byte ∷ found.0 = found.1 in
    (found.0, cc)

-- a byte in a block is one of the contents
inside : (cs bs : List (List ℕ)) (size byte : ℕ) (got after : List ℕ) → AllByRecursion IsBlock cs → AllByRecursion IsBlock bs → length got < size
    → in_blocks cs ++ 0 ∷ [] ≡ in_blocks bs ++ size ∷ (got ++ byte ∷ after) → (rest : List ℕ)
    × (concat cs ≡ concat bs ++ (got ++ byte ∷ rest))
inside [] [] size byte got after bc bb l e = let none : 0 ≡ size = cc in absurd (omega arith)
inside [] (b ∷ bs) size byte got after bc bb l e = grind (arith)
inside (c ∷ cs) [] size byte got after bc bb l e =
    let long : length c ≡ size = cc in
    let contents : (c ++ in_blocks cs) ++ 0 ∷ [] ≡ got ++ byte ∷ after = cc in
    let found = longer c (in_blocks cs ++ 0 ∷ []) got after byte (sym (append_assoc c (in_blocks cs) (0 ∷ [])) ∙ contents) (omega arith) in
    (found.0 ++ concat cs, ap (λ (x : List ℕ). x ++ concat cs) found.1 ∙ append_assoc got (byte ∷ found.0) (concat cs))
inside (c ∷ cs) (b ∷ bs) size byte got after bc bb l e =
    let long : length c ≡ length b = cc in
    let contents : (c ++ in_blocks cs) ++ 0 ∷ [] ≡ (b ++ in_blocks bs) ++ size ∷ (got ++ byte ∷ after) = cc in
    let first = fronts_same c b (in_blocks cs ++ 0 ∷ []) (in_blocks bs ++ size ∷ (got ++ byte ∷ after)) long
    (sym (append_assoc c (in_blocks cs) (0 ∷ [])) ∙ contents ∙ append_assoc b (in_blocks bs) (size ∷ (got ++ byte ∷ after))) in
    let rest = inside cs bs size byte got after bc.1 bb.1 l first.1 in
    let same : c ≡ b = first.0 in
    let is : concat cs ≡ concat bs ++ (got ++ byte ∷ rest.0) = rest.1 in
    (rest.0, ap (λ (x : List ℕ). x ++ concat cs) same ∙ ap (λ (x : List ℕ). b ++ x) is ∙ sym (append_assoc b (concat bs) (got ++ byte ∷ rest.0)))

-- the byte that comes after a front of a Load file is the one after a front of its contents
among : (cs : List (List ℕ)) (before contents after : List ℕ) (byte : ℕ) → AllByRecursion IsBlock cs → GoesOn before contents
    → stream_of cs ≡ before ++ byte ∷ after → (rest : List ℕ) × (concat cs ≡ contents ++ byte ∷ rest)
among cs before contents after byte each g e =
    let split : in_blocks cs ++ 0 ∷ [] ≡ in_blocks g.blocks ++ g.size ∷ (g.got ++ byte ∷ after) =
    e ∙ ap (λ (x : List ℕ). x ++ byte ∷ after) g.whole ∙ append_assoc (in_blocks g.blocks) (g.size ∷ g.got) (byte ∷ after) in
    let found = inside cs g.blocks g.size byte g.got after each g.each g.more split in
    (found.0, found.1 ∙ sym (append_assoc (concat g.blocks) g.got (byte ∷ found.0)) ∙ ap (λ (x : List ℕ). x ++ byte ∷ found.0) (sym g.joined))

-- a part that begins after others
record Next (parts before : List Lent) (byte : ℕ) : Type 0 where
  part : Lent
  others : List Lent
  whole : parts ≡ before ++ part ∷ others
  begins : part.part ≡ byte

first_cell : (q : Lent) (x rest : List ℕ) (byte : ℕ) → IsFile q → q.bytes ++ x ≡ byte ∷ rest → q.part ≡ byte
first_cell q x rest byte f e = grind (arith)

next_part : (parts before : List Lent) (rest : List ℕ) (byte : ℕ) → AllByRecursion IsFile parts → AllByRecursion IsFile before
    → files_of parts ≡ files_of before ++ byte ∷ rest → Next parts before byte
next_part [] [] rest byte fp fb e = absurd (cc)
next_part [] (b ∷ bs) rest byte fp fb e = absurd (let none = ap length e in omega (arith, length-append (b.bytes ++ files_of bs) (byte ∷ rest)))
next_part (p ∷ ps) [] rest byte fp fb e = record { part = p; others = ps; whole = refl; begins = first_cell p (files_of ps) rest byte fp.0 e }
next_part (p ∷ ps) (b ∷ bs) rest byte fp fb e =
    let first = same_file p b (files_of ps) (files_of bs ++ byte ∷ rest) fp.0 fb.0 (e ∙ append_assoc b.bytes (files_of bs) (byte ∷ rest)) in
    let next = next_part ps bs rest byte fp.1 fb.1 first.1 in
    let same : p ≡ b = first.0 in
    let is = next.whole in
    record { part = next.part; others = next.others; whole = cc; begins = next.begins }

placed : (before others : List Lent) (p : Lent) → InOrder (map tag_of (before ++ p ∷ others)) → IsSome (place p.part)
placed [] others p o = o.0
placed (b ∷ bs) others p o = placed bs others p o.2

pub later : (others bs : List Lent) (p : Lent) (tag : ℕ) → AllByRecursion (λ t. comes_before tag t ≡ true) (map tag_of (bs ++ p ∷ others))
    → comes_before tag p.part ≡ true
later others [] p tag a = a.0
later others (b ∷ bs) p tag a = later others bs p tag a.1

ordered : (before others : List Lent) (last p : Lent) → InOrder (map tag_of ((before ++ last ∷ []) ++ p ∷ others))
    → comes_before last.part p.part ≡ true
ordered [] others last p o = o.1.0
ordered (b ∷ bs) others last p o = ordered bs others last p o.2

-- in a Load file, the part that begins where one does
begins_part : (bytes before after : List ℕ) (byte : ℕ) (parts front : List Lent) → IsLoadFile bytes parts → Begins before front
    → bytes ≡ before ++ byte ∷ after → Next parts front byte
begins_part bytes before after byte parts front s b e =
    let found = among s.blocks before (files_of front) after byte s.each b.goes_on (sym s.whole ∙ e) in
    next_part parts front found.0 byte s.files.each b.each (sym s.files.whole ∙ found.1)

no_fault : (room : ℕ) (bytes : List ℕ) (parts : List Lent) → IsLoadFileWithin room bytes parts
    → (before after : List ℕ) (byte : ℕ) (fault : StreamFault)
    → bytes ≡ before ++ byte ∷ after → Shows room before byte fault → ⊥
no_fault room bytes parts s before after byte (NoTag tag) e shown =
    let next = begins_part bytes before after byte parts shown.2.0 s.loads shown.2.1 e in
    let there : IsSome (place next.part.part) = placed shown.2.0 next.others next.part
    (subst (λ (ps : List Lent). InOrder (map tag_of ps)) next.whole s.loads.files.order) in
    not_placed tag next.part.part (shown.0 ∙ sym next.begins) shown.1 there
  where
    not_placed : (a b : ℕ) → a ≡ b → IsNone (place a) → IsSome (place b) → ⊥
    not_placed a b e n s = absurd (let there : IsSome (place a) = subst (λ (t : ℕ). IsSome (place t)) (sym e) s in grind arith)
no_fault room bytes parts s before after byte (Order first second) e shown =
    let f = shown.2 in
    let next = begins_part bytes before after byte parts (f.parts ++ f.last ∷ []) s.loads f.begins e in
    let comes : comes_before f.last.part next.part.part ≡ true =
    ordered f.parts next.others f.last next.part (subst (λ (ps : List Lent). InOrder (map tag_of ps)) next.whole s.loads.files.order) in
    let a : first ≡ f.last.part = f.is_last in
    let b : second ≡ next.part.part = shown.0 ∙ sym next.begins in
    let not : comes_before first second ≡ false = shown.1 in
    absurd (cc)
no_fault room bytes parts s before after byte (Full n) e shown =
    grind (arith, among s.loads.blocks before shown.1.0 after byte s.loads.each shown.1.1 (sym s.loads.whole ∙ e), length-append)
no_fault room bytes parts s before after byte AfterEnd e shown =
    let split : in_blocks s.loads.blocks ++ 0 ∷ [] ≡ in_blocks shown.blocks ++ (0 ∷ (shown.more ++ byte ∷ after)) =
    sym s.loads.whole ∙ e ∙ ap (λ (x : List ℕ). x ++ byte ∷ after) shown.whole
    ∙ append_assoc (stream_of shown.blocks) shown.more (byte ∷ after) ∙ append_assoc (in_blocks shown.blocks) (0 ∷ []) (shown.more ++ byte ∷ after) in
    let rests = (one_split s.loads.blocks shown.blocks (0 ∷ []) (0 ∷ (shown.more ++ byte ∷ after)) s.loads.each shown.each
    (λ h. absurd (omega arith)) (λ h. absurd (omega arith)) split).1 in
    let lengths = ap length rests in
    omega (arith, length-append shown.more (byte ∷ after))
no_fault room bytes parts s before after byte Unfinished e shown = shown

pub faultless : (room : ℕ) (bytes : List ℕ) (parts : List Lent) → IsLoadFileWithin room bytes parts → Faultless room bytes
faultless room bytes parts s = no_fault room bytes parts s

pub not_both : NotBoth
not_both room bytes parts (NoTag t) s r = not_faultless room bytes (NoTag t) r (faultless room bytes parts s)
not_both room bytes parts (Order a b) s r = not_faultless room bytes (Order a b) r (faultless room bytes parts s)
not_both room bytes parts (Full n) s r = not_faultless room bytes (Full n) r (faultless room bytes parts s)
not_both room bytes parts AfterEnd s r = not_faultless room bytes AfterEnd r (faultless room bytes parts s)
not_both room bytes parts Unfinished s r = r.1 s.loads.blocks parts s.loads.each s.loads.files.each s.loads.whole s.loads.files.whole
