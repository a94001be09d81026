-- The methods of a package may be written.
use Rattle.std.proofs.Common.{◌≡◌, ◌≤◌, ◌<◌, ◌+◌, ℕ, zero, suc, Bool, true, false, cond, leb, List, [], ◌∷◌, ◌++◌, length, drop}
use Rattle.std.proofs.Common.{map, Option, Some, None, refl, sym, ap, ◌∙◌, arith}
use Rattle.std.proofs.lemmas.List.{length-take}
use Rattle.cap_bytes.specs.Number.{number_at}
use Rattle.cap_desc.specs.DescriptorFormat.{MethodDescriptor, ClassDescriptor}
use Rattle.cap_desc.specs.Members.{methods_but}
use Rattle.cap_components.specs.MethodPlaces.{size_by}
use Rattle.cap_components.specs.Parts.{Lent}
use Rattle.cap_components.specs.PackageRecord.{PackageRecord}
use Rattle.cap_package.specs.StandsFor.{StandsFor}
use Rattle.jc_decode.specs.declared.symbols.Laid.{Laid}
use Rattle.cap_laying.specs.declared.member.Body.{Body}
use Rattle.cap_laying.specs.declared.member.WrittenMember.{WrittenMember}
use Rattle.cap_laying.specs.Blocks.{total_handlers}
use Rattle.cap_laying.specs.Member.{handlers_of}
use Rattle.cap_laying.specs.Members.{IsAlone, AreApart, HasHandlersInside, AreMembers, MayBeWritten}
use Rattle.cap_laying.specs.NewPlaces.{IsSmallBody}
use Rattle.law_package.specs.Written.{lead_bytes}
use Rattle.cap_write.specs.Described.{SeenBody, code, lead, SeenMember, body_seen}
use Rattle.cap_write.specs.Described.{member_seen, seen_body, first_of_them, others_of_them, seen_methods}
use Rattle.cap_write.specs.Described.{seen_classes, seen_package}
use Rattle.cap_write.specs.Condition.{handler_sum, MayBeLaid}
use Rattle.cap_write.proofs.LaidWell.{IsLaidWell, AreLaidWell, laid_well}
use Rattle.cap_write.proofs.Apart.{AllEnd, IsNone, AreDistinct, offset_of, all_end, all_apart}

-- ---- what is seen of each

abbrev IsGood : SeenBody → Type 0
IsGood (code laid) = IsLaidWell laid
IsGood (lead header) = length header ≤ 4

record IsGoodMember (size : ℕ) (s : SeenMember) : Type 0 where
  within : s.offset < size
  good : IsGood s.body

abbrev AreGood : ℕ → List SeenMember → Type 0
AreGood size [] = Unit {0}
AreGood size (s ∷ ss) = IsGoodMember size s × AreGood size ss

abbrev IsLaidIf : Option Laid → Type 0
IsLaidIf None = Unit {0}
IsLaidIf (Some l) = IsLaidWell l

first_laid : (ls : List (Option Laid)) → AreLaidWell ls → IsLaidIf (first_of_them ls)
first_laid x h = grind (arith)

others_laid : (ls : List (Option Laid)) → AreLaidWell ls → AreLaidWell (others_of_them ls)
others_laid x h = grind (arith)

drop_laid : (n : ℕ) (ls : List (Option Laid)) → AreLaidWell ls → AreLaidWell (drop n ls)
drop_laid zero ls h = h
drop_laid (suc n) [] h = tt
drop_laid (suc n) (None ∷ ls) h = drop_laid n ls h
drop_laid (suc n) (Some l ∷ ls) h = drop_laid n ls h.1

size_four : (o : Option ℕ) → size_by o ≤ 4
size_four None = omega arith
size_four (Some first) = by (leb 128 first)
  where
    by : (b : Bool) → cond b 4 2 ≤ 4
    by true = omega arith
    by false = omega arith

lead_short : (info : List ℕ) (offset : ℕ) → length (lead_bytes info offset) ≤ 4
unfolding lead_bytes
lead_short info offset = omega (arith, length-take (size_by (number_at 1 offset info)) (drop offset info), size_four (number_at 1 offset info))

good_body : (info : List ℕ) (offset : ℕ) (l : Option Laid) → IsLaidIf l → IsGood (seen_body info offset l)
good_body info offset z h = grind (arith, lead_short)

good_methods : (info : List ℕ) (ms : List MethodDescriptor) (ls : List (Option Laid)) → AllEnd info ms → AreLaidWell ls
    → AreGood (length info) (seen_methods info ms ls)
good_methods info [] ls ends laid = tt
good_methods info (m ∷ ms) ls ends laid =
    grind (arith, good_body, first_laid, others_laid, good_methods info ms (others_of_them ls) ends.1 (others_laid ls laid))

good_both : (size : ℕ) (xs ys : List SeenMember) → AreGood size xs → AreGood size ys → AreGood size (xs ++ ys)
good_both size [] ys a b = b
good_both size (x ∷ xs) ys a b = (a.0, good_both size xs ys a.1 b)

end_front : (info : List ℕ) (xs ys : List MethodDescriptor) → AllEnd info (xs ++ ys) → AllEnd info xs × AllEnd info ys
end_front info [] ys h = (tt, h)
end_front info (x ∷ xs) ys h = let r = end_front info xs ys h.1 in ((h.0, r.0), r.1)

good_classes : (set : ℕ → Bool) (info : List ℕ) (cs : List ClassDescriptor) (ls : List (Option Laid)) → AllEnd info (methods_but set cs)
    → AreLaidWell ls → AreGood (length info) (seen_classes set info cs ls)
good_classes set info [] ls ends laid = tt
good_classes set info (c ∷ cs) ls ends laid =
    by (set c.class_ref) ends (λ e. good_classes set info cs (drop (length c.methods) ls) e (drop_laid (length c.methods) ls laid))
  where
    by : (b : Bool) → AllEnd info (cond b (methods_but set cs) (c.methods ++ methods_but set cs))
        → (AllEnd info (methods_but set cs) → AreGood (length info) (seen_classes set info cs (drop (length c.methods) ls)))
        → AreGood (length info) (cond b [] (seen_methods info c.methods ls) ++ seen_classes set info cs (drop (length c.methods) ls))
    by true e rest = rest e
    by false e rest =
        let f = end_front info c.methods (methods_but set cs) e in good_both (length info) (seen_methods info c.methods ls)
        (seen_classes set info cs (drop (length c.methods) ls)) (good_methods info c.methods ls f.0 laid) (rest f.1)

-- ---- their offsets

abbrev pub seen_offset : SeenMember → ℕ
seen_offset s = s.offset

map_both : {X Y : Type 0} (f : X → Y) (xs ys : List X) → map f (xs ++ ys) ≡ map f xs ++ map f ys
map_both f [] ys = refl
map_both f (x ∷ xs) ys = ap (λ zs. f x ∷ zs) (map_both f xs ys)

offsets_methods : (info : List ℕ) (ms : List MethodDescriptor) (ls : List (Option Laid)) → map seen_offset (seen_methods info ms ls) ≡ map offset_of ms
offsets_methods info [] ls = refl
offsets_methods info (m ∷ ms) ls = ap (λ os. m.method_offset ∷ os) (offsets_methods info ms (others_of_them ls))

pub offsets_classes : (set : ℕ → Bool) (info : List ℕ) (cs : List ClassDescriptor) (ls : List (Option Laid))
    → map seen_offset (seen_classes set info cs ls) ≡ map offset_of (methods_but set cs)
offsets_classes set info [] ls = refl
offsets_classes set info (c ∷ cs) ls = by (set c.class_ref) (offsets_classes set info cs (drop (length c.methods) ls))
  where
    by : (b : Bool) → map seen_offset (seen_classes set info cs (drop (length c.methods) ls)) ≡ map offset_of (methods_but set cs)
        → map seen_offset (cond b [] (seen_methods info c.methods ls) ++ seen_classes set info cs (drop (length c.methods) ls))
        ≡ map offset_of (cond b (methods_but set cs) (c.methods ++ methods_but set cs))
    by true rest = rest
    by false rest =
        map_both seen_offset (seen_methods info c.methods ls) (seen_classes set info cs (drop (length c.methods) ls))
        ∙ ap (λ os. os ++ map seen_offset (seen_classes set info cs (drop (length c.methods) ls))) (offsets_methods info c.methods ls)
        ∙ ap (λ os. map offset_of c.methods ++ os) rest ∙ sym (map_both offset_of c.methods (methods_but set cs))

-- ---- how many handlers they have

abbrev seen_count : SeenBody → ℕ
seen_count (code laid) = length laid.handlers
seen_count (lead header) = 0

abbrev seen_total : List SeenMember → ℕ
seen_total [] = 0
seen_total (s ∷ ss) = seen_count s.body + seen_total ss

abbrev laid_count : Option Laid → ℕ
laid_count None = 0
laid_count (Some l) = length l.handlers

count_at : (info : List ℕ) (offset : ℕ) (l : Option Laid) → seen_count (seen_body info offset l) ≡ laid_count l
count_at info offset z = grind (arith)

sum_first : (l : Option Laid) (ls : List (Option Laid)) → handler_sum (l ∷ ls) ≡ laid_count l + handler_sum ls
sum_first x ls = grind (arith)

drop_none : (n : ℕ) → drop {A = Option Laid} n [] ≡ []
drop_none zero = refl
drop_none (suc n) = refl

total_methods : (info : List ℕ) (ms : List MethodDescriptor) (ls : List (Option Laid))
    → seen_total (seen_methods info ms ls) + handler_sum (drop (length ms) ls) ≤ handler_sum ls
total_methods info [] ls = omega arith
total_methods info (m ∷ ms) [] = grind (arith, drop_none, total_methods info ms [])
total_methods info (m ∷ ms) (l ∷ ls) = grind (arith, count_at, sum_first, total_methods info ms ls)

total_both : (xs ys : List SeenMember) → seen_total (xs ++ ys) ≡ seen_total xs + seen_total ys
total_both [] ys = omega arith
total_both (x ∷ xs) ys = let r = total_both xs ys in omega arith

drop_less : (n : ℕ) (ls : List (Option Laid)) → handler_sum (drop n ls) ≤ handler_sum ls
drop_less zero ls = omega arith
drop_less (suc n) [] = omega arith
drop_less (suc n) (l ∷ ls) = let r = drop_less n ls in let s = sum_first l ls in omega arith

total_classes : (set : ℕ → Bool) (info : List ℕ) (cs : List ClassDescriptor) (ls : List (Option Laid))
    → seen_total (seen_classes set info cs ls) ≤ handler_sum ls
total_classes set info [] ls = omega arith
total_classes set info (c ∷ cs) ls = by (set c.class_ref) (total_classes set info cs (drop (length c.methods) ls))
  where
    by : (b : Bool) → seen_total (seen_classes set info cs (drop (length c.methods) ls)) ≤ handler_sum (drop (length c.methods) ls)
        → seen_total (cond b [] (seen_methods info c.methods ls) ++ seen_classes set info cs (drop (length c.methods) ls)) ≤ handler_sum ls
    by true rest = let d = drop_less (length c.methods) ls in omega arith
    by false rest =
        let t = total_methods info c.methods ls in
        let s = total_both (seen_methods info c.methods ls) (seen_classes set info cs (drop (length c.methods) ls)) in
        omega arith

-- ---- the members that are seen so

small_good : (b : Body) → IsGood (body_seen b) → IsSmallBody b × HasHandlersInside b
small_good x h = grind (arith)

members_of : (size : ℕ) (ms : List WrittenMember) → AreGood size (map member_seen ms) → AreMembers size ms
members_of size [] h = tt
members_of size (m ∷ ms) h = grind (arith, small_good, members_of size ms h.1)

alone_of : (o : ℕ) (ms : List WrittenMember) → IsNone o (map seen_offset (map member_seen ms)) → IsAlone o ms
alone_of o [] h = tt
alone_of o (m ∷ ms) h = (h.0, alone_of o ms h.1)

apart_of : (ms : List WrittenMember) → AreDistinct (map seen_offset (map member_seen ms)) → AreApart ms
apart_of [] h = tt
apart_of (m ∷ ms) h = (alone_of m.offset ms h.0, apart_of ms h.1)

count_of : (b : Body) → length (handlers_of b) ≡ seen_count (body_seen b)
count_of x = grind (arith)

total_of : (ms : List WrittenMember) → total_handlers ms ≡ seen_total (map member_seen ms)
total_of [] = refl
total_of (m ∷ ms) = let c = count_of m.body in let r = total_of ms in omega arith

pub may_be_written : (parts : List Lent) (p : PackageRecord) (ls : List (Option Laid)) (ms : List WrittenMember) → StandsFor parts p → MayBeLaid p ls
    → map member_seen ms ≡ seen_package p ls → MayBeWritten (length p.methods.info) ms
may_be_written parts p ls ms stands may e =
    grind (
      arith,
      laid_well parts p ls stands may,
      total_of ms,
      all_end,
      all_apart,
      good_classes,
      offsets_classes,
      total_classes,
      members_of,
      apart_of,
    )
