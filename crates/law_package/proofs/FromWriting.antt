-- What is written, component by component, is the package with the code that is laid.
use Rattle.std.proofs.Common.{◌≡◌, ◌≤◌, ◌<◌, ◌+◌, ℕ, zero, suc, List, [], ◌∷◌, length, map, filter, sum_by, drop, All, Option, take}
use Rattle.std.proofs.Common.{option_map, refl, sym, ap, subst, ◌∙◌, arith}
use Rattle.std.specs.Prelude.{slice_index}
use Rattle.jc_base.proofs.Eaching.{All-from_Each}
use Rattle.jc_base.proofs.Eaching.{Each-map}
use Rattle.cap_frame.specs.AppletFormat.{Applet}
use Rattle.cap_pool.specs.PoolFormat.{Entry}
use Rattle.cap_pool.specs.ExportFormat.{Exported}
use Rattle.cap_class.specs.ClassFormat.{Class}
use Rattle.cap_components.specs.Parts.{Lent}
use Rattle.cap_components.specs.PackageRecord.{PackageRecord, names_interface, handlers_of}
use Rattle.cap_package.specs.StandsFor.{StandsFor}
use Rattle.cap_renewal.specs.NewMethods.{to}
use Rattle.cap_renewal.specs.AppletEdits.{renewed_applet}
use Rattle.cap_renewal.specs.PoolEdits.{renewed_entry}
use Rattle.cap_renewal.specs.ClassEdits.{renewed_class}
use Rattle.cap_renewal.specs.ExportEdits.{renewed_exported}
use Rattle.cap_renewal.specs.DescriptorEdits.{renewed_method}
use Rattle.cap_laying.specs.declared.member.WrittenMember.{WrittenMember}
use Rattle.cap_laying.specs.Blocks.{blocks, first_entry, block_entries}
use Rattle.cap_laying.specs.WrittenMethods.{HeadersReadBack}
use Rattle.cap_laying.specs.Standing.{WrittenMethodsStand}
use Rattle.jc_decode.specs.declared.symbols.Laid.{Laid}
use Rattle.law_package.specs.Changes.{changes, now_at}
use Rattle.law_package.specs.Written.{IsMethodWritten, size_written, handlers_in, caught_before, methods_begin}
use Rattle.law_package.specs.Laying.{AreLaidFor}
use Rattle.law_package.specs.Rewritten.{HasSameDescription, IsRewritten}
use Rattle.law_package.specs.Writing.{IsWrittenAnew, places}
use Rattle.law_package.proofs.Lists.{Each, Has, each_at, each_of}
use Rattle.law_package.proofs.Ranks.{sums_agree, sum_through}
use Rattle.law_package.proofs.Order.{many_of, index_among, entries_among}
use Rattle.law_package.proofs.Anew.{Pair, pairs_in, change_in, all_changes, renamed, memberless_classes}
use Rattle.law_package.proofs.Known.{Known, known, told_all, as_laid}
use Rattle.law_package.proofs.Indexed.{HasRank, rank, placed_known, all_handlers, whole_info}

-- ---- names

pub map_same : {X Y : Type 0} (f g : X → Y) (xs : List X) → ((x : X) → f x ≡ g x) → map f xs ≡ map g xs
map_same f g [] h = refl
map_same f g (x ∷ xs) h = ap (λ y. y ∷ map f xs) (h x) ∙ ap (λ ys. g x ∷ ys) (map_same f g xs h)

applet_same : (f g : ℕ → ℕ) (a : Applet) → ((o : ℕ) → f o ≡ g o) → renewed_applet f a ≡ renewed_applet g a
applet_same f g a h = ap (λ n. with_install a n) (h a.install)
  where
    with_install : Applet → ℕ → Applet
    with_install a n = record { aid = a.aid; install = n }

entry_same : (f g : ℕ → ℕ) (e : Entry) → ((n : ℕ) → f n ≡ g n) → renewed_entry f e ≡ renewed_entry g e
entry_same f g e h = grind (arith)

class_same : (f g : ℕ → ℕ) (c : Class) → ((n : ℕ) → f n ≡ g n) → renewed_class f c ≡ renewed_class g c
class_same f g c h = rw (map_same f g c.public h, map_same f g c.visible h) refl

exported_same : (f g : ℕ → ℕ) (c : Exported) → ((n : ℕ) → f n ≡ g n) → renewed_exported f c ≡ renewed_exported g c
exported_same f g c h = rw (map_same f g c.methods h) refl

option_same : {X Y : Type 0} (f g : X → Y) (o : Option (List X)) → ((x : X) → f x ≡ g x) → option_map (map f) o ≡ option_map (map g) o
option_same f g z h = grind (arith, map_same)

-- ---- types

ends_alike : (from n : ℕ) (xs ys : List ℕ) → ((k : ℕ) → from ≤ k → k < n → slice_index ys k ≡ slice_index xs k) → length xs ≡ n
    → length ys ≡ n → drop from ys ≡ drop from xs
ends_alike zero n [] [] h a b = refl
ends_alike zero n [] (y ∷ ys) h a b = absurd (omega arith)
ends_alike zero n (x ∷ xs) [] h a b = absurd (omega arith)
ends_alike zero n (x ∷ xs) (y ∷ ys) h a b =
    let first : y ≡ x = h 0 (omega arith) (omega arith) in
    let rest : ys ≡ xs = ends_alike zero (length xs) xs ys (λ k l g. h (suc k) (omega arith) (omega arith)) refl (omega arith) in
    rw (first, rest) refl
ends_alike (suc from) n [] [] h a b = refl
ends_alike (suc from) n [] (y ∷ ys) h a b = absurd (omega arith)
ends_alike (suc from) n (x ∷ xs) [] h a b = absurd (omega arith)
ends_alike (suc from) n (x ∷ xs) (y ∷ ys) h a b = ends_alike from (length xs) xs ys (λ k l g. h (suc k) (omega arith) (omega arith)) refl (omega arith)

same_description : (p q : PackageRecord) (laid : List (Option Laid)) (ms : List WrittenMember) → IsWrittenAnew p laid ms q
    → HasSameDescription (names_interface p.classes) p.description q.description
same_description p q laid ms w = grind (arith, memberless_classes, ends_alike)

-- ---- methods

index_if : (p q : PackageRecord) (laid : List (Option Laid)) (ms : List WrittenMember) (z : Pair) → IsWrittenAnew p laid ms q → Known p q ms z
    → (r : HasRank p laid ms z)
    → (renewed_method (places p ms) z.source.method).handler_index ≡ first_entry r.before (many_of z.member)
index_if p q laid ms z w k r = k.told.index ∙ index_among (length p.methods.info) (blocks (length p.methods.handlers) ms) z.member r.before r.among k.within

handlers_if : (p q : PackageRecord) (laid : List (Option Laid)) (ms : List WrittenMember) (z : Pair) → IsWrittenAnew p laid ms q → Known p q ms z
    → HasRank p laid ms z
    → handlers_of q (renewed_method (places p ms) z.source.method) ≡ block_entries (places p ms) z.member
handlers_if p q laid ms z w k r =
    let m = renewed_method (places p ms) z.source.method in
    ap (λ n. take n (drop m.handler_index q.methods.handlers)) k.told.many
    ∙ ap (λ n. take (many_of z.member) (drop n q.methods.handlers)) (index_if p q laid ms z w k r)
    ∙ ap (λ hs. take (many_of z.member) (drop (first_entry r.before (many_of z.member)) hs)) w.handlers
    ∙ entries_among (places p ms) (blocks (length p.methods.handlers) ms) z.member r.before r.among

written_one : (parts : List Lent) (p q : PackageRecord) (laid : List (Option Laid)) (ms : List WrittenMember) (z : Pair) → StandsFor parts p
    → IsWrittenAnew p laid ms q → Each (Known p q ms) (pairs_in p laid ms) → Has (pairs_in p laid ms) z
    → IsMethodWritten p q (map (change_in (places p ms)) (pairs_in p laid ms)) (change_in (places p ms) z)
written_one parts p q laid ms z s w ks h =
    let zs = pairs_in p laid ms in
    let news = places p ms in
    let k = each_at (Known p q ms) zs z ks h in
    let r = rank parts p q laid ms z s w ks h in
    let m = renewed_method news z.source.method in
    let sum : r.before ≡ sum_by handlers_in (filter (caught_before p (change_in news z)) (map (change_in news) zs)) =
    r.sum
    ∙ sums_agree (λ (y : Pair). many_of y.member) (λ (y : Pair). handlers_in (change_in news y))
    (λ (y : Pair). caught_before p (change_in news z) (change_in news y)) (λ (y : Pair). caught_before p (change_in news z) (change_in news y)) zs
    (each_of (λ (y : Pair). many_of y.member ≡ handlers_in (change_in news y)) zs (λ y g. sym (each_at (Known p q ms) zs y ks g).told.many))
    (each_of (λ (y : Pair). caught_before p (change_in news z) (change_in news y) ≡ caught_before p (change_in news z) (change_in news y)) zs (λ y g. refl))
    ∙ sym (sum_through handlers_in (caught_before p (change_in news z)) (change_in news) zs) in
    record {
      is = as_laid p q ms z k (handlers_if p q laid ms z w k r);
      place = placed_known p q laid ms z w ks h;
      index = grind (arith, index_if, sum_by, filter);
    }

pub rewrites : HeadersReadBack → WrittenMethodsStand → (parts : List Lent) (p q : PackageRecord) (laid : List (Option Laid)) (ms : List WrittenMember)
    → StandsFor parts p → AreLaidFor p laid → IsWrittenAnew p laid ms q → IsRewritten p laid q
rewrites back stand parts p q laid ms s l w =
    let zs = pairs_in p laid ms in
    let news = places p ms in
    let cs = map (change_in news) zs in
    let ks = known parts p q laid ms s l w stand back in
    let are : changes p laid q ≡ cs = all_changes p q laid ms w in
    let name : (o : ℕ) → to news o ≡ now_at (changes p laid q) o = λ o. sym (renamed p q laid ms w (told_all p q laid ms w stand) o) in
    let each : All (IsMethodWritten p q cs) cs = All-from_Each (IsMethodWritten p q cs) cs (Each-map (IsMethodWritten p q cs) (change_in news) zs
    (each_of (λ (z : Pair). IsMethodWritten p q cs (change_in news z)) zs (λ z h. written_one parts p q laid ms z s w ks h))) in
    record {
      header = w.header;
      imports = w.imports;
      statics = w.statics;
      directory = w.directory;
      customs = w.customs;
      debug = w.debug;
      applets =
          w.applets ∙ option_same (renewed_applet (to news)) (renewed_applet (now_at (changes p laid q))) p.applets
          (λ a. applet_same (to news) (now_at (changes p laid q)) a name);
      pool = grind (arith, map_same, entry_same);
      classes = grind (arith, map_same, class_same);
      export =
          w.export ∙ option_same (renewed_exported (to news)) (renewed_exported (now_at (changes p laid q))) p.export
          (λ c. exported_same (to news) (now_at (changes p laid q)) c name);
      description = same_description p q laid ms w;
      each = w.each;
      written = subst (λ xs. All (IsMethodWritten p q xs) xs) (sym are) each;
      long = whole_info p q laid ms w ks ∙ ap (λ xs. methods_begin q + sum_by (size_written q) xs) (sym are);
      handlers = all_handlers parts p q laid ms s w ks ∙ ap (sum_by handlers_in) (sym are);
    }
