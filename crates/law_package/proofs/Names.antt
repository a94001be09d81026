-- What names methods by their offsets names described methods after them too.
use Rattle.std.proofs.Common.{◌≡◌, ◌≤◌, ℕ, List, [], ◌∷◌, ◌++◌, length, map, find, filter_map, Bool, true, false, cond, Option}
use Rattle.std.proofs.Common.{Some, None, option_map, ◌||◌, inl, inr, refl, sym, ap, ◌∙◌, arith}
use Rattle.std.specs.Prelude.{if◌then◌else◌, ◌==◌}
use Rattle.std.specs.List.{list_any}
use Rattle.std.proofs.lemmas.Bool.{false≢true, eq-eqb}
use Rattle.std.proofs.lemmas.List.{map-append}
use Rattle.std.proofs.Math.Bool.{or-true}
use Rattle.cap_frame.specs.AppletFormat.{Applet}
use Rattle.cap_pool.specs.ExportFormat.{Exported}
use Rattle.cap_class.specs.ClassFormat.{Class}
use Rattle.cap_desc.specs.DescriptorFormat.{MethodDescriptor}
use Rattle.cap_components.specs.declared.fault.PackFault.{PackFault}
use Rattle.cap_components.specs.Parts.{Lent}
use Rattle.cap_components.specs.PackageRecord.{PackageRecord, described_methods}
use Rattle.cap_package.specs.NameChecks.{is_method_at, no_method_fault, no_entry_fault, table_entries, exported_methods}
use Rattle.cap_package.specs.Agreement.{or_none}
use Rattle.cap_package.specs.StandsFor.{StandsFor}
use Rattle.cap_package.proofs.InfoLaws.{info-short}
use Rattle.cap_package.proofs.StaticsKnown.{both_empty}
use Rattle.cap_renewal.specs.AppletEdits.{renewed_applet}
use Rattle.cap_renewal.specs.ClassEdits.{renewed_class}
use Rattle.cap_renewal.specs.ExportEdits.{renewed_exported}
use Rattle.jc_decode.specs.declared.symbols.Laid.{Laid}
use Rattle.law_package.specs.Changes.{Change, changes, stood_at, offset_by, now_at}
use Rattle.law_package.specs.Rewritten.{IsRewritten}
use Rattle.law_package.proofs.Lists.{Each, Has, each_at, each_of, none_each, each_none, append_none, faults_map}
use Rattle.cap_package.proofs.Agreed.{agrees}
use Rattle.law_package.proofs.Zipped.{now_of, old_of}
use Rattle.law_package.proofs.Bare.{any_map}
use Rattle.law_package.proofs.Kept.{map_twice}
use Rattle.law_package.proofs.Facts.{WasWell, wells, news, olds, old_each}
use Rattle.law_package.proofs.Standing.{sizes_end, sizes_some}

-- ---- finding

pub record IsFirst {X : Type 0} (p : X → Bool) (xs : List X) : Type 0 where
  pub x : X
  pub is : find p xs ≡ Some x
  pub has : Has xs x

pub find_any : {X : Type 0} (p : X → Bool) (xs : List X) → list_any p xs ≡ true → IsFirst p xs
find_any p [] e = absurd (false≢true e)
find_any p (x ∷ xs) e = by (p x) refl e (λ k. find_any p xs k)
  where
    by : (b : Bool) → p x ≡ b → b || list_any p xs ≡ true → (list_any p xs ≡ true → IsFirst p xs) → IsFirst p (x ∷ xs)
    by true h e others = record { x = x; is = ap (λ c. cond c (Some x) (find p xs)) h; has = inl refl }
    by false h e others = let o = others e in record { x = o.x; is = ap (λ c. cond c (Some x) (find p xs)) h ∙ o.is; has = inr o.has }

pub find_none : {X : Type 0} (p : X → Bool) (xs : List X) → Each (λ x. p x ≡ false) xs → find p xs ≡ None
find_none p [] h = refl
find_none p (x ∷ xs) h = ap (λ c. cond c (Some x) (find p xs)) h.0 ∙ find_none p xs h.1

pub any_has : {X : Type 0} (p : X → Bool) (xs : List X) (x : X) → Has xs x → p x ≡ true → list_any p xs ≡ true
any_has p [] x h e = absurd h
any_has p (y ∷ ys) x (inl s) e = ap (λ b. b || list_any p ys) (ap p (sym s) ∙ e)
any_has p (y ∷ ys) x (inr h) e = ap (λ b. p y || b) (any_has p ys x h e) ∙ or-true (p y)

-- ---- a method

names_now : (cs : List Change) (offset : ℕ) → is_method_at (map old_of cs) offset ≡ true → is_method_at (map now_of cs) (now_at cs offset) ≡ true
unfolding now_at
names_now cs offset e =
    let f = find_any (stood_at offset) cs (sym (any_map (λ (m : MethodDescriptor). m.method_offset == offset) old_of cs) ∙ e) in
    let to : offset_by offset (find (stood_at offset) cs) ≡ f.x.now.method_offset = ap (offset_by offset) f.is in
    ap (is_method_at (map now_of cs)) to
    ∙ any_map (λ (m : MethodDescriptor). m.method_offset == f.x.now.method_offset) now_of cs
    ∙ any_has (λ (c : Change). c.now.method_offset == f.x.now.method_offset) cs f.x f.has (eq-eqb f.x.now.method_offset f.x.now.method_offset refl)

pub is_told : (b : Bool) (f : PackFault) → (if b then None else Some f) ≡ None → b ≡ true
is_told x f e = grind (arith)

method_now : (cs : List Change) (offset : ℕ) → no_method_fault (is_method_at (map old_of cs)) offset ≡ None
    → no_method_fault (is_method_at (map now_of cs)) (now_at cs offset) ≡ None
unfolding no_method_fault
method_now cs offset e = let t = names_now cs offset (is_told (is_method_at (map old_of cs) offset) _ e) in rw t refl

entry_now : (cs : List Change) (offset : ℕ) → now_at cs 0xFFFF ≡ 0xFFFF → no_entry_fault (is_method_at (map old_of cs)) offset ≡ None
    → no_entry_fault (is_method_at (map now_of cs)) (now_at cs offset) ≡ None
unfolding no_entry_fault
entry_now cs offset last e = by (offset == 0xFFFF) refl
  where
    is_last : (n : ℕ) → (n == 0xFFFF) ≡ true → n ≡ 0xFFFF
    is_last n e = grind arith

    either : (b : Bool) (o : Option PackFault) → o ≡ None → (if b then None else o) ≡ None
    either x o e = grind (arith)

    by : (b : Bool) → (offset == 0xFFFF) ≡ b
        → (if now_at cs offset == 0xFFFF then None else no_method_fault (is_method_at (map now_of cs)) (now_at cs offset)) ≡ None
    by x h = grind (arith, method_now)

-- no method stood at 0xFFFF
below_last : (p : PackageRecord) (m : MethodDescriptor) → WasWell p m → length p.methods.info ≤ 65535 → (m.method_offset == 0xFFFF) ≡ false
below_last p m w short = grind (arith, sizes_end, sizes_some)

pub last_stays : (parts : List Lent) (p q : PackageRecord) (laid : List (Option Laid)) → StandsFor parts p → IsRewritten p laid q
    → now_at (changes p laid q) 0xFFFF ≡ 0xFFFF
unfolding now_at
last_stays parts p q laid s r =
    let cs = changes p laid q in
    let short = info-short 7 s.said.methods.file p.methods.info s.said.methods.framed in
    let ws = old_each p q laid (WasWell p) r (wells parts p (agrees parts p s.agree)) in
    ap (offset_by 0xFFFF)
    (find_none (stood_at 0xFFFF) cs
    (each_of (λ (c : Change). stood_at 0xFFFF c ≡ false) cs
    (λ c h. below_last p c.source.method (each_at (λ (x : Change). WasWell p x.source.method) cs c ws h) short)))

-- ---- lists of names

table_map : (f : ℕ → ℕ) (cs : List Class) → table_entries (map (renewed_class f) cs) ≡ map f (table_entries cs)
table_map f [] = refl
table_map f (c ∷ cs) = grind (arith, map-append, table_map f cs)

exported_map : (f : ℕ → ℕ) (o : Option (List Exported)) → exported_methods (or_none (option_map (map (renewed_exported f)) o))
    ≡ map f (exported_methods (or_none o))
exported_map f None = refl
exported_map f (Some cs) = by cs
  where
    by : (cs : List Exported) → exported_methods (map (renewed_exported f) cs) ≡ map f (exported_methods cs)
    by [] = refl
    by (c ∷ cs) = ap (λ es. map f c.methods ++ es) (by cs) ∙ sym (map-append f c.methods (exported_methods cs))

installs_map : (f : ℕ → ℕ) (o : Option (List Applet)) → map (λ (a : Applet). a.install) (or_none (option_map (map (renewed_applet f)) o))
    ≡ map f (map (λ (a : Applet). a.install) (or_none o))
installs_map f y = grind (arith, map_twice)

none_named : (old now : ℕ → Option PackFault) (f : ℕ → ℕ) (offsets : List ℕ)
    → ((offset : ℕ) → old offset ≡ None → now (f offset) ≡ None) → filter_map old offsets ≡ [] → filter_map now (map f offsets) ≡ []
none_named old now f offsets h e = grind (arith, none_each, faults_map, each_none, each_of, each_at)

pub all_named : (parts : List Lent) (p q : PackageRecord) (laid : List (Option Laid)) → StandsFor parts p → IsRewritten p laid q
    → (filter_map (no_entry_fault (is_method_at (described_methods q))) (table_entries q.classes)
    ++ filter_map (no_method_fault (is_method_at (described_methods q))) (exported_methods (or_none q.export)))
    ++ filter_map (no_method_fault (is_method_at (described_methods q))) (map (λ (a : Applet). a.install) (or_none q.applets)) ≡ []
all_named parts p q laid s r =
    let cs = changes p laid q in
    let f = now_at cs in
    let was = is_method_at (map old_of cs) in
    let is = is_method_at (map now_of cs) in
    let before : is_method_at (described_methods p) ≡ was = ap is_method_at (sym (olds p q laid r)) in
    let after : is_method_at (described_methods q) ≡ is = ap is_method_at (sym (news p q laid r)) in
    let a = (agrees parts p s.agree).names in
    let installs : Option (List Applet) → List ℕ = λ o. map (λ (x : Applet). x.install) (or_none o) in
    let first = both_empty
    (filter_map (no_entry_fault (is_method_at (described_methods p))) (table_entries p.classes) ++ filter_map
    (no_method_fault (is_method_at (described_methods p))) (exported_methods (or_none p.export)))
    (filter_map (no_method_fault (is_method_at (described_methods p))) (map (λ (x : Applet). x.install) (or_none p.applets))) a in
    let second = both_empty (filter_map (no_entry_fault (is_method_at (described_methods p))) (table_entries p.classes))
    (filter_map (no_method_fault (is_method_at (described_methods p))) (exported_methods (or_none p.export))) first.0 in
    let methods : (offsets : List ℕ) → filter_map (no_method_fault (is_method_at (described_methods p))) offsets ≡ []
    → filter_map (no_method_fault (is_method_at (described_methods q))) (map f offsets) ≡ [] = λ offsets e.
    ap (λ t. filter_map (no_method_fault t) (map f offsets)) after
    ∙ none_named (no_method_fault was) (no_method_fault is) f offsets (method_now cs) (ap (λ t. filter_map (no_method_fault t) offsets) (sym before)
    ∙ e) in
    let entries : (offsets : List ℕ) → filter_map (no_entry_fault (is_method_at (described_methods p))) offsets ≡ []
    → filter_map (no_entry_fault (is_method_at (described_methods q))) (map f offsets) ≡ [] = λ offsets e.
    ap (λ t. filter_map (no_entry_fault t) (map f offsets)) after
    ∙ none_named (no_entry_fault was) (no_entry_fault is) f offsets (λ offset k. entry_now cs offset (last_stays parts p q laid s r) k)
    (ap (λ t. filter_map (no_entry_fault t) offsets) (sym before) ∙ e) in
    append_none
    (filter_map (no_entry_fault (is_method_at (described_methods q))) (table_entries q.classes) ++ filter_map
    (no_method_fault (is_method_at (described_methods q))) (exported_methods (or_none q.export)))
    (filter_map (no_method_fault (is_method_at (described_methods q))) (map (λ (x : Applet). x.install) (or_none q.applets)))
    (append_none (filter_map (no_entry_fault (is_method_at (described_methods q))) (table_entries q.classes))
    (filter_map (no_method_fault (is_method_at (described_methods q))) (exported_methods (or_none q.export)))
    (ap (filter_map (no_entry_fault (is_method_at (described_methods q)))) (ap table_entries r.classes ∙ table_map f p.classes)
    ∙ entries (table_entries p.classes) second.0)
    (ap (filter_map (no_method_fault (is_method_at (described_methods q)))) (ap (λ o. exported_methods (or_none o)) r.export ∙ exported_map f p.export)
    ∙ methods (exported_methods (or_none p.export)) second.1))
    (ap (filter_map (no_method_fault (is_method_at (described_methods q)))) (ap installs r.applets ∙ installs_map f p.applets)
    ∙ methods (map (λ (x : Applet). x.install) (or_none p.applets)) first.1)
