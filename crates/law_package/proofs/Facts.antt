-- What is known of each method before and after.
use Rattle.std.proofs.Common.{◌≡◌, ◌≤◌, ◌+◌, ℕ, List, [], ◌∷◌, length, map, filter_map, Bool, true, false, Option, Some, None, not}
use Rattle.std.proofs.Common.{refl, sym, ap, subst, ◌∙◌, arith}
use Rattle.std.specs.Prelude.{if◌then◌else◌, nat_lt, ◌==◌}
use Rattle.std.specs.Int.RustNames.{bit_and}
use Rattle.std.proofs.lemmas.Bool.{false≢true, both_ways}
use Rattle.std.proofs.lemmas.List.{length-map}
use Rattle.jc_base.proofs.Eaching.{Each-from_All}
use Rattle.cap_method.specs.MethodFormat.{Header}
use Rattle.cap_desc.specs.DescriptorFormat.{MethodDescriptor}
use Rattle.cap_components.specs.declared.fault.PackFault.{PackFault}
use Rattle.cap_components.specs.Descriptions.{argument_words}
use Rattle.cap_components.specs.Parts.{Lent}
use Rattle.cap_components.specs.PackageRecord.{PackageRecord, described_methods, names_interface}
use Rattle.cap_package.specs.MethodChecks.{code_end, outside_fault}
use Rattle.cap_package.specs.HeaderChecks.{header_in, is_abstract, is_static, registers_fault}
use Rattle.cap_package.specs.HeaderChecks.{registers_by, length_fault, length_by, arguments_fault}
use Rattle.cap_package.specs.HeaderChecks.{arguments_by, abstract_fault, abstract_by}
use Rattle.cap_package.proofs.HeaderLaws.{has-header, ends-within, few_registers}
use Rattle.jc_decode.specs.declared.symbols.Laid.{Laid}
use Rattle.law_package.specs.Changes.{FormerMethod, Change, sources, changes, now_at}
use Rattle.law_package.specs.Written.{IsAs, IsMethodWritten}
use Rattle.law_package.specs.Rewritten.{bare_method, IsRewritten}
use Rattle.law_package.specs.Laying.{IsFor, FitsHeader, AreLaidFor}
use Rattle.law_package.proofs.Lists.{Each, Has, each_at, each_of, map_each, none_each, each_none, faults_map}
use Rattle.cap_package.proofs.Agreed.{Agrees}
use Rattle.law_package.proofs.Zipped.{now_of, source_of, method_of, old_of, changes_now, changes_source, sources_method, length_but}
use Rattle.law_package.proofs.Bare.{but_same, same_interfaces, alike, same_arguments}
use Rattle.law_package.proofs.Kept.{map_twice}
use Rattle.law_package.proofs.Headers.{moved}

-- ---- the lists

pub bare_described : (p q : PackageRecord) (laid : List (Option Laid)) → IsRewritten p laid q → map bare_method (described_methods q)
    ≡ map bare_method (described_methods p)
bare_described p q laid r =
    let set = names_interface p.classes in
    ap (map bare_method) (but_same (names_interface q.classes) set q.description.items.classes
    (λ n. ap (λ cs. names_interface cs n) r.classes ∙ same_interfaces (now_at (changes p laid q)) p.classes n))
    ∙ (alike set p.description.items.classes q.description.items.classes r.description.classes).described

many_sources : (p : PackageRecord) (laid : List (Option Laid)) (q : PackageRecord) → IsRewritten p laid q
    → map method_of (sources p laid) ≡ described_methods p
many_sources p laid q r = grind (arith, sources_method, length_but)

as_many : (p q : PackageRecord) (laid : List (Option Laid)) → IsRewritten p laid q → length (sources p laid) ≡ length (described_methods q)
as_many p q laid r = grind (arith, many_sources, length-map, bare_described)

pub news : (p q : PackageRecord) (laid : List (Option Laid)) → IsRewritten p laid q → map now_of (changes p laid q) ≡ described_methods q
news p q laid r = changes_now (sources p laid) (described_methods q) (as_many p q laid r)

pub froms : (p q : PackageRecord) (laid : List (Option Laid)) → IsRewritten p laid q → map source_of (changes p laid q) ≡ sources p laid
froms p q laid r = changes_source (sources p laid) (described_methods q) (as_many p q laid r)

pub olds : (p q : PackageRecord) (laid : List (Option Laid)) → IsRewritten p laid q → map old_of (changes p laid q) ≡ described_methods p
olds p q laid r = sym (map_twice method_of source_of (changes p laid q)) ∙ ap (map method_of) (froms p q laid r) ∙ many_sources p laid q r

-- what holds of each method before holds of each change
pub old_each : (p q : PackageRecord) (laid : List (Option Laid)) (P : MethodDescriptor → Type 0) → IsRewritten p laid q → Each P (described_methods p)
    → Each (λ (c : Change). P c.source.method) (changes p laid q)
old_each p q laid P r h = map_each P old_of (changes p laid q) (subst (Each P) (sym (olds p q laid r)) h)

pub source_each : (p q : PackageRecord) (laid : List (Option Laid)) (P : FormerMethod → Type 0) → IsRewritten p laid q → Each P (sources p laid)
    → Each (λ (c : Change). P c.source) (changes p laid q)
source_each p q laid P r h = map_each P source_of (changes p laid q) (subst (Each P) (sym (froms p q laid r)) h)

-- nothing is at fault after where nothing is at each change
pub no_faults : (p q : PackageRecord) (laid : List (Option Laid)) (f : MethodDescriptor → Option PackFault) → IsRewritten p laid q
    → Each (λ (c : Change). f c.now ≡ None) (changes p laid q) → filter_map f (described_methods q) ≡ []
no_faults p q laid f r h = grind (arith, filter_map f, news p q laid r, faults_map f now_of (changes p laid q), each_none)

each_same : (cs : List Change) → map (λ (c : Change). bare_method c.now) cs ≡ map (λ (c : Change). bare_method c.source.method) cs
    → Each (λ (c : Change). bare_method c.now ≡ bare_method c.source.method) cs
each_same [] e = tt
each_same (c ∷ cs) e =
    let h : bare_method c.now ≡ bare_method c.source.method = cc in
    let t : map (λ (x : Change). bare_method x.now) cs ≡ map (λ (x : Change). bare_method x.source.method) cs = cc in
    (h, each_same cs t)

pub bares : (p q : PackageRecord) (laid : List (Option Laid)) → IsRewritten p laid q
    → Each (λ (c : Change). bare_method c.now ≡ bare_method c.source.method) (changes p laid q)
bares p q laid r = grind (arith, news p q laid r, bare_described p q laid r, olds p q laid r, each_same, map_twice)

-- ---- a method before

pub record WasWell (p : PackageRecord) (m : MethodDescriptor) : Type 0 where
  pub header : Header
  pub there : header_in p.methods.info m.method_offset ≡ Some header
  pub within : code_end p.methods.info m ≤ length p.methods.info
  pub registers : header.nargs + header.max_locals ≤ 255
  pub arguments : arguments_fault p.methods.info p.description m ≡ None

pub few_by : (b : Bool) (f : PackFault) → (if b then Some f else None) ≡ None → b ≡ false
few_by x f e = grind (arith)

was_well : (p : PackageRecord) (m : MethodDescriptor) → outside_fault p.methods.info (length p.methods.handlers) m ≡ None
    → registers_fault p.methods.info m ≡ None → arguments_fault p.methods.info p.description m ≡ None → WasWell p m
was_well p m o r a =
    let within = ends-within p.methods.info (length p.methods.handlers) m o in
    let h = has-header p.methods.info m within in
    record { header = h.header; there = h.there; within = within; registers = few_registers p.methods.info m h.header h.there r; arguments = a }

all_well : (p : PackageRecord) (ms : List MethodDescriptor) → Each (λ m. outside_fault p.methods.info (length p.methods.handlers) m ≡ None) ms
    → Each (λ m. registers_fault p.methods.info m ≡ None) ms
    → Each (λ m. arguments_fault p.methods.info p.description m ≡ None) ms → Each (WasWell p) ms
all_well p [] o r a = tt
all_well p (m ∷ ms) o r a = (was_well p m o.0 r.0 a.0, all_well p ms o.1 r.1 a.1)

pub wells : (parts : List Lent) (p : PackageRecord) → Agrees parts p → Each (WasWell p) (described_methods p)
wells parts p a = all_well p (described_methods p)
    (none_each (outside_fault p.methods.info (length p.methods.handlers)) (described_methods p) a.outside)
    (none_each (registers_fault p.methods.info) (described_methods p) a.registers)
    (none_each (arguments_fault p.methods.info p.description) (described_methods p) a.arguments)

-- ---- the same method after

pub record IsWell (q : PackageRecord) (nargs : ℕ) (m : MethodDescriptor) : Type 0 where
  pub header : Header
  pub there : header_in q.methods.info m.method_offset ≡ Some header
  pub arguments : header.nargs ≡ nargs
  pub registers : header.nargs + header.max_locals ≤ 255
  pub bare : is_abstract header ≡ true → m.bytecode_count ≡ 0
  pub some : is_abstract header ≡ false → 1 ≤ m.bytecode_count
  pub short : is_abstract header ≡ false → m.bytecode_count ≤ 32767

pub plain : (b : Bool) → (bit_and (if b then 0 else 8) 4 == 4) ≡ false
plain x = grind (arith)

pub is_well : (p q : PackageRecord) (old m : MethodDescriptor) (l : Option Laid) (w : WasWell p old) → IsFor w.header l → IsAs p q old l m
    → IsWell q w.header.nargs m
is_well p q old m None w f is =
    let mv = moved p.methods.info q.methods.info old.method_offset m.method_offset w.header is.header w.there in
    record {
      header = w.header;
      there = mv.header ∙ w.there;
      arguments = refl;
      registers = w.registers;
      bare = λ t. is.no_code;
      some = λ e. absurd (both_ways (is_abstract w.header) e f);
      short = λ e. absurd (both_ways (is_abstract w.header) e f);
    }
is_well p q old m (Some laid) w f is = grind (arith, both_ways)

pub record Fact (p q : PackageRecord) (c : Change) : Type 0 where
  pub was : WasWell p c.source.method
  pub well : IsWell q was.header.nargs c.now
  pub same : bare_method c.now ≡ bare_method c.source.method
  pub fits : IsFor was.header c.source.laid
  pub written : IsAs p q c.source.method c.source.laid c.now

fact : (p q : PackageRecord) (all : List Change) (c : Change) → WasWell p c.source.method → FitsHeader p c.source → IsMethodWritten p q all c
    → bare_method c.now ≡ bare_method c.source.method → Fact p q c
fact p q all c w f is same =
    let fits = f w.header w.there in
    record { was = w; well = is_well p q c.source.method c.now c.source.laid w fits is.is; same = same; fits = fits; written = is.is }

all_facts : (p q : PackageRecord) (all cs : List Change) → Each (λ (c : Change). WasWell p c.source.method) cs
    → Each (λ (c : Change). FitsHeader p c.source) cs → Each (IsMethodWritten p q all) cs
    → Each (λ (c : Change). bare_method c.now ≡ bare_method c.source.method) cs → Each (Fact p q) cs
all_facts p q all [] w f is same = tt
all_facts p q all (c ∷ cs) w f is same = (fact p q all c w.0 f.0 is.0 same.0, all_facts p q all cs w.1 f.1 is.1 same.1)

pub facts : (parts : List Lent) (p q : PackageRecord) (laid : List (Option Laid)) → Agrees parts p → AreLaidFor p laid → IsRewritten p laid q
    → Each (Fact p q) (changes p laid q)
facts parts p q laid a f r =
    let cs = changes p laid q in
    all_facts p q cs cs (old_each p q laid (WasWell p) r (wells parts p a))
    (source_each p q laid (FitsHeader p) r (Each-from_All (FitsHeader p) (sources p laid) f))
    (Each-from_All (IsMethodWritten p q cs) cs r.written) (bares p q laid r)

pub all_written : (p q : PackageRecord) (laid : List (Option Laid)) → IsRewritten p laid q
    → Each (IsMethodWritten p q (changes p laid q)) (changes p laid q)
all_written p q laid r = Each-from_All (IsMethodWritten p q (changes p laid q)) (changes p laid q) r.written

-- ---- conditions on headers

few : (m : MethodDescriptor) (h : Header) → h.nargs + h.max_locals ≤ 255 → registers_by m (Some h) ≡ None
few m h le = let e : nat_lt 255 (h.nargs + h.max_locals) ≡ false = grind arith in rw e refl

registers_well : (q : PackageRecord) (n : ℕ) (m : MethodDescriptor) → IsWell q n m → registers_fault q.methods.info m ≡ None
unfolding registers_fault
registers_well q n m w = ap (registers_by m) w.there ∙ few m w.header w.registers

long_by : (m : MethodDescriptor) (h : Header) (b : Bool) → is_abstract h ≡ b → (is_abstract h ≡ false → 1 ≤ m.bytecode_count)
    → (is_abstract h ≡ false → m.bytecode_count ≤ 32767) → length_by m (Some h) ≡ None
long_by m h z e some short = grind (arith)

length_well : (q : PackageRecord) (n : ℕ) (m : MethodDescriptor) → IsWell q n m → length_fault q.methods.info m ≡ None
unfolding length_fault
length_well q n m w = ap (length_by m) w.there ∙ long_by m w.header (is_abstract w.header) refl w.some w.short

bare_by : (m : MethodDescriptor) (h : Header) (b : Bool) → is_abstract h ≡ b → (is_abstract h ≡ true → m.bytecode_count ≡ 0)
    → abstract_by m (Some h) ≡ None
bare_by m h z e bare = grind (arith)

abstract_well : (q : PackageRecord) (n : ℕ) (m : MethodDescriptor) → IsWell q n m → abstract_fault q.methods.info m ≡ None
unfolding abstract_fault
abstract_well q n m w = ap (abstract_by m) w.there ∙ bare_by m w.header (is_abstract w.header) refl w.bare

argued : (old m : MethodDescriptor) (h k : Header) (words : Option ℕ) → k.nargs ≡ h.nargs → m.flags ≡ old.flags
    → arguments_by old (Some h) words ≡ None → arguments_by m (Some k) words ≡ None
argued old m h k None e f n = refl
argued old m h k (Some words) e f n =
    let t = few_by (not (h.nargs == words + (if is_static old.flags then 0 else 1))) _
    (turned (h.nargs == words + (if is_static old.flags then 0 else 1)) _ n) in
    rw (e, f) (back (h.nargs == words + (if is_static old.flags then 0 else 1)) _ t)
  where
    turned : (b : Bool) (f : PackFault) → (if b then None else Some f) ≡ None → (if not b then Some f else None) ≡ None
    turned true f e = refl
    turned false f e = e

    back : (b : Bool) (f : PackFault) → not b ≡ false → (if b then None else Some f) ≡ None
    back x f e = grind (arith, false≢true)

arguments_well : (p q : PackageRecord) (c : Change) → Fact p q c
    → ((offset : ℕ) → argument_words q.description offset ≡ argument_words p.description offset)
    → arguments_fault q.methods.info q.description c.now ≡ None
unfolding arguments_fault
arguments_well p q c f same = grind (arith, argued)

pub record HasWellHeaders (q : PackageRecord) : Type 0 where
  pub registers : filter_map (registers_fault q.methods.info) (described_methods q) ≡ []
  pub lengths : filter_map (length_fault q.methods.info) (described_methods q) ≡ []
  pub bare : filter_map (abstract_fault q.methods.info) (described_methods q) ≡ []
  pub arguments : filter_map (arguments_fault q.methods.info q.description) (described_methods q) ≡ []

pub well_headers : (parts : List Lent) (p q : PackageRecord) (laid : List (Option Laid)) → Agrees parts p → AreLaidFor p laid → IsRewritten p laid q
    → HasWellHeaders q
well_headers parts p q laid a l r =
    let cs = changes p laid q in
    let fs = facts parts p q laid a l r in
    let at : (c : Change) → Has cs c → Fact p q c = λ c h. each_at (Fact p q) cs c fs h in
    record {
      registers =
          no_faults p q laid (registers_fault q.methods.info) r
          (each_of (λ (c : Change). registers_fault q.methods.info c.now ≡ None) cs
          (λ c h. registers_well q (at c h).was.header.nargs c.now (at c h).well));
      lengths =
          no_faults p q laid (length_fault q.methods.info) r
          (each_of (λ (c : Change). length_fault q.methods.info c.now ≡ None) cs (λ c h. length_well q (at c h).was.header.nargs c.now (at c h).well));
      bare =
          no_faults p q laid (abstract_fault q.methods.info) r
          (each_of (λ (c : Change). abstract_fault q.methods.info c.now ≡ None) cs
          (λ c h. abstract_well q (at c h).was.header.nargs c.now (at c h).well));
      arguments =
          no_faults p q laid (arguments_fault q.methods.info q.description) r
          (each_of (λ (c : Change). arguments_fault q.methods.info q.description c.now ≡ None) cs
          (λ c h. arguments_well p q c (at c h) (λ offset. same_arguments (names_interface p.classes) p.description q.description offset r.description)));
    }
