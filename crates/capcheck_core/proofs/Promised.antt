-- What status 0 promises, from the answers: no verdict but Done has this status, and what Done says is the promise.
use Rattle.std.proofs.Common.{◌≡◌, ℕ, ◌<◌, ◌≤◌, List, [], ◌∷◌, Option, Some, None, IsNone, Bool, true, false, cond, eqb, refl, sym, ap}
use Rattle.std.proofs.Common.{subst, ◌∙◌, inl, inr, arith}
use Rattle.std.specs.Prelude.{IfSome, IsSomeAnd, length, codes, string_bytes}
use Rattle.std.specs.FinMap as map
use Rattle.std.specs.Cmp.Lexicographic.{slice_cmp, nat_list_cmp_total}
use Rattle.std.specs.declared.cmp.Ordering.{Ordering}
use Rattle.std.specs.Ordering.{nat_cmp, eq_by_cmp}
use Rattle.std.proofs.lemmas.Bool.{ne_eqb, eq-eqb, eqb-true, eqb-false}
use Rattle.cap_files.specs.Folder.{Parts, Folders}
use Rattle.cap_files.proofs.Keys.{same_key}
use Rattle.cap_components.proofs.PartsLemmas.{held-other, held-same}
use Rattle.cap_gen.specs.Linked.{roles}
use Rattle.cap_gen.specs.Record.{package_record}
use Rattle.cap_gen.proofs.Standing.{parts_stand}
use Rattle.cap_listing.specs.Methods.{methods_of}
use Rattle.cap_listing.specs.Placing.{placed}
use Rattle.cap_listing.specs.Text.{Lists}
use Rattle.cap_listing.proofs.Replaced.{methods-replaced}
use Rattle.cap_package.specs.Parts.{Lent, held, HasEachOnce}
use Rattle.cap_text.specs.Line.{methods_line}
use Rattle.law_package.specs.Rewritten.{IsRewritten}
use Rattle.cap_text.specs.OutOfDir.{OutOfDirRequest}
use Rattle.cap_text.specs.Request.{Request, probe, show, list, asm, check, verify, defend, run, transform, share, trial, generate, bound, pack, install}
use Rattle.jc_base.specs.World.{Linked}
use Rattle.capcheck_core.specs.declared.load.Source.{Source}
use Rattle.capcheck_core.specs.declared.load.Source.TheVariants.{Components, LoadFile}
use Rattle.capcheck_core.specs.declared.verdict.Verdict.{Verdict}
use Rattle.capcheck_core.specs.declared.verdict.Verdict.TheVariants.{Done, Refused, Limit, Malformed, Usage, ReadFault, StoreFault, Memory}
use Rattle.capcheck_core.specs.Answers.{Answers, IsVerdict}
use Rattle.capcheck_core.specs.Assemble.{AssemblesPackage}
use Rattle.capcheck_core.specs.Bounding.{BoundsWorld}
use Rattle.capcheck_core.specs.Check.{ChecksWorld}
use Rattle.capcheck_core.specs.Defend.{DefendsWorld}
use Rattle.capcheck_core.specs.Headline.{HoldWorld, StandIn, AreKept, Assembled, Packed, Promise, Promises}
use Rattle.capcheck_core.specs.Loads.{with_file}
use Rattle.capcheck_core.specs.Outside.{Outside, Untouched}
use Rattle.capcheck_core.specs.OverFolders.{OverPlaces}
use Rattle.capcheck_core.specs.OverPackage.{OfPackage}
use Rattle.capcheck_core.specs.Pack.{PacksPackage, load_stores}
use Rattle.capcheck_core.specs.Place.{places}
use Rattle.capcheck_core.specs.Report.{Seen, Received, IsReported}
use Rattle.capcheck_core.specs.Roles.{roles_tag}
use Rattle.capcheck_core.specs.Run.{RunsWorld}
use Rattle.capcheck_core.specs.Share.{SharesWorld}
use Rattle.capcheck_core.specs.Stores.{with_parts_stored, AreStored, AreInStoreOrder, header_tag}
use Rattle.capcheck_core.specs.Transform.{TransformsWorld}
use Rattle.capcheck_core.specs.Trial.{TriesWorld}
use Rattle.capcheck_core.specs.Verdict.{status_of, text_of}
use Rattle.capcheck_core.specs.Verify.{VerifiesWorld}
use Rattle.capcheck_core.specs.World.{Own, of_world, OverWorld}
use Rattle.capcheck_core.proofs.Loads.{none_some, file_other, file_same, below_none, nothing}
use Rattle.capcheck_core.proofs.Stores.{get_stored, stores_each, no_header_before}

-- ---- what is stored

abbrev order : List ℕ → List ℕ → Ordering
order = slice_cmp nat_cmp

module _ (dir : List ℕ) where
  other : (key : List ℕ) (l : Lent) → (l.part ∷ dir ≡ key → ⊥) → eq_by_cmp order key (l.part ∷ dir) ≡ false
  other key l differ = by (eq_by_cmp order key (l.part ∷ dir)) refl
    where
      by : (b : Bool) → eq_by_cmp order key (l.part ∷ dir) ≡ b → b ≡ false
      by true e = absurd (differ (sym (same_key key (l.part ∷ dir) e)))
      by false e = refl

  -- a key that none of these parts has is as before
  get_other : (old : Parts) (parts : List Lent) (key : List ℕ) → ((tag : ℕ) → key ≡ tag ∷ dir → IsNone (held parts tag))
      → map.get (with_parts_stored dir old parts) key ≡ map.get old key
  get_other old [] key none = refl
  get_other old (l ∷ ls) key none =
      let differ : l.part ∷ dir ≡ key → ⊥ = λ e. some_held l ls (none l.part (sym e)) in
      get_other (map.insert old (l.part ∷ dir) l.bytes) ls key (λ tag e. none_left l ls tag (none tag e))
      ∙ map.get-insert nat_list_cmp_total old (l.part ∷ dir) l.bytes key
      ∙ ap (λ b. cond b (Some l.bytes) (map.get old key)) (other key l differ)
    where
      some_held : (m : Lent) (ms : List Lent) → IsNone (held (m ∷ ms) m.part) → ⊥
      some_held m ms e = none_some m.bytes (sym (nothing (held (m ∷ ms) m.part) e) ∙ held-same m.part m ms (eq-eqb m.part m.part refl))

      none_left : (m : Lent) (ms : List Lent) (tag : ℕ) → IsNone (held (m ∷ ms) tag) → IsNone (held ms tag)
      none_left m ms tag e = by (eqb m.part tag) refl
        where
          by : (b : Bool) → eqb m.part tag ≡ b → IsNone (held ms tag)
          by true same = absurd (none_some m.bytes (sym (nothing (held (m ∷ ms) tag) e) ∙ held-same tag m ms same))
          by false differ = subst IsNone (held-other tag m ms differ) e

  stand : (stores : List Lent) (before after : Folders) → HasEachOnce stores → AreStored dir stores before after → StandIn dir stores before after
  stand stores before after each all =
      record { there = λ tag bytes is. there_in after.held before.held all.held tag bytes is; others = others_in after.held before.held all.held }
    where
      there_in : (now old : Option Parts) → IfSome now (λ n. IsSomeAnd old (λ o. n ≡ with_parts_stored dir o stores)) → (tag : ℕ) (bytes : List ℕ)
          → held stores tag ≡ Some bytes → IfSome now (λ n. map.get n (tag ∷ dir) ≡ Some bytes)
      there_in None old told tag bytes is = tt {0}
      there_in (Some n) None told tag bytes is = absurd told
      there_in (Some n) (Some o) told tag bytes is = ap (λ m. map.get m (tag ∷ dir)) told ∙ get_stored dir o stores each tag bytes is

      others_in : (now old : Option Parts) → IfSome now (λ n. IsSomeAnd old (λ o. n ≡ with_parts_stored dir o stores))
          → IfSome now
          (λ n. IsSomeAnd old (λ o. (key : List ℕ) → ((tag : ℕ) → key ≡ tag ∷ dir → IsNone (held stores tag))
          → map.get n key ≡ map.get o key))
      others_in x old told = grind (arith, get_other)

  -- ---- the parts of a package in the order of the stores

  module _ (parts : List Lent) (given : Option (List ℕ)) (stores : List Lent) (inorder : AreInStoreOrder parts given stores) where
    abbrev middle : List Lent
    middle = with_file inorder.others roles_tag given

    no_header : held middle header_tag ≡ None
    no_header = no_header_before inorder.others 256 given inorder.rising

    all_held : (tag : ℕ) → held stores tag ≡ held (with_file middle header_tag (Some inorder.header)) tag
    all_held tag = ap (λ ps. held ps tag) inorder.all

    component : (tag : ℕ) → 1 ≤ tag → tag < 256 → held stores tag ≡ held parts tag
    component tag least most = by (eqb header_tag tag) refl
      where
        by : (b : Bool) → eqb header_tag tag ≡ b → held stores tag ≡ held parts tag
        by true e =
            let is : header_tag ≡ tag = eqb-true header_tag tag e in
            subst (λ t. held stores t ≡ held parts t) is (all_held header_tag ∙ file_same header_tag middle (Some inorder.header) no_header
            ∙ sym inorder.is)
        by false e =
            let differs = eqb-false header_tag tag e in
            let above : 2 ≤ tag = omega (arith, least, differs) in
            all_held tag
            ∙ file_other tag header_tag middle (Some inorder.header) e
            ∙ file_other tag roles_tag inorder.others given (ne_eqb roles_tag tag (λ z. absurd (omega (arith, least, z))))
            ∙ inorder.same tag above most

    the_roles : held stores roles_tag ≡ given
    the_roles =
        all_held roles_tag
        ∙ file_other roles_tag header_tag middle (Some inorder.header) refl
        ∙ file_same roles_tag inorder.others given (below_none 2 256 roles_tag inorder.others inorder.rising (omega arith))

    pub are_kept : (before after : Folders) → AreStored dir stores before after → AreKept dir parts given before after
    are_kept before after all = record {
      stores = stores;
      components = component;
      roles = the_roles;
      stand = stand stores before after (stores_each parts given stores inorder) all;
    }

-- ---- over a world

-- the world of which a last step says so
pub record Over (own : Own) (last : Source) (dirs : List (List ℕ)) (before after : Outside) (verdict : Verdict) : Type 0 where
  pub world : Linked
  pub held : HoldWorld last before.folders dirs world
  pub holds : own held.packages held.roles world before after verdict

over_by : (own : Own) (last : Source) (dirs : List (List ℕ)) (before after : Outside) (text : _)
    → OverPlaces (OverWorld own) (places last dirs) before after (Done text) → Over own last dirs before after (Done text)
over_by own last dirs before after text (inl stops) = absurd stops
over_by own last dirs before after text (inr of) = elim of.holds.holds [
  | inl unlinked ↦ absurd unlinked.1
  | inr l ↦ record {
    world = l.world;
    held = record { parts = of.parts; roles = of.roles; given = of.given; packages = of.holds.packages; stand = of.holds.stand; linked = l.linked };
    holds = l.holds;
  }
]

pub over : (own : Own) (dirs : List (List ℕ)) (before after : Outside) (text : _)
    → OverPlaces (OverWorld own) (places Components dirs) before after (Done text) → Over own Components dirs before after (Done text)
over own dirs before after text answers = over_by own Components dirs before after text answers

-- ---- each command

-- the Load file and the roles are each once
load_once : (stream : List ℕ) (roles : Option (List ℕ)) → HasEachOnce (load_stores stream roles)
load_once stream x = grind (arith)

packed : (o : OutOfDirRequest) (before after : Folders) (text : _)
    → OfPackage before o.dir (λ parts p. PacksPackage o parts p before after (Done text)) → Packed o before after (string_bytes text)
packed o before after text of = elim of.holds [
  | inl stops ↦ absurd stops
  | inr r ↦ let is = r.holds in
      record {
        parts = of.parts;
        loaded = of.loaded;
        read = of.read;
        stands = of.stands;
        stream = is.stream;
        packed = is.packed;
        short = is.short;
        roles = r.file;
        beside = r.there;
        stand = stand o.out (load_stores is.stream r.file) before after (load_once is.stream r.file) is.stored;
        prints = is.prints;
      }
]

assembled : (o : OutOfDirRequest) (before after : Folders) (text : _)
    → OfPackage before o.dir (λ parts p. AssemblesPackage o parts p before after (Done text)) → Assembled o before after (string_bytes text)
assembled o before after text of = elim of.holds [
  | inl stops ↦ absurd stops
  | inr l ↦ elim l.holds [
    | inl stops ↦ absurd stops
    | inr r ↦ elim r.holds [
      | inl stops ↦ absurd stops
      | inr ms ↦ let is = ms.holds in
          let new = is.brings.made.again in
          let same : methods_of new.made ≡ ms.methods =
          methods-replaced of.parts of.read new.made ms.methods of.stands is.brings.made.fit new.rewritten in
          record {
            parts = of.parts;
            loaded = of.loaded;
            read = of.read;
            stands = of.stands;
            listing = l.file;
            there = l.there.there;
            roles = r.file;
            beside = r.there;
            stored = is.brings.parts;
            made = new.made;
            again = new.stands;
            lists = subst (λ ns. Lists ns l.file) (sym same) ms.lists;
            rewritten = subst (λ ns. IsRewritten of.read (placed of.read ns) new.made) (sym same) new.rewritten;
            kept = are_kept o.out is.brings.parts _ is.stores is.brings.order before after is.stored;
            prints = is.prints ∙ ap (λ ns. methods_line (codes "assembled ") (length ns)) (sym same);
          }
    ]
  ]
]

untouched : (before after : Outside) → Untouched before after → after ≡ before
untouched before after same = λ i. record { folders = same.folders i; card = same.card i }

done : (r : Request) (before after : Outside) (text : _) → Answers r before after (Done text) → Promise r before after (string_bytes text)
done (probe p) before after text (inl probes, card) =
    let part = probes.1 in (
      untouched before after (record { folders = probes.0; card = card }),
      record {
        file = part.file;
        there = part.there;
        short = part.short;
        bare = part.holds.bare;
        code = part.holds.code;
        method = part.holds.method;
        run = part.holds.holds;
      },
    )
done (probe p) before after text (inr fails, card) = absurd fails
done (show dir) before after text (inl stops, card) = absurd stops
done (show dir) before after text (inr of, card) = (
  untouched before after (record { folders = of.holds.0; card = card }),
  record { parts = of.parts; loaded = of.loaded; read = of.read; stands = of.stands; prints = of.holds.1 },
)
done (list dir) before after text (inl stops, card) = absurd stops
done (list dir) before after text (inr of, card) = (
  untouched before after (record { folders = of.holds.0; card = card }),
  record { parts = of.parts; loaded = of.loaded; read = of.read; stands = of.stands; lists = of.holds.1 },
)
done (asm o) before after text (inl stops, card) = absurd stops
done (asm o) before after text (inr of, card) = (card, assembled o before.folders after.folders text of)
done (check dirs) before after text answers =
    let o = over (of_world ChecksWorld) dirs before after text answers in
    (untouched before after o.holds.0, record { world = o.world; held = o.held; typed = o.holds.1.typed; prints = o.holds.1.prints })
done (verify dirs) before after text answers =
    let o = over (of_world VerifiesWorld) dirs before after text answers in (
      untouched before after o.holds.0,
      record { world = o.world; held = o.held; carded = o.holds.1.carded; fault_free = o.holds.1.fault_free; prints = o.holds.1.prints },
    )
done (defend r) before after text answers =
    let o = over (of_world (DefendsWorld r)) r.dirs before after text answers in
    (untouched before after o.holds.0, record { world = o.world; held = o.held; defended = o.holds.1 })
done (run r) before after text answers =
    let o = over (of_world (RunsWorld r)) r.dirs before after text answers in
    let is = o.holds.1 in
    (o.holds.0, record { world = o.world; held = o.held; carded = is.carded; fault_free = is.fault_free; left = is.left })
done (transform t) before after text answers =
    let o = over (TransformsWorld t) t.dirs before after text answers in
    let is = o.holds.1 in (
      o.holds.0,
      record {
        source = o.world;
        held = o.held;
        parts = is.brings.parts;
        keeps = is.brings.made.keeps;
        kept = are_kept t.out is.brings.parts _ is.stores is.brings.order before.folders after.folders is.stored;
        prints = is.prints;
      },
    )
done (share o) before after text answers =
    let of = over (SharesWorld o) o.dirs before after text answers in
    let is = of.holds.1 in (
      of.holds.0,
      record {
        source = of.world;
        held = of.held;
        parts = is.shares.parts;
        keeps = is.shares.made.keeps;
        kept = are_kept o.out is.shares.parts _ is.stores is.shares.order before.folders after.folders is.stored;
        prints = is.prints;
      },
    )
done (trial r) before after text answers =
    let o = over (TriesWorld r) r.dirs before after text answers in
    let is = o.holds.1 in (
      o.holds.0,
      record {
        source = o.world;
        held = o.held;
        parts = is.parts;
        keeps = is.made.keeps;
        first = is.source;
        defended = is.defended;
        second = is.target;
        fault_free = is.run.fault_free;
        left = is.run.left;
        prints = is.prints;
      },
    )
done (generate g) before after text (inl stopped) = let never = stopped.1 in absurd (cc)
done (generate g) before after text (inr of) =
    let is = of.holds in
    record {
      read = package_record g.seed;
      stands = parts_stand g.seed;
      source = of.world;
      linked = of.linked;
      parts = is.stored.brings.parts;
      keeps = is.stored.brings.made.keeps;
      kept = are_kept g.out is.stored.brings.parts (Some roles) is.stored.stores is.stored.brings.order before.folders after.folders is.stored.stored;
      told = is.told;
    }
done (bound e) before after text answers =
    let o = over (of_world (BoundsWorld e)) e.dirs before after text answers in
    (untouched before after o.holds.0, record { world = o.world; held = o.held; bounded = o.holds.1 })
done (pack o) before after text (inl stops, card) = absurd stops
done (pack o) before after text (inr of, card) = (card, packed o before.folders after.folders text of)
done (install dirs) before after text answers =
    let o = over_by (of_world VerifiesWorld) LoadFile dirs before after text answers in (
      untouched before after o.holds.0,
      record { world = o.world; held = o.held; carded = o.holds.1.carded; fault_free = o.holds.1.fault_free; prints = o.holds.1.prints },
    )

-- a verdict with status 0 is Done
promised : (r : Request) (before after : Outside) (sink put : Seen) (verdict : Verdict) → status_of verdict ≡ 0 → Received sink put (text_of verdict)
    → Answers r before after verdict → (text : List ℕ) × Received sink put text × Promise r before after text
promised r before after sink put (Done text) zero whole answers = (string_bytes text, whole, done r before after text answers)
promised r before after sink put (Refused text) zero whole answers = absurd (omega (arith, zero))
promised r before after sink put (Limit text) zero whole answers = absurd (omega (arith, zero))
promised r before after sink put (Malformed text) zero whole answers = absurd (omega (arith, zero))
promised r before after sink put Usage zero whole answers = absurd (omega (arith, zero))
promised r before after sink put ReadFault zero whole answers = absurd (omega (arith, zero))
promised r before after sink put StoreFault zero whole answers = absurd (omega (arith, zero))
promised r before after sink put Memory zero whole answers = absurd (omega (arith, zero))

pub promises : (words : List (List ℕ)) (before after : Outside) (sink put : Seen) (verdict : Verdict) (status : ℕ)
    → IsVerdict words before after verdict → IsReported verdict sink put status → Promises words before after sink put status
promises words before after sink put verdict status is (inl whole) =
    λ r asks zero. promised r before after sink put verdict (sym whole.says ∙ zero) whole.whole (is.command r asks)
promises words before after sink put verdict status is (inr cut) = λ r asks zero. let eight = cut.says in absurd (omega (arith, eight, zero))
