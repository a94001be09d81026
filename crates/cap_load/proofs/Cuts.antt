-- Contents in full blocks.
use Rattle.std.proofs.Common.{◌≡◌, ℕ, ◌*◌, ◌<◌, ◌≤◌, ◌^◌, Bool, true, false, List, [], ◌∷◌, ◌++◌, length, take}
use Rattle.std.proofs.Common.{drop, get_or, refl, sym, ap, ◌∙◌, arith, length-append, append_assoc, if◌then◌else◌}
use Rattle.std.proofs.lemmas.List.{append-nil, take-append-drop, length-take, nil_from_length}
use Rattle.std.proofs.lemmas.List.Concat.{flat_map-append}
use Rattle.std.proofs.lemmas.List.Folds.{concat-append}
use Rattle.std.proofs.lemmas.Bool.{eqb-true, eqb-false}
use Rattle.std.specs.Prelude.{◌==◌}
use Rattle.std.specs.List.{AllByRecursion, concat, flat_map}
use Rattle.cap_components.specs.Parts.{Lent}
use Rattle.cap_load.specs.LoadFile.{block, IsBlock, in_blocks, files_of, IsLoadFile}
use Rattle.cap_load.specs.Packing.{IsFramed, AreFull, IsPacked}
use Rattle.cap_load.specs.Joining.{in_order, file_in, ending, IsCut}
use Rattle.cap_load.proofs.Orders.{all_push}
use Rattle.cap_load.proofs.Choosing.{chosen, files_chosen, are_components, all_placed, all_in_order, order_long}
use Rattle.cap_load.proofs.Framing.{HasFrame, files_are, chosen_frames, chosen_few, files_long}

abbrev pub Is255 : List ℕ → Type 0
Is255 content = length content ≡ 255

-- blocks of 255 bytes, and what is left
pub record IsCutUpTo (contents stream rest : List ℕ) : Type 0 where
  pub blocks : List (List ℕ)
  pub each : AllByRecursion Is255 blocks
  pub joined : contents ≡ concat blocks ++ rest
  pub whole : stream ≡ in_blocks blocks

full_push : (blocks : List (List ℕ)) (last : List ℕ) → AllByRecursion Is255 blocks → IsBlock last → AreFull (blocks ++ last ∷ [])
full_push [] last a b = b
full_push (c ∷ []) last a b = (a.0, b)
full_push (c ∷ d ∷ cs) last a b = (a.0, full_push (d ∷ cs) last a.1 b)

full_all : (blocks : List (List ℕ)) → AllByRecursion Is255 blocks → AreFull blocks
full_all [] a = tt {0}
full_all (c ∷ []) a = let long : length c ≡ 255 = a.0 in (omega arith, omega arith)
full_all (c ∷ d ∷ cs) a = (a.0, full_all (d ∷ cs) a.1)

blocks_push : (blocks : List (List ℕ)) (content : List ℕ) → in_blocks (blocks ++ content ∷ []) ≡ in_blocks blocks ++ block content
blocks_push blocks content = flat_map-append block blocks (content ∷ []) ∙ ap (λ (x : List ℕ). in_blocks blocks ++ x) (append-nil (block content))

contents_push : (blocks : List (List ℕ)) (content : List ℕ) → concat (blocks ++ content ∷ []) ≡ concat blocks ++ content
contents_push blocks content = concat-append blocks (content ∷ []) ∙ ap (λ (x : List ℕ). concat blocks ++ x) (append-nil content)

pub cut_more : (contents stream rest content back new : List ℕ) → IsCutUpTo contents stream rest → length content ≡ 255 → rest ≡ content ++ back
    → new ≡ stream ++ block content → IsCutUpTo contents new back
cut_more contents stream rest content back new c long e h = record {
  blocks = c.blocks ++ content ∷ [];
  each = all_push Is255 c.blocks content c.each long;
  joined = c.joined ∙ ap (λ (x : List ℕ). concat c.blocks ++ x) e ∙ sym (append_assoc (concat c.blocks) content back)
      ∙ ap (λ (x : List ℕ). x ++ back) (sym (contents_push c.blocks content));
  whole = h ∙ ap (λ (x : List ℕ). x ++ block content) c.whole ∙ sym (blocks_push c.blocks content);
}

pub cut_step : (contents stream rest content back new : List ℕ) → IsCutUpTo contents stream rest → 255 < length rest → content ≡ take 255 rest
    → back ≡ drop 255 rest → new ≡ stream ++ block content → IsCutUpTo contents new back
cut_step contents stream rest content back new c more front behind h =
    grind (arith, take-append-drop 255 rest, length-take 255 rest, cut_more)

pub cut_end : (contents stream rest new : List ℕ) → IsCutUpTo contents stream rest → length rest ≤ 255 → new ≡ stream ++ ending rest
    → IsCut contents new
cut_end contents stream rest new c few h = by (length rest == 0) refl
  where
    by : (b : Bool) → (length rest == 0) ≡ b → IsCut contents new
    by true e = record {
      blocks = c.blocks;
      full = full_all c.blocks c.each;
      joined = sym (c.joined ∙ ap (λ (x : List ℕ). concat c.blocks ++ x) (nil_from_length rest (eqb-true (length rest) 0 e)) ∙ append-nil (concat c.blocks));
      whole = h ∙ ap (λ (t : Bool). stream ++ (if t then 0 ∷ [] else block rest ++ 0 ∷ [])) e ∙ ap (λ (x : List ℕ). x ++ 0 ∷ []) c.whole;
    }
    by false e =
        let some : length rest ≡ 0 → ⊥ = eqb-false (length rest) 0 e in
        record {
          blocks = c.blocks ++ rest ∷ [];
          full = full_push c.blocks rest c.each (omega arith, omega arith);
          joined = contents_push c.blocks rest ∙ sym c.joined;
          whole = grind (arith, append_assoc, blocks_push);
        }

-- ---- lengths

pub full_blocks : (blocks : List (List ℕ)) → AreFull blocks → AllByRecursion IsBlock blocks
full_blocks [] f = tt {0}
full_blocks (c ∷ []) f = (f, tt {0})
full_blocks (c ∷ d ∷ cs) f = let long : length c ≡ 255 = f.0 in ((omega arith, omega arith), full_blocks (d ∷ cs) f.1)

blocks_long : (blocks : List (List ℕ)) → AllByRecursion IsBlock blocks → length (in_blocks blocks) ≤ 2 * length (concat blocks)
blocks_long [] a = omega arith
blocks_long (c ∷ cs) a = grind (arith, length-append, blocks_long cs a.1)

-- ---- the components of a package

-- what is known of contents that were joined
pub record AreJoined (parts : List Lent) (contents : List ℕ) : Type 0 where
  pub framed : AllByRecursion IsFramed parts
  pub whole : contents ≡ flat_map (file_in parts) in_order
  pub fits : (i : ℕ) → get_or contents i 0 < 256

abbrev components_of : List Lent → List Lent
components_of parts = chosen in_order parts

contents_are : (parts : List Lent) (contents : List ℕ) → AreJoined parts contents → contents ≡ files_of (components_of parts)
contents_are parts contents j = j.whole ∙ sym (files_chosen in_order parts)

frames : (parts : List Lent) → AllByRecursion IsFramed parts → AllByRecursion HasFrame (components_of parts)
frames parts a = chosen_frames in_order parts all_placed a

pub packed : (parts : List Lent) (contents stream : List ℕ) → AreJoined parts contents → IsCut contents stream → IsPacked parts stream
packed parts contents stream j c =
    grind (arith, contents_are parts contents j, are_components parts, frames parts j.framed, all_in_order parts, files_are, get_or)

pub packed_long : (parts : List Lent) (contents stream : List ℕ) → AreJoined parts contents → IsCut contents stream → length stream < 2 ^ 32
packed_long parts contents stream j c =
    let few = chosen_few in_order parts in
    let most = files_long (components_of parts) (frames parts j.framed) in
    let files = ap length (contents_are parts contents j) in
    let cut = ap length c.joined in
    let whole = ap length c.whole in
    let twice = blocks_long c.blocks (full_blocks c.blocks c.full) in
    omega (arith, length-append (in_blocks c.blocks) (0 ∷ []), order_long)

pub packs : (parts : List Lent) (contents lent stream : List ℕ) → AllByRecursion IsFramed parts → contents ≡ flat_map (file_in parts) in_order
    → ((i : ℕ) → get_or lent i 0 < 256) → lent ≡ contents → IsCut lent stream → IsPacked parts stream × (length stream < 2 ^ 32)
packs parts contents lent stream framed whole fits same c =
    let j : AreJoined parts lent = record { framed = framed; whole = same ∙ whole; fits = fits } in
    (packed parts lent stream j c, packed_long parts lent stream j c)

-- what is packed is a Load file
pub packed_loads : (parts : List Lent) (bytes : List ℕ) → (p : IsPacked parts bytes) → IsLoadFile bytes p.chosen
packed_loads parts bytes p = record { blocks = p.blocks; each = full_blocks p.blocks p.full; whole = p.whole; files = p.files }
