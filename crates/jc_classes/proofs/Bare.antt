-- Lines have the superclasses of a class table without lists, so what holds of chains in class tables holds of lines.
use Rattle.std.proofs.Common.{◌≡◌, ℕ, zero, suc, ◌+◌, ◌≤◌, true, List, [], ◌∷◌, map, length, Option, Some, None, refl, sym, ap}
use Rattle.std.proofs.Common.{◌∙◌, arith}
use Rattle.std.specs.Prelude.{◌==◌, slice_get}
use Rattle.std.specs.List.{list_any}
use Rattle.std.specs.Option.{option_map}
use Rattle.std.proofs.lemmas.Option.{slice_get-map}
use Rattle.std.proofs.lemmas.List.{length-map}
use Rattle.jc_base.specs.declared.record.ClassRec.{ClassRec}
use Rattle.jc_base.specs.Class.{ClassTable, list_of, is_interface_record}
use Rattle.jc_base.specs.Class.{is_interface as interface_in_table, IsClass as IsTableClass}
use Rattle.jc_base.specs.Class.{parent_of as parent_in_table, chain_over as chain_over_table, chain as chain_in_table, AreClasses}
use Rattle.jc_base.specs.Order.{is_on_chain as on_chain_in_table}
use Rattle.jc_base.proofs.Chains.{chain_over-front as front_over_table, chain_alone as alone_over_table, chain_above as above_over_table}
use Rattle.jc_base.proofs.Chains.{next_on_chain as next_in_table}
use Rattle.jc_base.proofs.Climbs.{chain-length as length_in_table, parent_of-class as class_of_parent, on_chain-here as here_in_table}
use Rattle.jc_classes.specs.declared.lineage_type.Line.{Line}
use Rattle.jc_classes.specs.Outline.{LineTable, IsClass, AreLines, is_interface_line, is_interface}
use Rattle.jc_classes.specs.Outline.{parent_of, chain_over, chain}
use Rattle.jc_classes.specs.Outline.{is_on_chain}

-- a line as the record of a class without cells, interfaces and dispatch lists
abbrev pub record_of : Line → ClassRec
record_of line = record {
  «package» = line.«package»;
  interface = line.interface;
  parent = line.parent;
  cells = 0;
  own = [];
  implements = [];
  public = [];
  visible = [];
}

abbrev pub bare : LineTable → ClassTable
bare t = record { records = map record_of t.lines; roles = t.roles }

interface_by : (o : Option Line) → is_interface_record (option_map record_of o) ≡ is_interface_line o
interface_by None = refl
interface_by (Some l) = refl

list_of-same : (f g : ℕ → List ℕ) (o : Option ℕ) → ((p : ℕ) → f p ≡ g p) → list_of f o ≡ list_of g o
list_of-same f g z h = grind (arith)

module _ (t : LineTable) where
  pub bare-count : length (bare t).records ≡ length t.lines
  bare-count = length-map t.lines record_of

  bare-interface : (c : ℕ) → interface_in_table (bare t) c ≡ is_interface t c
  unfolding interface_in_table is_interface
  bare-interface c = ap is_interface_record (slice_get-map record_of t.lines c) ∙ interface_by (slice_get t.lines c)

  pub bare-parent : (c : ℕ) → parent_in_table (bare t) c ≡ parent_of t c
  unfolding parent_in_table parent_of
  bare-parent c = grind (arith, slice_get-map)

  bare-over : (n c : ℕ) → chain_over_table (bare t) n c ≡ chain_over t n c
  unfolding chain_over_table chain_over
  bare-over zero c = refl
  bare-over (suc n) c =
      ap (λ (o : Option ℕ). c ∷ list_of (chain_over_table (bare t) n) o) (bare-parent c)
      ∙ ap (λ (xs : List ℕ). c ∷ xs) (list_of-same (chain_over_table (bare t) n) (chain_over t n) (parent_of t c) (λ p. bare-over n p))

  pub bare-chain : (c : ℕ) → chain_in_table (bare t) c ≡ chain t c
  unfolding chain_in_table chain
  bare-chain c = ap (λ (n : ℕ). chain_over_table (bare t) n c) bare-count ∙ bare-over (length t.lines) c

  pub bare-on_chain : (d c : ℕ) → on_chain_in_table (bare t) d c ≡ is_on_chain t d c
  unfolding on_chain_in_table is_on_chain
  bare-on_chain d c = ap (list_any (λ x. x == d)) (bare-chain c)

  bare-class : (c : ℕ) → IsClass t c → IsTableClass (bare t) c
  bare-class c is = grind (arith, bare-count, bare-interface)

  line-class : (c : ℕ) → IsTableClass (bare t) c → IsClass t c
  line-class c is = grind (arith, bare-count, bare-interface)

  pub bare-classes : AreLines t → AreClasses (bare t)
  bare-classes are = grind (arith, bare-class, bare-parent, line-class, bare-chain)

  -- ---- chains

  -- a chain begins with its class
  pub chain_over-front : (n c : ℕ) → (cs : List ℕ) × (chain_over t n c ≡ c ∷ cs)
  chain_over-front n c = grind (arith, front_over_table (bare t) n c, bare-over n c)

  pub chain_above : (n c p : ℕ) → parent_of t c ≡ Some p → chain_over t (suc n) c ≡ c ∷ chain_over t n p
  chain_above n c p e = grind (arith, bare-over (suc n) c, above_over_table (bare t) n c p (bare-parent c ∙ e), bare-over n p)

  pub chain_alone : (n c : ℕ) → parent_of t c ≡ None → chain_over t n c ≡ c ∷ []
  chain_alone n c e = sym (bare-over n c) ∙ alone_over_table (bare t) n c (bare-parent c ∙ e)

  pub chain-front : (c : ℕ) → (cs : List ℕ) × (chain t c ≡ c ∷ cs)
  unfolding chain
  chain-front c = chain_over-front (length t.lines) c

  pub chain-alone : (c : ℕ) → parent_of t c ≡ None → chain t c ≡ c ∷ []
  unfolding chain
  chain-alone c e = chain_alone (length t.lines) c e

  -- a chain has at most one class more than there are lines
  pub chain-length : (c : ℕ) → length (chain t c) ≤ length t.lines + 1
  chain-length c = omega (arith, length_in_table (bare t) c, ap length (bare-chain c), bare-count)

  -- what has a superclass is a class
  pub parent_of-class : (c p : ℕ) → parent_of t c ≡ Some p → IsClass t c
  parent_of-class c p e = line-class c (class_of_parent (bare t) c p (bare-parent c ∙ e))

-- the superclass p of a class c is the next class on its chain
pub record IsNext (t : LineTable) (c p : ℕ) : Type 0 where
  pub class : IsClass t p
  pub chain_is : chain t c ≡ c ∷ chain t p

pub next_on_chain : (t : LineTable) (c p : ℕ) → AreLines t → IsClass t c → parent_of t c ≡ Some p → IsNext t c p
next_on_chain t c p are is e =
    let next = next_in_table (bare t) c p (bare-classes t are) (bare-class t c is) (bare-parent t c ∙ e) in
    record {
      class = line-class t p next.class;
      chain_is = sym (bare-chain t c) ∙ next.chain_is ∙ ap (λ (xs : List ℕ). c ∷ xs) (bare-chain t p);
    }

pub on_chain-here : (t : LineTable) (c : ℕ) → is_on_chain t c c ≡ true
on_chain-here t c = sym (bare-on_chain t c c) ∙ here_in_table (bare t) c
