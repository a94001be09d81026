-- What a lineage tells by its lines.
use Rattle.std.proofs.Common.{◌≡◌, ℕ, ◌+◌, ◌<◌, List, [], ◌∷◌, ◌++◌, map, length, take, get_or, Option, Some, None, sym, ap}
use Rattle.std.proofs.Common.{◌∙◌, arith}
use Rattle.std.specs.Prelude.{slice_get, IfSome}
use Rattle.std.proofs.lemmas.Option.{slice_get-get_or}
use Rattle.std.proofs.lemmas.List.{map_more}
use Rattle.jc_base.specs.Class.{list_of}
use Rattle.jc_resolve.specs.declared.naming.NamedClass.{NamedClass}
use Rattle.jc_classes.specs.declared.lineage_type.Line.{Line}
use Rattle.jc_classes.specs.Outline.{LineTable, AreLines, line_of, chain, package_in_line, package_of, parent_in_line, parent_of}
use Rattle.jc_classes.proofs.Bare.{next_on_chain, parent_of-class, chain-alone}

-- one more line
pub lined_more : (lines : List Line) (classes : List NamedClass) (i : ℕ) (line : Line) (class : NamedClass) → i < length classes → line ≡ line_of class
    → class ≡ get_or classes i class → lines ≡ map line_of (take i classes) → lines ++ line ∷ [] ≡ map line_of (take (i + 1) classes)
lined_more lines classes i line class lt same is before = grind (arith, map_more line_of classes i class lt)

abbrev pub table : List Line → List ℕ → LineTable
table lines roles = record { lines = lines; roles = roles }

-- the line of a number, as it is read
pub line_read : (t : LineTable) (lines : List Line) (roles : List ℕ) (c : ℕ) (line : Line) → table lines roles ≡ t → c < length t.lines
    → line ≡ get_or lines c line → slice_get lines c ≡ Some line
line_read t lines roles c line view below is = grind (arith, slice_get-get_or)

-- what a lineage tells of a class
module _ (lines : List Line) (roles : List ℕ) (c : ℕ) (line : Line) (at : slice_get lines c ≡ Some line) where
  pub package_told : line.«package» ≡ package_of (table lines roles) c
  unfolding package_of
  package_told = sym (ap package_in_line at)

  pub parent_told : (above : Option ℕ) → above ≡ parent_in_line (Some line) → above ≡ parent_of (table lines roles) c
  unfolding parent_of
  parent_told above is = is ∙ sym (ap parent_in_line at)

-- a superclass has a line, and the chain goes on with it
pub parent_known : (t : LineTable) (c : ℕ) (above : Option ℕ) → AreLines t → above ≡ parent_of t c → IfSome above (λ p. p < length t.lines)
parent_known t c None are is = tt
parent_known t c (Some p) are is = (next_on_chain t c p are (parent_of-class t c p (sym is)) (sym is)).class.number

pub chain_told : (t : LineTable) (c : ℕ) (above : Option ℕ) → AreLines t → above ≡ parent_of t c → chain t c ≡ c ∷ list_of (chain t) above
chain_told t c z are is = grind (arith, chain-alone, next_on_chain, parent_of-class)
