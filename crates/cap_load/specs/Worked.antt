-- Worked cases: a Load file of one component that a block cuts, the faults of bytes, the order of tags, and parts that are packed.
use Rattle.std.specs.Prelude.{◌≡◌, ℕ, Bool, true, false, List, [], ◌∷◌, Option, Some, None, is_some, map, refl, ◌==◌, if◌then◌else◌}
use Rattle.std.proofs.Common.{lit<, lit≤, subst}
use Rattle.std.proofs.lemmas.Bool.{eqb-true}
use Rattle.cap_components.specs.Parts.{Lent, held}
use Rattle.cap_load.specs.declared.fault.StreamFault.TheVariants.{NoTag, Order, Full, AfterEnd}
use Rattle.cap_load.specs.Order.{place, comes_before}
use Rattle.cap_load.specs.LoadFile.{IsFile, IsLoadFile}
use Rattle.cap_load.specs.Fault.{Begins, Shows}
use Rattle.cap_load.specs.Packing.{AreComponents, IsPacked}

-- the Directory comes before the Applet component, and that after the Import component; custom components come last
directory_first : map (comes_before 2) (1 ∷ 2 ∷ 3 ∷ 128 ∷ 12 ∷ []) ≡ false ∷ false ∷ true ∷ true ∷ false ∷ []
unfolding place comes_before
directory_first = refl

applet_late : map (comes_before 3) (1 ∷ 2 ∷ 4 ∷ 5 ∷ 6 ∷ []) ≡ false ∷ false ∷ false ∷ true ∷ true ∷ []
unfolding place comes_before
applet_late = refl

-- Debug has no place, nor has 127, the number just below the first custom component, nor a number that is no byte
no_place : map place (0 ∷ 12 ∷ 127 ∷ 128 ∷ 255 ∷ 256 ∷ []) ≡ None ∷ None ∷ None ∷ Some 128 ∷ Some 255 ∷ None ∷ []
unfolding place
no_place = refl

-- a Header component of one byte
abbrev header : Lent
header = record { part = 1; bytes = 1 ∷ 0 ∷ 1 ∷ 7 ∷ [] }

header_file : IsFile header
header_file = record { high = 0; low = 1; info = 7 ∷ []; bytes = refl; fit = (lit< tt, lit< tt, lit< tt); size = refl }

-- in two blocks, the first of which ends inside the size
two_blocks : IsLoadFile (2 ∷ 1 ∷ 0 ∷ 2 ∷ 1 ∷ 7 ∷ 0 ∷ []) (header ∷ [])
unfolding place header_file
two_blocks = record {
  blocks = (1 ∷ 0 ∷ []) ∷ (1 ∷ 7 ∷ []) ∷ [];
  each = ((lit< tt, lit< tt), ((lit< tt, lit< tt), tt {0}));
  whole = refl;
  files = record { whole = refl; each = (header_file, tt {0}); order = (refl, tt {0}, tt {0}) };
}

-- the ending alone is a Load file of no component
nothing : IsLoadFile (0 ∷ []) []
nothing = record { blocks = []; each = tt {0}; whole = refl; files = record { whole = refl; each = tt {0}; order = tt {0} } }

-- the first byte of the first block begins a component
first_byte : Begins (9 ∷ []) []
first_byte = record {
  goes_on = record { blocks = []; size = 9; got = []; each = tt {0}; whole = refl; more = lit< tt; joined = refl };
  each = tt {0};
}

-- the tag of Debug at the first byte, where there is no room either: the first has the lesser number
debug : Shows 0 (9 ∷ []) 12 (NoTag 12)
unfolding place first_byte
debug = (refl, refl, ([], first_byte))

no_room : Shows 0 (9 ∷ []) 12 (Full 0)
no_room = (refl, ([], first_byte.goes_on, lit≤ tt))

-- a second Header
again : Shows 99 (5 ∷ 1 ∷ 0 ∷ 1 ∷ 7 ∷ []) 1 (Order 1 1)
unfolding place comes_before header_file
again = (
  refl,
  refl,
  record {
    parts = [];
    last = header;
    begins = record {
      goes_on =
          record {
            blocks = [];
            size = 5;
            got = 1 ∷ 0 ∷ 1 ∷ 7 ∷ [];
            each = tt {0};
            whole = refl;
            more = lit< tt;
            joined = refl;
          };
      each = (header_file, tt {0});
    };
    is_last = refl;
  },
)

after_the_ending : Shows 99 (0 ∷ []) 0 AfterEnd
after_the_ending = record { blocks = []; more = []; each = tt {0}; whole = refl }

-- a Debug component and a Header: the Load file has the Header alone, in one block
abbrev with_debug : List Lent
with_debug = record { part = 12; bytes = 12 ∷ 0 ∷ 0 ∷ [] } ∷ header ∷ []

nothing_held : (b : Bool) → None ≡ (if b then (let none : Option (List ℕ) = None in none) else None)
nothing_held true = refl
nothing_held false = refl

neither : (tag : ℕ) → (1 == tag) ≡ false → (12 == tag) ≡ false
    → held (header ∷ []) tag ≡ (if is_some (place tag) then held with_debug tag else None)
neither tag e h = rw (e, h) (nothing_held (is_some (place tag)))

header_alone : AreComponents with_debug (header ∷ [])
unfolding place
header_alone tag = by (1 == tag) refl (12 == tag) refl
  where
    Alone : ℕ → Type 0
    Alone t = held (header ∷ []) t ≡ (if is_some (place t) then held with_debug t else None)

    by : (b : Bool) → (1 == tag) ≡ b → (c : Bool) → (12 == tag) ≡ c → Alone tag
    by true e c h = subst Alone (eqb-true 1 tag e) refl
    by false e true h = subst Alone (eqb-true 12 tag h) refl
    by false e false h = neither tag e h

packed : IsPacked with_debug (4 ∷ 1 ∷ 0 ∷ 1 ∷ 7 ∷ 0 ∷ [])
unfolding place header_file
packed = record {
  chosen = header ∷ [];
  blocks = header.bytes ∷ [];
  components = header_alone;
  files = record { whole = refl; each = (header_file, tt {0}); order = (refl, tt {0}, tt {0}) };
  full = (lit< tt, lit< tt);
  whole = refl;
}
