-- Dispatch lists by token, as the dispatch tables of a class and its superclasses make them (JCVM 2.2, sections 4.3.7.6 and 6.8.2).
use Rattle.std.specs.Prelude.{ℕ, ◌+◌, ◌-◌, max, nat_lt, if◌then◌else◌, List, [], ◌∷◌, length, map, Option, None}
use Rattle.std.specs.Prelude.{slice_get}
use Rattle.std.specs.Option.{option_or, option_flatten}
use Rattle.std.specs.List.{range_with_len}
use Rattle.jc_resolve.specs.declared.naming.DispatchTable.{DispatchTable}

-- the token after the last entry of a table; a table without entries reaches none
abbrev pub reach_from : ℕ → List (Option ℕ) → ℕ
reach_from base [] = 0
reach_from base (entry ∷ entries) = base + length (entry ∷ entries)

unfoldable pub reach : DispatchTable → ℕ
reach table = reach_from table.base table.entries

-- the method that a table names for a token
unfoldable pub named_by : DispatchTable → ℕ → Option ℕ
named_by table token = if nat_lt token table.base then None else option_flatten (slice_get table.entries (token - table.base))

-- the token after the last one that any of the tables covers
abbrev pub reach_of : List DispatchTable → ℕ
reach_of [] = 0
reach_of (table ∷ tables) = max (reach_of tables) (reach table)

-- the method that the first of the tables that names one names for a token
abbrev pub method_named : List DispatchTable → ℕ → Option ℕ
method_named [] token = None
method_named (table ∷ tables) token = option_or (named_by table token) (method_named tables token)

-- the dispatch list of a class by the tables of the class itself, of its superclass, of the
-- superclass of that one and so on: for each token the method of the nearest class whose table
-- names one; an entry is open where none does
unfoldable pub dispatch_list : List DispatchTable → List (Option ℕ)
dispatch_list tables = map (method_named tables) (range_with_len 0 (reach_of tables))

-- an inherited list, overwritten and extended by a table
unfoldable pub overlaid_at : DispatchTable → List (Option ℕ) → ℕ → Option ℕ
overlaid_at table inherited token = option_or (named_by table token) (option_flatten (slice_get inherited token))

abbrev pub overlaid : DispatchTable → List (Option ℕ) → List (Option ℕ)
overlaid table inherited = map (overlaid_at table inherited) (range_with_len 0 (max (length inherited) (reach table)))
