-- The handlers of the generated package's methods, and the entries of the handler table that stand for them (JCVM 2.2, section 6.9).
use Rattle.std.specs.Prelude.{◌≡◌, refl, true, false, ℕ, ◌%◌, List, [], ◌∷◌}
use Rattle.jc_decode.specs.declared.symbols.LaidHandler.{LaidHandler}
use Rattle.cap_method.specs.declared.read_methods.HandlerInfo.{HandlerInfo}
use Rattle.cap_laying.specs.HandlerTable.{entries_at}
use Rattle.cap_gen.specs.Shape.{handlers_of_kind}
use Rattle.cap_gen.specs.Methods.{code_offset, each_method}

-- every fourth method has two
abbrev pub handlers : ℕ → List LaidHandler
handlers k = handlers_of_kind (k % 4)

-- its entries
abbrev pub entries_of_kind : ℕ → List HandlerInfo
entries_of_kind k = entries_at (code_offset k) (handlers k)

-- the handler table
unfoldable pub entries : List HandlerInfo
entries = each_method entries_of_kind

-- the first entry of the 23rd method covers 3 bytes, the other 8
its_handlers : entries_of_kind 22
    ≡ record { start = 1155; stop = false; length = 3; entry = 1159; index = 1 }
    ∷ record { start = 1155; stop = true; length = 8; entry = 1163; index = 0 } ∷ []
its_handlers = refl
