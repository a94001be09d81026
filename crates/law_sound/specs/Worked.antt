-- Worked cases of typed states.
use Rattle.std.specs.Prelude.{◌≡◌, false, true, [], ◌∷◌, replicate, Some, None}
use Rattle.std.proofs.Common.{refl}
use Rattle.jc_base.specs.declared.ty.Ty.TheVariants.{Bottom, Short, IntHigh, IntLow, Null, Class, ArrByte, Fresh, Top}
use Rattle.jc_base.specs.declared.ty.Kind.TheVariants as fields
use Rattle.jc_base.specs.declared.record.ClassRec.{ClassRec}
use Rattle.jc_base.specs.declared.record.MethodRec.{MethodRec}
use Rattle.jc_base.specs.declared.record.Member.TheVariants.{ClassOf}
use Rattle.jc_base.specs.Class.{is_interface, parent_of, chain_over, chain}
use Rattle.jc_base.specs.Dispatch.{is_concrete, package_of, public_of, visible_of, visible_in, nearest_of}
use Rattle.jc_base.specs.World.{Linked}
use Rattle.jc_decode.specs.Layout.{layout_of, opcode}
use Rattle.jc_decode.specs.Decoding.{decoded}
use Rattle.jc_decode.specs.Listing.{listing, listing_from, at_most}
use Rattle.jc_ops.specs.Row.{table, row_at, unused, by_sort, by_width, by_kind, first_four, by_register, literals, binaries, orders_all}
use Rattle.jc_ops.specs.Row.{branching}
use Rattle.vm_store.specs.declared.cell.Cell.TheVariants as cells
use Rattle.vm_store.specs.declared.cell.ObjectKind.TheVariants.{Instance, Bytes}
use Rattle.vm_step.specs.Methods.{instruction_at}
use Rattle.law_sound.specs.Frames.{least_types, types_with, class_made}
use Rattle.law_sound.specs.State.{static_types}

-- object, which is throwable too
abbrev only_class : ClassRec
only_class = record { «package» = 0; interface = false; parent = None; cells = 0; own = []; implements = []; public = []; visible = [] }

-- a static method that makes an object of class object and returns
abbrev maker : MethodRec
maker =
    record {
      «package» = 0;
      class = 0;
      token = 0;
      class_no = 0;
      method_no = 0;
      is_static = true;
      is_init = false;
      is_abstract = false;
      sig = record { args = []; result = None };
      nargs = 0;
      max_locals = 1;
      max_stack = 1;
      code_at = 0;
      code_len = 4;
      handlers = [];
    }

-- new of the first entry of the pool, and return
abbrev world : Linked
world =
    record {
      infos = (143 ∷ 0 ∷ 0 ∷ 122 ∷ []) ∷ [];
      pools = (ClassOf 0 ∷ []) ∷ [];
      classes = record { records = only_class ∷ []; roles = replicate 8 0 };
      methods = maker ∷ [];
      statics =
          record { «package» = 0; offset = 0; kind = fields.Int; ty = IntHigh; slot = 0; initial = 1 ∷ 2 ∷ [] }
          ∷ record { «package» = 0; offset = 4; kind = fields.Byte; ty = Short; slot = 2; initial = 0 ∷ [] }
          ∷ [];
      arrays = [];
      indexes = None ∷ [];
    }

-- an empty register has the type of unset ones, null its own, and a reference that of its object
first_types :
    least_types world.classes Top (Instance 0 ∷ Bytes ∷ [])
    (cells.Empty ∷ cells.Ref 0 ∷ cells.Ref 1 ∷ cells.Ref 2 ∷ cells.Fresh 1 7 ∷ [])
    ≡ Top ∷ Null ∷ Class 0 ∷ ArrByte ∷ Fresh 7 0 ∷ []
first_types = refl

-- a caller has an int under the result that it is given
waiting_types :
    (types_with world.classes Bottom [] (Some Short)
    (record { method = 0; place = 0; registers = cells.Empty ∷ []; stack = cells.Low 2 ∷ cells.High 1 ∷ [] })).stack
    ≡ Short ∷ IntLow ∷ IntHigh ∷ []
waiting_types = refl

-- the first instruction makes an object of class 0, the second none
new_told : class_made world maker 0 ≡ Some 0
unfolding
    instruction_at listing listing_from at_most decoded layout_of opcode row_at table by_sort by_width by_kind first_four by_register
    literals binaries orders_all branching unused is_concrete is_interface
    chain chain_over parent_of package_of public_of visible_of visible_in nearest_of
new_told = refl

none_told : class_made world maker 3 ≡ None
unfolding
    instruction_at listing listing_from at_most decoded layout_of opcode row_at table by_sort by_width by_kind first_four by_register
    literals binaries orders_all branching unused
none_told = refl

-- the halves of an int take two cells
static_cells : static_types world.statics ≡ IntHigh ∷ IntLow ∷ Short ∷ []
static_cells = refl
