-- Devices in memory that fail at the calls that were listed, and where their room does not suffice.
use Rattle.std.specs.Prelude.{ℕ, Bool, ◌&&◌, not, List, take, Option, Some, None, is_some, Result, Ok, Err, IsTrue}
use Rattle.std.specs.Prelude.{if◌then◌else◌}
use Rattle.cap_files.specs.declared.folder.LoadEnd.{LoadEnd}
use Rattle.cap_files.specs.declared.folder.LoadEnd.TheVariants.{Failed, TooLong, Memory}
use Rattle.cap_files.specs.declared.mem_folder.MemFolder.{MemFolder}
use Rattle.cap_files.specs.declared.sink.MemSink.{MemSink}
use Rattle.cap_files.specs.Folder.{Folders}
use Rattle.cap_files.specs.CallCounts.{Counted}
use Rattle.cap_files.specs.Calls.{next_keep, one_more_call, faulted, with_failure}
use Rattle.cap_files.specs.Shelf as shelf
use Rattle.cap_files.specs.Tape as tape

-- whether the next call is listed to fail
abbrev pub is_due : Counted → Bool
is_due calls = is_some (next_keep calls)

-- the counts after a call, and whether it failed
abbrev pub called : Counted → Bool → Counted
called calls failed = if failed then faulted (one_more_call calls) else one_more_call calls

-- ---- folders
-- a folder from outside: it always tells what it holds, and does not tell which loads failed
abbrev pub folders_of : MemFolder → Folders
folders_of folder = record {
  held = Some folder.shelf.parts;
  failed = None;
  load_faults = folder.loads.faults;
  store_faults = folder.stores.faults;
}

-- a part set, where the room suffices
abbrev pub set : MemFolder → List ℕ → List ℕ → MemFolder
set folder key bytes = record folder { shelf = shelf.placed folder.shelf key bytes }

-- the n-th load is to fail; the n-th store, after `keep` bytes
abbrev pub load_listed : MemFolder → ℕ → MemFolder
load_listed folder n = record folder { loads = with_failure folder.loads n 0 }

abbrev pub store_listed : MemFolder → ℕ → ℕ → MemFolder
store_listed folder n keep = record folder { stores = with_failure folder.stores n keep }

-- after a load
abbrev pub loaded : MemFolder → MemFolder
loaded folder = record folder { loads = called folder.loads (is_due folder.loads) }

-- a load fails exactly where it is due to
abbrev pub FailsWhenDue : Counted → Result Bool LoadEnd → Type 0
FailsWhenDue calls (Ok there) = IsTrue (not (is_due calls))
FailsWhenDue calls (Err TooLong) = IsTrue (not (is_due calls))
FailsWhenDue calls (Err Memory) = IsTrue (not (is_due calls))
FailsWhenDue calls (Err Failed) = IsTrue (is_due calls)

-- whether a store succeeds
abbrev pub store_succeeds : MemFolder → List ℕ → List ℕ → Bool
store_succeeds folder key bytes = not (is_due folder.stores) && shelf.has_room folder.shelf key bytes

-- the bytes that are kept, where so many are listed or none
abbrev pub kept_of : Option ℕ → List ℕ → List ℕ
kept_of None bytes = bytes
kept_of (Some keep) bytes = take keep bytes

-- the bytes that a call keeps: all, or where it is due to fail those that are listed
abbrev pub kept : Counted → List ℕ → List ℕ
kept calls bytes = kept_of (next_keep calls) bytes

-- after a store: the bytes that it keeps are put at the part, where the room suffices for them
abbrev pub stored : MemFolder → List ℕ → List ℕ → MemFolder
stored folder key bytes = record folder {
  shelf = shelf.placed folder.shelf key (kept folder.stores bytes);
  stores = called folder.stores (not (store_succeeds folder key bytes));
}

-- ---- a sink
-- what a sink received, which it always tells
abbrev pub text_received : MemSink → Option (List ℕ)
text_received sink = Some sink.tape.bytes

-- how often its puts have failed
abbrev pub faults_of : MemSink → ℕ
faults_of sink = sink.puts.faults

-- the n-th put is to fail after `keep` bytes
abbrev pub put_listed : MemSink → ℕ → ℕ → MemSink
put_listed sink n keep = record sink { puts = with_failure sink.puts n keep }

-- whether a put succeeds
abbrev pub is_put : MemSink → List ℕ → Bool
is_put sink piece = not (is_due sink.puts) && tape.has_room sink.tape piece

-- after a put: the bytes that it keeps are received, where the room suffices for them
abbrev pub received : MemSink → List ℕ → MemSink
received sink piece = record sink {
  tape = tape.appended sink.tape (kept sink.puts piece);
  puts = called sink.puts (not (is_put sink piece));
}
