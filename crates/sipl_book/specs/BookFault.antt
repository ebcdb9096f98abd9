-- The codes of a book's faults.
use Rattle.std.specs.Prelude.{ℕ, List, codes}
use Rattle.sipl_outages.specs.declared.fault.BoardFault.{BoardFault}
use Rattle.sipl_outages.specs.declared.fault.BoardFault.TheVariants.{ClockBack, TooFar, NotHeld, BoardFull, Memory as BoardMemory}
use Rattle.sipl_zonestore.specs.declared.fault.StoreFault.{StoreFault}
use Rattle.sipl_zonestore.specs.declared.fault.StoreFault.TheVariants.{Overlap, NoZone, Duplicate, Absent, AliasBesideData, SetFull, StoreFull, NumberSpent, WildApex, Memory as StoreMemory}
use Rattle.sipl_zonestore.specs.StoreFault.{code_of as store_code}
use Rattle.sipl_outages.specs.BoardFault.{code_of as board_code}
use Rattle.sipl_repair.specs.QueueFault.{code_of as queue_code}
use Rattle.sipl_book.specs.declared.fault.BookFault.{BookFault}
use Rattle.sipl_book.specs.declared.fault.BookFault.TheVariants.{JournalFull, NotCurrent, Stale, Unknown, Gone, PagesSpent, Queue, Store, Board, Memory}

-- the fault's code in replies
abbrev pub code_of : BookFault → List ℕ
code_of JournalFull = codes "B3"
code_of NotCurrent = codes "B1"
code_of (Stale place) = codes "B2"
code_of Unknown = codes "B4"
code_of Gone = codes "B5"
code_of PagesSpent = codes "B6"
code_of (Queue fault) = queue_code fault
code_of (Store fault) = store_code fault
code_of (Board fault) = board_code fault
code_of Memory = codes "Memory"

-- the fault of an edit that the zones refuse; one failed allocation is as another
abbrev pub of_store : StoreFault → BookFault
of_store Overlap = Store Overlap
of_store NoZone = Store NoZone
of_store Duplicate = Store Duplicate
of_store Absent = Store Absent
of_store AliasBesideData = Store AliasBesideData
of_store SetFull = Store SetFull
of_store StoreFull = Store StoreFull
of_store NumberSpent = Store NumberSpent
of_store WildApex = Store WildApex
of_store StoreMemory = Memory

-- the fault of a change that the holds or the clock refuse
abbrev pub of_board : BoardFault → BookFault
of_board ClockBack = Board ClockBack
of_board TooFar = Board TooFar
of_board NotHeld = Board NotHeld
of_board BoardFull = Board BoardFull
of_board BoardMemory = Memory
