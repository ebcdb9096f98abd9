-- The codes of a world's faults.
use Rattle.std.specs.Prelude.{ℕ, List, codes}
use Rattle.sipl_book.specs.BookFault.{code_of as book_code}
use Rattle.sipl_interleave.specs.declared.fault.WorldFault.{WorldFault}
use Rattle.sipl_interleave.specs.declared.fault.WorldFault.TheVariants.{NoWorker, Busy, Idle, NotReady, Book}

-- the fault's code in replies
abbrev pub code_of : WorldFault → List ℕ
code_of NoWorker = codes "I1"
code_of Busy = codes "I2"
code_of Idle = codes "I3"
code_of NotReady = codes "I4"
code_of (Book fault) = book_code fault
