-- The codes of a service's faults.
use Rattle.std.specs.Prelude.{ℕ, List, codes}
use Rattle.sipl_book.specs.BookFault.{code_of as book_code}
use Rattle.sipl_book.specs.declared.fault.BookFault.{BookFault}
use Rattle.sipl_book.specs.declared.fault.BookFault.TheVariants as book
use Rattle.sipl_service.specs.declared.fault.ServiceFault.{ServiceFault}
use Rattle.sipl_service.specs.declared.fault.ServiceFault.TheVariants.{Contended, PassAhead, Stopped, OtherBook, Book, Memory}
use Rattle.sipl_service.specs.declared.fault.ClaimFault.{ClaimFault}
use Rattle.sipl_service.specs.declared.fault.ClaimFault.TheVariants as claim

-- the fault's code in replies
abbrev pub service_code : ServiceFault → List ℕ
service_code (Contended key) = codes "L1"
service_code (PassAhead next front) = codes "L2"
service_code Stopped = codes "L6"
service_code OtherBook = codes "L7"
service_code (Book fault) = book_code fault
service_code Memory = codes "Memory"

-- the code of a claim's fault
abbrev pub claim_code : ClaimFault → List ℕ
claim_code (claim.Unclaimed number) = codes "L3"
claim_code (claim.NotOurs number) = codes "L4"
claim_code (claim.Doubled number) = codes "L5"
claim_code (claim.Gap place) = codes "L8"
claim_code claim.Memory = codes "Memory"

-- the fault of a call that the book refuses; one failed allocation is as another
abbrev pub of_book : BookFault → ServiceFault
of_book book.Memory = Memory
of_book fault = Book fault
