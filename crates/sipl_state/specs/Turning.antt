-- Why a page is not turned.
use Rattle.std.specs.Prelude.{◌≡◌, ◌⊎◌}
use Rattle.sipl_book.specs.declared.fault.BookFault.TheVariants.{PagesSpent}
use Rattle.sipl_service.specs.declared.fault.ServiceFault.{ServiceFault}
use Rattle.sipl_service.specs.declared.fault.ServiceFault.TheVariants.{Stopped, OtherBook, Book, Memory}

-- the faults of a page that is not turned
abbrev pub IsUnturned : ServiceFault → Type 0
IsUnturned fault =
    (fault ≡ Stopped) ⊎ ((fault ≡ OtherBook) ⊎ ((fault ≡ Book PagesSpent) ⊎ (fault ≡ Memory)))
