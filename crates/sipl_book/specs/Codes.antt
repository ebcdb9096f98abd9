-- The codes of proofs: how a cache, and a book, is one tuple of numbers and lists.
use Rattle.std.specs.Coded.{Coded, codes}
use Rattle.sipl_repair.specs.Codes.{queue_state_code}
use Rattle.sipl_book.specs.Book.{BookState}
use Rattle.sipl_book.specs.Cache.{CacheState}

pub cache_code : Coded CacheState
cache_code = hlevel (codes, queue_state_code)

pub book_code : Coded BookState
book_code = hlevel (codes, queue_state_code)
