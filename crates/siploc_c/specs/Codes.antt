-- The code of proofs: how a session is one tuple of numbers and lists.
use Rattle.std.specs.Prelude.{Option}
use Rattle.std.specs.Coded.{Coded, codes}
use Rattle.sipl_book.specs.Codes.{book_code}
use Rattle.siploc_c.specs.Embedded.{EmbeddedState}

pub embedded_code : Coded EmbeddedState
embedded_code = hlevel (codes, book_code)

pub embedded_or_none_code : Coded (Option EmbeddedState)
embedded_or_none_code = hlevel (codes, embedded_code)
