-- How the fields of a `Book` represent its state.
use Rattle.sipl_book.specs.Book.{BookState, IsConsistent}
use Rattle.sipl_book.specs.declared.book.Book.TheInside.{Inside}

-- each field by its name, and the entries with their queue
abbrev pub book_of : Inside → BookState
book_of b =
    record {
      client = b.abilities;
      held = b.held;
      store = b.store;
      board = b.board;
      first = b.first;
      base = b.base;
      journal = b.journal.items;
      entries = b.cache.entries;
      queue = b.cache.queue;
      max_entries = b.cache.max_entries;
      max_events = b.max_events;
    }

-- the fields represent a consistent state
abbrev pub IsValidBook : Inside → Type 0
IsValidBook b = IsConsistent (book_of b)
