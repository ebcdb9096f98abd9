-- How the fields of a `Page` represent it.
use Rattle.sipl_book.specs.Pages.{IsPage, PageState}
use Rattle.sipl_book.specs.declared.page.Page.TheInside.{Inside}

-- each field by its name
abbrev pub page_in : Inside → PageState
page_in p =
    record {
      first = p.first;
      base = p.base;
      events = p.events;
      result = p.result;
      client = p.abilities;
      held = p.held;
    }

-- the fields represent a page
abbrev pub IsValidPage : Inside → Type 0
IsValidPage p = IsPage (page_in p)
