use Rattle.std.proofs.Common.{◌≡◌, ◌++◌, map, take}
use Rattle.std.specs.List.{All}
use Rattle.sipl_book.specs.Pages.{events_in}
use Rattle.sipl_service.specs.Claims.{IsReplayed}
use Rattle.sipl_service.proofs.claims.join.Given as goal

abbrev pub invariant-loop-page : goal.invariant-loop-page
invariant-loop-page l = record {
  events : map (λ event. event.now) l.joined.items ≡ events_in (take l.page-index l.pages);
  pages : All IsReplayed (take l.page-index l.pages);
}

abbrev pub invariant-loop-event : goal.invariant-loop-event
invariant-loop-event l = map (λ event. event.now) l.joined.items ≡ events_in (take l.page-index l.pages) ++ take l.event-index l.events
