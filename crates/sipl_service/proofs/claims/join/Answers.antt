use Rattle.std.proofs.Common.{arith}
use Rattle.sipl_service.proofs.Joined.{replayed-next, joined-next}
use Rattle.sipl_service.proofs.claims.join.Goals as goal

pub loop-page-preserved : goal.loop-page-preserved
loop-page-preserved c =
    let page = c.page-item.result in
    record {
      events = joined-next c.args.pages.now c.loop-page.page-index page c.loop-page-test.true c.page-item.is c.events-events.result.now c.loop-event.event-index _
          c.events-events.ensures.events (omega (arith, c.loop-event-test.false)) c.loop-event.invariant;
      pages = replayed-next c.args.pages.now c.loop-page.page-index page c.loop-page-test.true c.page-item.is c.loop-page.invariant.pages
          (record { legal = c.events-events.ensures.legal; replayed = c.events-events.ensures.replayed });
    }
