use Rattle.std.proofs.Common.{sym, ap, ◌∙◌}
use Rattle.sipl_book.specs.Pages.{PageState}
use Rattle.sipl_service.specs.LatestVersions.{SharedState}
use Rattle.sipl_service.specs.Services.{ServiceState}
use Rattle.sipl_service.proofs.Policies.{is_for-same}
use Rattle.sipl_service.proofs.service.Service.close.Goals as goal

pub returns-clause-client : goal.returns-clause-client
returns-clause-client c =
    let both = is_for-same c.self.inside.abilities c.self.inside.held c.shared.inside.book (sym c.is_for.ensures ∙ c.if-not-is_for.false) in
    ap (λ (p : PageState). p.client) c.into_page.ensures.page ∙ sym (ap (λ (s : SharedState). s.book.client) c.shared.view_is) ∙ both.0 ∙ ap (λ (s : ServiceState). s.client) c.self.view_is

pub returns-clause-held : goal.returns-clause-held
returns-clause-held c =
    let both = is_for-same c.self.inside.abilities c.self.inside.held c.shared.inside.book (sym c.is_for.ensures ∙ c.if-not-is_for.false) in
    ap (λ (p : PageState). p.held) c.into_page.ensures.page ∙ sym (ap (λ (s : SharedState). s.book.held) c.shared.view_is) ∙ both.1 ∙ ap (λ (s : ServiceState). s.held) c.self.view_is
