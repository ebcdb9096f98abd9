use Rattle.std.proofs.Common.{◌≡◌, Bool, true, false, not, Ok, ap, sym, refl, ◌∙◌}
use Rattle.sipl_uri.proofs.ReadParams.{take_param-other}
use Rattle.sipl_uri.proofs.params.Settings.take.Goals as goal

is_false : (b : Bool) → true ≡ not b → b ≡ false
is_false true e = cc
is_false false e = refl

pub returns-else-eq_ignore_ascii_case-2-clause-ok : goal.returns-else-eq_ignore_ascii_case-2-clause-ok
returns-else-eq_ignore_ascii_case-2-clause-ok c =
    let inserted : c.insert_name.result ≡ Ok true = c.in_ok-insert_name.was ∙ ap (λ is_new. Ok is_new) c.if-not-branch.false in
    take_param-other c.args.text.now c.split_once.result.0.now c.args.self.now c.split_once.ensures.before
    (sym c.is_empty.ensures ∙ c.if-is_empty.false)
    (is_false _ (sym c.if-not-branch.false ∙ c.in_ok-insert_name.ensures.new))
    c.if-eq_ignore_ascii_case.ensures.test.1
    c.if-eq_ignore_ascii_case-2.ensures.test.1
    ∙ ap (λ s. Ok s) (sym (c.insert_name.ensures.inserted inserted))
