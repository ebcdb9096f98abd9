use Rattle.std.proofs.Common.{◌≡◌, ℕ, suc, ◌<◌, Option, None, Some, Bor, length, ap, ◌∙◌, arith}
use Rattle.std.specs.Prelude.{IfSome}
use Rattle.std.specs.Option.{option_copied}
use Rattle.std.proofs.lemmas.Result.{err_from_is_err_and}
use Rattle.sipl_names.specs.Labels.{Octets}
use Rattle.sipl_uri.specs.UriParts.{params_in}
use Rattle.sipl_uri.specs.Params.{take_params}
use Rattle.sipl_uri.proofs.ReadParams.{take_params-Ok, take_params-Err}
use Rattle.sipl_uri.proofs.params.read_params.Goals as goal

pub returns-in_err-take-clause-refused : goal.returns-in_err-take-clause-refused
returns-in_err-take-clause-refused c =
    let p = err_from_is_err_and c.from_residual.result c.from_residual.ensures.1 in
    rw (p.1, p.2) (λ other. c.loop-rest.invariant
    ∙ ap (λ (rest : Option (Bor Octets)). take_params (params_in (option_copied rest)) c.loop-rest.settings) c.in-Some.is
    ∙ take_params-Err c.in-Some.params.now c.split_once.result.0.now (option_copied c.split_once.result.1) c.loop-rest.settings _ c.split_once.ensures.before c.split_once.ensures.after (c.in_err-take.ensures.refused other))

smaller : (rest after : Option (Bor Octets)) (text : Bor Octets) → rest ≡ Some text → IfSome after (λ more. length more.now < length text.now) → elim after as (λ _. ℕ) [ None ↦ 0 | Some more ↦ suc (length more.now) ] < elim rest as (λ _. ℕ) [ None ↦ 0 | Some more ↦ suc (length more.now) ]
smaller rest None text e shorter = rw e (omega arith)
smaller rest (Some more) text e shorter = rw e (omega (arith, shorter))

pub loop-rest-smaller : goal.loop-rest-smaller
loop-rest-smaller c = smaller c.loop-rest.rest c.split_once.result.1 c.in-Some.params c.in-Some.is c.split_once.ensures.shorter

pub loop-rest-preserved : goal.loop-rest-preserved
loop-rest-preserved c =
    c.loop-rest.invariant
    ∙ ap (λ (rest : Option (Bor Octets)). take_params (params_in (option_copied rest)) c.loop-rest.settings) c.in-Some.is
    ∙ take_params-Ok c.in-Some.params.now c.split_once.result.0.now (option_copied c.split_once.result.1) c.loop-rest.settings c.take.new.self c.split_once.ensures.before c.split_once.ensures.after c.in_ok-take.ensures.ok
