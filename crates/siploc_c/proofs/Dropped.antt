-- A session may be let go. Assumes `Logic`.
use Rattle.std.proofs.Common.{[], ◌∷◌, refl, true, false}
use seplogic.Ra.Ura.{Ura}
use base.Logic.{emp, id⊢}
use mir.Syntax.{Callee, method, no_args}
use prog.Model.{Model}
use prog.Wired.{Wired}
use types.Logic.{Logic}
use contract.Running.{Running}
use denote.Exit.{yes}
use denote.Param.Glue as glue
use denote.Triple.Impl.{implements, hidden}
use denote.Triple.Spec.{triple_of}
use denote.Triple.Table.{run_framed, widened}
use Rattle.siploc_c.proofs.Held.{T₁, drops}
use Rattle.siploc_c.specs.contracts.siploc_c++embedded++Embedded+Destruct.drop as dropping
use Rattle.siploc_c.proofs.siploc_c++embedded++Embedded+Destruct.drop.Symbol.{code, name, as_method}
use Rattle.siploc_c.proofs.siploc_c++embedded++Embedded+Destruct.drop.Met.{met}

pub dropped : {M : Type 1} (𝓤 : Ura M) (𝓛 : Logic 𝓤) (𝓜 : Model 𝓤 𝓛.H) (𝓡 : Running 𝓤 𝓛.H 𝓜) → Wired 𝓡.env code → glue.Met 𝓛 𝓜 𝓡 𝓡.env T₁ drops
dropped 𝓤 𝓛 𝓜 𝓡 wired =
    let k : Callee = method drops 0 no_args in let c = dropping.spec 𝓛 𝓜.mem 𝓡.returns in
    implements 𝓛 dropping.signature 1 [] (λ τs. tt) (𝓡.run (𝓡.env k)) (run_framed 𝓤 𝓛.H 𝓜 𝓡 (𝓡.env k)) c
    (λ τs a. let c' = glue.spent 𝓛 T₁ τs a in record { ghost = c'.ghost; requires = c'.requires; ensures = c'.ensures })
    1 (λ τs. τs) (λ τs. (T₁.lives, tt)) tt (λ τs a y. emp 𝓤) (λ τs a y. id⊢ 𝓤 ((glue.spent 𝓛 T₁ τs a).requires y)) (λ τs h. (tt, tt)) (λ τs a y. tt) (λ τs h a y. id⊢ 𝓤 (emp 𝓤))
    (λ τs a y r. hidden 0 tt 𝓛 dropping.signature.params (yes, tt) (false, tt) a (λ ws. emp 𝓤) (λ ws. emp 𝓤) (λ ws. id⊢ 𝓤 (emp 𝓤)))
    (widened 𝓤 𝓛.H (triple_of 𝓛 dropping.signature c) 𝓜 𝓡 𝓡.env (𝓡.env name) (𝓡.env k) (as_method 𝓡.env wired k refl) (met 𝓤 𝓛 𝓜 𝓡 wired))
