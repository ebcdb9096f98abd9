use Rattle.std.proofs.Common.{rules, Bool, ap, subst, ◌∙◌}
use Rattle.std.specs.List.{IsDistinct}
use Rattle.std.specs.Map.{keys_of, lookup}
use Rattle.indexmap.proofs.CallerLemmas.{filter-RetainsPairs}
use Rattle.sipl_records.specs.Sets.{same_key}
use Rattle.sipl_records.specs.declared.record.Key.{Key}
use Rattle.sipl_service.proofs.Keys.{derived, numbered}
use Rattle.sipl_service.proofs.latest_versions.LatestVersions.take_out_all.Goals as goal

pub returns : goal.returns
returns c key =
    ap (lookup (same_key key)) (filter-RetainsPairs _ _ _ (λ k v b w g call. search rules) _ _ c.retain.ensures.filtered)
    ∙ numbered c.args.book.now.store key c.args.self.now.table.entries
    (subst (λ (eq : Key → Key → Bool). IsDistinct eq (keys_of c.args.self.now.table.entries)) (λ i a b. derived a b i) c.len.ensures.unique)
