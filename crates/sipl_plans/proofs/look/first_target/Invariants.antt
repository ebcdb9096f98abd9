use Rattle.std.proofs.Common.{◌≡◌, drop}
use Rattle.sipl_records.specs.Sets.{set_of}
use Rattle.sipl_records.specs.declared.kind.Kind.TheVariants.{Alias}
use Rattle.sipl_evidence.specs.Looks.{key}
use Rattle.sipl_evidence.specs.Answers.{first_target}
use Rattle.sipl_plans.proofs.look.first_target.Given as goal

-- the first alias is among the records left
abbrev pub invariant-loop-record : goal.invariant-loop-record
invariant-loop-record l =
    first_target (set_of (drop l.record-index l.records) (key l.name Alias)) ≡ first_target (set_of l.records (key l.name Alias))
