use Rattle.std.proofs.Common.{◌≤◌, List, [], ◌∷◌, length, inl, inr, take, arith}
use Rattle.std.proofs.lemmas.Bool.{cases_Bool}
use Rattle.std.proofs.lemmas.List.{length-take}
use Rattle.sipl_records.specs.Sets.{data_of, has_key, is_existence, set_of}
use Rattle.sipl_records.specs.declared.record.Key.{Key}
use Rattle.sipl_records.specs.declared.record.Record.{Record}
use Rattle.sipl_records.proofs.Public.{length-existence, set_of-data}
use Rattle.sipl_lookup_tests.proofs.plans.plan.Goals as goal

-- there are no more data of a key than there are records
few_data : (records : List Record) (key : Key) → length (data_of records key) ≤ length records
few_data [] key = omega arith
few_data (r ∷ records) key = elim (cases_Bool (has_key key r)) [
  | inl own ↦ rw own (omega (arith, few_data records key))
  | inr other ↦ rw other (omega (arith, few_data records key))
]

-- of at most 32 records each set has at most 32 data
few-sets : (records : List Record) (key : Key) → length records ≤ 32 → length (set_of records key) ≤ 32
few-sets records key few = elim (cases_Bool (is_existence key)) [
  | inl of ↦ omega (arith, length-existence records key of)
  | inr other ↦ rw (set_of-data records key other) (omega (arith, few, few_data records key))
]

pub plan_of-requires : goal.plan_of-requires
plan_of-requires g c =
    let records = take c.min.result c.args.records.now in
    record { small_sets = λ key. few-sets records key (omega (arith, c.min.ensures, length-take c.min.result c.args.records.now)) }
