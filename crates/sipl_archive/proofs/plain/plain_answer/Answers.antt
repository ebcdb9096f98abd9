use Rattle.std.proofs.Common.{◌≤◌, length, subst, sym}
use Rattle.sipl_records.specs.Sets.{set_of}
use Rattle.sipl_book.proofs.Public.{set_is_set}
use Rattle.sipl_archive.proofs.plain.plain_answer.Goals as goal

pub plan_of-requires : goal.plan_of-requires
plan_of-requires c =
    record {
      small_sets = λ key.
          subst (λ records. length (set_of records key) ≤ 32) (sym c.records.ensures.value)
          (set_is_set c.args.store.now key c.records.ensures.consistent).few;
    }
