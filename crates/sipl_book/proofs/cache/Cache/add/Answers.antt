use Rattle.std.proofs.Common.{◌≡◌, ◌+◌, ◌≤◌, List, [], ◌∷◌, ◌++◌, length, length-append, Result, Ok, Err, OnOk, OnErr, sym, ap, subst, ◌∙◌, arith}
use Rattle.sipl_repair.specs.QueueState.{QueueState, after_reserve}
use Rattle.sipl_book.specs.Cache.{IsCache}
use Rattle.sipl_book.specs.Entries.{EntryState}
use Rattle.sipl_book.proofs.Caches.{IsCache-reserve, IsCache-added}
use Rattle.sipl_book.proofs.Committed.{current}
use Rattle.sipl_book.proofs.cache.Cache.add.Goals as goal

pub invariant_of-self-2 : goal.invariant_of-self-2
invariant_of-self-2 c =
    let es = c.self.inside.entries.entries in
    let q : QueueState = c.self.inside.queue in
    let n = c.len-len.result in
    let reserved : c.reserve.new.self ≡ after_reserve q (n + 1) = c.in-Ok.ensures.ok in
    let so = subst (λ (new : QueueState). IsCache es new) (sym reserved) (IsCache-reserve es q (n + 1) c.self.invariant.cache) in
    let count = c.len-len.ensures ∙ ap (λ (xs : List EntryState). length xs) c.entries.ensures in
    let space : length es + 1 ≤ c.reserve.new.self.capacity = omega (arith, count, ap (λ (new : QueueState). new.capacity) reserved) in
    let pairs = ap (λ xs. length xs) c.evidence.ensures.evidence in
    let grown = by so space c.add.result c.add.ensures.ok c.add.ensures.err in
    record {
      cache = grown.0;
      leases = omega (arith, pairs, c.len-pairs.ensures.len, c.leased_len.ensures.len, c.in-Ok-reserve.ensures.ok, c.add.ensures.room);
      candidates = omega (arith, grown.1, count, c.in-Ok-reserve_ids.ensures.candidates_ok);
      ids = omega (arith, grown.1, count, c.in-Ok-reserve_ids.ensures.ids_ok);
    }
  where
    kept : c.reserve-2.new.self.entries ≡ c.self.inside.entries.entries
    kept = c.reserve-2.ensures.entries

    by : IsCache c.self.inside.entries.entries c.reserve.new.self → length c.self.inside.entries.entries + 1 ≤ c.reserve.new.self.capacity → {E : Type 0} (r : Result (Unit {0}) E)
        → OnOk r (c.add.new.self.entries ≡ c.reserve-2.new.self.entries ++ current c.args.number c.args.finding ∷ []) → OnErr r (c.add.new.self.entries ≡ c.reserve-2.new.self.entries)
        → IsCache c.add.new.self.entries c.reserve.new.self × (length c.add.new.self.entries ≤ length c.self.inside.entries.entries + 1)
    by so space (Ok u) is _ =
        let new = is ∙ ap (λ (xs : List EntryState). xs ++ current c.args.number c.args.finding ∷ []) kept in (
          subst (λ (es : List EntryState). IsCache es c.reserve.new.self) (sym new) (IsCache-added c.args.finding c.args.number c.self.inside.entries.entries c.reserve.new.self so space),
          omega (arith, ap (λ (xs : List EntryState). length xs) new, length-append c.self.inside.entries.entries (current c.args.number c.args.finding ∷ [])),
        )
    by so space (Err e) _ is =
        let new = is ∙ kept in
        (subst (λ (es : List EntryState). IsCache es c.reserve.new.self) (sym new) so, omega (arith, ap (λ (xs : List EntryState). length xs) new))
