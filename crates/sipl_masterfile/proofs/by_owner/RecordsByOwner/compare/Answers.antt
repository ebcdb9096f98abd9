use Rattle.std.proofs.Common.{◌≡◌, ℕ, ◌<◌, ◌+◌, ◌-◌, Bool, true, false, List, Option, length, take, get_or, nat_eq, ap, sym, refl, ◌∙◌, arith}
use Rattle.std.specs.Option.{unwrap_or}
use Rattle.std.proofs.lemmas.Grind.{get_or_default_zero}
use Rattle.std.proofs.lemmas.Bool.Decides.{nat_tests}
use Rattle.sipl_names.specs.Labels.{Labels, same_name}
use Rattle.sipl_names.proofs.Public.{same_name_decides}
use Rattle.sipl_records.specs.Codes.{code_of_name}
use Rattle.sipl_records.specs.Sets.{conflicts, same_record, shares_set}
use Rattle.sipl_records.specs.declared.record.Record.{Record}
use Rattle.indexmap.specs.IndexMap.{get}
use Rattle.sipl_masterfile.specs.ByOwner.{end_of, IsIndexed}
use Rattle.sipl_masterfile.proofs.Owners.{end_of-le, end_of-take, next-le, next_last, count-init, any-init, count-step, any-step}
use Rattle.sipl_masterfile.proofs.by_owner.RecordsByOwner.compare.Goals as goal

same_code : (n : ℕ) → nat_eq n n ≡ true
same_code n = grind (arith, nat_tests)

-- names of different codes differ
other_owner : (a b : Labels) → nat_eq (code_of_name a) (code_of_name b) ≡ false → same_name a b ≡ false
other_owner a b other = at (same_name a b) refl
  where
    at : (c : Bool) → same_name a b ≡ c → c ≡ false
    at false differ = refl
    at true same =
        let one : nat_eq (code_of_name a) (code_of_name a) ≡ false = ap (λ name. nat_eq (code_of_name a) (code_of_name name)) ((same_name_decides a b).0 same) ∙ other in
        sym (same_code (code_of_name a)) ∙ one

-- the tests that the walk makes pass for records of the owner alone
same_record-only : (new x : Record) → nat_eq (code_of_name new.owner) (code_of_name x.owner) ≡ false → same_record new x ≡ false
same_record-only new x other = rw (other_owner new.owner x.owner other) refl

conflicts-only : (new x : Record) → nat_eq (code_of_name new.owner) (code_of_name x.owner) ≡ false → conflicts new x ≡ false
conflicts-only new x other = rw (other_owner new.owner x.owner other) refl

shares_set-only : (new x : Record) → nat_eq (code_of_name new.owner) (code_of_name x.owner) ≡ false → shares_set new x ≡ false
shares_set-only new x other = rw (other_owner new.owner x.owner other) refl

pub loop-end-init : goal.loop-end-init
loop-end-init c =
    let new = c.args.new.now in
    let records = c.self.inside.records.items in
    let end_is : c.unwrap_or-end.result ≡ end_of (code_of_name new.owner) records = c.unwrap_or-end.ensures ∙ ap (λ o. unwrap_or o 0) (c.copied.ensures ∙ c.get.ensures.value ∙ ap (λ code. get nat_eq c.self.inside.ends code) c.name_code.ensures) ∙ c.self.invariant.table (code_of_name new.owner) in
    record {
      within = omega (arith, end_is, end_of-le (code_of_name new.owner) records);
      end = rw end_is (end_of-take (code_of_name new.owner) records);
      repeated = any-init (code_of_name new.owner) records _ end_is (same_record new) (same_record-only new);
      conflicts = any-init (code_of_name new.owner) records _ end_is (conflicts new) (conflicts-only new);
      set_len = count-init (code_of_name new.owner) records _ end_is (shares_set new) (shares_set-only new);
    }

-- the end that is read beside a record
next_is : (records : List Record) (earlier : List ℕ) (ends : ℕ → Option ℕ) → IsIndexed records earlier ends → (place next : ℕ) (r : Record) → place < length records → r ≡ get_or records place r → next ≡ get_or earlier place next → next ≡ end_of (code_of_name r.owner) (take place records)
next_is records earlier ends indexed place next r inside here read =
    read ∙ get_or_default_zero earlier place next (omega (arith, indexed.len)) ∙ indexed.beside place r inside
    ∙ ap (λ (x : Record). end_of (code_of_name x.owner) (take place records)) (sym here)

pub loop-end-smaller : goal.loop-end-smaller
loop-end-smaller c =
    let records = c.self.inside.records.items in
    let w = c.loop-end.invariant in
    let below : c.loop-end.end - 1 + 1 ≡ c.loop-end.end = omega arith in
    let next : c.index-end.result.now ≡ end_of (code_of_name c.index-other.result.now.owner) (take (c.loop-end.end - 1) records) = next_is records _ _ c.self.invariant (c.loop-end.end - 1) _ _ (omega arith) c.index-other.ensures c.index-end.ensures in
    omega (arith, next-le (code_of_name c.args.new.now.owner) records c.loop-end.end (c.loop-end.end - 1) c.index-other.result.now c.index-end.result.now below w.within c.index-other.ensures w.end next)

pub loop-end-preserved : goal.loop-end-preserved
loop-end-preserved c =
    let new = c.args.new.now in
    let records = c.self.inside.records.items in
    let place = c.loop-end.end - 1 in
    let r = c.index-other.result.now in
    let w = c.loop-end.invariant in
    let here = c.index-other.ensures in
    let below : place + 1 ≡ c.loop-end.end = omega arith in
    let next : c.index-end.result.now ≡ end_of (code_of_name r.owner) (take place records) = next_is records _ _ c.self.invariant place _ _ (omega arith) here c.index-end.ensures in
    record {
      within = omega (arith, next-le (code_of_name new.owner) records _ place r _ below w.within here w.end next);
      end = next_last (code_of_name new.owner) records _ place r _ below w.within here w.end next;
      repeated = any-step (code_of_name new.owner) records _ place r _ below w.within here w.end next (same_record new) (same_record-only new) _ _ w.repeated c.with-found.ensures.repeated;
      conflicts = any-step (code_of_name new.owner) records _ place r _ below w.within here w.end next (conflicts new) (conflicts-only new) _ _ w.conflicts c.with-found.ensures.conflicts;
      set_len = count-step (code_of_name new.owner) records _ place r _ below w.within here w.end next (shares_set new) (shares_set-only new) _ _ w.set_len c.with-found.ensures.set_len;
    }
