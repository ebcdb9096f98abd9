use Rattle.std.proofs.Common.{◌≡◌, ℕ, suc, true, List, [], ◌∷◌, length, Option, Some, refl, ap, sym, subst, ◌∙◌, arith}
use Rattle.std.specs.List.{All}
use Rattle.std.specs.Option.{option_copied}
use Rattle.sipl_records.specs.Sets.{has_kind}
use Rattle.sipl_records.specs.declared.data.Data.{Data}
use Rattle.sipl_records.specs.declared.record.Key.{Key}
use Rattle.sipl_plans.specs.Runs.{IsSet, IsWanted}
use Rattle.sipl_lookup_tests.proofs.plans.runs.give.Goals as goal

empty-length : (content : List Data) → length content ≡ 0 → content ≡ []
empty-length [] none = refl
empty-length (datum ∷ content) none = let never : suc (length content) ≡ 0 = none in cc

set-for : (own : Option Key) (k : Key) (number : ℕ) (content : List Data) → own ≡ Some k → IsSet k number content → IsWanted own number content
set-for own k number content is set = subst (λ own. IsWanted own number content) (sym is) set

pub give-requires : goal.give-requires
give-requires g c =
    let content = c.args.content in
    let key : Key = c.expect.result.now in
    record {
      set = set-for _ key _ content (sym c.wants.ensures.wanted ∙ ap option_copied c.expect.ensures)
          (record {
            kind = subst (All (λ datum. has_kind key.kind datum ≡ true)) c.as_slice.ensures (c.are_of_kind.ensures.0 c.if-not-are_of_kind.false);
            few = omega (arith, c.len.ensures, c.if-len-gt-MAX_SET_LEN.false);
            number = (λ none. empty-length content (sym c.len-2.ensures ∙ none), λ none. c.len-2.ensures ∙ ap length none);
          });
    }
