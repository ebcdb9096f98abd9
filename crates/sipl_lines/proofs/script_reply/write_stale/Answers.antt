use Rattle.std.proofs.Common.{◌≡◌, ◌++◌, Some, None, codes, length, rules, refl, sym, subst}
use Rattle.std.proofs.lemmas.Option.{slice_get_past, slice_get_read}
use Rattle.std.specs.List.{slice_get}
use Rattle.sipl_lines.specs.ScriptText.{stale_text}
use Rattle.sipl_lines.proofs.Scripts.{stale_written}
use Rattle.sipl_lines.proofs.script_reply.write_stale.Goals as goal

pub returns-in-Some : goal.returns-in-Some
returns-in-Some c =
    let items = c.args.items.now in
    let here : slice_get items c.args.place ≡ Some c.in-Some.item.now =
    slice_get_read items (length items) c.args.place c.in-Some.item.now refl c.in-Some.ensures.lookup.3.0 c.in-Some.ensures.lookup.1 in
    let first : c.extend_from_slice.new.self.items ≡ c.args.out.now.items ++ codes "err B2" = search rules in
    let is : c.key.result.now ≡ c.in-Some.item.now.key = search rules in
    let written = stale_written c.in-Some.item.now c.key.result.now c.args.out.now.items c.extend_from_slice.new.self.items c.write_key.new.out.items c.push_reserved.new.self.items first is c.write_key.ensures.ok c.push_reserved.ensures.items in
    subst (λ found. c.push_reserved.new.self.items ≡ c.args.out.now.items ++ stale_text found) (sym here) written

pub returns-in-None : goal.returns-in-None
returns-in-None c =
    let here : slice_get c.args.items.now c.args.place ≡ None = slice_get_past c.args.items.now c.args.place c.in-None.ensures.lookup.3 in
    let written : c.write_refusal.new.out.items ≡ c.args.out.now.items ++ stale_text None = search rules in
    subst (λ found. c.write_refusal.new.out.items ≡ c.args.out.now.items ++ stale_text found) (sym here) written
