use Rattle.std.proofs.Common.{ℕ, ◌+◌, List, [], ◌∷◌, ◌++◌, length, drop, sym, ap, ◌∙◌, arith, append_assoc, append-nil}
use Rattle.std.specs.List.{flat_map}
use Rattle.std.specs.Str.{chars}
use Rattle.std.specs.String.{string_bytes}
use Rattle.std.proofs.lemmas.Iterator.{YieldsList-from_chars}
use Rattle.std.proofs.lemmas.Iterator.Consumers.{YieldsList-turn, YieldsList-end}
use Rattle.std.proofs.lemmas.List.{at_drop_all, length_push}
use lib.Utf8.{encode}
use Rattle.sipl_log.specs.Lines.{glyph}
use Rattle.sipl_log.proofs.Quoting.{glyphs-drop, quoted}
use Rattle.sipl_log.proofs.line.push_quoted.Goals as goal

pub loop-c-preserved : goal.loop-c-preserved
loop-c-preserved c =
    let cs = chars c.args.value.now in
    let old = string_bytes c.loop-c.out in
    let one = glyph c.in-Some.c in
    let turn = YieldsList-turn (YieldsList-from_chars c.args.value.now c.utf8.value cc) c.loop-c.yielded _ c.loop-c.yielded_by _ _ c.in-Some.c c.in-Some.is c.next.ensures.steps in
    ap (λ (text : List ℕ). text ++ flat_map glyph (drop (length (c.loop-c.yielded ++ c.in-Some.c ∷ [])) cs)) c.in_ok-push_glyph.ensures
    ∙ ap (λ (k : ℕ). (old ++ one) ++ flat_map glyph (drop k cs)) (length_push c.loop-c.yielded c.in-Some.c)
    ∙ append_assoc old one (flat_map glyph (drop (length c.loop-c.yielded + 1) cs))
    ∙ ap (λ (rest : List ℕ). old ++ rest) (sym (glyphs-drop _ _ _ turn))
    ∙ c.loop-c.invariant

pub returns : goal.returns
unfolding encode
returns c =
    let cs = chars c.args.value.now in
    let old = string_bytes c.loop-c.out in
    let end = YieldsList-end (YieldsList-from_chars c.args.value.now c.utf8.value cc) c.loop-c.yielded _ c.loop-c.yielded_by _ _ c.in-None.is c.next.ensures.steps in
    let none = at_drop_all (λ (rest : List ℕ). flat_map glyph rest) cs (length c.loop-c.yielded) (omega (arith, end.1)) in
    let whole = sym (append-nil old) ∙ ap (λ (rest : List ℕ). old ++ rest) (sym none) ∙ c.loop-c.invariant in
    quoted c.push-2.result _ old (string_bytes c.args.out.now) (flat_map glyph cs) c.push-2.ensures.bytes
    (whole ∙ ap (λ (front : List ℕ). front ++ flat_map glyph cs) c.in_ok-push.ensures.bytes)
