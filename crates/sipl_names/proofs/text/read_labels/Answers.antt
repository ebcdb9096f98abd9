use Rattle.std.proofs.Common.{◌≡◌, ◌∷◌, ◌<◌, length, refl, ap, ◌∙◌, arith}
use Rattle.std.proofs.lemmas.Bool.Decides.{nat_tests}
use Rattle.std.proofs.lemmas.Result.{err_from_is_err_and}
use Rattle.sipl_names.specs.NameText.{symbols, dot}
use Rattle.sipl_names.specs.Reading.{symbol_of}
use Rattle.sipl_names.proofs.Buffers.{small_vec_len-empty, small_vec_len-push, small_vec_len-set}
use Rattle.sipl_names.proofs.ReadText.{read_start, read_dot, read_last_dot, read_end, read_fault, read_bad_label, read_bad_end}
use Rattle.sipl_names.proofs.text.read_labels.Goals as goal
use Rattle.sipl_names.proofs.text.read_labels.Goals.{In-Dot}

-- a dot comes next
next_dot : (c : In-Dot) → symbols 0 c.loop-token.rest.now ≡ dot ∷ symbols 0 c.in-Some.tail.now
next_dot c =
    let next = rw c.in-Some.is at c.in_ok-token.ensures.next in
    next.spells ∙ ap (λ s. symbol_of s ∷ symbols 0 c.in-Some.tail.now) c.in-Dot.is

pub loop-token-init : goal.loop-token-init
loop-token-init c = record {
  read = rw (c.push_reserved.ensures.items, c.requires.empty) (read_start c.args.text.now);
  reserved = omega (arith, small_vec_len-empty c.args.wire.now c.requires.empty, small_vec_len-push c.args.wire.now c.push_reserved.new.self _ c.push_reserved.ensures.items);
}

pub returns-in_err-token-clause-refused : goal.returns-in_err-token-clause-refused
returns-in_err-token-clause-refused c =
    let p = err_from_is_err_and c.from_residual.result c.from_residual.ensures.1 in
    rw (p.1, p.2) (read_fault _ _ _ _ _ c.loop-token.invariant.read c.in_err-token.ensures.refused)

pub returns-in_err-end_label-in-Dot-clause-refused :
    goal.returns-in_err-end_label-in-Dot-clause-refused
returns-in_err-end_label-in-Dot-clause-refused c =
    let p = err_from_is_err_and c.from_residual-in_err-end_label-in-Dot.result c.from_residual-in_err-end_label-in-Dot.ensures.1 in
    rw (p.1, p.2) (read_bad_label _ _ _ _ c.in-Some.tail.now _ c.loop-token.invariant.read (next_dot (goal.at.returns-in_err-end_label-in-Dot-clause-refused c).In-Dot) c.in_err-end_label-in-Dot.ensures.fault)

pub returns-then-is_empty-clause-read : goal.returns-then-is_empty-clause-read
returns-then-is_empty-clause-read c =
    read_last_dot _ _ _ _ c.in-Some.tail.now _ _ c.loop-token.invariant.read (next_dot (goal.at.returns-then-is_empty-clause-read c).In-Dot) (grind (arith, nat_tests)) c.in_ok-end_label-in-Dot.ensures.fault refl c.in_ok-end_label-in-Dot.ensures.length_written

pub loop-token-preserved : goal.loop-token-preserved
loop-token-preserved c =
    let more : 0 < length c.in-Some.tail.now = grind (arith, nat_tests) in
    let next = rw c.in-Some.is at c.in_ok-token.ensures.next in
    record {
      read = rw (c.push_reserved-in-Dot.ensures.items, c.len-start.ensures.value) (read_dot _ _ _ _ c.in-Some.tail.now _ _ c.loop-token.invariant.read (next_dot (goal.at.loop-token-preserved c).In-Dot) more c.in_ok-end_label-in-Dot.ensures.fault refl c.in_ok-end_label-in-Dot.ensures.length_written);
      reserved = omega (arith, next.shorter, small_vec_len-set c.loop-token.wire c.end_label.new.wire _ _ c.in_ok-end_label-in-Dot.ensures.length_written, small_vec_len-push c.end_label.new.wire c.push_reserved-in-Dot.new.self _ c.push_reserved-in-Dot.ensures.items);
    }

pub returns-in_err-end_label-clause-refused : goal.returns-in_err-end_label-clause-refused
returns-in_err-end_label-clause-refused c =
    let p = err_from_is_err_and c.from_residual-in_err-end_label.result c.from_residual-in_err-end_label.ensures.1 in
    rw (p.1, p.2) (read_bad_end _ _ _ _ _ c.loop-token.invariant.read (rw c.in_default.is at c.in_ok-token.ensures.next) c.in_err-end_label.ensures.fault)

pub returns-clause-read : goal.returns-clause-read
returns-clause-read c =
    read_end _ _ _ _ _ _ c.loop-token.invariant.read (rw c.in_default.is at c.in_ok-token.ensures.next) c.in_ok-end_label.ensures.fault refl c.in_ok-end_label.ensures.length_written
