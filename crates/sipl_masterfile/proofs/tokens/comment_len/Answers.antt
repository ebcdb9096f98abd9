use Rattle.std.proofs.Common.{length, ◌≤◌, ◌∙◌, subst, sym}
use Rattle.sipl_masterfile.proofs.Scanning.{comment_len-found, comment_len-within}
use Rattle.sipl_masterfile.proofs.tokens.comment_len.Goals as goal

pub returns-clause-value : goal.returns-clause-value
returns-clause-value c = c.unwrap_or.ensures ∙ comment_len-found c.args.text.now c.memchr.result c.memchr.ensures

pub returns-clause-within : goal.returns-clause-within
returns-clause-within c = subst (λ n. n ≤ length c.args.text.now) (sym c.unwrap_or.ensures) (comment_len-within c.args.text.now c.memchr.result c.memchr.ensures)
