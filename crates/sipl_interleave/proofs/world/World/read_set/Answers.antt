use Rattle.std.proofs.Common.{◌≡◌, None, Some, refl, subst, sym, ◌∙◌}
use Rattle.sipl_evidence.specs.Items.{Item}
use Rattle.sipl_book.specs.Calls.{after_look}
use Rattle.sipl_interleave.specs.Jobs.{refusal_of, wanted_by, job_at}
use Rattle.sipl_interleave.specs.World.{WorldState}
use Rattle.sipl_interleave.specs.declared.act.Act.TheVariants.{Read}
use Rattle.sipl_interleave.proofs.Jobs.{allowed}
use Rattle.sipl_interleave.proofs.Making.{given-set, not_read}
use Rattle.sipl_interleave.proofs.Working.{world-looked, world-read}
use Rattle.sipl_interleave.proofs.world.World.read_set.Goals as goal

pub invariant_of-self : goal.invariant_of-self
invariant_of-self c =
    let old : WorldState = record { book = c.self.inside.book; workers = c.self.inside.workers } in
    world-looked (after_look old.book).store.looks old c.read.new.self c.self.invariant c.read.ensures.looked

pub invariant_of-self-in_default : goal.invariant_of-self-in_default
invariant_of-self-in_default c =
    let old : WorldState = record { book = c.self.inside.book; workers = c.self.inside.workers } in
    world-looked (after_look old.book).store.looks old c.read.new.self c.self.invariant c.read.ensures.looked

pub invariant_of-self-in_default-give : goal.invariant_of-self-in_default-give
invariant_of-self-in_default-give c =
    let old : WorldState = record { book = c.self.inside.book; workers = c.self.inside.workers } in
    rw c.in_default-give.ensures.err (world-looked (after_look old.book).store.looks old c.read.new.self c.self.invariant c.read.ensures.looked)

pub invariant_of-self-2 : goal.invariant_of-self-2
invariant_of-self-2 c =
    let old : WorldState = record { book = c.self.inside.book; workers = c.self.inside.workers } in
    let may = allowed Read old.workers c.args.worker (subst (λ (v : WorldState). refusal_of c.args.worker Read v.workers ≡ None) (sym c.self.view_is) c.requires.allowed) in
    let key = c.args.key.now in
    let wanted : wanted_by (job_at old.workers c.args.worker) ≡ Some key = subst (λ (v : WorldState). wanted_by (job_at v.workers c.args.worker) ≡ Some key) (sym c.self.view_is) c.requires.wanted in
    let number = c.in_ok-number.number in
    let content = c.in_ok-number.content in
    let item : Item = record { key = key; number = number; content = content } in
    rw (given-set old.workers c.give.new.self c.args.worker (wanted_by (job_at old.workers c.args.worker)) key key number c.from_vec-copy.result content
    (sym wanted) refl (c.from_vec-copy.ensures ∙ c.in-Ok.ensures ∙ c.as_slice.ensures) c.in-Ok-give.ensures.ok)
    (world-read old c.read.new.self c.args.worker item c.self.invariant may.within c.read.ensures.looked c.in_ok-number.ensures.set.number c.in_ok-number.ensures.given (sym c.in_ok-number.ensures.value))

pub returns-in_default-clause-failed : goal.returns-in_default-clause-failed
returns-in_default-clause-failed c =
    let old : WorldState = record { book = c.self.inside.book; workers = c.self.inside.workers } in
    rw (← c.self.view_is) (not_read old c.read.new.self c.self.inside.workers c.args.worker c.read.ensures.looked refl)

pub returns-in_default-give-clause-failed : goal.returns-in_default-give-clause-failed
returns-in_default-give-clause-failed c =
    let old : WorldState = record { book = c.self.inside.book; workers = c.self.inside.workers } in
    rw (← c.self.view_is) (not_read old c.read.new.self c.give.new.self c.args.worker c.read.ensures.looked c.in_default-give.ensures.err)
