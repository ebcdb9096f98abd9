use Rattle.std.proofs.Common.{sym, ◌∙◌}
use Rattle.sipl_interleave.proofs.Making.{step-at}
use Rattle.sipl_interleave.proofs.world.World.step.Goals as goal

pub returns-in-Change : goal.returns-in-Change
returns-in-Change c = step-at c.args.step _ c.args.self.now c.change.new.self c.change.result c.in-Change.is (sym c.refusal.ensures ∙ c.in_default.is) c.change.ensures

pub returns-in-Hold : goal.returns-in-Hold
returns-in-Hold c = step-at c.args.step _ c.args.self.now c.hold.new.self c.hold.result c.in-Hold.is (sym c.refusal.ensures ∙ c.in_default.is) c.hold.ensures

pub returns-in-Release : goal.returns-in-Release
returns-in-Release c = step-at c.args.step _ c.args.self.now c.release.new.self c.release.result c.in-Release.is (sym c.refusal.ensures ∙ c.in_default.is) c.release.ensures

pub returns-in-Advance : goal.returns-in-Advance
returns-in-Advance c = step-at c.args.step _ c.args.self.now c.advance.new.self c.advance.result c.in-Advance.is (sym c.refusal.ensures ∙ c.in_default.is) c.advance.ensures

pub returns-in-Hand : goal.returns-in-Hand
returns-in-Hand c = step-at c.args.step _ c.args.self.now c.hand.new.self c.hand.result c.in-Hand.is (sym c.refusal.ensures ∙ c.in_default.is) c.hand.ensures

pub returns-in-Start : goal.returns-in-Start
returns-in-Start c = step-at c.args.step _ c.args.self.now c.start.new.self c.start.result c.in-Start.is (sym c.refusal.ensures ∙ c.in_default.is) c.start.ensures

pub returns-in-Read : goal.returns-in-Read
returns-in-Read c = step-at c.args.step _ c.args.self.now c.read.new.self c.read.result c.in-Read.is (sym c.refusal.ensures ∙ c.in_default.is) c.read.ensures

pub returns-in-Commit : goal.returns-in-Commit
returns-in-Commit c = step-at c.args.step _ c.args.self.now c.commit.new.self c.commit.result c.in-Commit.is (sym c.refusal.ensures ∙ c.in_default.is) c.commit.ensures

pub returns-in-Lease : goal.returns-in-Lease
returns-in-Lease c = step-at c.args.step _ c.args.self.now c.lease.new.self c.lease.result c.in-Lease.is (sym c.refusal.ensures ∙ c.in_default.is) c.lease.ensures

pub returns-in-Settle : goal.returns-in-Settle
returns-in-Settle c = step-at c.args.step _ c.args.self.now c.settle.new.self c.settle.result c.in-Settle.is (sym c.refusal.ensures ∙ c.in_default.is) c.settle.ensures

pub returns-in-Abandon : goal.returns-in-Abandon
returns-in-Abandon c = step-at c.args.step _ c.args.self.now c.abandon.new.self c.abandon.result c.in-Abandon.is (sym c.refusal.ensures ∙ c.in_default.is) c.abandon.ensures

pub returns-in-Forget : goal.returns-in-Forget
returns-in-Forget c = step-at c.args.step _ c.args.self.now c.forget.new.self c.forget.result c.in-Forget.is (sym c.refusal.ensures ∙ c.in_default.is) c.forget.ensures

pub returns-in-Page : goal.returns-in-Page
returns-in-Page c = step-at c.args.step _ c.args.self.now c.page.new.self c.page.result c.in-Page.is (sym c.refusal.ensures ∙ c.in_default.is) c.page.ensures
