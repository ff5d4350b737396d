use Rattle.choice_step.proofs.Vocabulary.{arith}
use Rattle.choice_step.proofs.RootOrderLemmas.{passes_again, passes_next}
use Rattle.choice_step.proofs.unasked.Unasked.met.Goals as goal

pub returns-then-rule-self-clause-passes : goal.returns-then-rule-self-clause-passes
returns-then-rule-self-clause-passes c =
    passes_again c.args.rule c.args.self.now.from c.args.self.now.again.items c.take_out.new.rules.items c.if-rule-self.true c.take_out.ensures

pub returns-else-rule-self-clause-passes : goal.returns-else-rule-self-clause-passes
returns-else-rule-self-clause-passes c =
    passes_next c.args.rule c.args.self.now.from c.args.self.now.again.items (omega (arith, c.if-rule-self.false, c.requires.first))
