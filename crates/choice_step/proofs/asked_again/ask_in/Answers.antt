use Rattle.choice_step.proofs.Vocabulary.{refl}
use Rattle.choice_step.proofs.asked_again.ask_in.Goals as goal

pub ask_plain-requires : goal.ask_plain-requires
ask_plain-requires c = record {
  can = c.requires.can;
  now = record {
    time = refl;
    position = refl;
    are = c.requires.are;
    hold = c.requires.hold;
    known = c.requires.known;
    same = c.requires.same;
  };
  ignores = c.requires.ignores;
  waiting = c.requires.waiting;
  before = c.requires.before;
  there = c.requires.there;
  plain = c.requires.plain;
}

pub returns-clause-next : goal.returns-clause-next
returns-clause-next c = c.ask_plain.ensures.next

pub returns-clause-rule : goal.returns-clause-rule
returns-clause-rule c = c.ask_plain.ensures.rule
