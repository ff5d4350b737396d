use Rattle.choice_step.proofs.Vocabulary.{refl}
use Rattle.choice_step.proofs.choice_loop.find_next.Goals as goal

pub find-requires : goal.find-requires
find-requires c = record {
  can = c.requires.can;
  now = record {
    time = refl;
    position = refl;
    are = c.requires.are;
    hold = c.requires.hold;
    known = c.requires.known;
    same = c.requires.same;
  };
  fewer = c.requires.fewer;
  kept = c.requires.kept;
}

pub returns-clause-kept : goal.returns-clause-kept
returns-clause-kept c = c.find.ensures.kept

pub returns-clause-next : goal.returns-clause-next
returns-clause-next c = c.find.ensures.next

pub returns-clause-first : goal.returns-clause-first
returns-clause-first c = c.find.ensures.first
