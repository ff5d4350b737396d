use Rattle.pending.proofs.Vocabulary.{Contains, none_in_nil, subst}
use Rattle.pending.specs.machine.AskedEntries.{entries_asked}
use Rattle.pending.proofs.asking.Asking.of.Goals as goal

pub invariant_of-result : goal.invariant_of-result
invariant_of-result c = (
  record {
    placed = c.requires.placed;
    ahead = c.requires.among;
    asked = λ x there. absurd (none_in_nil x (subst (λ l. Contains (entries_asked l) x) c.new.ensures.items there));
  },
  (λ group there. absurd (none_in_nil group (subst (λ l. Contains l group) c.new.ensures.items there))),
)
