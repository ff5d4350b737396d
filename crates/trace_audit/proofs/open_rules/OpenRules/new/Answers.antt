use Rattle.trace_audit.proofs.Vocabulary.{ap, subst₂, sym, AreForSlots, open_in}
use Rattle.trace_audit.proofs.SlotLemmas.{nothing_for}
use Rattle.trace_audit.proofs.open_rules.OpenRules.new.Goals as goal

pub invariant_of-result : goal.invariant_of-result
invariant_of-result c = subst₂ AreForSlots (sym c.new-slots.ensures.items) (sym c.new-sleepers.ensures.entries) nothing_for

pub returns : goal.returns
returns c = ap open_in c.new-slots.ensures.items
