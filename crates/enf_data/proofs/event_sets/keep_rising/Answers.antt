use Rattle.enf_data.proofs.Vocabulary.{◌≡◌, AreRisingEvents, Event, List, event_order, filter, not, sym, subst, has_event}
use Rattle.enf_data.proofs.EventOrder.{event_order_total}
use Rattle.enf_data.proofs.RisingLists.{rising_distinct}
use Rattle.std.proofs.Common.{rules}
use Rattle.std.proofs.lemmas.Fn.{filter_same}
use Rattle.std.proofs.lemmas.List.Kept.{IsStrictlySortedBy-filter}
use Rattle.enf_data.proofs.event_sets.keep_rising.Goals as goal

pub returns-clause-removed : goal.returns-clause-removed
returns-clause-removed c =
    filter_same _ (λ event. not (has_event c.args.gone.now event)) _ (λ event b f call. search rules) c.args.rising.now.items c.retain.new.self.items c.retain.ensures.filtered

-- what is left rises
left : (rising after gone : List Event) → after ≡ filter (λ event. not (has_event gone event)) rising → AreRisingEvents rising → AreRisingEvents after
left rising after gone is rise = subst AreRisingEvents (sym is) (IsStrictlySortedBy-filter event_order (λ event. not (has_event gone event)) rising rise)

pub returns-clause-order : goal.returns-clause-order
returns-clause-order c = left c.args.rising.now.items c.retain.new.self.items c.args.gone.now
    (filter_same _ (λ event. not (has_event c.args.gone.now event)) _ (λ event b f call. search rules) c.args.rising.now.items c.retain.new.self.items c.retain.ensures.filtered) c.requires

pub returns-clause-distinct : goal.returns-clause-distinct
returns-clause-distinct c = rising_distinct event_order_total c.retain.new.self.items (left c.args.rising.now.items c.retain.new.self.items c.args.gone.now
    (filter_same _ (λ event. not (has_event c.args.gone.now event)) _ (λ event b f call. search rules) c.args.rising.now.items c.retain.new.self.items c.retain.ensures.filtered) c.requires)
