use Rattle.trace_audit.proofs.Vocabulary.{List, sym, subst, Contains, AreForSlots, TakesAhead, open_in, OpenRule}
use Rattle.trace_audit.proofs.SlotLemmas.{Slots, TakesSoFar, emptied_among, left_for_slots, none_taken, slot_fits, takes_all, takes_next, takes_none}
use Rattle.trace_audit.proofs.open_rules.take_ahead.Goals as goal

pub loop-entry-init : goal.loop-entry-init
loop-entry-init c =
    let slots = c.args.slots.now.items in
    let entries = c.args.sleepers.now.entries in
    let ahead = c.args.sleepers.now.ahead in
    subst (λ (l : List OpenRule). TakesSoFar slots entries ahead l slots entries ahead) (sym c.new-awake.ensures.items) (takes_none slots entries ahead c.requires.kept)

pub take_out-requires : goal.take_out-requires
take_out-requires c =
    slot_fits c.loop-entry.slots.items c.loop-entry.sleepers.entries c.take.new.self.entries c.in-Some.entry c.in-Some.ensures.some c.loop-entry.invariant.kept

pub loop-entry-preserved : goal.loop-entry-preserved
loop-entry-preserved c =
    takes_next c.args.slots.now.items c.args.sleepers.now.entries c.args.sleepers.now.ahead c.loop-entry.awake.items c.loop-entry.slots.items
    c.loop-entry.sleepers.entries c.loop-entry.sleepers.ahead c.take.new.self.entries c.take.new.self.ahead c.in-Some.entry c.loop-entry.invariant
    c.in-Some.ensures.some c.in-Some.ensures.ahead c.take_out.new.slots.items c.take_out.new.awake.items c.take_out.ensures.slots
    c.in_ok-take_out.ensures.awake

pub loop-entry-preserved-in_ok-take_out : goal.loop-entry-preserved-in_ok-take_out
loop-entry-preserved-in_ok-take_out c =
    takes_next c.args.slots.now.items c.args.sleepers.now.entries c.args.sleepers.now.ahead c.loop-entry.awake.items c.loop-entry.slots.items
    c.loop-entry.sleepers.entries c.loop-entry.sleepers.ahead c.take.new.self.entries c.take.new.self.ahead c.in-Some.entry c.loop-entry.invariant
    c.in-Some.ensures.some c.in-Some.ensures.ahead c.take_out.new.slots.items c.take_out.new.awake.items c.take_out.ensures.slots
    c.in_ok-take_out.ensures.awake

pub returns-clause-kept : goal.returns-clause-kept
returns-clause-kept c =
    subst (AreForSlots c.loop-entry.slots.items) (sym (none_taken c.take.result c.in_default.not-Some c.take.ensures.none).1) c.loop-entry.invariant.kept

pub returns-clause-takes : goal.returns-clause-takes
returns-clause-takes c =
    let slots = c.args.slots.now.items in
    let entries = c.args.sleepers.now.entries in
    let ahead = c.args.sleepers.now.ahead in
    let none = none_taken c.take.result c.in_default.not-Some c.take.ensures.none in
    subst (TakesAhead slots entries ahead c.loop-entry.awake.items c.loop-entry.slots.items) (sym none.1)
    (takes_all slots entries ahead c.loop-entry.awake.items c.loop-entry.slots.items c.loop-entry.sleepers.entries c.loop-entry.sleepers.ahead
    c.loop-entry.invariant none.0)

pub returns-in_err-take_out-clause-kept : goal.returns-in_err-take_out-clause-kept
returns-in_err-take_out-clause-kept c =
    subst (λ (s : Slots). AreForSlots s c.take.new.self.entries) (sym c.take_out.ensures.slots)
    (left_for_slots c.loop-entry.slots.items c.loop-entry.sleepers.entries c.take.new.self.entries c.in-Some.entry c.in-Some.ensures.some c.loop-entry.invariant.kept)

pub returns-in_err-take_out-clause-among : goal.returns-in_err-take_out-clause-among
returns-in_err-take_out-clause-among c = λ item there.
    c.loop-entry.invariant.left_among item
    (emptied_among c.loop-entry.slots.items c.loop-entry.sleepers.entries c.take.new.self.entries c.in-Some.entry c.in-Some.ensures.some c.loop-entry.invariant.kept item
    (subst (λ (s : Slots). Contains (open_in s) item) c.take_out.ensures.slots there))
