use Rattle.trace_audit.proofs.Vocabulary.{◌∙◌, List, None, Some, set, sym, subst, refl, on_err_from, slice_get_within, arith, Entry, IsFreePlace, Place, AreForSlots, ℕ, HasOneMoreRule, open_in}
use Rattle.trace_audit.proofs.Vocabulary.{OpenRule}
use Rattle.trace_audit.proofs.SlotLemmas.{free_place, put_for_slots, put_rule, same_open, still_for_slots}
use Rattle.trace_audit.proofs.open_rules.OpenRules.put.Goals as goal

pub invariant_of-self : goal.invariant_of-self
invariant_of-self c =
    still_for_slots c.self.inside.slots.items c.free_slot.new.slots.items c.self.inside.sleepers.entries c.free_slot.ensures.more c.self.invariant

pub returns-in_err-slot-clause-err : goal.returns-in_err-slot-clause-err
returns-in_err-slot-clause-err c =
    on_err_from _ (same_open c.self.inside.slots.items c.free_slot.new.slots.items c.free_slot.ensures.more ∙ c.self.view_is)

pub invariant_of-self-in_err-place_of_slot : goal.invariant_of-self-in_err-place_of_slot
invariant_of-self-in_err-place_of_slot c =
    still_for_slots c.self.inside.slots.items c.free_slot.new.slots.items c.self.inside.sleepers.entries c.free_slot.ensures.more c.self.invariant

pub returns-in_err-place_of_slot-clause-err : goal.returns-in_err-place_of_slot-clause-err
returns-in_err-place_of_slot-clause-err c =
    on_err_from _ (same_open c.self.inside.slots.items c.free_slot.new.slots.items c.free_slot.ensures.more ∙ c.self.view_is)

pub put-requires : goal.put-requires
put-requires c =
    subst (λ (p : Place). IsFreePlace p c.self.inside.sleepers.entries) (sym c.in_ok-place_of_slot.ensures)
    (free_place c.free_slot.new.slots.items c.self.inside.sleepers.entries c.in_ok-slot.slot
    (still_for_slots c.self.inside.slots.items c.free_slot.new.slots.items c.self.inside.sleepers.entries c.free_slot.ensures.more c.self.invariant)
    c.in_ok-slot.ensures.free)

pub invariant_of-self-in_err-put : goal.invariant_of-self-in_err-put
invariant_of-self-in_err-put c =
    still_for_slots c.self.inside.slots.items c.free_slot.new.slots.items c.put.new.self.entries c.free_slot.ensures.more
    (subst (AreForSlots c.self.inside.slots.items) (sym c.in_err-put.ensures.err) c.self.invariant)

pub returns-in_err-put-clause-err : goal.returns-in_err-put-clause-err
returns-in_err-put-clause-err c =
    on_err_from _ (same_open c.self.inside.slots.items c.free_slot.new.slots.items c.free_slot.ensures.more ∙ c.self.view_is)

pub invariant_of-self-2 : goal.invariant_of-self-2
invariant_of-self-2 c =
    let slot = c.in_ok-slot.slot in
    let entry : Entry ℕ = record {
      place = c.in_ok-place_of_slot.field-0;
      patterns = c.in_ok-wakes.wakes.patterns;
      end = c.in_ok-wakes.wakes.end;
      item = slot;
    } in
    put_for_slots c.free_slot.new.slots.items c.self.inside.sleepers.entries c.put.new.self.entries slot c.args.item c.in_ok-slot.ensures.free
    entry c.in_ok-place_of_slot.ensures refl c.in_ok-wakes.ensures c.in_ok-put.ensures.ok
    (still_for_slots c.self.inside.slots.items c.free_slot.new.slots.items c.self.inside.sleepers.entries c.free_slot.ensures.more c.self.invariant)

pub index_mut-requires : goal.index_mut-requires
index_mut-requires c =
    omega (arith, slice_get_within c.free_slot.new.slots.items c.in_ok-slot.slot None c.in_ok-slot.ensures.free, c.free_slot.new.slots.ok.0)

pub returns-clause-ok : goal.returns-clause-ok
returns-clause-ok c =
    let slots = c.free_slot.new.slots.items in
    subst (λ (l : List OpenRule). HasOneMoreRule c.args.item l (open_in (set slots c.in_ok-slot.slot (Some c.args.item))))
    (same_open c.self.inside.slots.items slots c.free_slot.ensures.more ∙ c.self.view_is)
    (put_rule slots c.self.inside.sleepers.entries c.put.new.self.entries c.in_ok-slot.slot c.args.item c.in_ok-slot.ensures.free)
