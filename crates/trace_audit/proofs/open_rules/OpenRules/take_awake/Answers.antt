use Rattle.trace_audit.proofs.Vocabulary.{ℕ, List, sym, subst, ◌∙◌, Contains, IfOk-weaker, IsAllBut, IsAsleep, Entry, moment_of, AreForSlots, TakesAwake, open_in, OpenRule}
use Rattle.trace_audit.proofs.SlotLemmas.{takes_awake}
use Rattle.trace_audit.proofs.open_rules.OpenRules.take_awake.Goals as goal

pub invariant_of-self : goal.invariant_of-self
invariant_of-self c = subst (AreForSlots c.self.inside.slots.items) (sym c.wake.ensures.entries) c.self.invariant

pub returns-in_err-wake-clause-among : goal.returns-in_err-wake-clause-among
returns-in_err-wake-clause-among c = λ item there. subst (λ (l : List OpenRule). Contains l item) c.self.view_is there

pub take_ahead-requires : goal.take_ahead-requires
take_ahead-requires c = record { kept = subst (AreForSlots c.self.inside.slots.items) (sym c.wake.ensures.entries) c.self.invariant }

pub invariant_of-self-2 : goal.invariant_of-self-2
invariant_of-self-2 c = c.take_ahead.ensures.kept

pub returns-clause-ok : goal.returns-clause-ok
returns-clause-ok c =
    let m = moment_of c.args.now.now in
    let events = c.as_slice.result.now in
    let entries = c.wake.new.self.entries in
    let ahead = c.wake.new.self.ahead in
    let but = subst (λ (l : List (Entry ℕ)). IsAllBut (IsAsleep events m.time) l ahead) (sym c.wake.ensures.entries) c.in_ok-wake.ensures.ok in
    IfOk-weaker c.take_ahead.result _ _ (λ awake takes.
    subst (λ (l : List OpenRule). TakesAwake m l awake.items (open_in c.take_ahead.new.slots.items)) c.self.view_is
    (takes_awake m events c.self.inside.slots.items c.take_ahead.new.slots.items entries ahead c.take_ahead.new.sleepers.entries awake.items
    (c.as_slice.ensures.events ∙ c.set.ensures) but takes c.take_ahead.ensures.kept c.take_ahead.ensures.among)) c.take_ahead.ensures.takes

pub returns-clause-among : goal.returns-clause-among
returns-clause-among c = λ item there. subst (λ (l : List OpenRule). Contains l item) c.self.view_is (c.take_ahead.ensures.among item there)
