use Rattle.enforcer_core.proofs.Vocabulary.{◌≡◌, false, refl, sym, subst, AreCopies, all_operators, AreKeptOf, Pend, Snapshot, Enforcing, policy_plans, IsKeptOf, SavesTrace}
use Rattle.enforcer_core.proofs.SnapshotLemmas.{few_operators, same_formulas}
use Rattle.enforcer_core.proofs.enforcer.Enforcer.snapshot.Goals as goal

pub kept-requires : goal.kept-requires
kept-requires c =
    let on : c.self.inside.stopped ≡ false = subst (λ (e : Enforcing). e.stopped ≡ false) (sym c.self.view_is) c.requires.goes_on in
    few_operators c.operators_are_nodes.ensures c.self.inside.policy.guards c.self.inside.remembered.past.guards (c.self.invariant.0.serves on).guards
    c.self.invariant.0.together.formed.small

pub returns-clause-kept : goal.returns-clause-kept
returns-clause-kept c =
    let s : Snapshot = record {
      clock = c.self.inside.clock;
      last = c.self.inside.remembered.last;
      position =
          c.self.inside.remembered.position;
      kept = c.in_ok-kept.kept;
      pending = c.in_ok-pending.pending;
    } in
    subst (λ (e : Enforcing). IsKeptOf e s) c.self.view_is
    (record { clock = refl; last = refl; position = refl; rising = c.in_ok-kept.ensures.rising; kept = c.in_ok-kept.ensures.exact; pending = c.in_ok-pending.ensures })

pub returns-clause-saves : goal.returns-clause-saves
returns-clause-saves c =
    let on : c.self.inside.stopped ≡ false = subst (λ (e : Enforcing). e.stopped ≡ false) (sym c.self.view_is) c.requires.goes_on in
    let copies : AreCopies c.self.inside.policy.guards c.self.inside.remembered.past.guards = (c.self.invariant.0.serves on).guards in
    let s : Snapshot = record {
      clock = c.self.inside.clock;
      last = c.self.inside.remembered.last;
      position =
          c.self.inside.remembered.position;
      kept = c.in_ok-kept.kept;
      pending = c.in_ok-pending.pending;
    } in
    subst (λ (e : Enforcing). SavesTrace e s) c.self.view_is
    (λ trace stands. record {
      clocked = refl;
      last = stands.last;
      position = stands.position;
      rising = c.in_ok-kept.ensures.rising;
      kept = subst (λ fs. AreKeptOf trace (all_operators fs) c.in_ok-kept.kept) (same_formulas c.self.inside.policy.guards c.self.inside.remembered.past.guards copies)
          (c.in_ok-kept.ensures.kept trace stands.past);
      pending = subst (Pend (policy_plans c.self.inside.policy) trace) (sym c.in_ok-pending.ensures) stands.pending;
    })
