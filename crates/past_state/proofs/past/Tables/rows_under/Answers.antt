use Rattle.past_state.proofs.Vocabulary.{◌∙◌, ap, subst, IfOk-weaker, ok_both, bound_in, IsKnownOfGuard, ArePastTables, AreEvaluated, AreSatisfied, HasOpenColumns}
use Rattle.past_state.proofs.PastLemmas.{asked, enough_asked, can_evaluate, are_evaluated, are_open, are_satisfied}
use Rattle.past_state.proofs.KnownLemmas.{known_of_guard}
use Rattle.past_state.proofs.past.Tables.rows_under.Goals as goal

pub behind-past-requires : goal.behind-past-requires
behind-past-requires c = enough_asked c.args.self.now c.args.guard c.index-placed.result.now c.deref.result.now.items (subst ArePastTables c.self.view_is c.self.invariant.0)
    (ap (λ v. v.items) c.deref.ensures ∙ ap (λ t. t.guards) c.self.view_is) c.requires.within c.index-placed.ensures

pub evaluate_under-requires : goal.evaluate_under-requires
evaluate_under-requires c = can_evaluate c.args.self.now c.args.guard c.index-placed.result.now c.behind-past.result (bound_in c.args.v.now)
    (asked c.args.self.now c.args.guard c.index-placed.result.now c.deref.result.now.items c.behind-past.result (subst ArePastTables c.self.view_is c.self.invariant.0)
    (ap (λ v. v.items) c.deref.ensures ∙ ap (λ t. t.guards) c.self.view_is) c.requires.within c.index-placed.ensures c.behind-past.ensures) c.requires.binds

pub returns-clause-columns : goal.returns-clause-columns
returns-clause-columns c = IfOk-weaker c.evaluate_under.result _ (HasOpenColumns c.args.self.now c.args.guard)
    (λ t opened. are_open c.args.self.now c.args.guard c.index-placed.result.now c.behind-past.result t
    (asked c.args.self.now c.args.guard c.index-placed.result.now c.deref.result.now.items c.behind-past.result (subst ArePastTables c.self.view_is c.self.invariant.0)
    (ap (λ v. v.items) c.deref.ensures ∙ ap (λ t. t.guards) c.self.view_is) c.requires.within c.index-placed.ensures c.behind-past.ensures) opened) c.evaluate_under.ensures.columns

pub returns-clause-evaluated : goal.returns-clause-evaluated
returns-clause-evaluated c = IfOk-weaker c.evaluate_under.result _ (AreEvaluated c.args.self.now c.args.guard c.args.events.now (bound_in c.args.v.now))
    (λ t holds. are_evaluated c.args.self.now c.args.guard c.index-placed.result.now c.behind-past.result c.args.events.now (bound_in c.args.v.now) t
    (asked c.args.self.now c.args.guard c.index-placed.result.now c.deref.result.now.items c.behind-past.result (subst ArePastTables c.self.view_is c.self.invariant.0)
    (ap (λ v. v.items) c.deref.ensures ∙ ap (λ t. t.guards) c.self.view_is) c.requires.within c.index-placed.ensures c.behind-past.ensures) holds) c.evaluate_under.ensures.rows

pub returns-clause-satisfied : goal.returns-clause-satisfied
returns-clause-satisfied c = ok_both c.evaluate_under.result _ _ (AreSatisfied c.args.self.now c.args.guard c.args.events.now (bound_in c.args.v.now)) c.evaluate_under.ensures.columns
    c.evaluate_under.ensures.rows
    (λ t opened holds. are_satisfied c.present_is_satisfied.ensures c.args.self.now c.args.guard c.index-placed.result.now c.behind-past.result c.args.events.now (bound_in c.args.v.now) t
    (asked c.args.self.now c.args.guard c.index-placed.result.now c.deref.result.now.items c.behind-past.result (subst ArePastTables c.self.view_is c.self.invariant.0)
    (ap (λ v. v.items) c.deref.ensures ∙ ap (λ t. t.guards) c.self.view_is) c.requires.within c.index-placed.ensures c.behind-past.ensures) c.requires.binds opened holds)

pub returns-clause-known : goal.returns-clause-known
returns-clause-known c = IfOk-weaker c.evaluate_under.result _ (IsKnownOfGuard c.args.self.now c.args.guard c.args.events.now (bound_in c.args.v.now))
    (λ t known. known_of_guard c.args.self.now c.args.guard c.index-placed.result.now c.behind-past.result c.args.events.now (bound_in c.args.v.now) t
    (asked c.args.self.now c.args.guard c.index-placed.result.now c.deref.result.now.items c.behind-past.result (subst ArePastTables c.self.view_is c.self.invariant.0)
    (ap (λ v. v.items) c.deref.ensures ∙ ap (λ t. t.guards) c.self.view_is) c.requires.within c.index-placed.ensures c.behind-past.ensures) known) c.evaluate_under.ensures.known
