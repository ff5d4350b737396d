use Rattle.past_state.proofs.Vocabulary.{◌∙◌, ap, subst, IfOk-weaker, bound_in, IsKnownOfGuard, ArePastTables, HasOpenColumns}
use Rattle.past_state.proofs.PastLemmas.{asked, enough_asked, can_evaluate, are_evaluated_in, are_open}
use Rattle.past_state.proofs.KnownLemmas.{known_of_guard}
use Rattle.past_state.specs.machine.Past.{AreEvaluatedIn}
use Rattle.past_state.proofs.past.Tables.rows_in.Goals as goal

pub behind-past-requires : goal.behind-past-requires
behind-past-requires c = enough_asked c.args.self.now c.args.guard c.index-placed.result.now c.deref.result.now.items (subst ArePastTables c.self.view_is c.self.invariant.0)
    (ap (λ v. v.items) c.deref.ensures ∙ ap (λ t. t.guards) c.self.view_is) c.requires.within c.index-placed.ensures

pub evaluate_in-requires-clause-can : goal.evaluate_in-requires-clause-can
evaluate_in-requires-clause-can c = can_evaluate c.args.self.now c.args.guard c.index-placed.result.now c.behind-past.result (bound_in c.args.v.now)
    (asked c.args.self.now c.args.guard c.index-placed.result.now c.deref.result.now.items c.behind-past.result (subst ArePastTables c.self.view_is c.self.invariant.0)
    (ap (λ v. v.items) c.deref.ensures ∙ ap (λ t. t.guards) c.self.view_is) c.requires.within c.index-placed.ensures c.behind-past.ensures) c.requires.binds

pub evaluate_in-requires-clause-within : goal.evaluate_in-requires-clause-within
evaluate_in-requires-clause-within c = c.requires.columns c.index-placed.result.now
    (asked c.args.self.now c.args.guard c.index-placed.result.now c.deref.result.now.items c.behind-past.result (subst ArePastTables c.self.view_is c.self.invariant.0)
    (ap (λ v. v.items) c.deref.ensures ∙ ap (λ t. t.guards) c.self.view_is) c.requires.within c.index-placed.ensures c.behind-past.ensures).is

pub returns-clause-columns : goal.returns-clause-columns
returns-clause-columns c = IfOk-weaker c.evaluate_in.result _ (HasOpenColumns c.args.self.now c.args.guard)
    (λ t opened. are_open c.args.self.now c.args.guard c.index-placed.result.now c.behind-past.result t
    (asked c.args.self.now c.args.guard c.index-placed.result.now c.deref.result.now.items c.behind-past.result (subst ArePastTables c.self.view_is c.self.invariant.0)
    (ap (λ v. v.items) c.deref.ensures ∙ ap (λ t. t.guards) c.self.view_is) c.requires.within c.index-placed.ensures c.behind-past.ensures) opened) c.evaluate_in.ensures.columns

pub returns-clause-evaluated : goal.returns-clause-evaluated
returns-clause-evaluated c = IfOk-weaker c.evaluate_in.result _ (AreEvaluatedIn c.args.within.now c.args.self.now c.args.guard c.args.events.now (bound_in c.args.v.now))
    (λ t holds. are_evaluated_in c.args.within.now c.args.self.now c.args.guard c.index-placed.result.now c.behind-past.result c.args.events.now (bound_in c.args.v.now) t
    (asked c.args.self.now c.args.guard c.index-placed.result.now c.deref.result.now.items c.behind-past.result (subst ArePastTables c.self.view_is c.self.invariant.0)
    (ap (λ v. v.items) c.deref.ensures ∙ ap (λ t. t.guards) c.self.view_is) c.requires.within c.index-placed.ensures c.behind-past.ensures) holds) c.evaluate_in.ensures.rows

pub returns-clause-known : goal.returns-clause-known
returns-clause-known c = IfOk-weaker c.evaluate_in.result _ (IsKnownOfGuard c.args.self.now c.args.guard c.args.events.now (bound_in c.args.v.now))
    (λ t known. known_of_guard c.args.self.now c.args.guard c.index-placed.result.now c.behind-past.result c.args.events.now (bound_in c.args.v.now) t
    (asked c.args.self.now c.args.guard c.index-placed.result.now c.deref.result.now.items c.behind-past.result (subst ArePastTables c.self.view_is c.self.invariant.0)
    (ap (λ v. v.items) c.deref.ensures ∙ ap (λ t. t.guards) c.self.view_is) c.requires.within c.index-placed.ensures c.behind-past.ensures) known) c.evaluate_in.ensures.known
