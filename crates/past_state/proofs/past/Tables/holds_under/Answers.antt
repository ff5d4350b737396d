use Rattle.past_state.proofs.Vocabulary.{◌∙◌, ap, subst, IfOk-weaker, bound_in, ArePastTables, IsEvaluated, IsSatisfied}
use Rattle.past_state.proofs.PastLemmas.{asked, enough_asked, can_evaluate, is_evaluated, is_satisfied, test_of}
use Rattle.past_state.proofs.past.Tables.holds_under.Goals as goal

pub behind-past-requires : goal.behind-past-requires
behind-past-requires c = enough_asked c.args.self.now c.args.guard c.index-placed.result.now c.deref.result.now.items (subst ArePastTables c.self.view_is c.self.invariant.0)
    (ap (λ v. v.items) c.deref.ensures ∙ ap (λ t. t.guards) c.self.view_is) c.requires.within c.index-placed.ensures

pub holds-requires-clause-can : goal.holds-requires-clause-can
holds-requires-clause-can c = can_evaluate c.args.self.now c.args.guard c.index-placed.result.now c.behind-past.result (bound_in c.args.v.now)
    (asked c.args.self.now c.args.guard c.index-placed.result.now c.deref.result.now.items c.behind-past.result (subst ArePastTables c.self.view_is c.self.invariant.0)
    (ap (λ v. v.items) c.deref.ensures ∙ ap (λ t. t.guards) c.self.view_is) c.requires.within c.index-placed.ensures c.behind-past.ensures) c.requires.binds

pub holds-requires-clause-test : goal.holds-requires-clause-test
holds-requires-clause-test c = test_of c.args.self.now c.args.guard c.index-placed.result.now c.behind-past.result
    (asked c.args.self.now c.args.guard c.index-placed.result.now c.deref.result.now.items c.behind-past.result (subst ArePastTables c.self.view_is c.self.invariant.0)
    (ap (λ v. v.items) c.deref.ensures ∙ ap (λ t. t.guards) c.self.view_is) c.requires.within c.index-placed.ensures c.behind-past.ensures) c.requires.test

pub returns-clause-evaluated : goal.returns-clause-evaluated
returns-clause-evaluated c = IfOk-weaker c.holds.result _ (IsEvaluated c.args.self.now c.args.guard c.args.events.now (bound_in c.args.v.now))
    (λ holds told. is_evaluated c.args.self.now c.args.guard c.index-placed.result.now c.behind-past.result c.args.events.now (bound_in c.args.v.now) holds
    (asked c.args.self.now c.args.guard c.index-placed.result.now c.deref.result.now.items c.behind-past.result (subst ArePastTables c.self.view_is c.self.invariant.0)
    (ap (λ v. v.items) c.deref.ensures ∙ ap (λ t. t.guards) c.self.view_is) c.requires.within c.index-placed.ensures c.behind-past.ensures) told) c.holds.ensures

pub returns-clause-satisfied : goal.returns-clause-satisfied
returns-clause-satisfied c = IfOk-weaker c.holds.result _ (IsSatisfied c.args.self.now c.args.guard c.args.events.now (bound_in c.args.v.now))
    (λ holds told. is_satisfied c.present_is_satisfied.ensures c.args.self.now c.args.guard c.args.events.now (bound_in c.args.v.now) holds
    (subst ArePastTables c.self.view_is c.self.invariant.0) c.requires.test c.requires.binds
    (is_evaluated c.args.self.now c.args.guard c.index-placed.result.now c.behind-past.result c.args.events.now (bound_in c.args.v.now) holds
    (asked c.args.self.now c.args.guard c.index-placed.result.now c.deref.result.now.items c.behind-past.result (subst ArePastTables c.self.view_is c.self.invariant.0)
    (ap (λ v. v.items) c.deref.ensures ∙ ap (λ t. t.guards) c.self.view_is) c.requires.within c.index-placed.ensures c.behind-past.ensures) told)) c.holds.ensures
