use Rattle.rank_check.proofs.Vocabulary.{refl, sym, subst, ⊎_elim, nodes, plan_of, IsSurvey, Survey}
use Rattle.plan_terms.specs.declared.plans.Plan.{Plan as Stored}
use Rattle.rank_check.proofs.SurveyLemmas.{of_two, of_until}
use Rattle.rank_check.proofs.horizon.+survey_of.Goals as goal

pub returns-in-Both-clause-found : goal.returns-in-Both-clause-found
returns-in-Both-clause-found t c =
    let Found : Stored → Survey → Type 0 = λ p found. IsSurvey c.args.scale.above c.args.scale.step c.args.ranks.now (nodes (plan_of p)) found in
    let found = c.with_node-in-Both.result in
    let first : Found c.in-Both.left.value c.survey_of-first-in-Both.result = subst (λ (p : Stored). Found p c.survey_of-first-in-Both.result) c.deref-in-Both.ensures
    c.survey_of-first-in-Both.ensures.found in
    let second : Found c.in-Both.right.value c.survey_of-in-Both.result = subst (λ (p : Stored). Found p c.survey_of-in-Both.result) c.deref-in-Both-2.ensures c.survey_of-in-Both.ensures.found in
    ⊎_elim (λ k. subst (λ (p : Stored). Found p found) (sym k.1) (of_two _ _ _ _ _ _ _ _ _ found refl refl first second c.joined.ensures c.with_node-in-Both.ensures))
    (λ k. subst (λ (p : Stored). Found p found) (sym k.1) (of_two _ _ _ _ _ _ _ _ _ found refl refl first second c.joined.ensures c.with_node-in-Both.ensures)) c.in-Both.is

pub returns-in-Until-clause-found : goal.returns-in-Until-clause-found
returns-in-Until-clause-found t c =
    let Found : Stored → Survey → Type 0 = λ p found. IsSurvey c.args.scale.above c.args.scale.step c.args.ranks.now (nodes (plan_of p)) found in
    let found = c.with_deadline.result in
    let first : Found c.in-Until.left.value c.survey_of-first.result = subst (λ (p : Stored). Found p c.survey_of-first.result) c.deref.ensures c.survey_of-first.ensures.found in
    let second : Found c.in-Until.right.value c.survey_of.result = subst (λ (p : Stored). Found p c.survey_of.result) c.deref-in-Until.ensures c.survey_of.ensures.found in
    let three = of_until c.args.scale.above c.args.scale.step c.args.ranks.now c.in-Until.node c.in-Until.place c.in-Until.low c.in-Until.high _ _ _ _ _ _ found first second
    c.joined-both.ensures c.with_node.ensures c.with_deadline.ensures in
    subst (λ (p : Stored). Found p found) (sym c.in-Until.is) three
