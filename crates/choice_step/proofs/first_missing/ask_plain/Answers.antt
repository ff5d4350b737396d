use Rattle.choice_step.proofs.Vocabulary.{◌∙◌, Literal, CanAskPlan, Contains, IsWanted, Missing, arith, guards_now, length, no_values, plan_of}
use Rattle.choice_step.proofs.Vocabulary.{eqb-false, eqb-true, subst, sym}
use Rattle.choice_step.proofs.FirstActionLemmas.{above, nil_of}
use Rattle.choice_step.proofs.FoundLemmas.{all_missed, all_wanted, met_now}
use Rattle.choice_step.proofs.UnaskedLemmas.{root_asked}
use Rattle.choice_step.proofs.first_missing.ask_plain.Goals as goal

pub lack-requires : goal.lack-requires
lack-requires c =
    let situation = c.args.situation.now in
    let now = c.args.now.now in
    let plan = plan_of c.args.plan.now in
    subst (CanAskPlan (guards_now now) plan) (sym c.empty-nothing.ensures)
    (root_asked c.fresh_can_be_asked.ensures.plans situation now c.requires.can c.requires.now c.args.rule plan c.requires.there c.requires.ignores)

pub returns-then-is_empty-clause-next : goal.returns-then-is_empty-clause-next
returns-then-is_empty-clause-next c =
    let plan = plan_of c.args.plan.now in
    met_now c.stale_now_stands.ensures c.args.situation.now c.args.now.now c.requires.now c.args.rule plan c.requires.there
    (λ trace of. subst (Missing trace plan no_values) (nil_of c.in_ok-literals.literals.items (omega (arith, eqb-true c.in_ok-literals.literals.len 0 (sym c.is_empty.ensures ∙ c.if-is_empty.true), c.in_ok-literals.literals.ok.0)))
    (subst (λ v. Missing trace plan v c.in_ok-literals.literals.items) c.empty-nothing.ensures (c.in_ok-literals.ensures.missing trace of)))

pub returns-clause-next : goal.returns-clause-next
returns-clause-next c =
    let situation = c.args.situation.now in
    let now = c.args.now.now in
    let plan = plan_of c.args.plan.now in
    let literals = c.in_ok-literals.literals in
    let wants : (l : Literal) → Contains literals.items l → IsWanted now plan no_values l =
    λ l there. subst (λ v. IsWanted now plan v l) c.empty-nothing.ensures (c.in_ok-literals.ensures.wanted l there)
    in (
      above (length literals.items) (λ none. eqb-false literals.len 0 (sym c.is_empty.ensures ∙ c.if-is_empty.false) (omega (arith, none, literals.ok.0))),
      all_wanted c.stale_now_stands.ensures situation now c.requires.now c.requires.waiting c.args.rule plan c.requires.there c.requires.before literals.items wants literals.items (λ l there. there),
      all_missed c.stale_now_stands.ensures situation now c.requires.now c.requires.waiting c.args.rule plan c.requires.there c.requires.before literals.items wants c.requires.plain
          (λ trace of. subst (λ v. Missing trace plan v literals.items) c.empty-nothing.ensures (c.in_ok-literals.ensures.missing trace of)),
    )
