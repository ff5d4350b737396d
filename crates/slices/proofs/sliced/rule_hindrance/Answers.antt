use Rattle.std.proofs.Common.{◌≡◌, sym, subst}
use Rattle.enf_formula.specs.declared.formulas.Formula.{Formula as Stored}
use Rattle.enf_formula.specs.machine.FormulaViews.{tree_of}
use Rattle.enf_formula.specs.meaning.Satisfaction.{Forall}
use Rattle.slices.specs.machine.FirstHindrances.{IsFirstAnswer}
use Rattle.slices.specs.machine.StoredKeys.{keying_of}
use Rattle.slices.specs.meaning.SlicedRules.{IsInTheWay, IsRuleInTheWay, key_variable}
use Rattle.slices.proofs.HindranceLaws.{none_tells, some_tells}
use Rattle.slices.proofs.HindranceLemmas.{IsWholeInTheWay, rule_first}
use Rattle.slices.proofs.sliced.rule_hindrance.Goals as goal

pub returns-in-Some-clause-first : goal.returns-in-Some-clause-first
returns-in-Some-clause-first c =
    let keying = keying_of c.args.keys.now in
    let whole : IsFirstAnswer (IsWholeInTheWay keying (tree_of c.in-Forall.body.value)) c.at_body.result =
    subst (λ (g : Stored). IsFirstAnswer (IsWholeInTheWay keying (tree_of g)) c.at_body.result) c.deref-in-Some.ensures c.at_body.ensures in
    let inner : IsFirstAnswer (IsInTheWay keying c.in-Some.x (tree_of c.in-Forall.body.value)) c.in_the_way.result =
    subst (λ (g : Stored). IsFirstAnswer (IsInTheWay keying c.in-Some.x (tree_of g)) c.in_the_way.result) c.deref-in-Some-2.ensures c.in_the_way.ensures in
    let key : c.first_key.result ≡ key_variable keying c.in-Forall.xs (tree_of c.in-Forall.body.value) =
    subst (λ (g : Stored). c.first_key.result ≡ key_variable keying c.in-Forall.xs (tree_of g)) c.deref.ensures c.first_key.ensures in
    subst (λ (r : Stored). IsFirstAnswer (IsRuleInTheWay keying (tree_of r)) c.earlier.result) (sym c.in-Forall.is)
    (subst (IsFirstAnswer (IsRuleInTheWay keying (Forall c.in-Forall.field-0 c.in-Forall.xs (tree_of c.in-Forall.body.value)))) (sym c.earlier.ensures)
    (rule_first keying c.in-Forall.field-0 c.in-Forall.xs (tree_of c.in-Forall.body.value) c.in-Some.x c.first_key.result c.at_body.result c.in_the_way.result
    key c.in-Some.is whole inner))

pub returns-in-Some-clause-none : goal.returns-in-Some-clause-none
returns-in-Some-clause-none c =
    none_tells (keying_of c.args.keys.now) (tree_of c.args.rule.now) c.earlier.result (returns-in-Some-clause-first c)

pub returns-in-Some-clause-some : goal.returns-in-Some-clause-some
returns-in-Some-clause-some c =
    some_tells (keying_of c.args.keys.now) (tree_of c.args.rule.now) c.earlier.result (returns-in-Some-clause-first c)
