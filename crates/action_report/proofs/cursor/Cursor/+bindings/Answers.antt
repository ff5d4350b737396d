-- The first binding, and then the others.
use Rattle.action_report.proofs.Vocabulary.{◌≡◌, ◌++◌, ◌∷◌, ℕ, List, arith, codes, ap, subst, sym, ◌∙◌, spelled, bindings, Value, bindings_text, IsRising}
use Rattle.action_report.proofs.BindLemmas.{adds_join, binding_front, bound_join, ends_binding, first_bound, none_bound, one_more_bound, rising_on}
use Rattle.action_report.proofs.cursor.Cursor.+bindings.Goals as goal

pub returns-then-not-variable-clause-again : goal.returns-then-not-variable-clause-again
returns-then-not-variable-clause-again t c = λ values rest same are ends e.
    let f = first_bound c.args.scope.now c.in-Some.others.now c.in-Some.variable.now values c.in-Some.ensures.cases.0 same are in
    let behind = bindings_text c.args.vars.now f.others ++ rest in
    let front = binding_front c.args.vars.now values f.others c.in-Some.variable.now f.value rest c.args.self.now.rest.now f.are e in
    let named = c.variable.ensures (spelled f.value ++ behind) (front ∙ ap (λ (n : List ℕ). codes " " ++ (n ++ (codes "=" ++ (spelled f.value ++ behind)))) (sym c.variable_name.ensures)) in
    absurd (cc (named.0, c.if-not-variable.true))

pub returns-in_default-2-clause-again : goal.returns-in_default-2-clause-again
returns-in_default-2-clause-again t c = λ values rest same are ends e.
    let f = first_bound c.args.scope.now c.in-Some.others.now c.in-Some.variable.now values c.in-Some.ensures.cases.0 same are in
    let behind = bindings_text c.args.vars.now f.others ++ rest in
    let front = binding_front c.args.vars.now values f.others c.in-Some.variable.now f.value rest c.args.self.now.rest.now f.are e in
    let named = c.variable.ensures (spelled f.value ++ behind) (front ∙ ap (λ (n : List ℕ). codes " " ++ (n ++ (codes "=" ++ (spelled f.value ++ behind)))) (sym c.variable_name.ensures)) in
    let read = c.in_ok-value.ensures.again f.value behind f.is_value (ends_binding c.args.vars.now f.value f.others rest ends) named.1 in
    absurd (c.in_default-2.not-Some f.value read.0)

pub bind-requires : goal.bind-requires
bind-requires t c = none_bound c.args.valuation.now c.in-Some.variable.now c.in-Some.others.now (subst (IsRising (bindings c.args.valuation.now)) c.in-Some.ensures.cases.0 c.requires)

pub bindings-requires : goal.bindings-requires
bindings-requires t c = (
  omega (arith, c.decreases, c.in-Some.ensures.cases.1),
  rising_on c.args.valuation.now _ c.in-Some.variable.now c.in-Some-2.value c.args.scope.now c.in-Some.others.now
      c.in-Some.ensures.cases.0 c.requires c.in_ok-bind.ensures.ok,
)

pub returns-clause-binds : goal.returns-clause-binds
returns-clause-binds t c =
    let rise = subst (IsRising (bindings c.args.valuation.now)) c.in-Some.ensures.cases.0 c.requires in
    let bound = ap bindings c.in_ok-bind.ensures.ok ∙ one_more_bound c.args.valuation.now c.in-Some.variable.now c.in-Some-2.value c.in-Some.others.now rise in
    adds_join c.bindings.result c.args.scope.now c.in-Some.others.now _ _ _ c.in-Some.variable.now c.in-Some-2.value c.in-Some.ensures.cases.0 bound
    (rw c.in-Some-2.is at c.in_ok-value.ensures.value) c.bindings.ensures.binds

pub returns-clause-again : goal.returns-clause-again
returns-clause-again t c = λ values rest same are ends e.
    let f = first_bound c.args.scope.now c.in-Some.others.now c.in-Some.variable.now values c.in-Some.ensures.cases.0 same are in
    let behind = bindings_text c.args.vars.now f.others ++ rest in
    let front = binding_front c.args.vars.now values f.others c.in-Some.variable.now f.value rest c.args.self.now.rest.now f.are e in
    let named = c.variable.ensures (spelled f.value ++ behind) (front ∙ ap (λ (n : List ℕ). codes " " ++ (n ++ (codes "=" ++ (spelled f.value ++ behind)))) (sym c.variable_name.ensures)) in
    let read = c.in_ok-value.ensures.again f.value behind f.is_value (ends_binding c.args.vars.now f.value f.others rest ends) named.1 in
    let rise = subst (IsRising (bindings c.args.valuation.now)) c.in-Some.ensures.cases.0 c.requires in
    let bound = ap bindings c.in_ok-bind.ensures.ok ∙ one_more_bound c.args.valuation.now c.in-Some.variable.now c.in-Some-2.value c.in-Some.others.now rise in
    let here : c.in-Some-2.value ≡ f.value = cc (read.0, c.in-Some-2.is) in
    bound_join c.bindings.result _ _ _ values f.others c.in-Some.variable.now c.in-Some-2.value _ rest bound (f.are ∙ ap (λ (v : Value). (c.in-Some.variable.now, v) ∷ f.others) (sym here))
    (c.bindings.ensures.again f.others rest f.keys_are f.are_values ends read.1)
