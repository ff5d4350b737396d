-- The rule, and then the numbers.
use Rattle.action_report.proofs.Vocabulary.{◌≡◌, ◌++◌, Some, codes, refl, ◌∙◌, arith, labelled}
use Rattle.action_report.proofs.NumberLemmas.{cause_split}
use Rattle.action_report.proofs.cursor.Cursor.cause.Goals as goal

pub returns-in_err-rule-clause-again : goal.returns-in_err-rule-clause-again
returns-in_err-rule-clause-again c = λ action rule rest bits is ends e.
    let split = e ∙ cause_split rule.name action rest in
    let origin = labelled (codes " origin ") action.origin ++ rest in
    let leaf = labelled (codes " leaf ") action.leaf ++ origin in
    let node = labelled (codes " node ") action.node ++ leaf in
    let named = c.rule.ensures.again action.rule rule node bits.rule is refl split in
    absurd (cc (named.0, c.in_err-rule.was))

pub returns-in_err-node-clause-again : goal.returns-in_err-node-clause-again
returns-in_err-node-clause-again c = λ action rule rest bits is ends e.
    let split = e ∙ cause_split rule.name action rest in
    let origin = labelled (codes " origin ") action.origin ++ rest in
    let leaf = labelled (codes " leaf ") action.leaf ++ origin in
    let node = labelled (codes " node ") action.node ++ leaf in
    let named = c.rule.ensures.again action.rule rule node bits.rule is refl split in
    let first = c.short_labelled.ensures action.node leaf bits.node (λ low high. omega arith) named.1 in
    absurd (cc (first.0, c.in_err-node.was))

pub returns-in_err-leaf-clause-again : goal.returns-in_err-leaf-clause-again
returns-in_err-leaf-clause-again c = λ action rule rest bits is ends e.
    let split = e ∙ cause_split rule.name action rest in
    let origin = labelled (codes " origin ") action.origin ++ rest in
    let leaf = labelled (codes " leaf ") action.leaf ++ origin in
    let node = labelled (codes " node ") action.node ++ leaf in
    let named = c.rule.ensures.again action.rule rule node bits.rule is refl split in
    let first = c.short_labelled.ensures action.node leaf bits.node (λ low high. omega arith) named.1 in
    let second = c.short_labelled-2.ensures action.leaf origin bits.leaf (λ low high. omega arith) first.1 in
    absurd (cc (second.0, c.in_err-leaf.was))

pub returns-in_err-origin-clause-again : goal.returns-in_err-origin-clause-again
returns-in_err-origin-clause-again c = λ action rule rest bits is ends e.
    let split = e ∙ cause_split rule.name action rest in
    let origin = labelled (codes " origin ") action.origin ++ rest in
    let leaf = labelled (codes " leaf ") action.leaf ++ origin in
    let node = labelled (codes " node ") action.node ++ leaf in
    let named = c.rule.ensures.again action.rule rule node bits.rule is refl split in
    let first = c.short_labelled.ensures action.node leaf bits.node (λ low high. omega arith) named.1 in
    let second = c.short_labelled-2.ensures action.leaf origin bits.leaf (λ low high. omega arith) first.1 in
    let last = c.labelled.ensures action.origin rest bits.origin ends second.1 in
    absurd (cc (last.0, c.in_err-origin.was))

pub returns-clause-again : goal.returns-clause-again
returns-clause-again c = λ action rule rest bits is ends e.
    let split = e ∙ cause_split rule.name action rest in
    let origin = labelled (codes " origin ") action.origin ++ rest in
    let leaf = labelled (codes " leaf ") action.leaf ++ origin in
    let node = labelled (codes " node ") action.node ++ leaf in
    let named = c.rule.ensures.again action.rule rule node bits.rule is refl split in
    let first = c.short_labelled.ensures action.node leaf bits.node (λ low high. omega arith) named.1 in
    let second = c.short_labelled-2.ensures action.leaf origin bits.leaf (λ low high. omega arith) first.1 in
    let last = c.labelled.ensures action.origin rest bits.origin ends second.1 in
    let a : c.in_ok-rule.rule ≡ action.rule = cc (named.0, c.in_ok-rule.was) in
    let b : c.in_ok-node.node ≡ action.node = cc (first.0, c.in_ok-node.was) in
    let d : c.in_ok-leaf.leaf ≡ action.leaf = cc (second.0, c.in_ok-leaf.was) in
    let f : c.in_ok-origin.origin ≡ action.origin = cc (last.0, c.in_ok-origin.was) in
    (λ i. Some (record { rule = a i; node = b i; leaf = d i; origin = f i }), last.1)
