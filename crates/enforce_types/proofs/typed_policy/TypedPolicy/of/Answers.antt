use Rattle.enforce_types.proofs.TypedPolicyLemmas.{fits, kept, numbered, refused, refused_rule, small_rules, together}
use Rattle.enforce_types.proofs.typed_policy.TypedPolicy.of.Goals as goal

pub check-requires-clause-fit : goal.check-requires-clause-fit
check-requires-clause-fit c =
    fits c.args.signature.now _ _ c.in_ok-made.made c.as_slice.ensures c.in_ok-made.ensures.planned _ c.deref.ensures.value _ c.len.ensures.length c.len.ensures.signature.few
    c.requires

pub check-requires-clause-numbered : goal.check-requires-clause-numbered
check-requires-clause-numbered c =
    numbered c.args.signature.now _ _ c.in_ok-made.made c.as_slice.ensures c.in_ok-made.ensures.planned _ c.deref.ensures.value

pub returns-in_err-ranks-clause-refused : goal.returns-in_err-ranks-clause-refused
returns-in_err-ranks-clause-refused c =
    refused c.args.signature.now _ _ c.in_ok-made.made c.as_slice.ensures c.in_ok-made.ensures.planned _ c.deref.ensures.value
    c.in_err-ranks.field-0.0 c.from_residual-in_err-ranks.result c.in_err-ranks.ensures.refused c.from_residual-in_err-ranks.ensures.1

pub plan_rules-requires-clause-few_nodes : goal.plan_rules-requires-clause-few_nodes
plan_rules-requires-clause-few_nodes c = small_rules c.args.signature.now _ _ c.as_slice.ensures c.requires

pub invariant_of-result : goal.invariant_of-result
invariant_of-result c =
    together c.args.signature.now _ _ c.in_ok-made.made c.as_slice.ensures c.in_ok-made.ensures.planned _ c.deref.ensures.value _ c.requires c.in_ok-ranks.ensures.accepted
    c.in_ok-ranks.ensures.ranked

pub returns-clause-kept : goal.returns-clause-kept
returns-clause-kept c =
    kept c.args.signature.now _ _ c.in_ok-made.made c.as_slice.ensures c.in_ok-made.ensures.planned _ c.deref.ensures.value c.requires

pub returns-in_err-made-clause-refused : goal.returns-in_err-made-clause-refused
returns-in_err-made-clause-refused c = refused_rule c.args.signature.now _ _ _ _ c.as_slice.ensures c.in_err-made.ensures.refused c.from_residual.ensures.1
