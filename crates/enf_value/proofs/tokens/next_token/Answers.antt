use Rattle.enf_value.proofs.Vocabulary.{◌<◌, length, arith}
use Rattle.enf_value.proofs.Fronts.{front_is_proper}
use Rattle.enf_value.proofs.Gaps.{next_ends, next_is}
use Rattle.enf_value.proofs.tokens.next_token.Goals as goal

pub returns-clause-some : goal.returns-clause-some
returns-clause-some c =
    let within : c.token_place-place.result < length c.args.bytes.now = omega arith in
    next_is c.args.bytes.now c.args.at c.token_place-place.result c.in_ok-token.token c.in_ok-token.end c.token_place-place.ensures.same within (c.token_place-place.ensures.token within)
    c.in_ok-token.ensures

pub returns-clause-within : goal.returns-clause-within
returns-clause-within c =
    next_ends c.args.bytes.now c.args.at c.token_place-place.result c.in_ok-token.token c.in_ok-token.end c.token_place-place.ensures.from c.token_place-place.ensures.within c.in_ok-token.ensures

pub returns-clause-proper : goal.returns-clause-proper
returns-clause-proper c = front_is_proper _ _ _ c.in_ok-token.ensures.front
