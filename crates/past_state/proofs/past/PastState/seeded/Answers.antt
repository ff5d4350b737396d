use Rattle.past_state.proofs.Vocabulary.{ℕ, [], None, IfOk, map, refl, subst, IfOk-weaker, tree_in, all_operators, PastStands, IsUpToLast, WillStandFor, AreUpToTimeOf, AreStoredRows}
use Rattle.past_state.proofs.BoundsLemmas.{kept_of_nothing}
use Rattle.past_state.proofs.past.PastState.seeded.Goals as goal

pub returns-clause-exact : goal.returns-clause-exact
returns-clause-exact c = subst (λ rows. IfOk c.seeded_from.result (λ p. AreStoredRows p rows)) c.new.ensures c.seeded_from.ensures.exact

pub returns-clause-up_to : goal.returns-clause-up_to
returns-clause-up_to c = IfOk-weaker c.seeded_from.result (IsUpToLast None) (λ p. (time : ℕ) → AreUpToTimeOf time p.operators) (λ p up_to time. up_to time tt) c.seeded_from.ensures.up_to

pub returns-clause-stands : goal.returns-clause-stands
returns-clause-stands c = IfOk-weaker c.seeded_from.result (WillStandFor (all_operators (map tree_in c.args.guards.now)) None c.new.result) (PastStands [])
    (λ p stands. stands [] refl (kept_of_nothing (all_operators (map tree_in c.args.guards.now)) c.new.result c.new.ensures)) c.seeded_from.ensures.stands
