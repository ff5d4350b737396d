use Rattle.sleepers.proofs.Vocabulary.{List, [], Contains, ◌∙◌, ap, ⊎_elim, subst, sym, none_in_nil, Noted, Shape, shape_of}
use Rattle.sleepers.proofs.NotedGroupLemmas.{found_or_sleeps}
use Rattle.sleepers.proofs.wake_index.Index.may_wake.Goals as goal

pub returns : goal.returns
returns c = λ none group patterns end found.
    let noted = c.args.self.now in
    ⊎_elim (λ nil. absurd (none_in_nil group nil)) (λ sleeps. sleeps)
    (found_or_sleeps noted c.args.events.now c.args.time []
    (λ pair there above below. absurd (c.is_above.ensures c.if-not-is_above.false pair (subst (λ (n : Noted). Contains n.ends pair) (sym c.self.view_is) there) below))
    (λ number pattern is event there matches. absurd (c.has_name_of.ensures none (shape_of pattern)
    (subst (λ (l : List Shape). Contains l (shape_of pattern)) (sym (ap (λ (n : Noted). n.shapes) c.self.view_is) ∙ sym c.as_slice.ensures.value) is.shape)
    event there matches.name))
    group patterns end found)
