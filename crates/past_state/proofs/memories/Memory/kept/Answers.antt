use Rattle.past_state.proofs.Vocabulary.{◌↔◌, Contains, sym, subst, IfOk-weaker, AreKeepable, ArePairsOf, KeptPair, StoresFor}
use Rattle.past_state.specs.declared.memories.Memory.TheVariants as memories
use Rattle.past_state.proofs.memories.Memory.kept.Goals as goal

pub returns-in-Prev-clause-exact : goal.returns-in-Prev-clause-exact
returns-in-Prev-clause-exact c =
    IfOk-weaker c.kept.result (λ pairs. (p : KeptPair) → Contains pairs.items p ↔ StoresFor (memories.Prev c.in-Prev.slot c.in-Prev.operand) p) _
    (λ pairs exact p. subst (λ m. Contains pairs.items p ↔ StoresFor m p) (sym c.in-Prev.is) (exact p)) c.kept.ensures.exact

pub returns-in-Once-clause-rising : goal.returns-in-Once-clause-rising
returns-in-Once-clause-rising c =
    IfOk-weaker c.kept-in-Once.result (λ pairs. AreKeepable c.in-Once.window.interval c.in-Once.window.columns c.in-Once.window.last pairs.items) _ (λ pairs keepable. keepable.rising)
    c.kept-in-Once.ensures.keepable

pub returns-in-Once-clause-exact : goal.returns-in-Once-clause-exact
returns-in-Once-clause-exact c =
    IfOk-weaker c.kept-in-Once.result (λ pairs. ArePairsOf c.in-Once.window pairs.items) _
    (λ pairs exact p. subst (λ m. Contains pairs.items p ↔ StoresFor m p) (sym c.in-Once.is) (exact p.row p.time)) c.kept-in-Once.ensures.exact

pub returns-in-Since-clause-rising : goal.returns-in-Since-clause-rising
returns-in-Since-clause-rising c =
    IfOk-weaker c.kept-in-Since.result (λ pairs. AreKeepable c.in-Since.window.interval c.in-Since.window.columns c.in-Since.window.last pairs.items) _ (λ pairs keepable. keepable.rising)
    c.kept-in-Since.ensures.keepable

pub returns-in-Since-clause-exact : goal.returns-in-Since-clause-exact
returns-in-Since-clause-exact c =
    IfOk-weaker c.kept-in-Since.result (λ pairs. ArePairsOf c.in-Since.window pairs.items) _
    (λ pairs exact p. subst (λ m. Contains pairs.items p ↔ StoresFor m p) (sym c.in-Since.is) (exact p.row p.time)) c.kept-in-Since.ensures.exact
