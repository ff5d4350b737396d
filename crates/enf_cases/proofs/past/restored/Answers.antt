use Rattle.std.proofs.Common.{[], ◌∷◌, subst, sym, map}
use Rattle.past_state.specs.machine.Guards.{tree_in}
use Rattle.past_state.specs.meaning.KeptRows.{all_operators}
use Rattle.past_state.specs.meaning.RowBounds.{AreWithinBounds}
use Rattle.past_state.specs.machine.RestoringLaws.{WillStandFor}
use Rattle.enf_cases.proofs.RunningLemmas.{kept_of}
use Rattle.enf_cases.proofs.past.restored.Goals as goal

pub from_kept-requires-clause-bounds : goal.from_kept-requires-clause-bounds
from_kept-requires-clause-bounds c =
    let s = c.requires.stands in
    subst (λ l. AreWithinBounds (all_operators (map tree_in l)) c.args.last c.in_ok-rows.rows) (sym c.from_ref.ensures.value)
    (c.kept_can_be_restored.ensures.within s.trace c.args.last (all_operators (map tree_in (c.args.guard.now ∷ []))) c.in_ok-rows.rows s.is_trace s.last_is c.in_ok-rows.ensures.rising
    (kept_of c.args.guard.now c.args.last c.args.before.now c.in_ok-rows.rows c.requires.of s c.in_ok-rows.ensures.kept))

pub returns-clause-stands : goal.returns-clause-stands
returns-clause-stands c =
    let s = c.requires.stands in
    let stands = subst (λ l. WillStandFor (all_operators (map tree_in l)) c.args.last c.in_ok-rows.rows c.in_ok-from_kept.field-0) c.from_ref.ensures.value c.in_ok-from_kept.ensures.stands in
    record {
      up_to = c.in_ok-from_kept.ensures.up_to;
      trace = s.trace;
      is_trace = s.is_trace;
      last_is = s.last_is;
      stands = stands s.trace s.last_is (kept_of c.args.guard.now c.args.last c.args.before.now c.in_ok-rows.rows c.requires.of s c.in_ok-rows.ensures.kept);
    }
