use Rattle.prev_rows.proofs.Vocabulary.{◌∙◌, None, ap, refl, subst, sym, Interval, HasNoRepeats, AreKeepable, ArePairsOf}
use Rattle.prev_rows.proofs.GrownLemmas.{keepable_last, made_of_none, taken_over}
use Rattle.prev_rows.proofs.grown_rows.GrownRows.of.Goals as goal

pub from_rows-requires-clause-distinct : goal.from_rows-requires-clause-distinct
from_rows-requires-clause-distinct c =
    subst HasNoRepeats (sym (c.in_ok-duplicate.ensures ∙ c.in_ok-columns.ensures ∙ c.columns.ensures)) c.kept.ensures.slot.distinct

pub from_kept-requires-clause-distinct : goal.from_kept-requires-clause-distinct
from_kept-requires-clause-distinct c = subst HasNoRepeats (sym (c.in_ok-columns.ensures ∙ c.columns.ensures)) c.kept.ensures.slot.distinct

pub from_kept-requires-clause-keepable : goal.from_kept-requires-clause-keepable
from_kept-requires-clause-keepable c =
    let endless : Interval = record { low = 0; high = None } in
    subst (λ l. AreKeepable endless l c.args.time c.in_ok-pairs.pairs.items) (sym (c.in_ok-columns.ensures ∙ c.columns.ensures))
    (keepable_last endless c.args.slot.now.columns c.args.slot.now.last c.args.time c.in_ok-pairs.pairs.items refl c.requires c.in_ok-pairs.ensures.times c.in_ok-pairs.ensures.rising
    c.in_ok-pairs.ensures.fits)

pub invariant_of-result : goal.invariant_of-result
invariant_of-result c = (
  (ap (λ i. i.low) c.in_ok-window.ensures.interval, ap (λ i. i.high) c.in_ok-window.ensures.interval),
  c.in_ok-none.ensures.columns ∙ c.in_ok-duplicate.ensures ∙ sym c.in_ok-window.ensures.columns,
  made_of_none c.in_ok-none.none.rows c.new.result.items c.new.ensures.items c.in_ok-none.ensures.rows,
)

pub returns : goal.returns
returns c = taken_over c.args.slot.now c.interval.result c.in_ok-window.window c.args.time c.interval.ensures
    (ap (λ i. i.low) c.in_ok-window.ensures.interval, ap (λ i. i.high) c.in_ok-window.ensures.interval)
    (c.in_ok-window.ensures.columns ∙ c.in_ok-columns.ensures ∙ c.columns.ensures) c.in_ok-window.ensures.last c.kept.ensures.slot.fits
    (subst (ArePairsOf c.in_ok-window.window) c.in_ok-pairs.ensures.exact c.in_ok-window.ensures.exact)
