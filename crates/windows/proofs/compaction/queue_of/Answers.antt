use Rattle.windows.proofs.Vocabulary.{◌≡◌, ◌∙◌, ap, arith, length, refl, sym, subst, not, false, false≢true, is_some, ℕ, Option, None, Some, Contains, Due, dues_from, values_of}
use Rattle.windows.proofs.CompactLemmas.{all_queued, none_queued}
use Rattle.windows.proofs.PlaceLemmas.{dues_count}
use Rattle.windows.proofs.compaction.queue_of.Goals as goal

none_of : (o : Option ℕ) → is_some o ≡ false → o ≡ None
none_of None none = refl
none_of (Some x) none = absurd (false≢true (sym none))

pub returns-then-is_none-clause-queued : goal.returns-then-is_none-clause-queued
returns-then-is_none-clause-queued c =
    none_queued c.args.interval c.args.now c.requires.kept.0 c.args.entries.now.entries c.requires.kept.1 c.requires.least c.new.result (none_of c.args.interval.high (c.is_none.ensures ∙ ap not c.if-is_none.true)) (ap (λ q. q.dues) c.new.ensures)

pub returns-clause-queued : goal.returns-clause-queued
returns-clause-queued c =
    all_queued c.args.interval c.args.now c.requires.kept.0 c.args.entries.now.entries c.requires.kept.1 c.requires.least c.from_dues.result c.from_dues.ensures.far
    (subst (λ l. (d : Due) → (Contains c.from_dues.result.dues d → Contains l d) × (Contains l d → Contains c.from_dues.result.dues d)) c.in_ok-all_dues.ensures c.from_dues.ensures.dues)
    (λ none. false≢true (sym (ap is_some none) ∙ c.is_none.ensures ∙ ap not c.if-is_none.false))

pub returns-clause-count : goal.returns-clause-count
returns-clause-count c = omega (arith, c.from_dues.ensures.count, ap length c.in_ok-all_dues.ensures, dues_count 0 (values_of c.args.entries.now.entries))
