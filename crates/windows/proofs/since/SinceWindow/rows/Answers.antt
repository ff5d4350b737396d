use Rattle.windows.proofs.Vocabulary.{◌≡◌, ◌∙◌, ◌↔◌, ⊎_elim, ℕ, All, Contains, length, sym, subst, Valuation, ok_both, none_in_nil, HasValuation, HasRow, IsWalkedLater, WindowKeeps}
use Rattle.windows.proofs.WindowLemmas.{fit_all, had_rows, kept_rows, key_fits, walked_later}
use Rattle.windows.proofs.since.SinceWindow.rows.Goals as goal

pub from_rows-requires-clause-fits : goal.from_rows-requires-clause-fits
from_rows-requires-clause-fits c =
    subst (λ l. All (λ row. length row ≡ length l) c.push_all.new.out.items) (sym c.in_ok-duplicate.ensures)
    (fit_all (length c.self.inside.columns) c.push_all.new.out.items (λ row there.
    ⊎_elim (λ none. absurd (none_in_nil row (subst (λ l. Contains l row) c.new-rows.ensures.items none)))
    (key_fits c.args.self.now c.self.inside.interval c.self.inside.columns c.self.inside.last c.self.inside.last c.self.inside.entries.entries c.self.invariant.distinct
    c.self.invariant.kept c.self.view_is row)
    ((c.in_ok-push_all.ensures row).0 there)))

pub returns-clause-kept : goal.returns-clause-kept
returns-clause-kept c = ok_both c.from_rows.result _ _ (λ t. (v : Valuation) → HasValuation t v ↔ ((time : ℕ) × HasRow c.args.self.now v time)) c.from_rows.ensures.columns c.from_rows.ensures.rows
    (λ t columns rows. had_rows c.args.self.now c.self.inside.interval c.self.inside.columns c.self.inside.last c.self.inside.last c.self.inside.entries.entries c.self.invariant.distinct
    c.self.invariant.kept c.self.view_is
    c.new-rows.result.items c.push_all.new.out.items t c.new-rows.ensures.items c.in_ok-push_all.ensures (columns ∙ c.in_ok-duplicate.ensures) rows)

pub returns-clause-rows : goal.returns-clause-rows
returns-clause-rows c = ok_both c.from_rows.result _ _ (λ t. (v : Valuation) → HasValuation t v ↔ WindowKeeps c.args.self.now c.args.self.now.last v) c.from_rows.ensures.columns
    c.from_rows.ensures.rows
    (λ t columns rows. kept_rows c.args.self.now c.self.inside.interval c.self.inside.columns c.self.inside.last c.self.inside.last c.self.inside.entries.entries c.self.invariant.distinct
    c.self.invariant.kept c.self.view_is
    c.new-rows.result.items c.push_all.new.out.items t c.self.invariant.least c.new-rows.ensures.items c.in_ok-push_all.ensures (columns ∙ c.in_ok-duplicate.ensures) rows)

pub returns-clause-walked : goal.returns-clause-walked
returns-clause-walked c = ok_both c.from_rows.result _ _ (IsWalkedLater c.args.self.now) c.from_rows.ensures.columns c.from_rows.ensures.rows
    (λ t columns rows. walked_later c.args.self.now t (kept_rows c.args.self.now c.self.inside.interval c.self.inside.columns c.self.inside.last c.self.inside.last
    c.self.inside.entries.entries c.self.invariant.distinct c.self.invariant.kept c.self.view_is
    c.new-rows.result.items c.push_all.new.out.items t c.self.invariant.least c.new-rows.ensures.items c.in_ok-push_all.ensures (columns ∙ c.in_ok-duplicate.ensures) rows))
