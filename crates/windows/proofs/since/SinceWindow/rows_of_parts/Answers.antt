use Rattle.windows.proofs.Vocabulary.{[], ◌≡◌, ◌∙◌, ◌↔◌, All, Contains, IfSome, length, ap, subst, sym, HasValuation, Valuation, VarId, WindowKeeps, ok_both, to_the_end}
use Rattle.windows.specs.machine.RowIndexes.{IsIndexOf}
use Rattle.windows.specs.machine.WindowEntries.{rows_of}
use Rattle.windows.proofs.EntryLemmas.{entries_fit}
use Rattle.windows.proofs.PartLemmas.{Gathered, long_of_parts, rows_of_some}
use Rattle.windows.proofs.WindowLemmas.{fit_all}
use Rattle.windows.proofs.since.SinceWindow.rows_of_parts.Goals as goal

pub push_parts-requires-clause-indexed : goal.push_parts-requires-clause-indexed
push_parts-requires-clause-indexed c =
    subst (λ l. IfSome c.self.inside.index (IsIndexOf l (rows_of c.self.inside.entries.entries))) (sym c.as_slice.ensures) c.self.invariant.indexed

pub push_parts-requires-clause-fit : goal.push_parts-requires-clause-fit
push_parts-requires-clause-fit c = subst (λ l. All (λ e. length e.0 ≡ length l) c.self.inside.entries.entries) (sym c.as_slice.ensures)
    (entries_fit (length c.self.inside.columns) c.self.inside.last c.self.inside.entries.entries c.self.invariant.kept)

within : (c : goal.In_ok-duplicate) → (x : VarId) → Contains c.args.parts.now.columns x → Contains c.self.inside.columns x
within c = λ x there. subst (λ w. Contains w.columns x) (sym c.self.view_is) (c.requires x there)

gathered : (c : goal.In_ok-duplicate) → Gathered (to_the_end c.self.inside.interval) c.self.inside.last c.self.inside.columns c.self.inside.entries.entries c.args.parts.now.columns []
    c.args.parts.now.rows c.push_parts.new.out.items
gathered c =
    subst (λ l. Gathered (to_the_end c.self.inside.interval) c.self.inside.last l c.self.inside.entries.entries c.args.parts.now.columns [] c.args.parts.now.rows c.push_parts.new.out.items)
    c.as_slice.ensures
    (subst (λ old. Gathered (to_the_end c.self.inside.interval) c.self.inside.last c.as_slice.result.now c.self.inside.entries.entries c.args.parts.now.columns old c.args.parts.now.rows
    c.push_parts.new.out.items) c.new-rows.ensures.items c.in_ok-push_parts.ensures.rows)

pub from_rows-requires-clause-fits : goal.from_rows-requires-clause-fits
from_rows-requires-clause-fits c =
    subst (λ l. All (λ row. length row ≡ length l) c.push_parts.new.out.items) (sym c.in_ok-duplicate.ensures)
    (fit_all (length c.self.inside.columns) c.push_parts.new.out.items
    (long_of_parts c.args.self.now c.self.inside.interval c.self.inside.columns c.self.inside.last c.self.inside.entries.entries c.self.invariant.distinct c.self.invariant.kept c.self.view_is
    c.args.parts.now c.in_ok-push_parts.ensures.table (within c) c.push_parts.new.out.items (gathered c)))

pub returns-clause-rows : goal.returns-clause-rows
returns-clause-rows r =
    let c : goal.In_ok-duplicate = r.before in
    ok_both r.from_rows.result _ _ (λ t. (v : Valuation) → HasValuation t v ↔ (WindowKeeps r.args.self.now r.args.self.now.last v × HasValuation r.args.parts.now v))
    r.from_rows.ensures.columns r.from_rows.ensures.rows
    (λ t columns rows. rows_of_some c.args.self.now c.self.inside.interval c.self.inside.columns c.self.inside.last c.self.inside.entries.entries c.self.invariant.distinct c.self.invariant.kept
    c.self.view_is c.args.parts.now c.in_ok-push_parts.ensures.table (within c) c.push_parts.new.out.items (gathered c) t (columns ∙ c.in_ok-duplicate.ensures) rows)
