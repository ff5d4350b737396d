use Rattle.windows.proofs.Vocabulary.{◌≡◌, length, take, sym, subst, ap, Less, take_all, row_cmp, ArePairsOf, KeepsLeast}
use Rattle.std.specs.List.Sorted.{IsStrictlySortedBy}
use Rattle.windows.proofs.EntryLemmas.{next_of}
use Rattle.windows.proofs.PairLemmas.{ArePairsOfRows, are_keepable, are_kept, are_pairs, before_place, no_rows_yet, row_more, rows_rise}
use Rattle.windows.proofs.WindowLemmas.{window_least}
use Rattle.windows.proofs.since.SinceWindow.kept.Goals.{After-drop-rows-inside-3}
use Rattle.windows.proofs.since.SinceWindow.kept.Goals as goal

pub loop-row-init : goal.loop-row-init
loop-row-init c = subst (ArePairsOfRows c.self.inside.entries.entries (take 0 c.rows-row-items.result.now)) (sym c.new-pairs.ensures.items) (no_rows_yet c.self.inside.entries.entries)

pub push_pairs-requires : goal.push_pairs-requires
push_pairs-requires c = (length c.self.inside.columns, c.self.inside.last, c.self.invariant.kept)

pub loop-row-preserved : goal.loop-row-preserved
loop-row-preserved c =
    let rises = rows_rise c.rows-row-items.result.now (subst (IsStrictlySortedBy row_cmp) (sym c.rows-row-items.ensures.rows) c.rows-row-items.ensures.table.rising) in
    next_of (λ l. ArePairsOfRows c.self.inside.entries.entries l c.push_pairs.new.out.items) c.rows-row-items.result.now c.loop-row.row-index c.row-item.result c.loop-row-test.true c.row-item.is
    (row_more c.self.inside.entries.entries (take c.loop-row.row-index c.rows-row-items.result.now) c.row-item.result c.in_ok-push_pairs.ensures.0 c.loop-row.pairs.items c.push_pairs.new.out.items
    (λ other there. subst (λ r. row_cmp other r ≡ Less) (sym c.row-item.is) (before_place (λ a b. row_cmp a b ≡ Less) c.rows-row-items.result.now c.loop-row.row-index
    c.row-item.result other rises c.loop-row-test.true there))
    c.in_ok-push_pairs.ensures.1 c.in_ok-push_pairs.ensures.2 c.loop-row.invariant)

least : (c : After-drop-rows-inside-3) → KeepsLeast c.args.self.now
least c = subst KeepsLeast c.self.view_is (window_least _ _ _ _ _ _ _ c.self.invariant)

exact : (c : After-drop-rows-inside-3) → ArePairsOf c.args.self.now c.loop-row.pairs.items
exact c = are_pairs c.args.self.now (least c) c.self.inside.entries.entries (ap (λ w. w.kept) c.self.view_is) c.in_ok-rows.rows c.loop-row.pairs.items c.in_ok-rows.ensures.table
    c.in_ok-rows.ensures.columns c.in_ok-rows.ensures.kept
    (subst (λ l. ArePairsOfRows c.self.inside.entries.entries l c.loop-row.pairs.items) c.rows-row-items.ensures.rows
    (subst (λ l. ArePairsOfRows c.self.inside.entries.entries l c.loop-row.pairs.items) (take_all c.loop-row.row-index c.rows-row-items.result.now c.loop-row-test.false) c.loop-row.invariant))

pub returns-clause-keepable : goal.returns-clause-keepable
returns-clause-keepable c = are_keepable c.args.self.now c.loop-row.pairs.items (least c) (exact c) c.loop-row.invariant.rising

pub returns-clause-exact : goal.returns-clause-exact
returns-clause-exact c = exact c

pub returns-clause-walked : goal.returns-clause-walked
returns-clause-walked c = are_kept c.args.self.now c.loop-row.pairs.items (least c) (exact c)

pub returns-clause-least : goal.returns-clause-least
returns-clause-least c = least c

pub returns-in_err-rows-clause-least : goal.returns-in_err-rows-clause-least
returns-in_err-rows-clause-least c = subst KeepsLeast c.self.view_is (window_least _ _ _ _ _ _ _ c.self.invariant)

pub returns-in_err-push_pairs-clause-least : goal.returns-in_err-push_pairs-clause-least
returns-in_err-push_pairs-clause-least c = subst KeepsLeast c.self.view_is (window_least _ _ _ _ _ _ _ c.self.invariant)
